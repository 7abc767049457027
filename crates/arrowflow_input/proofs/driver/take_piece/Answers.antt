use Rattle.std.proofs.Common.{◌++◌, ℕ, List, Ok, Err, sym, ap, ◌∙◌, subst, ◌⊎◌}
use Rattle.std.proofs.lemmas.List.{take_rest}
use Rattle.arrow_stream_reader.specs.Front.{Entry}
use Rattle.arrow_stream_reader.specs.Stream.{IsReaderAt, GivesNext, TakesOn, RefusesMessage, NeedsMemory}
use Rattle.arrow_stream_reader.specs.Views.{given}
use Rattle.arrowflow_input.specs.Driver.{PieceTaken}
use Rattle.arrowflow_input.proofs.Driving.{IsTaking, open_after, open_by_item, piece_failed, piece_marked, piece_refused, piece_position, piece_stopped, piece_taken, taking_next, taking_nothing}
use Rattle.arrowflow_input.proofs.driver.take_piece.Goals as goal

pub loop-taken-init : goal.loop-taken-init
loop-taken-init g c = (taking_nothing g.C.Consumer.keeps c.args.consumer c.args.reader.now c.args.piece.now, λ o. o, c.requires.ready)

pub item-next-requires : goal.item-next-requires
item-next-requires g c = record { ready = c.loop-taken.invariant.2 }

pub returns-in-Ok-Continue-clause-takes : goal.returns-in-Ok-Continue-clause-takes
returns-in-Ok-Continue-clause-takes g c start t x =
    let some = c.in-Ok-default-Some in
    let l = c.loop-taken in
    let is_open = open_by_item l.reader.at.verdict some.taken some.field-0-1 some.item some.field-0-1-is (λ d. (some.ensures.done d).0) (λ k b. (_, (some.ensures.failed k b).0)) in
    let next : (t : List ℕ) (es : List Entry) → IsReaderAt l.reader t es → GivesNext l.rest.now some.taken some.item c.read.new.self t es = λ t es at. rw some.field-0-1-is at (some.ensures.reads t es at) in
    piece_marked g.C.Consumer.keeps g.C.Consumer.answers c.args.consumer c.args.reader.now c.args.piece.now l.reader l.consumer l.rest.now l.invariant.0 c.read.new.self some.ensures.limits some.taken some.item is_open next c.place-place.result c.place-place.ensures.place
    c.item-next.result.1 c.item-next.result.0 c.item-next.ensures.takes (c.in-Ok-Continue.is ∙ ap Ok (rw c.in-Ok-Continue.is at c.in-Ok-Continue.field-0-is)) (ap given c.if-is_last.ensures) start t x

pub returns-in-Ok-Break-clause-takes : goal.returns-in-Ok-Break-clause-takes
returns-in-Ok-Break-clause-takes g c start t x =
    let some = c.in-Ok-default-Some in
    let l = c.loop-taken in
    let is_open = open_by_item l.reader.at.verdict some.taken some.field-0-1 some.item some.field-0-1-is (λ d. (some.ensures.done d).0) (λ k b. (_, (some.ensures.failed k b).0)) in
    let next : (t : List ℕ) (es : List Entry) → IsReaderAt l.reader t es → GivesNext l.rest.now some.taken some.item c.read.new.self t es = λ t es at. rw some.field-0-1-is at (some.ensures.reads t es at) in
    piece_stopped g.C.Consumer.keeps g.C.Consumer.answers c.args.consumer c.args.reader.now c.args.piece.now l.reader l.consumer l.rest.now l.invariant.0 c.read.new.self some.ensures.limits some.taken some.item is_open next c.place-place.result c.place-place.ensures.place
    c.item-next.result.1 c.item-next.result.0 c.item-next.ensures.takes (c.in-Ok-Break.is ∙ ap Ok (rw c.in-Ok-Break.is at c.in-Ok-Break.field-0-is)) start t x

pub returns-in-Err-wants-clause-takes : goal.returns-in-Err-wants-clause-takes
returns-in-Err-wants-clause-takes g c start t x =
    let some = c.in-Ok-default-Some in
    let l = c.loop-taken in
    let is_open = open_by_item l.reader.at.verdict some.taken some.field-0-1 some.item some.field-0-1-is (λ d. (some.ensures.done d).0) (λ k b. (_, (some.ensures.failed k b).0)) in
    let next : (t : List ℕ) (es : List Entry) → IsReaderAt l.reader t es → GivesNext l.rest.now some.taken some.item c.read.new.self t es = λ t es at. rw some.field-0-1-is at (some.ensures.reads t es at) in
    piece_failed g.C.Consumer.keeps g.C.Consumer.answers c.args.consumer c.args.reader.now c.args.piece.now l.reader l.consumer l.rest.now l.invariant.0 c.read.new.self some.ensures.limits some.taken some.item is_open next c.place-place.result c.place-place.ensures.place
    c.item-next.result.1 c.item-next.result.0 c.item-next.ensures.takes c.in-Err-wants.fault c.in-Err-wants.is start t x

pub loop-taken-preserved : goal.loop-taken-preserved
loop-taken-preserved g c =
    let some = c.in-Ok-default-Some in
    let l = c.loop-taken in
    let is_open = open_by_item l.reader.at.verdict some.taken some.field-0-1 some.item some.field-0-1-is (λ d. (some.ensures.done d).0) (λ k b. (_, (some.ensures.failed k b).0)) in
    let next : (t : List ℕ) (es : List Entry) → IsReaderAt l.reader t es → GivesNext l.rest.now some.taken some.item c.read.new.self t es = λ t es at. rw some.field-0-1-is at (some.ensures.reads t es at) in (
      subst (IsTaking g.C.Consumer.keeps c.args.consumer c.args.reader.now c.args.piece.now c.read.new.self c.item-next.result.0) (sym (take_rest l.rest.now some.taken))
          (taking_next g.C.Consumer.keeps g.C.Consumer.answers c.args.consumer c.args.reader.now c.args.piece.now l.reader l.consumer l.rest.now l.invariant.0 c.read.new.self some.ensures.limits some.taken some.item is_open next c.place-place.result
          c.place-place.ensures.place c.item-next.result.1 c.item-next.result.0 c.item-next.ensures.takes (c.in-Ok-Continue.is ∙ ap Ok (rw c.in-Ok-Continue.is at c.in-Ok-Continue.field-0-is))),
      λ o. open_after l.reader.at.verdict c.read.new.self.at.verdict some.field-0-1 some.item some.field-0-1-is some.ensures.goes_on c.if-is_last.ensures,
      c.item-next.ensures.ready (c.in-Ok-Continue.is ∙ ap Ok (rw c.in-Ok-Continue.is at c.in-Ok-Continue.field-0-is)),
    )

pub returns-in-Ok-default-None-clause-takes : goal.returns-in-Ok-default-None-clause-takes
returns-in-Ok-default-None-clause-takes g c start t x =
    let none = c.in-Ok-default-None in
    let l = c.loop-taken in
    let last : (t : List ℕ) (es : List Entry) → IsReaderAt l.reader t es → TakesOn l.reader l.rest.now none.field-0-0 c.read.new.self t es = λ t es at. rw none.field-0-1-is at (none.ensures.reads t es at) in
    piece_taken g.C.Consumer.keeps g.C.Consumer.answers c.args.consumer c.args.reader.now c.args.piece.now l.reader l.consumer l.rest.now l.invariant.0 c.read.new.self none.ensures.limits none.field-0-0 last start t x

pub returns-in-Err-clause-takes : goal.returns-in-Err-clause-takes
returns-in-Err-clause-takes g c start t x =
    let l = c.loop-taken in
    let fault = c.in-Err.fault in
    let last : (t : List ℕ) (es : List Entry) → IsReaderAt l.reader t es → NeedsMemory l.reader fault c.read.new.self ⊎ RefusesMessage l.rest.now fault c.read.new.self t es = λ t es at. c.in-Err.ensures.reads t es at in
    subst (λ f. PieceTaken (g.C.Consumer.keeps start l.consumer) (g.C.Consumer.answers start l.consumer) (t ++ c.args.piece.now) c.read.new.self (Err f)) (sym c.from.ensures)
    (piece_refused g.C.Consumer.keeps g.C.Consumer.answers c.args.consumer c.args.reader.now c.args.piece.now l.reader l.consumer l.rest.now l.invariant.0 c.read.new.self c.in-Err.ensures.limits fault last start t x)

pub returns-in-Ok-default-None-clause-position : goal.returns-in-Ok-default-None-clause-position
returns-in-Ok-default-None-clause-position g c t at goes =
    let none = c.in-Ok-default-None in
    let l = c.loop-taken in
    let last : (t : List ℕ) (es : List Entry) → IsReaderAt l.reader t es → TakesOn l.reader l.rest.now none.field-0-0 c.read.new.self t es = λ t es at. rw none.field-0-1-is at (none.ensures.reads t es at) in
    piece_position g.C.Consumer.keeps g.C.Consumer.answers c.args.consumer c.args.reader.now c.args.piece.now l.reader l.consumer l.rest.now l.invariant.0 c.read.new.self none.ensures.limits none.field-0-0 last t at
