use Rattle.std.proofs.Common.{rules, arith, ◌≡◌, ◌≤◌, ◌+◌, ◌-◌, ◌++◌, List, length, replicate, sym, ap, ◌∙◌}
use Rattle.arrow_body_laws.specs.Stored.{rounded}
use Rattle.arrow_body_writer.specs.Align.{alignment_of}
use Rattle.arrow_body_writer.specs.declared.align.Align.{Align}
use Rattle.arrow_body_writer.specs.declared.align.Align.TheVariants.{Eight, SixtyFour}
use Rattle.arrow_meta_reader.specs.Means.{message_view}
use Rattle.arrow_stream_laws.specs.Frames.{prefix_bytes}
use Rattle.arrow_stream_writer.proofs.Framing.{appended_parts}
use Rattle.arrow_stream_writer.proofs.frame.put_head.Goals as goal

-- an alignment is at least one byte and at most 64
some : (a : Align) → 1 ≤ alignment_of a
some Eight = omega arith
some SixtyFour = omega arith

few : (a : Align) → alignment_of a ≤ 64
few Eight = omega arith
few SixtyFour = omega arith

-- the head follows the bytes that were there, and with a body after it the whole frame does
pub returns-in-Ok-clause-ok : goal.returns-in-Ok-clause-ok
returns-in-Ok-clause-ok c body reported =
    let m = message_view c.args.message.now in
    let old = c.args.out.now.items in
    let v = c.in_ok-metadata.metadata.items in
    let align = alignment_of c.args.align in
    let size = c.round_up-size.result - 8 in
    let bytes : c.len.result ≡ length v = search rules in
    let sized : size ≡ rounded align (8 + length v) - 8 = ap (λ n. n - 8) (c.round_up-size.ensures.same ∙ ap (λ n. rounded align (8 + n)) bytes) in
    let head = c.in-Ok.ensures.ok ∙ ap (λ (u : List _). ((old ++ prefix_bytes size) ++ u) ++ replicate (size - length u) 0) c.deref.ensures.value in
    let more = ap (λ (r : List _). r ++ body) head in
    appended_parts align m body v size old (c.put_metadata-answer.new.out.items ++ body) (some c.args.align) (few c.args.align) c.in_ok-metadata.ensures.typed c.in_ok-metadata.ensures.bytes (sym c.in_ok-metadata.ensures.size) reported sized more
