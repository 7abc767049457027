use Rattle.std.proofs.Common.{rules, w64}
use Rattle.std.proofs.lemmas.Int.{to_z-of_z}
use Rattle.std.proofs.Common.{◌≡◌, refl, sym, ap, subst, Ok, Err}
use Rattle.std.proofs.lemmas.Result.{err_from_is_err_and}
use Rattle.arrow_dict.specs.Appends.{Appends, IsAppended}
use Rattle.arrow_dict.specs.Dictionaries.{placed}
use Rattle.arrow_meta_reader.specs.Means.{batch_view, dictionary}
use Rattle.arrow_stream_reader.specs.State.{dictionary_given}
use Rattle.arrow_stream_reader.specs.Frame.{BodySays}
use Rattle.arrow_stream_reader.specs.Views.{Ready, Updates, plain, store_error}
use Rattle.arrow_stream_reader.proofs.States.{append_updates, append_fits, append_refused, replace_updates, replace_fits, update_refused, values_applicable}
use Rattle.arrow_stream_reader.proofs.state.State.update.Goals as goal

pub returns-in_err-values-clause-updates : goal.returns-in_err-values-clause-updates
returns-in_err-values-clause-updates c =
    let s = plain c.args.self.now in
    let record_batch = batch_view c.args.dictionary_batch.now.record_batch.now in
    let body = c.args.body.now in
    let failed = err_from_is_err_and c.from_residual.result c.from_residual.ensures.1 in
    rw (failed.1, failed.2) (update_refused s record_batch body c.args.dictionary_batch.now.id c.args.dictionary_batch.now.is_delta c.in_err-values.field-0.0 c.in_err-values.ensures.values)

pub returns-then-is_delta-clause-updates : goal.returns-then-is_delta-clause-updates
returns-then-is_delta-clause-updates c =
    let s = plain c.args.self.now in
    let record_batch = batch_view c.args.dictionary_batch.now.record_batch.now in
    let body = c.args.body.now in
    let id = to_z-of_z w64 c.args.dictionary_batch.now.id (search rules) in
    let new = c.append.new.self in
    let v = c.in_ok-values.ensures.values in
    let a = subst (λ i. IsAppended s.dictionaries i c.in_ok-values.values new) id c.in_ok-append.ensures in
    subst (λ b. BodySays s (dictionary c.args.dictionary_batch.now.id b record_batch) body (Ok (record { schema = s.schema; dictionaries = new }, dictionary_given c.args.dictionary_batch.now.id))) (sym c.if-is_delta.true)
    (append_updates s record_batch body c.args.dictionary_batch.now.id c.in_ok-values.values new c.requires.fit v a)

pub returns-then-is_delta-clause-fit : goal.returns-then-is_delta-clause-fit
returns-then-is_delta-clause-fit c =
    let s = plain c.args.self.now in
    let record_batch = batch_view c.args.dictionary_batch.now.record_batch.now in
    let body = c.args.body.now in
    let id = to_z-of_z w64 c.args.dictionary_batch.now.id (search rules) in
    let new = c.append.new.self in
    append_fits s record_batch body c.args.dictionary_batch.now.id c.in_ok-values.values new c.requires.fit
    c.in_ok-values.ensures.values
    (subst (λ i. IsAppended s.dictionaries i c.in_ok-values.values new) id c.in_ok-append.ensures)

pub returns-clause-updates : goal.returns-clause-updates
returns-clause-updates c =
    let s = plain c.args.self.now in
    let record_batch = batch_view c.args.dictionary_batch.now.record_batch.now in
    let body = c.args.body.now in
    let id = to_z-of_z w64 c.args.dictionary_batch.now.id (search rules) in
    let new = c.replace.new.self in
    let d = c.in_ok-dictionary.dictionary in
    let v = c.in_ok-values.ensures.values in
    let e = subst (λ i. new ≡ placed i d s.dictionaries) id c.in_ok-replace.ensures.ok in
    subst (λ b. BodySays s (dictionary c.args.dictionary_batch.now.id b record_batch) body (Ok (record { schema = s.schema; dictionaries = new }, dictionary_given c.args.dictionary_batch.now.id))) (sym c.if-is_delta.false)
    (replace_updates s record_batch body c.args.dictionary_batch.now.id c.in_ok-values.values d new v c.in_ok-dictionary.ensures e)

pub returns-clause-fit : goal.returns-clause-fit
returns-clause-fit c =
    let s = plain c.args.self.now in
    let record_batch = batch_view c.args.dictionary_batch.now.record_batch.now in
    let body = c.args.body.now in
    let id = to_z-of_z w64 c.args.dictionary_batch.now.id (search rules) in
    let new = c.replace.new.self in
    let d = c.in_ok-dictionary.dictionary in
    let v = c.in_ok-values.ensures.values in
    let e = subst (λ i. new ≡ placed i d s.dictionaries) id c.in_ok-replace.ensures.ok in
    replace_fits s record_batch body c.args.dictionary_batch.now.id c.in_ok-values.values d new c.requires.fit v c.in_ok-dictionary.ensures e

pub returns-in_err-append-clause-updates : goal.returns-in_err-append-clause-updates
returns-in_err-append-clause-updates c =
    let s = plain c.args.self.now in
    let record_batch = batch_view c.args.dictionary_batch.now.record_batch.now in
    let body = c.args.body.now in
    let id = to_z-of_z w64 c.args.dictionary_batch.now.id (search rules) in
    let new = c.append.new.self in
    let fault = c.in_err-append.field-0.0 in
    let failed = err_from_is_err_and c.from_residual-in_err-append.result c.from_residual-in_err-append.ensures.1 in
    rw (failed.1, failed.2) (subst (λ b. Updates s c.args.dictionary_batch.now.id b record_batch body (Err (store_error fault)) (record { schema = s.schema; dictionaries = new })) (sym c.if-is_delta.true)
    (append_refused s record_batch body c.args.dictionary_batch.now.id c.in_ok-values.values fault new (subst (λ d. Ready s (dictionary c.args.dictionary_batch.now.id d record_batch)) c.if-is_delta.true c.requires.ready)
    c.in_ok-values.ensures.values
    (subst (λ i. Appends s.dictionaries i c.in_ok-values.values (Err fault) new) id c.in_err-append.ensures)))

pub returns-in_err-dictionary-clause-updates : goal.returns-in_err-dictionary-clause-updates
returns-in_err-dictionary-clause-updates c =
    let s = plain c.args.self.now in
    let record_batch = batch_view c.args.dictionary_batch.now.record_batch.now in
    let body = c.args.body.now in
    let failed = err_from_is_err_and c.from_residual-in_err-dictionary.result c.from_residual-in_err-dictionary.ensures.1 in
    rw (failed.1, failed.2) (values_applicable s record_batch body c.args.dictionary_batch.now.id c.args.dictionary_batch.now.is_delta c.in_ok-values.values c.in_ok-values.ensures.values, refl)

pub returns-in_err-replace-clause-updates : goal.returns-in_err-replace-clause-updates
returns-in_err-replace-clause-updates c =
    let s = plain c.args.self.now in
    let record_batch = batch_view c.args.dictionary_batch.now.record_batch.now in
    let body = c.args.body.now in
    let failed = err_from_is_err_and c.from_residual-in_err-replace.result c.from_residual-in_err-replace.ensures.1 in
    rw (failed.1, failed.2) (
      values_applicable s record_batch body c.args.dictionary_batch.now.id c.args.dictionary_batch.now.is_delta c.in_ok-values.values c.in_ok-values.ensures.values,
      ap (λ ds. record { schema = s.schema; dictionaries = ds }) c.in_err-replace.ensures.err,
    )
