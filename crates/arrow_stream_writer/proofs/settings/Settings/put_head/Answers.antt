use Rattle.std.proofs.Common.{◌≡◌, ◌≤◌, ◌++◌, false, inl, inr, length, refl, ap, sym, ◌∙◌, arith, rules}
use Rattle.std.proofs.lemmas.Result.{err_from_is_err_and}
use Rattle.arrow_sink.specs.declared.write_fault.WriteFault.TheVariants.{TooLarge}
use Rattle.arrow_meta_reader.specs.Means.{header_view, message_view}
use Rattle.arrow_meta_writer.specs.Writable.{leaves_header_out}
use Rattle.arrow_stream_laws.specs.Sizes.{header_size}
use Rattle.arrow_stream_writer.specs.Terms.{terms_of}
use Rattle.arrow_stream_writer.proofs.Framed.{appended_frame, past_ceiling}
use Rattle.arrow_stream_writer.proofs.settings.Settings.put_head.Goals as goal

-- the metadata are over every limit
pub returns-in_err-len : goal.returns-in_err-len
returns-in_err-len c =
    let limit = c.max_metadata-max_metadata.ensures.value in
    let ceiling = c.max_metadata-max_metadata.ensures.ceiling in
    let none = rw c.in_err-len.ensures.ok_part at c.metadata_len.ensures in
    let failed = err_from_is_err_and c.from_residual.result c.from_residual.ensures.1 in
    let fault : c.in_err-len.field-0.0 ≡ TooLarge = search rules in
    rw (failed.1, failed.2, fault) (λ body reported. inl (past_ceiling c.args.self.now.limits.max_metadata _ (omega arith) none))

-- the metadata are over the limit
pub returns-then-len-max_metadata : goal.returns-then-len-max_metadata
returns-then-len-max_metadata c = λ body reported.
    let sent = rw c.in_ok-len.ensures.ok_part at c.metadata_len.ensures in
    let sized = sent.1 in
    let limit = c.max_metadata-max_metadata.ensures.value in
    let over = c.if-len-max_metadata.true in
    inl (omega arith)

-- a type is left out
pub returns-then-leaves_out : goal.returns-then-leaves_out
returns-then-leaves_out c = λ body reported.
    let header = header_view c.args.message.now.header in
    inr (ap (λ types. leaves_header_out types header) (sym c.types.ensures) ∙ sym c.leaves_out.ensures ∙ c.if-leaves_out.true)

-- the head was appended
pub returns : goal.returns
returns c body reported =
    let terms = terms_of c.args.self.now in
    let m = message_view c.args.message.now in
    let sent = rw c.in_ok-len.ensures.ok_part at c.metadata_len.ensures in
    let sized = sent.1 in
    let limit = c.max_metadata-max_metadata.ensures.value in
    let small = c.if-len-max_metadata.false in
    let fits : header_size terms.align m.header ≤ terms.limits.max_metadata = omega arith in
    let within = c.requires.short in
    let short : length body ≤ terms.limits.max_body = omega (arith, reported, within) in
    let header = header_view c.args.message.now.header in
    let types_are_in : leaves_header_out terms.limits.types m.header ≡ false =
    ap (λ types. leaves_header_out types header) (sym c.types.ensures) ∙ sym c.leaves_out.ensures ∙ c.if-leaves_out.false in
    appended_frame terms terms.align m body c.args.out.now.items c.reserve.new.self.items (c.put_head.new.out.items ++ body) refl fits short types_are_in c.in_ok-reserve.ensures.items (c.in_ok-put_head.ensures.ok body reported)
