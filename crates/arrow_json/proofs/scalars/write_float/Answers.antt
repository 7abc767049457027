use Rattle.std.proofs.Common.{◌≡◌, sym, subst, OnOk, rules}
use Rattle.std.specs.Float.{Float}
use Rattle.arrow_types.specs.declared.data_type.Precision.TheVariants.{Half, Single, Double}
use Rattle.arrow_layout.specs.Floats.{number_of}
use Rattle.arrow_csv.specs.Floats.{text_format}
use Rattle.arrow_json.specs.Scalars.{IsFloatJson}
use Rattle.arrow_json.specs.Written.{Adds}
use Rattle.arrow_json.proofs.scalars.write_float.Goals as goal

-- for 16 bits the equal number of 32 bits is written
pub returns-in-Half : goal.returns-in-Half
returns-in-Half c =
    let old = c.args.pen.now.writer in
    let new = c.write_single.new.pen.writer in
    let value : c.to_single.result ≡ number_of Half c.args.bits = search rules in
    let own : OnOk c.write_single.result (Adds (IsFloatJson (text_format Half) (number_of Half c.args.bits)) old new) =
    subst (λ (x : Float). OnOk c.write_single.result (Adds (IsFloatJson (text_format Half) x) old new)) value c.write_single.ensures in
    subst (λ p. OnOk c.write_single.result (Adds (IsFloatJson (text_format p) (number_of p c.args.bits)) old new)) (sym c.in-Half.is) own

-- for 32 bits the number itself
pub returns-in-Single : goal.returns-in-Single
returns-in-Single c =
    let old = c.args.pen.now.writer in
    let new = c.write_single-in-Single.new.pen.writer in
    let value : c.f32_from_bits_with_nan.result ≡ number_of Single c.args.bits = search rules in
    let own : OnOk c.write_single-in-Single.result (Adds (IsFloatJson (text_format Single) (number_of Single c.args.bits)) old new) =
    subst (λ (x : Float). OnOk c.write_single-in-Single.result (Adds (IsFloatJson (text_format Single) x) old new)) value c.write_single-in-Single.ensures in
    subst (λ p. OnOk c.write_single-in-Single.result (Adds (IsFloatJson (text_format p) (number_of p c.args.bits)) old new)) (sym c.in-Single.is) own

-- and for 64 bits
pub returns-in-Double : goal.returns-in-Double
returns-in-Double c =
    let old = c.args.pen.now.writer in
    let new = c.write_real.new.pen.writer in
    let value : c.f64_from_bits_with_nan-number.result ≡ number_of Double c.args.bits = search rules in
    let own : OnOk c.write_real.result (Adds (IsFloatJson (text_format Double) (number_of Double c.args.bits)) old new) =
    subst (λ (x : Float). OnOk c.write_real.result (Adds (IsFloatJson (text_format Double) x) old new)) value c.write_real.ensures in
    subst (λ p. OnOk c.write_real.result (Adds (IsFloatJson (text_format p) (number_of p c.args.bits)) old new)) (sym c.in-Double.is) own
