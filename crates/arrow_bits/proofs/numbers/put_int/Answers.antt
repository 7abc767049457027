use Rattle.std.proofs.Common.{◌≡◌, ◌≤◌, ◌∙◌, ◌++◌, ap, arith, rules}
use Rattle.std.proofs.lemmas.Result.{on_ok_weaker}
use Rattle.std.specs.Int.{w128, to_le_bytes, cast_unsigned}
use Rattle.std.specs.Prelude.{OnOk}
use Rattle.arrow_bits.specs.Numbers.{int_bytes}
use Rattle.arrow_bits.proofs.Written.{int_whole, int_appended}
use Rattle.arrow_bits.proofs.numbers.put_int.Goals as goal

-- the bytes of the 128 bits are those of the value
pub returns-then-width-eq16-clause-bytes : goal.returns-then-width-eq16-clause-bytes
returns-then-width-eq16-clause-bytes c =
    let old = c.args.out.now.items in
    let bits : c.cast_unsigned.result ≡ cast_unsigned w128 c.args.value = search rules in
    let whole : c.to_le_bytes.result ≡ int_bytes 16 c.args.value = c.to_le_bytes.ensures ∙ ap (to_le_bytes w128) bits ∙ int_whole c.args.value (search rules) in
    let put : OnOk c.extend_from_slice.result (c.extend_from_slice.new.self.items ≡ old ++ c.to_le_bytes.result) = search rules in
    let sixteen : c.args.width ≡ 16 = omega arith in
    rw sixteen (on_ok_weaker c.extend_from_slice.result (λ e. e ∙ ap (λ bytes. old ++ bytes) whole) put)

-- the appended bytes are read as the value

pub returns-then-width-eq16-clause-reads : goal.returns-then-width-eq16-clause-reads
returns-then-width-eq16-clause-reads c =
    let one : 1 ≤ c.args.width = omega arith in
    int_appended c.extend_from_slice.result c.args.out.now.items c.extend_from_slice.new.self.items c.args.width c.args.value one (returns-then-width-eq16-clause-bytes c)

pub returns-else-width-eq16-clause-reads : goal.returns-else-width-eq16-clause-reads
returns-else-width-eq16-clause-reads c =
    let same : OnOk c.put_narrow.result (c.put_narrow.new.out.items ≡ c.args.out.now.items ++ int_bytes c.args.width c.args.value) = search rules in
    let one : 1 ≤ c.args.width = omega arith in
    int_appended c.put_narrow.result c.args.out.now.items c.put_narrow.new.out.items c.args.width c.args.value one same
