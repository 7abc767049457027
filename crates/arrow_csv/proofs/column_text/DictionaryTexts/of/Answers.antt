use Rattle.std.proofs.Common.{◌≡◌, ◌+◌, ◌++◌, ◌∷◌, [], length, sym, ap, ◌∙◌, subst, arith}
use Rattle.arrow_csv.specs.Made.{AreFirst}
use Rattle.arrow_csv.proofs.Making.{entry_field, first_more}
use Rattle.arrow_csv.proofs.column_text.DictionaryTexts.of.Goals as goal

-- the field of one more value was made
pub loop-n-preserved : goal.loop-n-preserved
loop-n-preserved c =
    let d = c.args.dictionary.now in
    let values = c.value-place.result.0.now in
    let place = c.value-place.result.1 in
    let old = c.loop-n.bytes.items in
    let places = c.loop-n.places.items in
    let made = c.in_ok-push_field-in_default.ensures in
    let field = made.0 in
    let is = entry_field d c.loop-n.n values place field c.data_type.ensures.known c.len-in-loop-n.ensures.known c.value-place.ensures made.1 in
    let more = first_more d old places field c.loop-n.n c.loop-n.invariant is in
    let bytes : c.push_field.new.out.items ≡ old ++ field = made.2 in
    let len : c.len-in-loop-n-3.result ≡ length c.push_field.new.out.items = omega (arith, c.len-in-loop-n-3.ensures) in
    let ends : c.push-in-loop-n.new.self.items ≡ places ++ length (old ++ field) ∷ [] =
    c.in_ok-push-2.ensures.items ∙ ap (λ n. places ++ n ∷ []) (len ∙ ap length bytes) in
    subst (λ ps. AreFirst d c.push_field.new.out.items ps (c.loop-n.n + 1)) (sym ends) (subst (λ bs. AreFirst d bs (places ++ length (old ++ field) ∷ []) (c.loop-n.n + 1)) (sym bytes) more)
