use Rattle.std.proofs.Common.{◌≡◌, ◌≤◌, ◌↔◌, ℕ, List, IsTrue, leb, le-leb, leb-true, refl, sym, subst, ◌∙◌}
use Rattle.arrow_layout.specs.Form.{node_form}
use Rattle.arrow_layout.specs.Layout.{HoldsSlots, buffer}
use Rattle.arrow_layout.specs.Slots.{HasBits}
use Rattle.arrow_layout.specs.declared.form.Form.{Form}
use Rattle.arrow_layout.specs.declared.form.Form.TheVariants as forms
use Rattle.arrow_body_reader.specs.Least.{IsLeast}
use Rattle.arrow_body_reader.specs.Place.{buffers_in, head_at, lengths_below}
use Rattle.arrow_body_reader.proofs.place.NodePlace.check_layout.Goals as goal

-- a struct's bitmap holds the slots, and so does each child if the shortest does
struct_laid : (form : Form) (len least : ℕ) (b : List (List ℕ)) (counts : List ℕ) → form ≡ forms.Structs → len ≤ 2147483647 → IsLeast least counts → HasBits len (buffer b 0)
    → IsTrue (leb len least) ↔ HoldsSlots form len b counts
struct_laid form len least b counts is few short bits = (
  λ le. subst (λ f. HoldsSlots f len b counts) (sym is) (record { bits = bits; longer = (short.reported len few).0 (leb-true len least le) }),
  λ all. le-leb len least ((short.reported len few).1 (subst (λ f. HoldsSlots f len b counts) is all).longer),
)

pub returns-then-has_bits : goal.returns-then-has_bits
returns-then-has_bits c =
    let p = c.args.self in
    let b = buffers_in c.args.held in
    struct_laid (node_form (head_at p).tag (head_at p).encoding) c.args.len c.args.least b (lengths_below p) (sym p.formed ∙ c.in-Structs.is) c.requires.few c.requires.least (subst (HasBits c.args.len) c.bytes-in-Structs.ensures (c.if-has_bits.ensures.0 refl))
