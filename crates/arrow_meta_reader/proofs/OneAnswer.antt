-- The bytes of a metadata have at most one tree, and so one result.
use Rattle.std.proofs.Common.{◌≡◌, ℕ, List, Some, None, inl, inr, sym, ap, ◌∙◌, subst}
use Rattle.arrow_types.specs.Limits.{LimitNumbers}
use Rattle.arrow_types.specs.declared.type_set.TypeSet.{TypeSet}
use Rattle.arrow_meta_tree.specs.declared.fault.MetaFault.{MetaFault}
use Rattle.arrow_meta_tree.specs.declared.kinds.TableKind.TheVariants as kinds
use Rattle.arrow_meta_reader.specs.Faults.{fault_of}
use Rattle.arrow_meta_reader.specs.Judges.{MetadataMeans, MetadataFails}
use Rattle.arrow_meta_tree.specs.Costs.{IsTreeOf}
use Rattle.arrow_meta_tree.specs.Lies.{Lies, LiesAtRoot}
use Rattle.arrow_meta_reader.specs.Means.{PlainMessage, Means}
use Rattle.arrow_meta_tree.specs.Parts.{parts}
use Rattle.arrow_meta_tree.specs.Trees.{Tree}
use Rattle.arrow_meta_tree.proofs.OneTree.{one_table}

-- Two trees that lie at the root of the same bytes are equal.
pub one_root : (types : TypeSet) (bytes : List ℕ) (x y : Tree) → LiesAtRoot types x bytes → LiesAtRoot types y bytes → x ≡ y
one_root types bytes x y h k =
    let same : k.0 ≡ h.0 = cc in
    one_table (kinds.Message types) bytes h.0 x y h.2 (subst (λ p. Lies (kinds.Message types) y bytes p) same k.2)

-- The bytes of a metadata have at most one tree within the limits.
pub one_tree : (bytes : List ℕ) (limits : LimitNumbers) (x y : Tree) → IsTreeOf bytes limits x → IsTreeOf bytes limits y → x ≡ y
one_tree bytes limits x y h k = one_root limits.types bytes x y h.lies k.lies

-- The bytes of a metadata mean at most one message.
pub one_message : (limits : LimitNumbers) (bytes : List ℕ) (m n : PlainMessage) → MetadataMeans limits bytes m → MetadataMeans limits bytes n → m ≡ n
one_message limits bytes m n h k =
    let same = one_tree bytes limits k.0 h.0 k.1 h.1 in
    let both : Some m ≡ Some n = sym h.2.same ∙ (subst (λ x. Means limits.max_body x n) same k.2).same in
    cc

-- The bytes of a metadata have at most one fault.
pub one_fault : (limits : LimitNumbers) (bytes : List ℕ) (f g : MetaFault) → MetadataFails limits bytes f → MetadataFails limits bytes g → f ≡ g
one_fault limits bytes f g (inl h) (inl k) = h.0 ∙ sym k.0
one_fault limits bytes f g (inl h) (inr k) = absurd (h.1 k.0 k.1)
one_fault limits bytes f g (inr h) (inl k) = absurd (k.1 h.0 h.1)
one_fault limits bytes f g (inr h) (inr k) =
    let same = one_tree bytes limits h.0 k.0 h.1 k.1 in
    let e : Some f ≡ Some g = sym h.2 ∙ ap (λ x. fault_of limits.max_body (parts x)) same ∙ k.2 in
    cc

-- Bytes that mean a message have no fault.
pub never_both : (limits : LimitNumbers) (bytes : List ℕ) (m : PlainMessage) (f : MetaFault) → MetadataMeans limits bytes m → MetadataFails limits bytes f → ⊥
never_both limits bytes m f h (inl k) = k.1 h.0 h.1
never_both limits bytes m f h (inr k) =
    let same = one_tree bytes limits h.0 k.0 h.1 k.1 in
    let e : None ≡ Some f = sym h.2.sound ∙ ap (λ x. fault_of limits.max_body (parts x)) same ∙ k.2 in
    cc
