-- A field's encoding, written or left out.
use Rattle.std.proofs.Common.{◌≡◌, ℕ, suc, ◌≤◌, List, ◌∷◌, ◌++◌, length, Option, Some, None, refl}
use Rattle.std.proofs.Common.{sym, subst, ◌∙◌, arith}
use Rattle.std.proofs.lemmas.List.{append-nil}
use Rattle.arrow_flatbuf.specs.Nodes.{Node, TableFields, after_cells, count, slots, table, OwnFit}
use Rattle.arrow_flatbuf.proofs.Laid.{reaches}
use Rattle.arrow_flatbuf.proofs.Left.{stepped}
use Rattle.arrow_types.specs.declared.field.Encoding.{Encoding}
use Rattle.arrow_meta_writer.specs.Appends.{Begins, after_encoding, encoding_slot, laid_encoding}
use Rattle.arrow_meta_writer.specs.Layouts.{encoding_cells, with_encoding}

pub encoding_grows : (q : ℕ) (e : Option Encoding) → q ≤ after_encoding q e
encoding_grows q None = omega arith
encoding_grows q (Some e) = omega (arith, reaches q (table (encoding_cells e)))

-- the fields after the encoding are laid out from its end
pub children_after : (q : ℕ) (e : Option Encoding) (rest : TableFields) → after_cells q (with_encoding e rest) ≡ after_cells (after_encoding q e) rest
children_after q None rest = refl
children_after q (Some e) rest = refl

-- the last fields of a field's table
pub last_slots : (q : ℕ) (e : Option Encoding) (rest : TableFields) → slots q (with_encoding e rest) ≡ encoding_slot q e ∷ slots (after_encoding q e) rest
last_slots q None rest = refl
last_slots q (Some e) rest = refl

-- their number is one more than the number of those after the encoding
pub last_count : (e : Option Encoding) (rest : TableFields) → count (with_encoding e rest) ≡ suc (count rest)
last_count None rest = refl
last_count (Some e) rest = refl

-- they hold no numbers if those after the encoding do not
pub last_fit : (e : Option Encoding) (rest : TableFields) → OwnFit rest → OwnFit (with_encoding e rest)
last_fit None rest h = h
last_fit (Some e) rest h = h

-- the encoding is written, or there is none
pub encoding_written : (old now next : List ℕ) (e : Option Encoding) (rest : TableFields) (whole : Node) → Begins old (with_encoding e rest) whole now → next ≡ now ++ laid_encoding (length now) e → Begins old rest whole next
encoding_written old now next None rest whole h e =
    let P : List ℕ → Type 0 = λ bytes. Begins old rest whole bytes in
    subst P (sym (e ∙ append-nil now)) h
encoding_written old now next (Some x) rest whole h e = stepped old now next (table (encoding_cells x)) rest whole h e
