-- Columns of indices.
use Rattle.std.proofs.Common.{◌≡◌, ℕ, List, Option, Some, None, refl, sym, subst}
use Rattle.std.specs.Global.{Box}
use Rattle.arrow_types.specs.Field.{TypeShape}
use Rattle.arrow_types.specs.declared.field.Encoding.{Encoding}
use Rattle.arrow_data.specs.Column.{Column, HasDictionary}
use Rattle.arrow_data.specs.Node.{column_by, AreEntriesBy}
use Rattle.arrow_data.specs.declared.buffers.Ints.{Ints}
use Rattle.arrow_data.specs.declared.array.Dictionary.{Dictionary}
use Rattle.arrow_data.specs.declared.array.Ranges.TheVariants.{Indices}

-- the dictionary of a column of indices
pub dictionary_shown : (c : Column) (t : TypeShape) (e : Option Encoding) (len : ℕ) (body : List ℕ) (n : Ints) (d : Box Dictionary)
    → c ≡ column_by t e len body (Indices n d) → AreEntriesBy e len t body n d.value → HasDictionary c d.value
dictionary_shown c t None len body n d is ok = absurd ok
dictionary_shown c t (Some e) len body n d is ok =
    let shown : HasDictionary (column_by t (Some e) len body (Indices n d)) d.value = record {
      typed = ok.typed;
      known = ok.known;
      listed = (e, refl, refl);
    } in
    subst (λ x. HasDictionary x d.value) (sym is) shown
