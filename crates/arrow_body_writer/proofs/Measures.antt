-- The sizes of the nodes of columns, added up.
use Rattle.std.proofs.Common.{◌≡◌, ◌≤◌, ◌<◌, ℕ, suc, ◌+◌, List, [], ◌∷◌, ◌++◌, length, drop, get_or, refl, sym, ap, ◌∙◌, subst, arith, append_assoc, append-nil, drop-cons, ◌^◌, Option, None, Some, MatchOption, IfSome}
use Rattle.std.specs.List.{sum_by}
use Rattle.std.proofs.lemmas.List.{at_drop_all}
use Rattle.std.proofs.lemmas.List.Sums.{count_by-le-length, sum_by-append}
use Rattle.arrow_data.specs.Column.{Column}
use Rattle.arrow_layout.specs.Fits.{AllFit}
use Rattle.arrow_layout.specs.Form.{HasFieldsOf, form_of, node_form}
use Rattle.arrow_layout.specs.PlainValue.{PlainValue, is_null_value}
use Rattle.arrow_layout.specs.declared.form.Form.{Form}
use Rattle.arrow_layout.specs.declared.form.Form.TheVariants as forms
use Rattle.arrow_body_reader.specs.Taken.{IfFlattened}
use Rattle.arrow_body_laws.proofs.Raised.{raised}
use Rattle.arrow_body_laws.specs.Formed.{AreFormed}
use Rattle.arrow_body_laws.specs.Laws.{raws_of}
use Rattle.arrow_body_laws.specs.Raws.{AreRaws, IsSmall, last_offset, raws_below}
use Rattle.arrow_body_laws.specs.Size.{own_sizes, sizes_of}
use Rattle.arrow_body_laws.specs.Stored.{fields_of_columns, nulls_in, rounded}
use Rattle.arrow_body_writer.specs.Storable.{AreRepresentable, CanBeStored, columns_size}
use Rattle.arrow_body_slots.specs.Tally.{IsTally, capped, sizes_represented}
use Rattle.arrow_body_slots.specs.declared.tally.ByteTally.{ByteTally}

-- the sizes computed from the counts
own_represented : (form : Form) (vs : List PlainValue) → own_sizes form vs ≡ sizes_represented form (length vs) (nulls_in vs) (last_offset form vs)
own_represented forms.Nulls vs = refl
own_represented forms.Bits vs = refl
own_represented (forms.Numbers number) vs = refl
own_represented (forms.Bytes w) vs = refl
own_represented (forms.Texts w) vs = refl
own_represented (forms.FixedBytes w) vs = refl
own_represented (forms.Lists list) vs = refl
own_represented forms.Structs vs = refl

nulls-le : (vs : List PlainValue) → nulls_in vs ≤ length vs
nulls-le vs = count_by-le-length is_null_value vs

-- if the slots are few and the offsets small enough, the counts are exact
pub represented_is : (form : Form) (vs : List PlainValue) (t : ByteTally) → IsTally form vs t → IsSmall form vs → t.end ≤ 9223372036854775807 → sizes_represented form t.slots t.nulls t.end ≡ own_sizes form vs
represented_is form vs t is small near =
    let slots : t.slots ≡ length vs = omega (arith, is.slots, small.few) in
    let nulls : t.nulls ≡ nulls_in vs = omega (arith, is.nulls, small.few, nulls-le vs) in
    let end : t.end ≡ last_offset form vs = omega (arith, is.end, near) in
    (λ i. sizes_represented form (slots i) (nulls i) (end i)) ∙ sym (own_represented form vs)

-- the values that fit a column can be stored, if its type has the child fields that it needs
pub column_raws : (c : Column) → AllFit c.data_type c.encoding c.raw → IfFlattened c.encoding (HasFieldsOf (form_of c.data_type.tag) c.data_type.children × AreFormed c.data_type.children)
    → AreRaws (fields_of_columns (c ∷ [])) (raws_of (c ∷ []))
column_raws c fit formed = raised (fields_of_columns (c ∷ [])) (raws_of (c ∷ [])) refl (formed, tt) (fit, tt)

-- a column before others
sizes_first : (c : Column) (cs : List Column) → sizes_of (fields_of_columns (c ∷ cs)) (raws_of (c ∷ cs)) ≡ sizes_of (fields_of_columns (c ∷ [])) (raws_of (c ∷ [])) ++ sizes_of (fields_of_columns cs) (raws_of cs)
sizes_first c cs =
    let own = own_sizes (node_form c.data_type.tag c.encoding) c.raw in
    let below = sizes_of c.data_type.children (raws_below (node_form c.data_type.tag c.encoding) c.data_type.children c.raw) in
    let others = sizes_of (fields_of_columns cs) (raws_of cs) in
    sym (append_assoc own below others) ∙ ap (λ b. own ++ b ++ others) (sym (append-nil below))

pub size_first : (align : ℕ) (c : Column) (cs : List Column) → columns_size align (c ∷ cs) ≡ columns_size align (c ∷ []) + columns_size align cs
size_first align c cs =
    ap (sum_by (rounded align)) (sizes_first c cs)
    ∙ sum_by-append (rounded align) (sizes_of (fields_of_columns (c ∷ [])) (raws_of (c ∷ []))) (sizes_of (fields_of_columns cs) (raws_of cs))

pub represented_both : (c : Column) (cs : List Column) → AreRepresentable (c ∷ []) → AreRepresentable cs → AreRepresentable (c ∷ cs)
represented_both c cs one others = record { counted = (one.counted.0, others.counted); small = (one.small.0, one.small.1, others.small) }

pub represented_one : (c : Column) (cs : List Column) → AreRepresentable (c ∷ cs) → AreRepresentable (c ∷ [])
represented_one c cs all = record { counted = (all.counted.0, tt); small = (all.small.0, all.small.1, tt) }

pub represented_others : (c : Column) (cs : List Column) → AreRepresentable (c ∷ cs) → AreRepresentable cs
represented_others c cs all = record { counted = all.counted.1; small = all.small.2 }

-- the columns from an index on
pub columns_from : (cs : List Column) (i : ℕ) (c : Column) → i < length cs → c ≡ get_or cs i c → drop i cs ≡ c ∷ drop (i + 1) cs
columns_from cs i c here is =
    let one : suc i ≡ i + 1 = omega arith in
    drop-cons cs i c here ∙ (λ j. sym is j ∷ drop (one j) cs)

-- after the last
pub none_left : (cs : List Column) (i : ℕ) → length cs ≤ i → drop i cs ≡ []
none_left cs i all = at_drop_all (λ (xs : List Column). xs) cs i all

-- zero columns are representable, and have no bytes
pub represented_none : AreRepresentable []
represented_none = record { counted = tt; small = tt }

-- the raw values of a column and those of others
pub raws_both : (c : Column) (cs : List Column) → AreRaws (fields_of_columns (c ∷ [])) (raws_of (c ∷ [])) → AreRaws (fields_of_columns cs) (raws_of cs) → AreRaws (fields_of_columns (c ∷ cs)) (raws_of (c ∷ cs))
raws_both c cs one others = (one.0, one.1, others)

pub raws_one : (c : Column) (cs : List Column) → AreRaws (fields_of_columns (c ∷ cs)) (raws_of (c ∷ cs)) → AreRaws (fields_of_columns (c ∷ [])) (raws_of (c ∷ []))
raws_one c cs all = (all.0, all.1, tt)

pub raws_others : (c : Column) (cs : List Column) → AreRaws (fields_of_columns (c ∷ cs)) (raws_of (c ∷ cs)) → AreRaws (fields_of_columns cs) (raws_of cs)
raws_others c cs all = all.2

-- a size within the limit
pub allowed_size : (align : ℕ) (cs : List Column) (allowed : Option ℕ) (size : ℕ) → AreRepresentable cs → size ≡ capped (columns_size align cs)
    → MatchOption allowed (2 ^ 62 < size) (λ len. (len ≡ size) × (len ≤ 2 ^ 62))
    → MatchOption allowed (CanBeStored align cs → ⊥) (λ len. CanBeStored align cs × (len ≡ columns_size align cs))
allowed_size align cs None size represented is over = λ stored. omega (arith, is, over, stored.size)
allowed_size align cs (Some len) size represented is fits = (record { represented = represented; size = omega (arith, is, fits.0, fits.1) }, omega (arith, is, fits.0, fits.1))

-- what is known in any case
pub if_allowed : (P : Type 0) (allowed : Option ℕ) → P → IfSome allowed (λ len. P)
if_allowed P None known = tt
if_allowed P (Some len) known = known

-- all columns are representable exactly if the remaining ones are
pub record IsRepresentableUpTo (all rest : List Column) : Type 0 where
  pub represented : AreRepresentable rest → AreRepresentable all
  pub unrepresented : AreRepresentable all → AreRepresentable rest

pub represented_start : (all : List Column) → IsRepresentableUpTo all all
represented_start all = record { represented = λ t. t; unrepresented = λ t. t }

pub represented_next : (all rest : List Column) (c : Column) → IsRepresentableUpTo all (c ∷ rest) → AreRepresentable (c ∷ []) → IsRepresentableUpTo all rest
represented_next all rest c so_far one = record { represented = λ t. so_far.represented (represented_both c rest one t); unrepresented = λ t. represented_others c rest (so_far.unrepresented t) }

pub represented_out : (all rest : List Column) → IsRepresentableUpTo all rest → rest ≡ [] → AreRepresentable all
represented_out all rest so_far none = so_far.represented (subst AreRepresentable (sym none) represented_none)

-- The size so far and the size of the remaining columns add up to the size of all columns, and all columns are
-- representable exactly if the remaining ones are.
pub record IsMeasured (align : ℕ) (all rest : List Column) (size : ℕ) : Type 0 where
  pub sum : capped (size + columns_size align rest) ≡ capped (columns_size align all)
  pub known : size ≤ 18446744073709551615
  pub represented : AreRepresentable rest → AreRepresentable all
  pub unrepresented : AreRepresentable all → AreRepresentable rest

-- before the first
pub measured_none : (align : ℕ) (all : List Column) → IsMeasured align all all 0
measured_none align all = let sum : 0 + columns_size align all ≡ columns_size align all = omega arith in record { sum = ap capped sum; known = omega arith; represented = λ t. t; unrepresented = λ t. t }

-- one more column
pub measured_next : (align : ℕ) (all rest : List Column) (c : Column) (size own next : ℕ) → IsMeasured align all (c ∷ rest) size → AreRepresentable (c ∷ []) → own ≡ capped (columns_size align (c ∷ []))
    → next ≡ capped (size + own) → IsMeasured align all rest next
measured_next align all rest c size own next so_far one is more = record {
  sum = omega (arith, so_far.sum, is, more, size_first align c rest);
  known = omega (arith, more);
  represented = λ t. so_far.represented (represented_both c rest one t);
  unrepresented = λ t. represented_others c rest (so_far.unrepresented t);
}

-- after the last
pub measured_all : (align : ℕ) (all rest : List Column) (size : ℕ) → IsMeasured align all rest size → rest ≡ [] → AreRepresentable all × (size ≡ capped (columns_size align all))
measured_all align all rest size is none =
    let nothing = ap (columns_size align) none in
    (is.represented (subst AreRepresentable (sym none) represented_none), omega (arith, is.sum, is.known, nothing))
