-- Columns of a schema: what is stored of them by its fields, and which of them can be stored.
use Rattle.std.proofs.Common.{◌≡◌, ◌&&◌, ◌≤◌, ◌<◌, ◌+◌, ℕ, pos, Bool, true, false, List, [], ◌∷◌, ◌++◌, length, map, leb, refl, sym, ap, ◌∙◌, subst, arith}
use Rattle.std.specs.Prelude.{nat_le, Option, None, Some}
use Rattle.std.specs.List.{AllByRecursion, list_all}
use Rattle.std.proofs.lemmas.Bool.{and_from, false_from_ne_true, leb-true, le-leb}
use Rattle.std.proofs.lemmas.List.{map-append}
use Rattle.std.proofs.lemmas.List.Folds.{list_all-append}
use Rattle.arrow_types.specs.Field.{FieldTree, none, more, TypeShape, count}
use Rattle.arrow_types.specs.Limits.{LimitNumbers}
use Rattle.arrow_types.specs.Schema.{IsSchema}
use Rattle.arrow_types.specs.declared.field.Encoding.{Encoding}
use Rattle.arrow_types.specs.declared.node.FieldNode.{FieldNode}
use Rattle.arrow_data.specs.Column.{AreOf, Column}
use Rattle.arrow_layout.specs.Form.{node_form}
use Rattle.arrow_layout.specs.PlainValue.{PlainValue}
use Rattle.arrow_body_reader.specs.Taken.{IfFlattened, flattened, taken_nodes}
use Rattle.arrow_body_laws.specs.Laws.{raws_of}
use Rattle.arrow_body_laws.specs.Raws.{AreRaws, AreSmall, IsOwn, IsSmall, last_offset, offset_limit, raws_below}
use Rattle.arrow_body_laws.specs.Size.{size_of}
use Rattle.arrow_body_laws.specs.Stored.{fields_of_columns, stored_nodes}
use Rattle.arrow_body_writer.specs.Sent.{nodes_of_type}
use Rattle.arrow_body_writer.specs.Storable.{AreRepresentable}
use Rattle.arrow_stream_laws.specs.Admission.{frame_fits}
use Rattle.arrow_stream_laws.specs.Sizes.{offsets_fit, slots_in}

-- NAMES ARE NOT INSPECTED

-- the raw values can be stored by the fields whose columns they are
pub raws_by_fields : (fields : FieldTree) (cs : List Column) (raws : List (List PlainValue)) → AreOf fields cs → AreRaws (fields_of_columns cs) raws → AreRaws fields raws
raws_by_fields none [] raws are x = x
raws_by_fields none (d ∷ cs) raws are x = absurd are
raws_by_fields (more h c rest) [] raws are x = absurd are
raws_by_fields (more h c rest) (d ∷ cs) [] are x = absurd x
raws_by_fields (more h c rest) (d ∷ cs) (vs ∷ raws) are x =
    let P : TypeShape → Option Encoding → Type 0 = λ t e. AllByRecursion (IsOwn (node_form t.tag e) t.children) vs in
    let Q : TypeShape → Option Encoding → Type 0 = λ t e. IfFlattened e (AreRaws t.children (raws_below (node_form t.tag e) t.children vs)) in (
      subst (λ e. P (record { tag = h.tag; children = c }) e) are.1 (subst (λ t. P t d.encoding) are.0 x.0),
      subst (λ e. Q (record { tag = h.tag; children = c }) e) are.1 (subst (λ t. Q t d.encoding) are.0 x.1),
      raws_by_fields rest cs raws are.2 x.2,
    )

pub small_by_fields : (fields : FieldTree) (cs : List Column) (raws : List (List PlainValue)) → AreOf fields cs → AreSmall (fields_of_columns cs) raws → AreSmall fields raws
small_by_fields none [] raws are x = x
small_by_fields none (d ∷ cs) raws are x = absurd are
small_by_fields (more h c rest) [] raws are x = absurd are
small_by_fields (more h c rest) (d ∷ cs) [] are x = x
small_by_fields (more h c rest) (d ∷ cs) (vs ∷ raws) are x =
    let P : TypeShape → Option Encoding → Type 0 = λ t e. IsSmall (node_form t.tag e) vs in
    let Q : TypeShape → Option Encoding → Type 0 = λ t e. AreSmall t.children (raws_below (node_form t.tag e) t.children vs) in (
      subst (λ e. P (record { tag = h.tag; children = c }) e) are.1 (subst (λ t. P t d.encoding) are.0 x.0),
      subst (λ e. Q (record { tag = h.tag; children = c }) e) are.1 (subst (λ t. Q t d.encoding) are.0 x.1),
      small_by_fields rest cs raws are.2 x.2,
    )

small_by_columns : (fields : FieldTree) (cs : List Column) (raws : List (List PlainValue)) → AreOf fields cs → AreSmall fields raws → AreSmall (fields_of_columns cs) raws
small_by_columns none [] raws are x = x
small_by_columns none (d ∷ cs) raws are x = absurd are
small_by_columns (more h c rest) [] raws are x = absurd are
small_by_columns (more h c rest) (d ∷ cs) [] are x = x
small_by_columns (more h c rest) (d ∷ cs) (vs ∷ raws) are x =
    let P : TypeShape → Option Encoding → Type 0 = λ t e. IsSmall (node_form t.tag e) vs in
    let Q : TypeShape → Option Encoding → Type 0 = λ t e. AreSmall t.children (raws_below (node_form t.tag e) t.children vs) in (
      subst (λ t. P t d.encoding) (sym are.0) (subst (λ e. P (record { tag = h.tag; children = c }) e) (sym are.1) x.0),
      subst (λ t. Q t d.encoding) (sym are.0) (subst (λ e. Q (record { tag = h.tag; children = c }) e) (sym are.1) x.1),
      small_by_columns rest cs raws are.2 x.2,
    )

-- NODES

-- each node that is stored has its number of slots
pub slots_stored : (fields : FieldTree) (raws : List (List PlainValue)) → map (λ (n : FieldNode). n.length) (stored_nodes fields raws) ≡ map pos (slots_in fields raws)
slots_stored none raws = refl
slots_stored (more h c rest) [] = refl
slots_stored (more h c rest) (vs ∷ raws) =
    let below = raws_below (node_form h.tag h.encoding) c vs in
    ap (λ r. pos (length vs) ∷ r)
    (map-append (λ (n : FieldNode). n.length) (stored_nodes c below) (stored_nodes rest raws)
    ∙ ap (λ r. r ++ map (λ (n : FieldNode). n.length) (stored_nodes rest raws)) (slots_stored c below)
    ∙ ap (λ r. map pos (slots_in c below) ++ r) (slots_stored rest raws)
    ∙ sym (map-append pos (slots_in c below) (slots_in rest raws)))

-- OFFSETS

-- if all slots and offsets are representable, each offset fits
pub offsets_small : (fields : FieldTree) (raws : List (List PlainValue)) → AreSmall fields raws → offsets_fit fields raws ≡ true
offsets_small none raws x = refl
offsets_small (more h c rest) [] x = refl
offsets_small (more h c rest) (vs ∷ raws) x =
    let form = node_form h.tag h.encoding in
    and_from (leb (last_offset form vs) (offset_limit form) && offsets_fit c (raws_below form c vs)) (offsets_fit rest raws)
    (and_from (leb (last_offset form vs) (offset_limit form)) (offsets_fit c (raws_below form c vs)) (le-leb (last_offset form vs) (offset_limit form) x.0.near) (offsets_small c (raws_below form c vs) x.1))
    (offsets_small rest raws x.2)

both : (a b : Bool) → (a && b) ≡ true → (a ≡ true) × (b ≡ true)
both true true e = (refl, refl)
both true false e = absurd (cc)
both false b e = absurd (cc)

-- if the slot counts are within the limit and the offsets fit, all are representable
pub small_if : (max : ℕ) (fields : FieldTree) (raws : List (List PlainValue)) → max ≤ 2147483647 → list_all (λ n. nat_le n max) (slots_in fields raws) ≡ true → offsets_fit fields raws ≡ true → AreSmall fields raws
small_if max none raws few slots offsets = tt
small_if max (more h c rest) [] few slots offsets = tt
small_if max (more h c rest) (vs ∷ raws) few slots offsets =
    let form = node_form h.tag h.encoding in
    let below = raws_below form c vs in
    let p : ℕ → Bool = λ n. nat_le n max in
    let own = both (leb (length vs) max) (list_all p (slots_in c below ++ slots_in rest raws)) slots in
    let others = both (list_all p (slots_in c below)) (list_all p (slots_in rest raws)) (sym (list_all-append p (slots_in c below) (slots_in rest raws)) ∙ own.1) in
    let last = both (leb (last_offset form vs) (offset_limit form) && offsets_fit c below) (offsets_fit rest raws) offsets in
    let first = both (leb (last_offset form vs) (offset_limit form)) (offsets_fit c below) last.0 in
    let short = leb-true (length vs) max own.0 in (
      record { few = omega arith; near = leb-true (last_offset form vs) (offset_limit form) first.0 },
      small_if max c below few others.0 first.1,
      small_if max rest raws few others.1 last.1,
    )

-- COLUMNS THAT CAN BE STORED

-- fields take no more nodes than there are fields
taken_few : (fields : FieldTree) → taken_nodes fields ≤ count fields
taken_few none = omega arith
taken_few (more h c rest) =
    let below : flattened h.encoding (taken_nodes c) ≤ count c = by_encoding h.encoding (taken_few c) in
    let others = taken_few rest in
    omega arith
  where
    by_encoding : (e : Option Encoding) → taken_nodes c ≤ count c → flattened e (taken_nodes c) ≤ count c
    by_encoding None h = h
    by_encoding (Some e) h = omega arith

pub nodes_few : (t : TypeShape) (e : Option Encoding) → nodes_of_type t e ≤ 1 + count t.children
nodes_few t None = let few = taken_few t.children in omega arith
nodes_few t (Some e) = omega arith

columns_few : (fields : FieldTree) (cs : List Column) → AreOf fields cs → count fields ≤ 65536 → AllByRecursion (λ (c : Column). nodes_of_type c.data_type c.encoding < 18446744073709551615) cs
columns_few none [] are few = tt
columns_few none (d ∷ cs) are few = absurd are
columns_few (more h c rest) [] are few = absurd are
columns_few (more h c rest) (d ∷ cs) are few =
    let own = nodes_few d.data_type d.encoding in
    let same : count d.data_type.children ≡ count c = ap (λ (t : TypeShape). count t.children) are.0 in
    (omega arith, columns_few rest cs are.2 (omega arith))

-- the tests of a frame, one by one
pub record Tests (l : LimitNumbers) (align metadata : ℕ) (fields : FieldTree) (raws : List (List PlainValue)) (rows : ℕ) : Type 0 where
  pub metadata_fits : metadata ≤ l.max_metadata
  pub body_fits : size_of align fields raws ≤ l.max_body
  pub rows_fit : rows ≤ l.max_rows
  pub slots_fit : list_all (λ n. nat_le n l.max_rows) (slots_in fields raws) ≡ true
  pub offsets : offsets_fit fields raws ≡ true

module _ (l : LimitNumbers) (align metadata : ℕ) (fields : FieldTree) (raws : List (List PlainValue)) (rows : ℕ) where
  pub passed : frame_fits l align metadata fields raws rows ≡ true → Tests l align metadata fields raws rows
  passed e =
      let t1 = leb metadata l.max_metadata in
      let t2 = leb (size_of align fields raws) l.max_body in
      let t3 = leb rows l.max_rows in
      let t4 = list_all (λ n. leb n l.max_rows) (slots_in fields raws) in
      let w = both (t1 && t2 && t3 && t4) (offsets_fit fields raws) e in
      let x = both (t1 && t2 && t3) t4 w.0 in
      let y = both (t1 && t2) t3 x.0 in
      let q = both t1 t2 y.0 in
      record {
        metadata_fits = leb-true metadata l.max_metadata q.0;
        body_fits = leb-true (size_of align fields raws) l.max_body q.1;
        rows_fit = leb-true rows l.max_rows y.1;
        slots_fit = x.1;
        offsets = w.1;
      }

  pub passes : Tests l align metadata fields raws rows → frame_fits l align metadata fields raws rows ≡ true
  passes t =
      let t1 = leb metadata l.max_metadata in
      let t2 = leb (size_of align fields raws) l.max_body in
      let t3 = leb rows l.max_rows in
      let t4 = list_all (λ n. leb n l.max_rows) (slots_in fields raws) in
      and_from (t1 && t2 && t3 && t4) (offsets_fit fields raws) (and_from (t1 && t2 && t3) t4 (and_from (t1 && t2) t3 (and_from t1 t2
      (le-leb metadata l.max_metadata t.metadata_fits) (le-leb (size_of align fields raws) l.max_body t.body_fits)) (le-leb rows l.max_rows t.rows_fit)) t.slots_fit) t.offsets

  -- if not all tests hold, the frame does not fit
  pub fails : (Tests l align metadata fields raws rows → ⊥) → frame_fits l align metadata fields raws rows ≡ false
  fails f = false_from_ne_true (frame_fits l align metadata fields raws rows) (λ e. f (passed e))

-- columns that are not representable pass no tests
pub cannot_store : (l : LimitNumbers) (align metadata : ℕ) (fields : FieldTree) (cs : List Column) (rows : ℕ) → l.max_rows ≤ 2147483647 → IsSchema fields → AreOf fields cs
    → (AreRepresentable cs → ⊥) → frame_fits l align metadata fields (raws_of cs) rows ≡ false
cannot_store l align metadata fields cs rows ceiling known are cannot =
    fails l align metadata fields (raws_of cs) rows (λ t. cannot (record {
      counted = columns_few fields cs are known.bounded.few;
      small = small_by_columns fields cs (raws_of cs) are (small_if l.max_rows fields (raws_of cs) ceiling t.slots_fit t.offsets);
    }))
