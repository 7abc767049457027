-- The tables of a batch, read field by field, are those of a tree that lies there.
use Rattle.std.proofs.Common.{◌≡◌, ℕ, ◌≤◌, inl, inr, ℤ, Bool, true, false, not, ◌==◌, List, [], ◌∷◌, map, Option, Some, None, option_map, is_some, arith, refl, sym, ap, subst, ◌∙◌}
use Rattle.std.specs.Int.{cast_signed, w64}
use Rattle.std.proofs.lemmas.Bool.{le-ltb}
use Rattle.arrow_flatbuf.specs.Place.{past}
use Rattle.arrow_flatbuf.specs.Table.{TableAt, table_at, field_place}
use Rattle.arrow_flatbuf.specs.Vector.{VectorAt}
use Rattle.arrow_meta_tree.specs.declared.codes.HeaderKind.{HeaderKind}
use Rattle.arrow_meta_tree.specs.declared.codes.HeaderKind.TheVariants as headers
use Rattle.arrow_meta_tree.specs.declared.fault.BatchKind.TheVariants as batches
use Rattle.arrow_meta_tree.specs.declared.fault.MetaFault.{MetaFault}
use Rattle.arrow_meta_tree.specs.declared.fault.MetaFault.TheVariants.{Metadata, Version, Header, BodyLength, Compressed}
use Rattle.arrow_meta_tree.specs.declared.kinds.FieldForm.{FieldForm}
use Rattle.arrow_meta_tree.specs.declared.kinds.FieldForm.TheVariants as forms
use Rattle.arrow_meta_tree.specs.declared.kinds.TableKind.{TableKind}
use Rattle.arrow_meta_tree.specs.declared.kinds.TableKind.TheVariants as kinds
use Rattle.arrow_meta_schema.specs.Conditions.{any, any_in, lacks_table}
use Rattle.arrow_meta_tree.specs.Codes.{header_kind}
use Rattle.arrow_meta_reader.specs.Versions.{metadata_version}
use Rattle.arrow_meta_reader.specs.declared.message.MetadataVersion.{MetadataVersion}
use Rattle.arrow_meta_reader.specs.Faults.{body_of, fault_of, header_conditions, header_in, header_of, is_bad_length, is_compressed, least, version_in}
use Rattle.arrow_meta_tree.specs.Grows.{root}
use Rattle.arrow_meta_tree.specs.Kinds.{Spot, code_at, header_table, opened, spots_of, snapshot, table_of_header}
use Rattle.arrow_meta_tree.specs.Lies.{AllPlaced, Placed, layer, layer_at, leaf_layer, number_layer, pairs_from, table_layer}
use Rattle.arrow_meta_reader.specs.Means.{PlainBatch, PlainHeader, batch, batch_of, buffer_of, dictionary, node_of}
use Rattle.arrow_meta_tree.specs.Parts.{leaf_number_or, pairs_in}
use Rattle.arrow_meta_reader.specs.Straight.{IsBare, HasNumber, HasPairs, IsHeader, MeansBare}
use Rattle.arrow_meta_tree.specs.Trees.{Leaf, absent, number, pairs, leaf, table, Trees, none, more}
use Rattle.arrow_meta_tree.specs.Within.{text_length}
use Rattle.arrow_types.specs.declared.type_set.TypeSet.TheVariants.{Core}
use Rattle.arrow_types.specs.Limits.{LimitNumbers}
use Rattle.arrow_meta_tree.proofs.Layers.{element_layer, layer_there}
use Rattle.arrow_meta_tree.proofs.Roots.{root_lies}

-- a leaf at a spot that holds a number, 0 if the field is absent
abbrev IsNumberAt : List ℕ → Spot → ℕ → Type 0
IsNumberAt bytes s n = (x : Leaf) × Placed bytes s (leaf x) × (leaf_number_or 0 x ≡ n) × (text_length x ≡ 0)

-- a leaf at a spot that holds pairs, none if the field is absent
abbrev ArePairsAt : List ℕ → Spot → List (ℕ × ℕ) → Type 0
ArePairsAt bytes s ps = (x : Leaf) × Placed bytes s (leaf x) × (pairs_in (leaf x) ≡ ps) × (text_length x ≡ 0)

-- the spot of an absent field holds nothing
absent_there : (bytes : List ℕ) (form : FieldForm) (place : Option ℕ) → place ≡ None → Placed bytes (record { form = form; place = place }) (leaf absent)
unfolding layer
absent_there bytes form place e = rw e refl

-- the number of a field is at its spot
number_there : (t : TableAt) (form : FieldForm) (w i n : ℕ) → ((p : ℕ) → layer_at t.bytes form p ≡ number_layer w t.bytes p) → HasNumber w t i n → IsNumberAt t.bytes (snapshot form t i) n
number_there t form w i n reads (inl h) = (absent, absent_there t.bytes form (field_place t i) h.0, sym h.1, refl)
number_there t form w i n reads (inr h) =
    (number n, layer_there t.bytes form (field_place t i) h.0 h.1 ∙ reads h.0 ∙ ap (option_map (λ m. leaf_layer (number m))) h.2, refl, refl)

-- the pairs of a field are at its spot
pairs_there : (t : TableAt) (i : ℕ) (ps : List (ℕ × ℕ)) → HasPairs t i ps → ArePairsAt t.bytes (snapshot forms.Pairs t i) ps
pairs_there t i ps (inl h) = (absent, absent_there t.bytes forms.Pairs (field_place t i) h.0, sym h.1, refl)
pairs_there t i ps (inr h) =
    let v = h.1 in
    let layered = layer_there t.bytes forms.Pairs (field_place t i) h.0 h.2 ∙ ap (option_map (λ (x : VectorAt). leaf_layer (pairs (pairs_from t.bytes x.place x.count)))) h.3 in
    (pairs (pairs_from t.bytes v.place v.count), layered, h.4, refl)

-- the meaning of a RecordBatch table
pub batch_there : (t : TableAt) (says : PlainBatch) (n : ℕ) (nodes buffers : List (ℕ × ℕ)) → HasNumber 8 t 0 n → HasPairs t 1 nodes → HasPairs t 2 buffers → field_place t 3 ≡ None
    → says.length ≡ cast_signed w64 n → says.nodes ≡ map node_of nodes → says.buffers ≡ map buffer_of buffers → IsHeader headers.RecordBatch t (batch says)
batch_there t says n nodes buffers length first second absent_3 e f g =
    let a = number_there t forms.Long 8 0 n (λ p. refl) length in
    let b = pairs_there t 1 nodes first in
    let c = pairs_there t 2 buffers second in
    let d = absent_there t.bytes forms.Presence (field_place t 3) absent_3 in
    record {
      opened = kinds.RecordBatch;
      opens = λ types. refl;
      fields = more (leaf a.0) (more (leaf b.0) (more (leaf c.0) (more (leaf absent) none)));
      placed = (a.1, (b.1, (c.1, (d, tt))));
      bare = record { levels_none = refl; visits_none = refl; entries_none = refl; text_none = rw (a.3, b.3, c.3) refl };
      whole = refl;
      sound = λ body_len. refl;
      says = rw (a.2, b.2, c.2, ← e, ← f, ← g) refl;
    }

-- a single condition that does not hold
not_held : (b : Bool) (fault : MetaFault) → least ((b, fault) ∷ []) ≡ None → b ≡ false
not_held true fault h = absurd (cc)
not_held false fault h = refl

-- a table that a field's offset points to is at the field
table_there : (bytes : List ℕ) (kind : TableKind) (place : Option ℕ) (p : ℕ) (t : TableAt) (xs : Trees) → place ≡ Some p → past table_at bytes p ≡ Some t → t.bytes ≡ bytes → AllPlaced t.bytes (spots_of kind t) xs
    → Placed bytes (record { form = forms.Table kind; place = place }) (table kind xs)
table_there bytes kind place p t xs e f same h =
    (spots_of kind t, layer_there bytes (forms.Table kind) place p e ∙ ap (option_map (λ x. table_layer kind (spots_of kind x))) f, subst (λ bs. AllPlaced bs (spots_of kind t) xs) same h)

-- the meaning of a DictionaryBatch table whose data are present
pub dictionary_there : (t rows : TableAt) (says : PlainBatch) (p id flag : ℕ) (z : ℤ) (is_delta : Bool) → HasNumber 8 t 0 id → HasNumber 1 t 2 flag → field_place t 1 ≡ Some p
    → past table_at t.bytes p ≡ Some rows → rows.bytes ≡ t.bytes → IsHeader headers.RecordBatch rows (batch says) → z ≡ cast_signed w64 id → is_delta ≡ not (flag == 0)
    → IsHeader headers.DictionaryBatch t (dictionary z is_delta says)
dictionary_there t rows says p id flag z is_delta first last at there same of e f =
    let a = number_there t forms.Long 8 0 id (λ q. refl) first in
    let c = number_there t forms.Byte 1 2 flag (λ q. refl) last in
    let kind : kinds.RecordBatch ≡ of.opened = let opens = of.opens Core in cc in
    let placed = subst (λ k. AllPlaced rows.bytes (spots_of k rows) of.fields) (sym kind) of.placed in
    let bare = subst (λ k. IsBare (table k of.fields)) (sym kind) of.bare in
    let whole = subst (λ k. any lacks_table (table k of.fields) ≡ false) (sym kind) of.whole in
    let plain : is_compressed of.fields ≡ false = not_held (is_compressed of.fields) (Compressed batches.Record 0) (of.sound 0) in
    let rows_say : batch_of of.fields ≡ says = let h = of.says in cc in
    record {
      opened = kinds.DictionaryBatch;
      opens = λ types. refl;
      fields = more (leaf a.0) (more (table kinds.RecordBatch of.fields) (more (leaf c.0) none));
      placed = (a.1, (table_there t.bytes kinds.RecordBatch (field_place t 1) p rows of.fields at there same placed, (c.1, tt)));
      bare = record { levels_none = rw bare.levels_none refl; visits_none = rw bare.visits_none refl; entries_none = rw bare.entries_none refl; text_none = rw (a.3, bare.text_none, c.3) refl };
      whole = rw whole refl;
      sound = λ body_len. rw plain refl;
      says = rw (a.2, c.2, rows_say, e, f) refl;
    }

-- the code in a field
code_there : (t : TableAt) (i code : ℕ) → HasNumber 1 t i code → code_at t i ≡ code
code_there t i code (inl h) = rw h.0 (sym h.1)
code_there t i code (inr h) = rw h.1 (rw h.2 refl)

-- if no condition holds there is no fault
passed : (a b c d : Bool) (own : List (Bool × MetaFault)) → a ≡ false → b ≡ false → c ≡ false → d ≡ false → least own ≡ None
    → least ((a, Metadata) ∷ (b, Version) ∷ (c, Header) ∷ (d, BodyLength) ∷ own) ≡ None
passed a b c d own e f g h rest = rw (e, f, g, h) rest

-- a length that is not bad
good_length : (most n : ℕ) → n ≤ 9223372036854775807 → n ≤ most → is_bad_length most n ≡ false
good_length most n h k = rw (le-ltb 9223372036854775807 n h, le-ltb most n k) refl

-- the message of a header's table and of the numbers next to it
pub message_there : (limits : LimitNumbers) (bytes : List ℕ) (t inner : TableAt) (p reported code body_len : ℕ) (version : MetadataVersion) (kind : HeaderKind) (h : PlainHeader)
    → past table_at bytes 0 ≡ Some t → t.bytes ≡ bytes → HasNumber 2 t 0 reported → metadata_version reported ≡ Some version → HasNumber 1 t 1 code → HasNumber 8 t 3 body_len
    → field_place t 2 ≡ Some p → past table_at t.bytes p ≡ Some inner → inner.bytes ≡ t.bytes → header_kind code ≡ Some kind → IsHeader kind inner h
    → body_len ≤ 9223372036854775807 → body_len ≤ limits.max_body
    → MeansBare limits bytes (record { version = version; header = h; body_len = body_len })
message_there limits bytes t inner p reported code body_len version kind h there same numbered read coded length at inside same_bytes named of low high =
    let a = number_there t forms.Short 2 0 reported (λ q. refl) numbered in
    let b = number_there t forms.Byte 1 1 code (λ q. refl) coded in
    let d = number_there t forms.Long 8 3 body_len (λ q. refl) length in
    let xs = more (leaf a.0) (more (leaf b.0) (more (table of.opened of.fields) (more (leaf d.0) none))) in
    let opens : header_table limits.types (code_at t 1) ≡ Some of.opened = ap (header_table limits.types) (code_there t 1 code coded) ∙ ap (table_of_header limits.types) named ∙ of.opens limits.types in
    let header_placed : Placed t.bytes (opened (header_table limits.types (code_at t 1)) (field_place t 2)) (table of.opened of.fields) =
    rw opens (table_there t.bytes of.opened (field_place t 2) p inner of.fields at inside same_bytes of.placed) in
    let placed : AllPlaced t.bytes (spots_of (kinds.Message limits.types) t) xs = (a.1, (b.1, (header_placed, (d.1, tt)))) in
    let root_placed : Placed bytes (root limits.types) (table (kinds.Message limits.types) xs) = (spots_of (kinds.Message limits.types) t, element_layer bytes (kinds.Message limits.types) 0 t there, subst (λ bs. AllPlaced bs (spots_of (kinds.Message limits.types) t) xs) same placed) in
    let in_version : version_in xs ≡ Some version = rw a.2 read in
    let in_header : header_in xs ≡ Some kind = rw b.2 named in
    let own : least (header_conditions (header_in xs) (body_of xs) (header_of xs)) ≡ None = rw in_header (of.sound (body_of xs)) in
    let sound : fault_of limits.max_body xs ≡ None =
    passed (any_in lacks_table xs) (not (is_some (version_in xs))) (not (is_some (header_in xs))) (is_bad_length limits.max_body (body_of xs)) (header_conditions (header_in xs) (body_of xs) (header_of xs))
    (rw of.whole refl) (rw in_version refl) (rw in_header refl) (rw d.2 (good_length limits.max_body body_len low high)) own in (
      table (kinds.Message limits.types) xs,
      record {
        lies = root_lies limits.types bytes (table (kinds.Message limits.types) xs) root_placed;
        within = record {
          shallow = record { levels_within = rw of.bare.levels_none (omega arith); visits_within = rw of.bare.visits_none (omega arith); entries_within = rw of.bare.entries_none (omega arith) };
          text_within = rw (a.3, b.3, of.bare.text_none, d.3) (omega arith);
        };
      },
      record { sound = sound; same = rw (in_version, in_header) (rw (d.2, of.says) refl) },
      record {
        levels_none = rw of.bare.levels_none refl;
        visits_none = rw of.bare.visits_none refl;
        entries_none = rw of.bare.entries_none refl;
        text_none = rw (a.3, b.3, of.bare.text_none, d.3) refl;
      },
    )
