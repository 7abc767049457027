-- What applying a message with its complete body does.
use Rattle.std.proofs.Common.{◌≡◌, ℕ, ◌+◌, ℤ, Bool, true, false, cond, List, [], ◌∷◌, ◌++◌, length, Some, None, is_some, refl, sym, ap, ◌∙◌, subst, arith, Ok, Err}
use Rattle.std.specs.Prelude.{◌&&◌, not, nat_lt, slice_index_or}
use Rattle.std.specs.List.{AllByRecursion}
use Rattle.std.proofs.lemmas.Bool.{ltb-false}
use Rattle.arrow_types.specs.Field.{FieldTree, FieldHeader, none, more, fields_of, TypeShape}
use Rattle.arrow_types.specs.Schema.{dictionary_fields, has_encoding}
use Rattle.arrow_data.specs.Batch.{HaveRows, Table}
use Rattle.arrow_data.specs.Column.{AreOf, Column, ValueList, counts_of}
use Rattle.arrow_data.specs.Listed.{listed}
use Rattle.arrow_body_reader.specs.Held.{count_of}
use Rattle.arrow_body_reader.specs.Sound.{columns_of}
use Rattle.arrow_body_reader.proofs.Columns.{columns_long, columns_typed}
use Rattle.arrow_dict.specs.Appends.{Appends, IsAppended, IsTooLong, with_values as grown_with}
use Rattle.arrow_dict.specs.Dictionaries.{placed}
use Rattle.arrow_dict.specs.ValueTypes.{value_field, value_type_of}
use Rattle.arrow_dict.specs.declared.store.StoreFault.{StoreFault}
use Rattle.arrow_dict.specs.declared.store.StoreFault.TheVariants as stores
use Rattle.arrow_meta_reader.specs.Means.{PlainBatch, dictionary, batch}
use Rattle.arrow_stream_reader.specs.declared.kind.Rejection.TheVariants.{NoBase, Rows, UnknownId}
use Rattle.arrow_stream_reader.specs.declared.decode_error.DecodeError.{DecodeError}
use Rattle.arrow_stream_reader.specs.declared.decode_error.DecodeError.TheVariants.{Refused, Memory}
use Rattle.arrow_stream_reader.specs.State.{StreamState, dictionary_given, batch_given, fields_in, schema_in}
use Rattle.arrow_stream_reader.specs.Batch.{Loads, columns, base_of, field_of_type, has_bad_length, value_fields}
use Rattle.arrow_stream_reader.specs.Frame.{BodySays, dictionary_comes, batch_comes}
use Rattle.arrow_stream_reader.specs.Views.{AreValues, Gives, HasNoColumns, HeldValues, IsApplicable, IsFit, Ready, Updates, store_error}
use Rattle.arrow_stream_reader.proofs.Fitness.{placed_fit}

-- THE COLUMNS OF A BODY

-- the columns that a body holds are of the fields
held_typed : {body : List ℕ} {ds : List (ℤ × ValueList)} {f : FieldTree} {w : PlainBatch} {cs : List Column} → Loads body ds f w (Ok cs) → AreOf f cs
held_typed {body} {ds} {f} {w} (columns layout text indexed) = columns_typed body ds f w.nodes w.buffers

-- and have as many slots as the batch has rows
held_long : {body : List ℕ} {ds : List (ℤ × ValueList)} {f : FieldTree} {w : PlainBatch} {cs : List Column} → Loads body ds f w (Ok cs) →
    AllByRecursion (λ (k : ℕ). k ≡ count_of w.length) (counts_of cs)
held_long {body} {ds} {f} {w} (columns layout text indexed) =
    subst (AllByRecursion (λ (k : ℕ). k ≡ count_of w.length)) (sym (columns_long body ds f w.nodes w.buffers)) layout.long

have_rows : (n : ℕ) (cs : List Column) → AllByRecursion (λ (k : ℕ). k ≡ n) (counts_of cs) → HaveRows n cs
have_rows n [] h = tt
have_rows n (c ∷ cs) h = (h.0, have_rows n cs h.1)

-- the columns that a body holds are those of a batch
pub held_fits : {body : List ℕ} {ds : List (ℤ × ValueList)} {f : FieldTree} {w : PlainBatch} {cs : List Column} → Loads body ds f w (Ok cs) → AreOf f cs × HaveRows (count_of w.length) cs
held_fits {w = w} {cs = cs} h = (held_typed h, have_rows (count_of w.length) cs (held_long h))

-- ERRORS OF A DICTIONARY BATCH THAT EARLIER MESSAGES DECIDE

-- if there is none, a delta finds its dictionary, and there are not too many rows
against_cases : (a b c d : Bool) → cond a (Some UnknownId) (cond b (Some NoBase) (cond c (Some Rows) (cond d (Some Rows) None))) ≡ None → (b ≡ false) × (d ≡ false)
against_cases true b c d e = absurd (cc)
against_cases false true c d e = absurd (cc)
against_cases false false true d e = absurd (cc)
against_cases false false false true e = absurd (cc)
against_cases false false false false e = (refl, refl)

-- ONE COLUMN

-- one field has one column
pub record IsOne (h : FieldHeader) (children : FieldTree) (cs : List Column) : Type 0 where
  pub column : Column
  pub alone : cs ≡ column ∷ []
  pub typed : column.data_type ≡ record { tag = h.tag; children = children }
  pub encoded : column.encoding ≡ h.encoding

only_one : (h : FieldHeader) (children : FieldTree) (cs : List Column) → AreOf (more h children none) cs → IsOne h children cs
only_one h children [] a = absurd a
only_one h children (x ∷ y ∷ ys) a = absurd a.2
only_one h children (x ∷ []) a = record { column = x; alone = refl; typed = a.0; encoded = a.1 }

-- the columns that a body holds are those of its nodes and buffers
held_columns : {body : List ℕ} {ds : List (ℤ × ValueList)} {f : FieldTree} {w : PlainBatch} {cs : List Column} → Loads body ds f w (Ok cs) →
    cs ≡ columns_of body ds f w.nodes w.buffers
held_columns (columns layout text indexed) = refl

module _ (s : StreamState) (record_batch : PlainBatch) (body : List ℕ) where
  -- a batch is rejected for the reason for which its body is rejected
  pub batch_refused : (stop : DecodeError) → HasNoColumns body s.dictionaries (fields_in s.schema) record_batch stop → Gives s record_batch body (Err stop)
  batch_refused (Refused k) h = batch_comes h refl
  batch_refused Memory h = (_, batch_comes h.1 refl)

  -- a record batch whose body holds columns is not rejected
  pub batch_applicable : (cs : List Column) → Loads body s.dictionaries (fields_in s.schema) record_batch (Ok cs) → IsApplicable s (batch record_batch) body
  batch_applicable cs h = (_, batch_comes h refl)

  -- a record batch gives the columns of its body
  pub batch_read : (cs : List Column) (b : Table) → Loads body s.dictionaries (fields_in s.schema) record_batch (Ok cs) →
      b ≡ record { schema = schema_in s.schema; columns = cs; rows = count_of record_batch.length } →
      BodySays s (batch record_batch) body (Ok (s, batch_given b))
  batch_read cs b h e = batch_comes h (ap (λ x. Ok (s, batch_given x)) e)

  -- a dictionary batch has one column
  pub one_column : (id : ℤ) (t : TypeShape) (cs : List Column) → value_type_of (dictionary_fields (fields_in s.schema)) id ≡ Some t →
      Loads body [] (value_fields s.schema id) record_batch (Ok cs) → IsOne (value_field t).head (value_field t).children cs
  one_column id t cs named h =
      let field = value_field t in
      let fields : value_fields s.schema id ≡ fields_of (field ∷ []) = ap field_of_type named in
      let is = held_columns (subst (λ f. Loads body [] f record_batch (Ok cs)) fields h) in
      let typed = subst (AreOf (fields_of (field ∷ []))) (sym is) (columns_typed body [] (fields_of (field ∷ [])) record_batch.nodes record_batch.buffers) in
      only_one field.head field.children cs typed

  -- which holds its values
  pub values_read : (id : ℤ) (t : TypeShape) (cs : List Column) (c : Column) →
      value_type_of (dictionary_fields (fields_in s.schema)) id ≡ Some t → has_encoding t.children ≡ false →
      Loads body [] (value_fields s.schema id) record_batch (Ok cs) → c ≡ slice_index_or cs 0 c → AreValues s id record_batch body c
  values_read id t cs c named flat h e =
      let one = one_column id t cs named h in
      let same : c ≡ one.column = e ∙ ap (λ xs. slice_index_or xs 0 c) one.alone in
      let typed = ap (λ (x : Column). x.data_type) same ∙ one.typed in
      record {
        holds = subst (λ x. Loads body [] (value_fields s.schema id) record_batch (Ok x)) (one.alone ∙ ap (λ x. x ∷ []) (sym same)) h;
        typed = named ∙ ap Some (sym typed);
        plain = ap (λ (x : Column). x.encoding) same ∙ one.encoded;
        flat = ap (λ (x : TypeShape). has_encoding x.children) typed ∙ flat;
      }

  -- a dictionary batch without values is rejected for the same reason
  pub update_refused : (id : ℤ) (delta : Bool) (stop : DecodeError) → HeldValues s id record_batch body (Err stop) → Updates s id delta record_batch body (Err stop) s
  update_refused id delta (Refused k) h = (dictionary_comes h refl, refl)
  update_refused id delta Memory h = ((_, dictionary_comes h.1 refl), refl)

  -- after a dictionary batch its values replace those of its id, or follow them
  pub updated : (id : ℤ) (delta : Bool) (c : Column) (ds : List (ℤ × ValueList)) → AreValues s id record_batch body c →
      ds ≡ placed id (record { data_type = c.data_type; values = base_of delta (listed s.dictionaries id) ++ c.raw }) s.dictionaries →
      BodySays s (dictionary id delta record_batch) body (Ok (record { schema = s.schema; dictionaries = ds }, dictionary_given id))
  updated id delta c ds h e = dictionary_comes h.holds (ap (λ x. Ok (record { schema = s.schema; dictionaries = x }, dictionary_given id)) e)

  -- one value for each row
  values_long : (id : ℤ) (c : Column) → AreValues s id record_batch body c → length c.raw ≡ count_of record_batch.length
  values_long id c v = (held_long v.holds).0

  -- a delta that earlier messages allow finds its dictionary
  base_found : (id : ℤ) → Ready s (dictionary id true record_batch) → listed s.dictionaries id ≡ None → ⊥
  base_found id r e =
      let w = against_cases (not (is_some (value_type_of (dictionary_fields (fields_in s.schema)) id))) (true && not (is_some (listed s.dictionaries id)))
      (has_bad_length r.max_rows (value_fields s.schema id) record_batch)
      (nat_lt r.max_rows (length (base_of true (listed s.dictionaries id)) + count_of record_batch.length)) r.none in
      let none = subst (λ o. not (is_some o) ≡ false) e w.0 in
      cc

  -- and does not make it too long
  base_fits : (id : ℤ) (c : Column) (new : List (ℤ × ValueList)) → Ready s (dictionary id true record_batch) → AreValues s id record_batch body c → IsTooLong s.dictionaries id c new → ⊥
  base_fits id c new r v long =
      let w = against_cases (not (is_some (value_type_of (dictionary_fields (fields_in s.schema)) id))) (true && not (is_some (listed s.dictionaries id)))
      (has_bad_length r.max_rows (value_fields s.schema id) record_batch)
      (nat_lt r.max_rows (length (base_of true (listed s.dictionaries id)) + count_of record_batch.length)) r.none in
      let few = ltb-false r.max_rows (length (base_of true (listed s.dictionaries id)) + count_of record_batch.length) w.1 in
      let base : length (base_of true (listed s.dictionaries id)) ≡ length long.base.values = ap (λ o. length (base_of true o)) long.there in
      omega (arith, values_long id c v, r.ceiling, long.many)

  -- so the batch is not rejected
  pub values_applicable : (id : ℤ) (delta : Bool) (c : Column) → AreValues s id record_batch body c → IsApplicable s (dictionary id delta record_batch) body
  values_applicable id delta c h = (_, dictionary_comes h.holds refl)

  -- the only fault that a store reports of the values of a delta that earlier messages allow is `Memory`
  pub append_refused : (id : ℤ) (c : Column) (fault : StoreFault) (new : List (ℤ × ValueList)) → Ready s (dictionary id true record_batch) → AreValues s id record_batch body c →
      Appends s.dictionaries id c (Err fault) new → Updates s id true record_batch body (Err (store_error fault)) (record { schema = s.schema; dictionaries = new })
  append_refused id c stores.NoBase new r v a = absurd (base_found id r a.0)
  append_refused id c stores.TooLong new r v a = absurd (base_fits id c new r v a)
  append_refused id c stores.Memory new r v a = (values_applicable id true c v, ap (λ ds. record { schema = s.schema; dictionaries = ds }) a.same)

  -- after a dictionary of this type
  pub appended : (id : ℤ) (c : Column) (base : ValueList) (ds : List (ℤ × ValueList)) → listed s.dictionaries id ≡ Some base → base.data_type ≡ c.data_type →
      ds ≡ placed id (grown_with base c) s.dictionaries →
      ds ≡ placed id (record { data_type = c.data_type; values = base_of true (listed s.dictionaries id) ++ c.raw }) s.dictionaries
  appended id c base ds there typed e =
      e ∙ ap (λ t. placed id (record { data_type = t; values = base.values ++ c.raw }) s.dictionaries) typed
      ∙ ap (λ o. placed id (record { data_type = c.data_type; values = base_of true o ++ c.raw }) s.dictionaries) (sym there)

  -- the values that were appended are those of a delta
  pub append_updates : (id : ℤ) (c : Column) (new : List (ℤ × ValueList)) → IsFit s → AreValues s id record_batch body c → IsAppended s.dictionaries id c new →
      BodySays s (dictionary id true record_batch) body (Ok (record { schema = s.schema; dictionaries = new }, dictionary_given id))
  append_updates id c new fit v a =
      updated id true c new v (appended id c a.base new a.there (fit.typed id c.data_type a.base v.typed a.there) a.grown)

  pub append_fits : (id : ℤ) (c : Column) (new : List (ℤ × ValueList)) → IsFit s → AreValues s id record_batch body c → IsAppended s.dictionaries id c new →
      IsFit (record { schema = s.schema; dictionaries = new })
  append_fits id c new fit v a = placed_fit s id c.data_type (grown_with a.base c) new fit v.typed (fit.typed id c.data_type a.base v.typed a.there) a.grown

  -- the values that were placed are those of a batch that is not a delta
  pub replace_updates : (id : ℤ) (c : Column) (d : ValueList) (new : List (ℤ × ValueList)) → AreValues s id record_batch body c → d ≡ record { data_type = c.data_type; values = c.raw } →
      new ≡ placed id d s.dictionaries → BodySays s (dictionary id false record_batch) body (Ok (record { schema = s.schema; dictionaries = new }, dictionary_given id))
  replace_updates id c d new v is e = updated id false c new v (e ∙ ap (λ x. placed id x s.dictionaries) is)

  pub replace_fits : (id : ℤ) (c : Column) (d : ValueList) (new : List (ℤ × ValueList)) → IsFit s → AreValues s id record_batch body c → d ≡ record { data_type = c.data_type; values = c.raw } →
      new ≡ placed id d s.dictionaries → IsFit (record { schema = s.schema; dictionaries = new })
  replace_fits id c d new fit v is e = placed_fit s id c.data_type d new fit v.typed (ap (λ (x : ValueList). x.data_type) is) e
