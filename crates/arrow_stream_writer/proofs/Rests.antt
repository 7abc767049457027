-- What is appended for a dictionary batch: its frame.
use Rattle.std.proofs.Common.{◌≡◌, ◌≤◌, ◌<◌, ℕ, ℤ, Bool, true, false, cond, leb, List, [], ◌∷◌, ◌++◌, length, drop, refl, sym, ap, ◌∙◌, subst, arith}
use Rattle.std.specs.Prelude.{Option, None, Some, Err}
use Rattle.std.specs.List.{AllByRecursion}
use Rattle.std.specs.Ordering.{int_eq}
use Rattle.std.proofs.lemmas.Bool.{and_from, and_left, and_right, le-leb, lt-leb}
use Rattle.arrow_types.specs.Field.{FieldTree, FieldHeader, TypeShape, count, more, none}
use Rattle.arrow_types.specs.Schema.{DictionaryField, IsSchema, dictionary_fields, dictionary_of}
use Rattle.arrow_types.specs.declared.field.Encoding.{Encoding}
use Rattle.arrow_data.specs.Column.{ValueList}
use Rattle.arrow_body_laws.specs.Laws.{raws_of}
use Rattle.arrow_body_laws.specs.Raws.{AreRaws, AreSmall}
use Rattle.arrow_body_laws.specs.Stored.{PlainBody, fields_of_columns, stored}
use Rattle.arrow_body_writer.specs.Source.{rest_of}
use Rattle.arrow_body_writer.specs.Storable.{AreRepresentable}
use Rattle.arrow_body_writer.specs.declared.store_fault.BodyStoreFault.{BodyStoreFault}
use Rattle.arrow_body_writer.specs.declared.store_fault.BodyStoreFault.TheVariants as stores
use Rattle.arrow_dict.specs.ValueTypes.{value_type_of}
use Rattle.arrow_stream_reader.specs.Batch.{field_of_type}
use Rattle.arrow_stream_laws.specs.Admission.{fields_for, frame_fits, sending_fits}
use Rattle.arrow_stream_laws.specs.Plan.{Sending}
use Rattle.arrow_stream_laws.specs.Sizes.{dictionary_size}
use Rattle.arrow_sink.specs.declared.write_fault.WriteFault.{WriteFault}
use Rattle.arrow_sink.specs.declared.write_fault.WriteFault.TheVariants.{SchemaDiffers, TooLarge, DictionariesDiffer, Sink, Broken, Finished, Memory}
use Rattle.arrow_stream_writer.specs.Framing.{IsStored, Puts, PutsLoad, not_stored, update_load}
use Rattle.arrow_stream_writer.specs.Terms.{Terms}
use Rattle.arrow_stream_writer.specs.Updating.{IsNamed, PutsFrame, PutsUpdate}
use Rattle.arrow_stream_writer.proofs.Storable.{fails, nodes_few, small_if}

-- THE TYPES OF VALUES HAVE FEW FIELDS

abbrev AreFew : ℕ → List DictionaryField → Type 0
AreFew n ds = AllByRecursion (λ (d : DictionaryField). count d.value_type.children ≤ n) ds

few_both : (n : ℕ) (ds es : List DictionaryField) → AreFew n ds → AreFew n es → AreFew n (ds ++ es)
few_both n [] es x y = y
few_both n (d ∷ ds) es x y = (x.0, few_both n ds es x.1 y)

few_own : (n : ℕ) (head : FieldHeader) (children : FieldTree) (e : Option Encoding) → head.encoding ≡ e → count children ≤ n → AreFew n (dictionary_of head children)
few_own n head children None is h = subst (λ (o : Option Encoding). AreFew n (elim o [ None ↦ [] | Some e ↦ record { id = e.id; value_type = record { tag = head.tag; children = children } } ∷ [] ])) (sym is) tt
few_own n head children (Some e) is h =
    subst (λ (o : Option Encoding). AreFew n (elim o [ None ↦ [] | Some e ↦ record { id = e.id; value_type = record { tag = head.tag; children = children } } ∷ [] ])) (sym is) (h, tt)

all_few : (n : ℕ) (fields : FieldTree) → count fields ≤ n → AreFew n (dictionary_fields fields)
all_few n none h = tt
all_few n (more head children rest) h =
    few_both n (dictionary_of head children ++ dictionary_fields children) (dictionary_fields rest)
    (few_both n (dictionary_of head children) (dictionary_fields children) (few_own n head children head.encoding refl (omega arith)) (all_few n children (omega arith)))
    (all_few n rest (omega arith))

-- the type that is named first for an id is one of them
few_named : (n : ℕ) (ds : List DictionaryField) (id : ℤ) (t : TypeShape) → AreFew n ds → value_type_of ds id ≡ Some t → count t.children ≤ n
few_named n [] id t h named = absurd (cc)
few_named n (d ∷ ds) id t h named = by_test (int_eq d.id id) (λ e. few_named n ds id t h.1 e) named where
  by_test : (b : Bool) → (value_type_of ds id ≡ Some t → count t.children ≤ n) → cond b (Some d.value_type) (value_type_of ds id) ≡ Some t → count t.children ≤ n
  by_test true later e = let same : d.value_type ≡ t = cc in subst (λ (u : TypeShape). count u.children ≤ n) same h.0
  by_test false later e = later e

-- A DICTIONARY BATCH

module _ (terms : Terms) (id : ℤ) (is_delta : Bool) (from : ℕ) (d : ValueList) (named : IsNamed terms.shape.fields id d.data_type) where
  -- what it carries
  abbrev pub brought : Sending
  brought = record { id = id; is_delta = is_delta; carried = drop from d.values; whole = d.values }

  -- the field of its values
  same_fields : fields_of_columns (rest_of d from ∷ []) ≡ fields_for terms.shape.fields id
  same_fields = sym (ap field_of_type named)

  -- what was stored of the values is a batch of them
  pub stored_rest : (b : PlainBody) → AreRaws (fields_of_columns (rest_of d from ∷ [])) (raws_of (rest_of d from ∷ [])) → AreSmall (fields_of_columns (rest_of d from ∷ [])) (raws_of (rest_of d from ∷ []))
      → b ≡ stored terms.align (fields_of_columns (rest_of d from ∷ [])) (raws_of (rest_of d from ∷ [])) → IsStored terms.align (update_load terms.shape.fields brought) b
  stored_rest b raws small is = record {
    can = subst (λ (fields : FieldTree). AreRaws fields (drop from d.values ∷ [])) same_fields raws;
    small = subst (λ (fields : FieldTree). AreSmall fields (drop from d.values ∷ [])) same_fields small;
    long = (refl, tt);
    same = is ∙ ap (λ (fields : FieldTree). stored terms.align fields (drop from d.values ∷ [])) same_fields;
  }

  -- the result for the batch is the result for the update
  pub puts_update : (old new : List ℕ) → length d.values ≤ terms.limits.max_rows → PutsLoad terms (update_load terms.shape.fields brought) old new → PutsFrame terms brought old new
  puts_update old new few x = record {
    frame = x.frame;
    fits_in = and_from (frame_fits terms.limits terms.align (dictionary_size terms.align (fields_for terms.shape.fields id)) (fields_for terms.shape.fields id) (drop from d.values ∷ []) (length (drop from d.values)))
        (leb (length d.values) terms.limits.max_rows) x.fits_in (le-leb (length d.values) terms.limits.max_rows few);
    is_update = record { record_batch = x.record_batch; body = x.body; built = x.built; frame = x.is_frame };
    appended = x.appended;
  }

  -- a load that is rejected is a rejected dictionary batch, whatever is left of it
  pub refuses_update : (fault : WriteFault) (old left new : List ℕ) → Puts terms (update_load terms.shape.fields brought) old (Err fault) left → PutsUpdate terms brought old (Err fault) new
  refuses_update TooLarge old left new x =
      and_left (frame_fits terms.limits terms.align (dictionary_size terms.align (fields_for terms.shape.fields id)) (fields_for terms.shape.fields id) (drop from d.values ∷ []) (length (drop from d.values)))
      (leb (length d.values) terms.limits.max_rows) x
  refuses_update Memory old left new x = x
  refuses_update SchemaDiffers old left new x = x
  refuses_update DictionariesDiffer old left new x = x
  refuses_update Sink old left new x = x
  refuses_update Broken old left new x = x
  refuses_update Finished old left new x = x

  -- a dictionary with too many values is rejected
  pub whole_over : terms.limits.max_rows < length d.values → sending_fits terms.limits terms.align terms.shape.fields brought ≡ false
  whole_over over =
      and_right (frame_fits terms.limits terms.align (dictionary_size terms.align (fields_for terms.shape.fields id)) (fields_for terms.shape.fields id) (drop from d.values ∷ []) (length (drop from d.values)))
      (leb (length d.values) terms.limits.max_rows) (lt-leb (length d.values) terms.limits.max_rows over)

  -- so are values that are not representable
  never_rest : terms.limits.max_rows ≤ 2147483647 → IsSchema terms.shape.fields → (AreRepresentable (rest_of d from ∷ []) → ⊥) → sending_fits terms.limits terms.align terms.shape.fields brought ≡ false
  never_rest ceiling known cannot =
      let own = fields_for terms.shape.fields id in
      let raws = drop from d.values ∷ [] in
      and_left (frame_fits terms.limits terms.align (dictionary_size terms.align own) own raws (length (drop from d.values))) (leb (length d.values) terms.limits.max_rows)
      (fails terms.limits terms.align (dictionary_size terms.align own) own raws (length (drop from d.values)) (λ t.
      let few = few_named 65536 (dictionary_fields terms.shape.fields) id d.data_type (all_few 65536 terms.shape.fields known.bounded.few) named in
      let nodes = nodes_few d.data_type None in
      cannot (record {
        counted = (omega arith, tt);
        small = subst (λ (fields : FieldTree). AreSmall fields raws) (sym same_fields) (small_if terms.limits.max_rows own raws ceiling t.slots_fit t.offsets);
      })))

  -- so values that are not stored are rejected, or an allocation failed
  pub refuses_rest : terms.limits.max_rows ≤ 2147483647 → IsSchema terms.shape.fields → (fault : BodyStoreFault) → (fault ≡ stores.TooLarge → AreRepresentable (rest_of d from ∷ []) → ⊥) → (old new : List ℕ)
      → PutsUpdate terms brought old (Err (not_stored fault)) new
  refuses_rest ceiling known stores.TooLarge large old new = never_rest ceiling known (large refl)
  refuses_rest ceiling known stores.Memory large old new = refl
