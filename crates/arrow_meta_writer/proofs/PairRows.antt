-- The pairs of a vector, appended one by one.
use Rattle.std.proofs.Common.{◌≡◌, ℕ, ◌+◌, ◌<◌, ◌≤◌, List, [], ◌∷◌, ◌++◌, length, map, drop, get_or}
use Rattle.std.proofs.Common.{sym, ap, subst, ◌∙◌, append_assoc}
use Rattle.std.proofs.lemmas.List.{append-nil, drop_more, length-map, drop_all}
use Rattle.arrow_flatbuf.specs.Layout.{gap, zeros}
use Rattle.arrow_flatbuf.specs.Nodes.{pairs_head, pair_bytes, pairs, laid}
use Rattle.arrow_types.specs.declared.node.FieldNode.{FieldNode}
use Rattle.arrow_types.specs.declared.node.Buffer.{Buffer}
use Rattle.arrow_meta_writer.specs.Layouts.{node_pair, buffer_pair}
use Rattle.arrow_meta_writer.specs.Writable.{IsLong, AreNodes, AreBuffers}

-- the count of a vector, before its pairs
pub pairs_first : {X : Type 0} (of : X → ℕ × ℕ) (old now : List ℕ) (xs : List X) → now ≡ old ++ pairs_head (length old) (length xs) → now ++ pair_bytes (map of xs) ≡ old ++ laid (length old) (pairs (map of xs))
pairs_first of old now xs e =
    let counted = e ∙ ap (λ (n : ℕ). old ++ pairs_head (length old) n) (sym (length-map xs of)) in
    ap (λ (ys : List ℕ). ys ++ pair_bytes (map of xs)) counted ∙ append_assoc old (pairs_head (length old) (length (map of xs))) (pair_bytes (map of xs))
    ∙ ap (λ (ys : List ℕ). old ++ ys) (append_assoc (zeros (gap 8 (length old + 4))) _ (pair_bytes (map of xs)))

-- one more pair
pair_step : {X : Type 0} (of : X → ℕ × ℕ) (now next : List ℕ) (xs : List X) (i : ℕ) (d : X) → i < length xs → next ≡ now ++ pair_bytes (of (get_or xs i d) ∷ [])
    → next ++ pair_bytes (map of (drop (i + 1) xs)) ≡ now ++ pair_bytes (map of (drop i xs))
pair_step {X = X} of now next xs i d h e =
    let rest = pair_bytes (map of (drop (i + 1) xs)) in
    ap (λ (ys : List ℕ). ys ++ rest) e ∙ append_assoc now (pair_bytes (of (get_or xs i d) ∷ [])) rest
    ∙ ap (λ (ys : List X). now ++ pair_bytes (map of ys)) (sym (drop_more xs i d h))

pub node_step : (now next whole : List ℕ) (ns : List FieldNode) (i : ℕ) (d : FieldNode) → i < length ns → next ≡ now ++ pair_bytes (node_pair (get_or ns i d) ∷ []) → now ++ pair_bytes (map node_pair (drop i ns)) ≡ whole
    → next ++ pair_bytes (map node_pair (drop (i + 1) ns)) ≡ whole
node_step now next whole ns i d h e left = pair_step node_pair now next ns i d h e ∙ left

pub node_typed : (ns : List FieldNode) (i : ℕ) (d : FieldNode) → i < length ns → IsLong (get_or ns i d).length × IsLong (get_or ns i d).null_count → AreNodes (drop (i + 1) ns) → AreNodes (drop i ns)
node_typed ns i d h here later = subst AreNodes (sym (drop_more ns i d h)) (here.0, here.1, later)

pub buffer_step : (now next whole : List ℕ) (bs : List Buffer) (i : ℕ) (d : Buffer) → i < length bs → next ≡ now ++ pair_bytes (buffer_pair (get_or bs i d) ∷ []) → now ++ pair_bytes (map buffer_pair (drop i bs)) ≡ whole
    → next ++ pair_bytes (map buffer_pair (drop (i + 1) bs)) ≡ whole
buffer_step now next whole bs i d h e left = pair_step buffer_pair now next bs i d h e ∙ left

pub buffer_typed : (bs : List Buffer) (i : ℕ) (d : Buffer) → i < length bs → IsLong (get_or bs i d).offset × IsLong (get_or bs i d).length → AreBuffers (drop (i + 1) bs) → AreBuffers (drop i bs)
buffer_typed bs i d h here later = subst AreBuffers (sym (drop_more bs i d h)) (here.0, here.1, later)

-- all pairs
pub pairs_last : {X : Type 0} (of : X → ℕ × ℕ) (now whole : List ℕ) (xs : List X) (i : ℕ) → length xs ≤ i → now ++ pair_bytes (map of (drop i xs)) ≡ whole → now ≡ whole
pairs_last {X = X} of now whole xs i h left = sym (append-nil now) ∙ ap (λ (ys : List X). now ++ pair_bytes (map of ys)) (sym (drop_all i xs h)) ∙ left
