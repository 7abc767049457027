-- When bytes are one complete message, or the end marker.
use Rattle.std.proofs.Common.{◌≡◌, ℕ, ◌+◌, ◌^◌, ◌<◌, ◌≤◌, List, ◌++◌, length, take, drop, refl, sym, ap, ◌∙◌, subst, arith, Bool, true, false, cond, ltb, eqb, length-append, append_assoc, Some, None, Ok, Err, is_some}
use Rattle.std.specs.Prelude.{not}
use Rattle.std.proofs.lemmas.List.{take_all}
use Rattle.std.proofs.Math.Seq.{drop-append_seam, take-append_seam}
use Rattle.std.proofs.lemmas.Bool.{le-ltb, ne_eqb}
use Rattle.arrow_types.specs.Limits.{LimitNumbers}
use Rattle.arrow_meta_reader.specs.Means.{PlainHeader}
use Rattle.arrow_stream_reader.specs.declared.kind.Rejection.TheVariants.{Continuation, MetadataSize, BodyLength, Order, NoSchema}
use Rattle.arrow_stream_reader.specs.declared.prefix.Prefix.TheVariants as prefixes
use Rattle.arrow_stream_reader.specs.Meaning.{Means}
use Rattle.arrow_stream_reader.specs.Message.{Message}
use Rattle.arrow_stream_reader.specs.State.{StreamState, Given}
use Rattle.arrow_stream_reader.specs.Frame.{prefix_says, has_continuation, number_at, check_order, is_out_of_order, state_refusal, refused_first, judged, MetadataSays, BodySays, First, whole, message_comes, marker, end_marker}

prefix_ok : (c a b z has : Bool) (n : ℕ) → c ≡ true → a ≡ false → b ≡ false → z ≡ false
    → cond (not c) (Err Continuation) (cond a (Err MetadataSize) (cond b (Err MetadataSize) (cond (not z) (Ok (prefixes.Metadata n)) (cond (not has) (Err NoSchema) (Ok prefixes.EndMarker))))) ≡ Ok (prefixes.Metadata n)
prefix_ok true false false false has n e f g h = refl
prefix_ok true false false true has n e f g h = absurd (cc)
prefix_ok true false true z has n e f g h = absurd (cc)
prefix_ok true true b z has n e f g h = absurd (cc)
prefix_ok false a b z has n e f g h = absurd (cc)

marker_ok : (c a b z has : Bool) (n : ℕ) → c ≡ true → a ≡ false → b ≡ false → z ≡ true → has ≡ true
    → cond (not c) (Err Continuation) (cond a (Err MetadataSize) (cond b (Err MetadataSize) (cond (not z) (Ok (prefixes.Metadata n)) (cond (not has) (Err NoSchema) (Ok prefixes.EndMarker))))) ≡ Ok prefixes.EndMarker
marker_ok true false false true true n e f g h i = refl
marker_ok true false false true false n e f g h i = absurd (cc)
marker_ok true false false false has n e f g h i = absurd (cc)
marker_ok true false true z has n e f g h i = absurd (cc)
marker_ok true true b z has n e f g h i = absurd (cc)
marker_ok false a b z has n e f g h i = absurd (cc)

placed_ok : (a o : Bool) → a ≡ false → o ≡ false → cond a (Some BodyLength) (cond o (Some Order) None) ≡ None
placed_ok false false e f = refl
placed_ok false true e f = absurd (cc)
placed_ok true o e f = absurd (cc)

-- The bytes are a prefix with the size of the metadata, the metadata, which mean this content, and the body; the
-- limits and the state allow the message. Then they are one complete message.
pub frame_whole : (l : LimitNumbers) (s : StreamState) (p size : ℕ) (content : PlainHeader) (prefix metadata body b : List ℕ) (s' : StreamState) (g : Given)
    → length prefix ≡ 8 → has_continuation prefix ≡ true → number_at prefix 4 ≡ size → length metadata ≡ size → 0 < size → b ≡ prefix ++ metadata ++ body
    → Means l metadata (Ok (record { content = content; body_len = length body })) → size ≤ l.max_metadata → p + length b ≤ 2 ^ 62
    → is_out_of_order (is_some s.schema) content ≡ false → state_refusal l.max_rows s content ≡ None → BodySays s content body (Ok (s', g)) → First l s p b (whole (length b) s' g)
frame_whole l s p size content prefix metadata body b s' g eight continued number sized some bytes means small near order none says =
    let m : Message = record { content = content; body_len = length body } in
    let front : length (prefix ++ metadata) ≡ 8 + size = length-append prefix metadata ∙ omega (arith, eight, sized) in
    let len : length b ≡ 8 + size + length body = ap length bytes ∙ omega (arith, length-append (prefix ++ metadata) body, front) in
    let bytes' : b ≡ prefix ++ (metadata ++ body) = bytes ∙ append_assoc prefix metadata body in
    let head : take 8 b ≡ prefix = ap (take 8) bytes' ∙ ap (λ n. take n (prefix ++ (metadata ++ body))) (sym eight) ∙ take-append_seam prefix (metadata ++ body) in
    let after : drop 8 b ≡ metadata ++ body = ap (drop 8) bytes' ∙ ap (λ n. drop n (prefix ++ (metadata ++ body))) (sym eight) ∙ drop-append_seam prefix (metadata ++ body) in
    let middle : take size (drop 8 b) ≡ metadata = ap (take size) after ∙ ap (λ n. take n (metadata ++ body)) (sym sized) ∙ take-append_seam metadata body in
    let rest : drop (8 + size) b ≡ body = ap (drop (8 + size)) bytes ∙ ap (λ n. drop n ((prefix ++ metadata) ++ body)) (sym front) ∙ drop-append_seam (prefix ++ metadata) body in
    let last : take (length body) (drop (8 + size) b) ≡ body = ap (take (length body)) rest ∙ take_all (length body) body (omega arith) in
    let n = number_at prefix 4 in
    let prefix_is : prefix_says l (is_some s.schema) p (take 8 b) ≡ Ok (prefixes.Metadata size) =
    ap (prefix_says l (is_some s.schema) p) head
    ∙ prefix_ok (has_continuation prefix) (ltb l.max_metadata n) (ltb (2 ^ 62) (p + 8 + n)) (eqb n 0) (is_some s.schema) n
    continued (le-ltb l.max_metadata n (omega arith)) (le-ltb (2 ^ 62) (p + 8 + n) (omega arith)) (ne_eqb n 0 (λ z. absurd (omega arith)))
    ∙ ap (λ i. Ok (prefixes.Metadata i)) number in
    let end = p + 8 + length metadata in
    let place_ok : check_order end (length body) (is_out_of_order (is_some s.schema) content) ≡ None =
    placed_ok (ltb (2 ^ 62) (end + length body)) (is_out_of_order (is_some s.schema) content) (le-ltb (2 ^ 62) (end + length body) (omega arith)) order in
    let judge : judged l.max_rows s end (Ok m) ≡ Ok m =
    ap (λ k. refused_first k (refused_first (state_refusal l.max_rows s content) (Ok m))) place_ok ∙ ap (λ k. refused_first k (Ok m)) none in
    let says_it : MetadataSays l s (p + 8) metadata (Ok m) = record { meant = Ok m; means = means; says = sym judge } in
    subst (λ k. First l s p b (whole k s' g)) (sym len)
    (message_comes {m = size} {message = m} (record {
      metadata = record {
        prefix = record { within = omega arith; says = prefix_is };
        within = omega arith;
        says = subst (λ x. MetadataSays l s (p + 8) x (Ok m)) (sym middle) says_it;
      };
      within = omega arith;
      says = subst (λ x. BodySays s content x (Ok (s', g))) (sym last) says;
    }))

-- eight bytes with the size 0, after a schema
pub marker_whole : (l : LimitNumbers) (s : StreamState) (p : ℕ) (b : List ℕ) → length b ≡ 8 → has_continuation b ≡ true → number_at b 4 ≡ 0 → is_some s.schema ≡ true → p + 8 ≤ 2 ^ 62 → First l s p b marker
marker_whole l s p b eight continued number has near =
    let n = number_at b 4 in
    end_marker (record {
      within = omega arith;
      says = ap (prefix_says l (is_some s.schema) p) (take_all 8 b (omega arith))
          ∙ marker_ok (has_continuation b) (ltb l.max_metadata n) (ltb (2 ^ 62) (p + 8 + n)) (eqb n 0) (is_some s.schema) n
          continued (le-ltb l.max_metadata n (omega arith)) (le-ltb (2 ^ 62) (p + 8 + n) (omega arith)) (ap (λ i. eqb i 0) number) has;
    })
