-- Why the appended bytes are a frame.
use Rattle.std.proofs.Common.{◌≡◌, ℕ, ◌+◌, ◌-◌, ◌≤◌, ◌<◌, ◌^◌, false, List, ◌++◌, length, replicate, Some, refl, sym, ap, ◌∙◌, subst, arith, append_assoc, length-append}
use Rattle.arrow_types.specs.Limits.{LimitNumbers}
use Rattle.arrow_meta_reader.specs.declared.message.MetadataVersion.TheVariants as versions
use Rattle.arrow_meta_reader.specs.Judges.{MetadataMeans}
use Rattle.arrow_meta_reader.specs.Means.{PlainMessage}
use Rattle.byteorder.specs.Endian.{little_bytes}
use Rattle.arrow_flatbuf.specs.Layout.{gap, zeros}
use Rattle.arrow_flatbuf.specs.Nodes.{after, laid, start}
use Rattle.std.proofs.lemmas.Grind.{div_ceil_times}
use Rattle.std.proofs.lemmas.List.{length-replicate}
use Rattle.arrow_meta_writer.specs.Layouts.{message_node}
use Rattle.arrow_meta_writer.specs.Metadata.{metadata, metadata_size, size_of}
use Rattle.arrow_meta_writer.specs.Writable.{IsHeader, Allows, leaves_header_out}
use Rattle.arrow_meta_writer.specs.Written.{message_tree}
use Rattle.arrow_meta_writer.proofs.WrittenMeans.{sized, written_length, written_means}
use Rattle.arrow_meta_writer.proofs.Bounds.{text_short}
use Rattle.arrow_meta_tree.specs.Within.{text_bytes}
use Rattle.arrow_body_laws.specs.Stored.{rounded}
use Rattle.arrow_body_laws.proofs.Placed.{rounded-le}
use Rattle.arrow_stream_reader.specs.Frame.{number_at}
use Rattle.arrow_stream_laws.specs.Frames.{IsFrameOf, framed, padded, prefix_bytes}
use Rattle.arrow_stream_laws.specs.Sizes.{header_size}
use Rattle.arrow_stream_writer.specs.Frame.{AppendsFrame}

-- the size that a prefix gives
pub prefix_number : (n : ℕ) → n < 2 ^ 32 → number_at (prefix_bytes n) 4 ≡ n
prefix_number n low = omega (arith, low)

-- metadata are never empty
some_bytes : (m : PlainMessage) → 0 < length (metadata m)
some_bytes m = omega (arith, length-append (little_bytes 4 (start 4 (message_node m))) (laid 4 (message_node m) ++ zeros (gap 8 (after 4 (message_node m)))))

module _ (align : ℕ) (m : PlainMessage) (body : List ℕ) (size n : ℕ) (some : 1 ≤ align) (few : align ≤ 64) (typed : IsHeader m.header) (sends : size_of m ≡ Some n) (reported : m.body_len ≡ length body) (is_size : size ≡ rounded align (8 + length (metadata m)) - 8) where
  same_size : header_size align m.header ≡ size
  same_size = ap (λ k. rounded align (8 + k) - 8) ((sized m n sends).size ∙ sym (written_length m n sends)) ∙ sym is_size

  -- rounded up, by less than the alignment
  is_high : length (metadata m) ≤ size
  is_high = omega (arith, rounded-le align (8 + length (metadata m)) some, is_size)

  is_low : size < 2 ^ 32
  is_low = omega (arith, (div_ceil_times (8 + length (metadata m)) align some).1, is_size, few, (sized m n sends).small, (sized m n sends).size, written_length m n sends)

  is_frame : (limits : LimitNumbers) → header_size align m.header ≤ limits.max_metadata → length body ≤ limits.max_body → leaves_header_out limits.types m.header ≡ false → IsFrameOf limits (header_size align m.header) m.header body (framed m size body)
  is_frame limits metadata_fit body_fits within =
      let high = rounded-le align (8 + length (metadata m)) some in
      let len = written_length m n sends in
      let s = sized m n sends in
      let text : text_bytes (message_tree limits.types m) ≤ metadata_size m = text_short limits.types m in
      let allows : Allows limits m = record { text = omega (arith, text, same_size, is_size, high, metadata_fit, s.size, len); body = omega (arith, reported, body_fits); types = within } in
      let means = (written_means m n (replicate (size - length (metadata m)) 0) typed sends limits).1 allows in
      let v5 : MetadataMeans limits (padded m size) (record { version = versions.V5; header = m.header; body_len = length body }) =
      subst (λ v. MetadataMeans limits (padded m size) (record { version = v; header = m.header; body_len = length body })) s.version
      (subst (λ k. MetadataMeans limits (padded m size) (record { version = m.version; header = m.header; body_len = k })) reported means) in
      subst (λ k. IsFrameOf limits k m.header body (framed m size body)) (sym same_size) (record {
        prefix = prefix_bytes size;
        metadata = padded m size;
        eight = refl;
        continued = refl;
        number = prefix_number size is_low;
        sized = length-append (metadata m) (replicate (size - length (metadata m)) 0) ∙ omega (arith, is_high, length-replicate {A = ℕ} (size - length (metadata m)) 0);
        some = omega (arith, is_high, some_bytes m);
        means = v5;
        bytes = refl;
        one = λ i. framed (record { version = s.version i; header = m.header; body_len = reported i }) size body;
      })

  -- the bytes that were appended
  pub appends_frame : (old new : List ℕ) → new ≡ old ++ framed m size body → AppendsFrame align m body old new
  appends_frame old new more = record {
    appended = more ∙ ap (λ (n : ℕ). old ++ framed m n body) (sym same_size);
    is_frame = λ limits metadata_fit body_fits within. subst (λ (n : ℕ). IsFrameOf limits (header_size align m.header) m.header body (framed m n body)) (sym same_size) (is_frame limits metadata_fit body_fits within);
  }

-- four parts that were appended one after another
pub four_parts : (old a b c d : List ℕ) → (((old ++ a) ++ b) ++ c) ++ d ≡ old ++ ((a ++ (b ++ c)) ++ d)
four_parts old a b c d =
    append_assoc ((old ++ a) ++ b) c d ∙ append_assoc (old ++ a) b (c ++ d) ∙ append_assoc old a (b ++ (c ++ d))
    ∙ sym (ap (λ r. old ++ r) (append_assoc a (b ++ c) d ∙ ap (λ r. a ++ r) (append_assoc b c d)))

-- the parts of a frame, one after another
pub appended_parts : (align : ℕ) (m : PlainMessage) (body v : List ℕ) (size : ℕ) (old new : List ℕ) → 1 ≤ align → align ≤ 64 → IsHeader m.header → v ≡ metadata m → size_of m ≡ Some (length v) → m.body_len ≡ length body → size ≡ rounded align (8 + length v) - 8
    → new ≡ (((old ++ prefix_bytes size) ++ v) ++ replicate (size - length v) 0) ++ body → AppendsFrame align m body old new
appended_parts align m body v size old new some few typed bytes sends reported is_size more =
    appends_frame align m body size (length v) some few typed sends reported (is_size ∙ ap (λ (u : List ℕ). rounded align (8 + length u) - 8) bytes) old new
    (more ∙ ap (λ (u : List ℕ). (((old ++ prefix_bytes size) ++ u) ++ replicate (size - length u) 0) ++ body) bytes ∙ four_parts old (prefix_bytes size) (metadata m) (replicate (size - length (metadata m)) 0) body)
