-- The written bytes of a message mean it for exactly the readers whose limits it keeps to.
use Rattle.std.proofs.Common.{◌≡◌, ℕ, ◌^◌, ◌≤◌, ◌↔◌, Bool, true, false, ◌&&◌, nat_le}
use Rattle.std.proofs.Common.{if◌then◌else◌, List, ◌++◌, length, Result, Ok, Err, Some, None, refl}
use Rattle.std.proofs.Common.{sym, ap, subst, ◌∙◌, arith}
use Rattle.std.proofs.lemmas.Bool.{and_parts, leb-true}
use Rattle.arrow_flatbuf.specs.Nodes.{start, NodePlaced}
use Rattle.arrow_flatbuf.proofs.Buffers.{length_buffer, root_there, root_placed}
use Rattle.arrow_types.specs.Limits.{LimitNumbers}
use Rattle.arrow_types.specs.declared.type_set.TypeSet.{TypeSet}
use Rattle.arrow_meta_reader.specs.Faults.{fault_of}
use Rattle.arrow_meta_writer.specs.Aligned.{LiesAligned}
use Rattle.arrow_meta_tree.specs.Grows.{root}
use Rattle.arrow_meta_reader.specs.Judges.{MetadataMeans, Decodes}
use Rattle.arrow_meta_tree.specs.Parts.{parts}
use Rattle.arrow_meta_tree.specs.declared.fault.MetaFault.{MetaFault}
use Rattle.arrow_meta_tree.specs.declared.fault.MetaFault.TheVariants.{Metadata, Version, Header}
use Rattle.arrow_meta_tree.specs.declared.fault.MetaFault.TheVariants.{BodyLength, Unsupported, Schema}
use Rattle.arrow_meta_tree.specs.declared.fault.MetaFault.TheVariants.{Compressed, Memory}
use Rattle.arrow_meta_reader.specs.declared.message.Message.{Message}
use Rattle.arrow_meta_reader.specs.declared.message.MetadataVersion.TheVariants as versions
use Rattle.arrow_meta_writer.specs.Again.{IsAgain}
use Rattle.arrow_meta_writer.specs.Layouts.{message_node}
use Rattle.arrow_meta_tree.specs.Lies.{LiesAtRoot}
use Rattle.arrow_meta_reader.specs.Means.{PlainMessage, meaning_of, message_view}
use Rattle.arrow_meta_writer.specs.Metadata.{metadata, metadata_size, is_sendable, is_written, size_of}
use Rattle.arrow_meta_tree.specs.Within.{IsWithin}
use Rattle.arrow_meta_writer.specs.Writable.{IsHeader, Allows, leaves_header_out}
use Rattle.arrow_meta_writer.specs.Written.{message_parts, message_tree}
use Rattle.arrow_meta_writer.proofs.Again.{message_again}
use Rattle.arrow_meta_writer.proofs.Bounds.{shallow}
use Rattle.arrow_meta_writer.proofs.Faultless.{sound, within_types}
use Rattle.arrow_meta_writer.proofs.Fitting.{message_fits}
use Rattle.arrow_meta_writer.proofs.Sizing.{written_version}
use Rattle.arrow_meta_reader.proofs.Least.{meaning_length}
use Rattle.arrow_meta_reader.proofs.OneAnswer.{one_root, one_message, never_both}
use Rattle.arrow_meta_tree.proofs.Roots.{root_lies}
use Rattle.arrow_meta_writer.proofs.Placed.{placed}
use Rattle.arrow_meta_writer.proofs.PlacedMessages.{message_placed}

-- what is known of a message whose metadata has n bytes
pub record IsSized (m : PlainMessage) (n : ℕ) : Type 0 where
  pub version : m.version ≡ versions.V5
  pub body : m.body_len ≤ 2 ^ 40
  pub small : metadata_size m ≤ 2 ^ 30
  pub size : metadata_size m ≡ n

picked : (c : Bool) (x n : ℕ) → (if c then Some x else None) ≡ Some n → (c ≡ true) × (x ≡ n)
picked true x n h = (refl, cc)
picked false x n h = absurd (cc)

pub sized : (m : PlainMessage) (n : ℕ) → size_of m ≡ Some n → IsSized m n
sized m n h =
    let v = is_written m.version in
    let b = nat_le m.body_len (2 ^ 40) in
    let s = nat_le (metadata_size m) (2 ^ 30) in
    let both = picked (is_sendable m && s) (metadata_size m) n h in
    let parts = and_parts (is_sendable m) s both.0 in
    let sends = and_parts v b parts.0 in
    record {
      version = written_version m.version sends.0;
      body = leb-true m.body_len (2 ^ 40) sends.1;
      small = leb-true (metadata_size m) (2 ^ 30) parts.1;
      size = both.1;
    }

-- The number of bytes is the size.
pub written_length : (m : PlainMessage) (n : ℕ) → size_of m ≡ Some n → length (metadata m) ≡ n
written_length m n h = length_buffer (message_node m) ∙ (sized m n h).size

-- The bytes match the layout, whatever bytes follow them.
pub written_placed : (m : PlainMessage) (n : ℕ) (past : List ℕ) → IsHeader m.header → size_of m ≡ Some n → NodePlaced (metadata m ++ past) (start 4 (message_node m)) (message_node m)
written_placed m n past x h =
    let is = sized m n h in
    root_placed (message_node m) past (message_fits m x (omega (arith, is.body))) (omega (arith, is.small))

-- They match the message's tree, aligned.
pub written_aligned : (types : TypeSet) (m : PlainMessage) (n : ℕ) (past : List ℕ) → IsHeader m.header → size_of m ≡ Some n → LiesAligned types (message_tree types m) (metadata m ++ past)
written_aligned types m n past x h =
    let is = sized m n h in
    message_placed types (metadata m ++ past) (start 4 (message_node m)) m (root_there (message_node m) past (omega (arith, is.small))) (written_placed m n past x h)

pub written_lies : (types : TypeSet) (m : PlainMessage) (n : ℕ) (past : List ℕ) → IsHeader m.header → size_of m ≡ Some n → LiesAtRoot types (message_tree types m) (metadata m ++ past)
written_lies types m n past x h = root_lies types (metadata m ++ past) (message_tree types m) (placed (metadata m ++ past) (root types) (message_tree types m) (written_aligned types m n past x h))

-- The tree means the message.
means_again : (types : TypeSet) (m : PlainMessage) → IsHeader m.header → leaves_header_out types m.header ≡ false → meaning_of (message_parts types m) ≡ Some m
means_again types m x within = message_again types m.header m.version m.body_len x within

pub written_means : (m : PlainMessage) (n : ℕ) (past : List ℕ) → IsHeader m.header → size_of m ≡ Some n → (limits : LimitNumbers) → MetadataMeans limits (metadata m ++ past) m ↔ Allows limits m
written_means m n past x h limits =
    let is = sized m n h in
    let lies = written_lies limits.types m n past x h in (
      λ means.
          let same : means.0 ≡ message_tree limits.types m = one_root limits.types (metadata m ++ past) means.0 (message_tree limits.types m) means.1.lies lies in
          let within : IsWithin limits.max_metadata (message_tree limits.types m) = subst (λ t. IsWithin limits.max_metadata t) same means.1.within in
          record {
            text = within.text_within;
            body = meaning_length limits.max_body means.0 m means.2;
            types = within_types limits.types limits.max_body m (subst (λ t. fault_of limits.max_body (parts t) ≡ None) same means.2.sound);
          },
      λ allows. (
        message_tree limits.types m,
        record { lies = lies; within = record { shallow = shallow limits.types m x; text_within = allows.text } },
        record { sound = sound limits.types limits.max_body m x allows.types allows.body (omega (arith, is.body)); same = means_again limits.types m x allows.types },
      ),
    )

-- The result of any reader whose limits the message keeps to: it is the message, or an allocation failed.
pub read_again : (m : PlainMessage) (n : ℕ) (past : List ℕ) → IsHeader m.header → size_of m ≡ Some n → (limits : LimitNumbers) (answer : Result Message MetaFault) → Allows limits m → Decodes answer limits (metadata m ++ past) → IsAgain answer m
read_again m n past x h limits (Ok k) allows means = one_message limits (metadata m ++ past) (message_view k) m means ((written_means m n past x h limits).1 allows)
read_again m n past x h limits (Err Memory) allows grows = refl
read_again m n past x h limits (Err Metadata) allows fails = absurd (never_both limits (metadata m ++ past) m Metadata ((written_means m n past x h limits).1 allows) fails)
read_again m n past x h limits (Err Version) allows fails = absurd (never_both limits (metadata m ++ past) m Version ((written_means m n past x h limits).1 allows) fails)
read_again m n past x h limits (Err Header) allows fails = absurd (never_both limits (metadata m ++ past) m Header ((written_means m n past x h limits).1 allows) fails)
read_again m n past x h limits (Err BodyLength) allows fails = absurd (never_both limits (metadata m ++ past) m BodyLength ((written_means m n past x h limits).1 allows) fails)
read_again m n past x h limits (Err (Unsupported body)) allows fails = absurd (never_both limits (metadata m ++ past) m (Unsupported body) ((written_means m n past x h limits).1 allows) fails)
read_again m n past x h limits (Err (Schema body)) allows fails = absurd (never_both limits (metadata m ++ past) m (Schema body) ((written_means m n past x h limits).1 allows) fails)
read_again m n past x h limits (Err (Compressed batch body)) allows fails = absurd (never_both limits (metadata m ++ past) m (Compressed batch body) ((written_means m n past x h limits).1 allows) fails)

-- And no reader returns another message, whatever its limits.
pub read_alone : (m : PlainMessage) (n : ℕ) (past : List ℕ) → IsHeader m.header → size_of m ≡ Some n → (limits : LimitNumbers) (k : PlainMessage) → MetadataMeans limits (metadata m ++ past) k → k ≡ m
read_alone m n past x h limits k means =
    let lies = written_lies limits.types m n past x h in
    let is = sized m n h in
    let same : means.0 ≡ message_tree limits.types m = one_root limits.types (metadata m ++ past) means.0 (message_tree limits.types m) means.1.lies lies in
    let within = within_types limits.types limits.max_body m (subst (λ t. fault_of limits.max_body (parts t) ≡ None) same means.2.sound) in
    let both : Some k ≡ Some m = sym means.2.same ∙ ap (λ t. meaning_of (parts t)) same ∙ means_again limits.types m x within in
    cc
