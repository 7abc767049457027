-- When a message has a size.
use Rattle.std.proofs.Common.{◌≡◌, ℕ, ◌^◌, ◌≤◌, ◌<◌, true, false, nat_le, Option, Some}
use Rattle.std.proofs.Common.{None, inl, inr, refl, sym, ap, ◌∙◌, arith, true≢false}
use Rattle.std.specs.Prelude.{IsSome}
use Rattle.std.proofs.lemmas.Bool.{le-leb, lt-leb, cases_lt}
use Rattle.arrow_flatbuf.specs.Layout.{up}
use Rattle.arrow_flatbuf.specs.Nodes.{after}
use Rattle.arrow_meta_writer.specs.Capped.{capped}
use Rattle.arrow_meta_writer.specs.Layouts.{message_node}
use Rattle.arrow_meta_reader.specs.Means.{PlainMessage}
use Rattle.arrow_meta_reader.specs.declared.message.MetadataVersion.{MetadataVersion}
use Rattle.arrow_meta_reader.specs.declared.message.MetadataVersion.TheVariants as versions
use Rattle.arrow_meta_writer.specs.Metadata.{is_written, size_of, metadata_size}
use Rattle.arrow_meta_writer.proofs.Capping.{uncapped}

not_written : (version : MetadataVersion) → (version ≡ versions.V5 → ⊥) → is_written version ≡ false
not_written versions.V4 h = refl
not_written versions.V5 h = absurd (h refl)

-- a message of another version has no size
pub other_version : (m : PlainMessage) → (m.version ≡ versions.V5 → ⊥) → None ≡ size_of m
other_version m h = let version = not_written m.version h in rw version refl

-- the version that is written is V5
pub written_version : (version : MetadataVersion) → is_written version ≡ true → version ≡ versions.V5
written_version versions.V4 h = absurd (true≢false (sym h))
written_version versions.V5 h = refl

-- neither has a message with a body that is too long
pub no_body : (m : PlainMessage) → m.version ≡ versions.V5 → 2 ^ 40 < m.body_len → None ≡ size_of m
no_body m v h =
    let version = ap is_written v in
    let body : nat_le m.body_len (2 ^ 40) ≡ false = lt-leb m.body_len (2 ^ 40) h in
    rw (version, body) refl

-- if the position after the message is below the cap
pub some_size : (m : PlainMessage) (n : ℕ) → m.version ≡ versions.V5 → m.body_len ≤ 2 ^ 40 → n ≡ up 8 (capped (after 4 (message_node m))) → n ≤ 2 ^ 30 → Some n ≡ size_of m
some_size m n v h e low =
    let x = after 4 (message_node m) in
    let near : x ≤ 1073741825 = elim (cases_lt x 1073741825) [ inl a ↦ omega (arith, a) | inr a ↦ omega (arith, a, e, low) ] in
    let exact : n ≡ metadata_size m = e ∙ ap (up 8) (uncapped x near) in
    let version = ap is_written v in
    let body : nat_le m.body_len (2 ^ 40) ≡ true = le-leb m.body_len (2 ^ 40) h in
    let size : nat_le (metadata_size m) (2 ^ 30) ≡ true = le-leb (metadata_size m) (2 ^ 30) (omega (arith, exact, low)) in
    rw (version, body, size) (ap Some exact)

-- and if it is not
pub no_size : (m : PlainMessage) (n : ℕ) → m.version ≡ versions.V5 → m.body_len ≤ 2 ^ 40 → n ≡ up 8 (capped (after 4 (message_node m))) → 2 ^ 30 < n → None ≡ size_of m
no_size m n v h e high =
    let x = after 4 (message_node m) in
    let large : 2 ^ 30 < metadata_size m = elim (cases_lt x 1073741825) [ inl a ↦ omega (arith, e ∙ ap (up 8) (uncapped x (omega (arith, a))), high) | inr a ↦ omega (arith, a) ] in
    let version = ap is_written v in
    let body : nat_le m.body_len (2 ^ 40) ≡ true = le-leb m.body_len (2 ^ 40) h in
    let size : nat_le (metadata_size m) (2 ^ 30) ≡ false = lt-leb (metadata_size m) (2 ^ 30) large in
    rw (version, body, size) refl

-- a message that has a size has some size
pub some_from : (o : Option ℕ) → IsSome o → (n : ℕ) × (o ≡ Some n)
some_from None h = absurd (cc)
some_from (Some n) h = (n, λ i. Some n)
