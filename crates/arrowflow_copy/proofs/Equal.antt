-- Why streams with equal content are copied to equal bytes.
use Rattle.std.proofs.Common.{◌≡◌, ℕ, true, List, map, Option, None, Some, sym, ap, ◌∙◌, subst}
use Rattle.std.specs.Io.KnownBytes.{Appends}
use Rattle.arrow_types.specs.Limits.{LimitNumbers}
use Rattle.arrow_stream_reader.specs.Front.{Entry, Snapshot, FrontOf}
use Rattle.arrow_stream_reader.specs.Tables.{tables_of}
use Rattle.arrow_stream_reader.proofs.Fronts.{one_front}
use Rattle.arrow_stream_laws.specs.Sent.{Content, content_of, sent_of}
use Rattle.arrow_stream_laws.specs.Sizes.{Options}
use Rattle.arrow_stream_laws.specs.Text.{joined}
use Rattle.arrow_stream_laws.proofs.Sending.{written_sent}
use Rattle.arrowflow_copy.specs.Copy.{IsClosed}
use Rattle.arrowflow_copy.specs.Equal.{CopiesAreEqual, CopyIsSent}

-- the bytes written for a complete stream, from its complete messages
closed_sent : {limits : LimitNumbers} {o : Options} {bytes : List ℕ} {e f : Snapshot} {before after : Option (List ℕ)} {es : List Entry} → FrontOf limits bytes es e → (x : IsClosed limits o bytes f before after)
    → Appends before after (joined (sent_of o x.shape true (map content_of (tables_of es))))
closed_sent {o = o} {before = before} {after = after} y x =
    let same = (one_front x.front y).0 in
    subst (λ ps. Appends before after (joined ps)) (written_sent x.sent.text ∙ ap (λ fs. sent_of o x.shape true (map content_of (tables_of fs))) same) x.sent.wrote

-- and the schema is that of these messages
closed_shape : {limits : LimitNumbers} {o : Options} {bytes : List ℕ} {e f : Snapshot} {before after : Option (List ℕ)} {es : List Entry} → FrontOf limits bytes es e → (x : IsClosed limits o bytes f before after)
    → e.state.schema ≡ Some x.shape
closed_shape y x = ap (λ (s : Snapshot). s.state.schema) (sym (one_front x.front y).1) ∙ x.schema

pub copy_is_sent : CopyIsSent
copy_is_sent limits o bytes left before after failed now es e shape y is c =
    let x = c.0.1 in
    let same : x.shape ≡ shape = let q = sym (closed_shape y x) ∙ is in cc in
    subst (λ s. Appends before after (joined (sent_of o s true (map content_of (tables_of es))))) same (closed_sent y x)

-- appending equal bytes to equal bytes gives equal bytes
grown : (before : List ℕ) (after after' : Option (List ℕ)) (xs : List ℕ) → Appends (Some before) after xs → Appends (Some before) after' xs → after ≡ after'
grown before None after' xs p q = absurd p
grown before (Some x) None xs p q = absurd q
grown before (Some x) (Some y) xs p q = ap Some (p ∙ sym q)

pub copies_are_equal : CopiesAreEqual
copies_are_equal limits limits' o bytes bytes' left left' before after after' failed failed' now now' es fs e f y z schema held c d =
    let x = c.0.1 in
    let first = closed_sent y x in
    let other = copy_is_sent limits' o bytes' left' (Some before) after' failed' now' fs f x.shape z (sym schema ∙ closed_shape y x) d in
    grown before after after' (joined (sent_of o x.shape true (map content_of (tables_of es)))) first
    (subst (λ (cs : List Content). Appends (Some before) after' (joined (sent_of o x.shape true cs))) (sym held) other)
