-- Two kinds with the same number are equal.
use Rattle.std.proofs.Common.{◌≡◌, ◌-◌, List, [], ◌∷◌, ℕ, Option, Some, refl, sym, ap, ◌∙◌}
use Rattle.std.specs.List.{slice_get}
use Rattle.std.proofs.lemmas.Option.{same_Some}
use Rattle.arrow_stream_reader.specs.Kind.{number_of}
use Rattle.arrow_stream_reader.specs.declared.kind.Kind.{Kind}
use Rattle.arrow_stream_reader.specs.declared.kind.Kind.TheVariants as kinds

-- the kinds in the order of their numbers, from 1
all : List Kind
all =
    kinds.Continuation
    ∷ kinds.MetadataSize
    ∷ kinds.Metadata
    ∷ kinds.Version
    ∷ kinds.Header
    ∷ kinds.BodyLength
    ∷ kinds.Order
    ∷ kinds.Unsupported
    ∷ kinds.Schema
    ∷ kinds.Compressed
    ∷ kinds.UnknownId
    ∷ kinds.NoBase
    ∷ kinds.Rows
    ∷ kinds.Layout
    ∷ kinds.Text
    ∷ kinds.Index
    ∷ kinds.NoSchema
    ∷ kinds.Truncated
    ∷ kinds.Memory
    ∷ []

-- the kind with this number
kind_at : ℕ → Option Kind
kind_at n = slice_get all (n - 1)

-- each kind is the one at its number
listed : (k : Kind) → kind_at (number_of k) ≡ Some k
unfolding kind_at all
listed kinds.Continuation = refl
listed kinds.MetadataSize = refl
listed kinds.Metadata = refl
listed kinds.Version = refl
listed kinds.Header = refl
listed kinds.BodyLength = refl
listed kinds.Order = refl
listed kinds.Unsupported = refl
listed kinds.Schema = refl
listed kinds.Compressed = refl
listed kinds.UnknownId = refl
listed kinds.NoBase = refl
listed kinds.Rows = refl
listed kinds.Layout = refl
listed kinds.Text = refl
listed kinds.Index = refl
listed kinds.NoSchema = refl
listed kinds.Truncated = refl
listed kinds.Memory = refl

-- two kinds with the same number are equal
pub same_kind : (a b : Kind) → number_of a ≡ number_of b → a ≡ b
same_kind a b e = same_Some a b (sym (listed a) ∙ ap kind_at e ∙ listed b)
