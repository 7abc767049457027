use Rattle.std.proofs.Common.{◌≡◌, ◌++◌, ◌∷◌, drop, map}
use Rattle.json.specs.Token.{begin_array}
use Rattle.json.specs.Tree.{items_tokens}
use Rattle.json.specs.Value.{items_of}
use Rattle.arrow_types.specs.Notes.{pairs_view}
use Rattle.arrowflow_json.specs.Fields.{pair_json}
use Rattle.arrowflow_json.proofs.members.write_pairs.Given as goal

-- the tokens so far and those of the remaining pairs are all tokens
abbrev pub invariant-loop-pair : goal.invariant-loop-pair
invariant-loop-pair l =
    (l.writer.tokens ++ items_tokens (items_of (map pair_json (pairs_view (drop l.pair-index l.pairs))))
    ≡ l.fn.writer.tokens ++ begin_array ∷ items_tokens (items_of (map pair_json (pairs_view l.pairs))))
    × (l.writer.before ≡ l.fn.writer.before)
