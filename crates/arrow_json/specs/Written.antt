-- How values are written, token by token. Only the crate's private contracts use these.
use Rattle.std.specs.Prelude.{◌≡◌, ◌++◌}
use Rattle.json.specs.Json.{Json}
use Rattle.json.specs.Tree.{json_tokens}
use Rattle.json.specs.Written.{Written}

-- the tokens of a JSON value with this property were appended
abbrev pub Adds : (Json → Type 0) → Written → Written → Type 0
Adds P old new = (json : Json) × P json × (new.tokens ≡ old.tokens ++ json_tokens json) × (new.before ≡ old.before)
