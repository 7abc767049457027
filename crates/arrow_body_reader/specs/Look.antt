-- What the check of fields requires and finds; the nodes and buffers that are left to be taken are one value. Only
-- the crate's private clauses cite this.
use Rattle.std.specs.Prelude.{◌≡◌, ◌↔◌, IsTrue, [], drop}
use Rattle.arrow_types.specs.Field.{FieldTree}
use Rattle.arrow_body_reader.specs.declared.build.Builder.{Builder}
use Rattle.arrow_body_reader.specs.declared.load_nodes.Found.{Found}
use Rattle.arrow_body_reader.specs.declared.body_context.BodyContext.{BodyContext}
use Rattle.arrow_body_reader.specs.declared.taken.Left.{Left}
use Rattle.arrow_body_reader.specs.Sound.{AreFit, AreIndexed, AreLaid, AreText, columns_of}
use Rattle.arrow_body_reader.specs.Taken.{AreThere, taken_buffers, taken_nodes}
use Rattle.arrow_body_reader.specs.Types.{HaveTypes}

-- the builder, for this body, has made nothing so far, and the types and the dictionaries of the fields are known
abbrev pub IsReady : FieldTree → Left → BodyContext → Builder → Type 0
IsReady fields left source b =
    (b.body.now ≡ source.body.now)
    × (b.arrays.items ≡ [])
    × HaveTypes fields left.types.now
    × AreFit source.dictionaries.entries.now fields

-- the builder, for this body, has made the columns of the fields
abbrev pub HasMade : FieldTree → Left → BodyContext → Builder → Type 0
HasMade fields left source b =
    (b.body.now ≡ source.body.now)
    × (b.arrays.items ≡ columns_of source.body.now source.dictionaries.entries.now fields left.nodes.now left.buffers.now)

-- the nodes and buffers that the fields take are there, and lie in the body as their types require
abbrev pub DoLie : FieldTree → Left → BodyContext → Type 0
DoLie fields left source = AreThere fields left.nodes.now left.buffers.now × AreLaid source.body.now fields left.nodes.now left.buffers.now

-- They do, and the result says whether their texts are UTF-8 and their indices have their values; the remaining nodes
-- and buffers are those after theirs.
abbrev pub IsSeen : FieldTree → Left → BodyContext → Found → Type 0
IsSeen fields left source load_nodes =
    AreThere fields left.nodes.now left.buffers.now
    × AreLaid source.body.now fields left.nodes.now left.buffers.now
    × (IsTrue load_nodes.seen.texts ↔ AreText source.body.now fields left.nodes.now left.buffers.now)
    × (IsTrue load_nodes.seen.indices ↔ AreIndexed source.body.now source.dictionaries.entries.now fields left.nodes.now left.buffers.now)
    × (load_nodes.rest.nodes.now ≡ drop (taken_nodes fields) left.nodes.now)
    × (load_nodes.rest.buffers.now ≡ drop (taken_buffers fields) left.buffers.now)
