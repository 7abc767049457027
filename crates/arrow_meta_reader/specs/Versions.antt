-- The numbers of versions (Schema.fbs).
use Rattle.std.specs.Prelude.{ℕ, Option, Some, None, ◌==◌, if◌then◌else◌}
use Rattle.arrow_meta_reader.specs.declared.message.MetadataVersion.{MetadataVersion}
use Rattle.arrow_meta_reader.specs.declared.message.MetadataVersion.TheVariants as versions

-- the number of a version (Schema.fbs, enum "MetadataVersion")
abbrev pub number_of_version : MetadataVersion → ℕ
number_of_version versions.V4 = 3
number_of_version versions.V5 = 4

-- The version that a number encodes (Schema.fbs, enum "MetadataVersion"). There is none for V1 (0), V2 (1) and V3
-- (2), which this project leaves out, and for a number that is not a version's.
abbrev pub metadata_version : ℕ → Option MetadataVersion
metadata_version n =
    if n == number_of_version versions.V4 then Some versions.V4 else
    (if n == number_of_version versions.V5 then Some versions.V5 else None)
