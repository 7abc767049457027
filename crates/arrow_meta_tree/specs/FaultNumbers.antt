-- The order of the faults: if several hold, the one with the least number is returned.
use Rattle.std.specs.Prelude.{ℕ}
use Rattle.arrow_meta_tree.specs.declared.fault.MetaFault.{MetaFault}
use Rattle.arrow_meta_tree.specs.declared.fault.MetaFault.TheVariants.{Metadata, Version, Header, BodyLength, Unsupported, Schema, Compressed, Memory}

-- the numbers of the faults: those of the faults of a stream
abbrev pub number_of : MetaFault → ℕ
number_of Metadata = 3
number_of Version = 4
number_of Header = 5
number_of BodyLength = 6
number_of (Unsupported body_len) = 8
number_of (Schema body_len) = 9
number_of (Compressed batch body_len) = 10
number_of Memory = 19
