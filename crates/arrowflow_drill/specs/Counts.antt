-- The counts of a connection's report. (Specific to this project.)
use Rattle.std.specs.Prelude.{ℕ, List, length, Vec}
use Rattle.std.specs.List.{sum_by}
use Rattle.std.specs.declared.alloc.Global.{Global}
use Rattle.arrow_data.specs.Batch.{Table}

-- the number of bytes of parts
abbrev pub bytes_in : List (Vec ℕ Global) → ℕ
bytes_in parts = sum_by (λ part. length part.items) parts

-- the number of rows of batches
abbrev pub rows_in : List Table → ℕ
rows_in batches = sum_by (λ (batch : Table). batch.rows) batches
