-- A column, with the counted slots of its own node.
use Rattle.std.specs.Prelude.{◌≡◌, List}
use Rattle.arrow_layout.specs.PlainValue.{PlainValue}
use Rattle.arrow_body_laws.specs.Stored.{nulls_in}
use Rattle.arrow_body_writer.specs.Source.{IsSource, column_in}
use Rattle.arrow_body_slots.specs.Tally.{capped}
use Rattle.arrow_body_writer.specs.declared.counts.NodeCounts.{NodeCounts}

-- its raw values
abbrev pub sent_at : NodeCounts → List PlainValue
sent_at n = (column_in n.source).raw

-- it is known how many of its slots are null
pub record IsCounted (n : NodeCounts) : Type 0 where
  pub source : IsSource n.source
  pub nulls : n.tally.nulls ≡ capped (nulls_in (sent_at n))
