-- How the logic stores the view of a reader: as trees of numbers, different for different values.
use Rattle.std.specs.Prelude.{ℕ, ℤ, List, Option, refl}
use Rattle.std.specs.Coded.{Coded, code_by, coded×, coded_ℕ, coded_ℤ, coded_list, coded_option}
use Rattle.arrow_types.specs.Notes.{SchemaShape}
use Rattle.arrow_types.specs.Stored.{schema_code}
use Rattle.arrow_data.specs.Column.{ValueList, value_list_code}
use Rattle.arrow_types.specs.Limits.{LimitNumbers}
use Rattle.arrow_types.specs.declared.type_set.TypeSet.{TypeSet}
use Rattle.arrow_types.specs.contracts.type_set.TypeSet.{the_row as types_row}
use Rattle.arrow_stream_reader.specs.declared.reader.Verdict.{Verdict}
use Rattle.arrow_stream_reader.specs.contracts.reader.Verdict.{the_row as verdict_row}
use Rattle.arrow_stream_reader.specs.State.{StreamState}
use Rattle.arrow_stream_reader.specs.Front.{Snapshot}
use Rattle.arrow_stream_reader.specs.Stream.{ReaderView}

-- how the logic stores limits
abbrev limits_code : Coded LimitNumbers
limits_code = code_by (ℕ × (ℕ × (ℕ × TypeSet))) (coded× coded_ℕ (coded× coded_ℕ (coded× coded_ℕ types_row.coded)))
    (λ l. (l.max_metadata, (l.max_body, (l.max_rows, l.types))))
    (λ p. record { max_metadata = p.0; max_body = p.1.0; max_rows = p.1.1.0; types = p.1.1.1 })
    (λ _. refl)

-- a schema and dictionaries
abbrev state_code : Coded StreamState
state_code = code_by (Option SchemaShape × List (ℤ × ValueList))
    (coded× (coded_option schema_code) (coded_list (coded× coded_ℤ value_list_code)))
    (λ s. (s.schema, s.dictionaries)) (λ p. record { schema = p.0; dictionaries = p.1 }) (λ _. refl)

-- where a stream has come to
abbrev snapshot_code : Coded Snapshot
snapshot_code = code_by (StreamState × (ℕ × (List ℕ × Verdict)))
    (coded× state_code (coded× coded_ℕ (coded× (coded_list coded_ℕ) verdict_row.coded)))
    (λ e. (e.state, (e.place, (e.rest, e.verdict))))
    (λ p. record { state = p.0; place = p.1.0; rest = p.1.1.0; verdict = p.1.1.1 })
    (λ _. refl)

-- and the view of a reader
abbrev pub shows_code : Coded ReaderView
shows_code = code_by (LimitNumbers × Snapshot) (coded× limits_code snapshot_code)
    (λ r. (r.limits, r.at)) (λ p. record { limits = p.0; at = p.1 }) (λ _. refl)
