use Rattle.std.proofs.Common.{◌≡◌, take}
use Rattle.arrow_types.specs.Schema.{dictionary_ids}
use Rattle.arrow_data.specs.Batch.{Table}
use Rattle.arrow_stream_laws.specs.Plan.{sendings}
use Rattle.arrow_stream_laws.specs.Rows.{list_of}
use Rattle.arrow_stream_writer.specs.Lists.{AreListsOf, dictionary_in}
use Rattle.arrow_stream_writer.specs.Terms.{terms_of}
use Rattle.arrow_stream_writer.specs.Updating.{IsWorkOf, work_of}
use Rattle.arrow_stream_writer.proofs.updating.Updater.add_all.Given as goal

-- the frames of the first ids were built, and their dictionaries staged
abbrev pub invariant-loop-k : goal.invariant-loop-k
invariant-loop-k l =
    (t : Table) → t.schema ≡ l.self.settings.now.schema.value → AreListsOf t (dictionary_in l.self.lists.now)
    → IsWorkOf (terms_of l.self.settings.now) l.initial.tracker.sent
    (sendings l.self.settings.now.updates l.initial.tracker.sent (list_of t) (take l.k (dictionary_ids l.self.settings.now.schema.value.fields))) (work_of l.part.bytes.items l.tracker)
