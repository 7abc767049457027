use Rattle.arrow_stream_writer.specs.Lists.{dictionary_in}
use Rattle.arrow_stream_writer.specs.Terms.{terms_of}
use Rattle.arrow_stream_writer.specs.Updating.{work_of}
use Rattle.arrow_stream_writer.proofs.Closing.{puts_updates}
use Rattle.arrow_stream_writer.proofs.parts.put_updates.Goals as goal

-- the dictionaries were found
pub returns-in-Ok : goal.returns-in-Ok
returns-in-Ok c =
    puts_updates (terms_of c.args.settings.now) c.args.batch.now (dictionary_in c.in-Ok.lists) (work_of c.args.part.now.bytes.items c.args.tracker.now)
    (work_of c.add_all.new.part.bytes.items c.add_all.new.tracker) c.add_all.result c.in-Ok.ensures (c.add_all.ensures c.args.batch.now c.requires.schema c.in-Ok.ensures)
