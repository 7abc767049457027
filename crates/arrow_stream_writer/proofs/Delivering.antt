-- What a reader has of all that a writer sent.
use Rattle.std.proofs.Common.{List, subst}
use Rattle.arrow_stream_reader.specs.Front.{Entry, Snapshot}
use Rattle.arrow_stream_reader.proofs.Fronts.{one_front}
use Rattle.arrow_stream_laws.specs.Text.{joined}
use Rattle.arrow_stream_laws.proofs.Writers.{stream_sent}
use Rattle.arrow_stream_writer.specs.Delivery.{DeliveredWhole, GivesAll}

pub delivered_whole : DeliveredWhole
delivered_whole = λ w closed parts batches before now s reported.
    let sent = stream_sent w closed parts batches before now s reported in
    let x = sent.1 in
    let gives : GivesAll w batches x.entries x.snapshot = record { rows = x.rows; schema = x.schema; dictionaries = x.dictionaries; nothing_left = x.nothing_left } in (
      joined parts,
      sent.0,
      record {
        entries = x.entries;
        snapshot = x.snapshot;
        front = x.front;
        gives = gives;
        only = λ others other front.
            let same = one_front x.front front in
            subst (λ (e : Snapshot). GivesAll w batches others e) same.1 (subst (λ (es : List Entry). GivesAll w batches es x.snapshot) same.0 gives);
      },
    )
