use Rattle.std.proofs.Common.{◌≡◌, None, Some, ap, sym, ◌∙◌, w64}
use Rattle.std.proofs.lemmas.Int.{to_z-of_z}
use Rattle.arrow_stream_writer.specs.Lists.{dictionary_in}
use Rattle.arrow_stream_writer.proofs.Adding.{delta_inside}
use Rattle.arrow_stream_writer.proofs.updating.Updater.add_one.Goals as goal

-- the id has a dictionary
pub returns-in_default : goal.returns-in_default
returns-in_default c d there named =
    let passed = to_z-of_z w64 c.args.id c.ranges.id in
    let clash : None ≡ Some d = c.in_default.ensures ∙ ap (dictionary_in c.args.self.now.lists.now) passed ∙ there in
    absurd (cc)

-- a delta begins within the values
pub send-requires-in-Delta : goal.send-requires-in-Delta
send-requires-in-Delta c = record {
  inside = delta_inside c.args.self.now.settings.now.updates _ c.in-Some.dictionary.now.values c.in-Delta.from (sym c.in-Delta.ensures);
}
