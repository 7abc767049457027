use Rattle.std.proofs.Common.{◌≡◌, rules, ap, sym, ◌∙◌, w64, to_z, of_z}
use Rattle.arrow_dict.specs.Dictionaries.{placed}
use Rattle.arrow_stream_laws.specs.Plan.{with_list}
use Rattle.arrow_stream_writer.specs.Terms.{terms_of}
use Rattle.arrow_stream_writer.specs.Updating.{sending_of, work_of}
use Rattle.arrow_stream_writer.proofs.Adding.{adds_frame, type_is}
use Rattle.arrow_stream_writer.proofs.updating.Updater.send.Goals as goal

-- the frame was appended, and its dictionary is staged
pub returns : goal.returns
returns c named =
    let terms = terms_of c.args.self.now.settings.now in
    let update = c.args.update.now in
    let d = update.dictionary.now in
    let old = c.args.tracker.now in
    let passed : to_z w64 (of_z w64 update.id) ≡ update.id = search rules in
    let next : c.stage.new.self.next ≡ with_list terms.shape.fields (sending_of update) old.next =
    c.in_ok-stage.ensures.ok ∙ ap (λ i. placed i d old.next) passed ∙ ap (λ t. placed update.id (record { data_type = t; values = d.values }) old.next) (sym (type_is terms.shape.fields update.id d.data_type named)) in
    adds_frame terms (sending_of update) (work_of c.args.part.now.bytes.items old) (work_of c.put_update.new.part.bytes.items c.stage.new.self) (c.in_ok-put_update.ensures named) c.in_ok-stage.ensures.sent next
