use Rattle.std.proofs.Common.{◌≡◌, ◌<◌, IsTrue, Some, rules, length, sym, ◌∙◌, ap}
use Rattle.arrow_dict.specs.declared.update.Update.TheVariants as updates
use Rattle.arrow_dict.specs.Choice.{choice}
use Rattle.arrow_data.specs.Same.{Begins}
use Rattle.arrow_dict.proofs.Choosing.{none_chosen, no_longer, resent_chosen, rest_chosen, whole_chosen}
use Rattle.arrow_dict.proofs.tracker.compared.Goals as goal

pub returns-then-not-begins : goal.returns-then-not-begins
returns-then-not-begins c =
    sym (whole_chosen c.args.updates c.args.old.now.values c.args.new.now.values (λ b. let t : IsTrue c.begins.result = c.begins.ensures.1 b in cc))

pub returns-then-len : goal.returns-then-len
returns-then-len c =
    let b : Begins c.args.old.now.values c.args.new.now.values = search rules in
    let same : length c.args.old.now.values ≡ length c.args.new.now.values = search rules in
    sym (none_chosen c.args.updates c.args.old.now.values c.args.new.now.values same b)

pub returns-in-Delta : goal.returns-in-Delta
returns-in-Delta c =
    let old = c.args.old.now.values in
    let new = c.args.new.now.values in
    let b : Begins old new = search rules in
    let most = no_longer old new b in
    let more : length old < length new = search (rules, most) in
    ap updates.Delta (search rules) ∙ sym (ap (λ m. choice m (Some old) new) c.in-Delta.is ∙ rest_chosen old new more b)

pub returns-in-Resend : goal.returns-in-Resend
returns-in-Resend c =
    let old = c.args.old.now.values in
    let new = c.args.new.now.values in
    let b : Begins old new = search rules in
    let most = no_longer old new b in
    let more : length old < length new = search (rules, most) in
    sym (ap (λ m. choice m (Some old) new) c.in-Resend.is ∙ resent_chosen old new more)
