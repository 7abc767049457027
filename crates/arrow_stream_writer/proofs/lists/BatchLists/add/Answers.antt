use Rattle.std.proofs.Common.{ap, sym, ◌∙◌, w64}
use Rattle.std.specs.Ordering.{int_eq}
use Rattle.std.specs.Prelude.{option_map}
use Rattle.std.proofs.lemmas.Int.{to_z-of_z}
use Rattle.arrow_stream_writer.specs.Lists.{dictionary_in}
use Rattle.arrow_stream_writer.proofs.Finding.{seen_if, found_again, new_found, other_found}
use Rattle.arrow_stream_writer.proofs.lists.BatchLists.add.Goals as goal

pub returns-then-eq : goal.returns-then-eq
returns-then-eq c fields listed named found =
    let passed = to_z-of_z w64 c.args.id c.ranges.id in
    found_again fields listed (dictionary_in c.args.self.now) found c.args.id c.args.dictionary.now c.in-Some.first.now
    (c.in-Some.ensures ∙ ap (dictionary_in c.args.self.now) passed) (c.eq.ensures.same.0 c.if-eq.true)

pub returns-else-eq : goal.returns-else-eq
returns-else-eq c fields listed found =
    let passed = to_z-of_z w64 c.args.id c.ranges.id in
    other_found fields listed (dictionary_in c.args.self.now) found c.args.id c.args.dictionary.now c.in-Some.first.now
    (c.in-Some.ensures ∙ ap (dictionary_in c.args.self.now) passed) (λ same. let e = sym c.if-eq.false ∙ c.eq.ensures.same.1 same in absurd (cc))

pub returns-in_ok-insert-in-None : goal.returns-in_ok-insert-in-None
returns-in_ok-insert-in-None c fields listed named found =
    let passed = to_z-of_z w64 c.args.id c.ranges.id in
    let step = rw passed at c.in_ok-insert-in-None.ensures.updates.0 in
    new_found fields listed (dictionary_in c.args.self.now) found c.args.id c.args.dictionary.now (dictionary_in (record { lists = c.insert.new.self }))
    (c.in-None.ensures ∙ ap (dictionary_in c.args.self.now) passed)
    (λ q. ap (option_map (λ d. d.now)) (step q) ∙ seen_if (λ d. d.now) (int_eq c.args.id q) _ _) named
