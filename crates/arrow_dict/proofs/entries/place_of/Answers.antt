use Rattle.std.proofs.Common.{rules, subst, of_z, to_z, w64}
use Rattle.std.specs.Ordering.{int_cmp}
use Rattle.std.specs.List.Sorted.{IsBinarySearchResult}
use Rattle.std.proofs.lemmas.Int.{to_z-of_z}
use Rattle.std.proofs.lemmas.List.Sorted.{answers_always}
use Rattle.arrow_dict.proofs.Places.{searched}
use Rattle.arrow_dict.proofs.entries.place_of.Goals as goal

-- the closure gives an entry's id
pub returns : goal.returns
returns c =
    let facts = c.binary_search_by_key.ensures in
    let passed : IsBinarySearchResult (λ entry. int_cmp entry.0 (to_z w64 (of_z w64 c.args.id))) c.args.entries.now c.binary_search_by_key.result =
    facts.position (λ entry. entry.0) (answers_always _ _ _ (λ f a r g called. search rules)) in
    let by_id : IsBinarySearchResult (λ entry. int_cmp entry.0 c.args.id) c.args.entries.now c.binary_search_by_key.result =
    subst (λ id. IsBinarySearchResult (λ entry. int_cmp entry.0 id) c.args.entries.now c.binary_search_by_key.result) (to_z-of_z w64 c.args.id c.ranges.id) passed in
    searched c.args.entries.now c.args.id _ c.requires facts.bound by_id
