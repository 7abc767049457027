use Rattle.std.proofs.Common.{◌≡◌, ◌∷◌, [], ◌++◌, ◌+◌, ◌≤◌, length, ap, sym, ◌∙◌, subst, arith, take, w64, to_z, of_z, rules}
use Rattle.std.proofs.lemmas.Result.{err_from_is_err_and}
use Rattle.std.specs.List.{AllByRecursion}
use Rattle.std.proofs.lemmas.List.{take_all, take_more}
use Rattle.arrow_data.specs.Column.{IsColumn, listed_of}
use Rattle.arrow_data.proofs.Sameness.{parts_smaller}
use Rattle.arrow_stream_writer.specs.Lists.{AddsList, AreFound, dictionary_in}
use Rattle.arrow_stream_writer.proofs.Finding.{all_both}
use Rattle.arrow_stream_writer.proofs.Gathering.{below_gathers, more_gathered, one_gathers, stops_at}
use Rattle.arrow_stream_writer.proofs.lists.BatchLists.+gathering.Goals as goal

-- the columns below the column are smaller
pub add_column-add_columns-requires : goal.add_column-add_columns-requires
add_column-add_columns-requires t c =
    let has = c.in-Some.ensures c.in-None-default.ensures in
    let m = parts_smaller c.args.column.now c.in-Some.columns.now has.typed in
    (omega (arith, c.decreases, m), tt)

-- the dictionary of the column is added
pub add_column-returns-in-Some-Some-clause-gathers : goal.add_column-returns-in-Some-Some-clause-gathers
add_column-returns-in-Some-Some-clause-gathers t c =
    let d = c.in-Some-Some.dictionary.now in
    let id = c.in-Some-Some.encoding.now.id in
    let passed : to_z w64 (of_z w64 id) ≡ id = search rules in
    one_gathers c.args.column.now c.in-Some-Some.encoding.now d (dictionary_in c.args.self.now) (dictionary_in c.add.new.self) c.add.result c.in-Some-Some.ensures (sym c.in-Some-Some.ensures')
    (subst (λ i. AddsList i d (dictionary_in c.args.self.now) c.add.result (dictionary_in c.add.new.self)) passed c.add.ensures)

-- those of the columns below it are added
pub add_column-returns-in-Some-clause-gathers : goal.add_column-returns-in-Some-clause-gathers
add_column-returns-in-Some-clause-gathers t c =
    below_gathers c.args.column.now c.in-Some.columns.now (dictionary_in c.args.self.now) (dictionary_in c.add_columns.new.self) c.add_columns.result
    c.in-None-default.ensures (c.in-Some.ensures c.in-None-default.ensures) c.add_columns.ensures.gathers

-- a fault at one column
pub add_columns-returns-in_err-add_column-clause-gathers : goal.add_columns-returns-in_err-add_column-clause-gathers
add_columns-returns-in_err-add_column-clause-gathers t c =
    let failed = err_from_is_err_and c.from_residual.result c.from_residual.ensures.1 in
    rw (failed.1, failed.2) (stops_at c.args.columns.now c.loop-column.column-index c.column-item.result c.in_err-add_column.field-0.0 (dictionary_in c.args.self.now) (dictionary_in c.loop-column.self) (dictionary_in c.add_column.new.self)
    c.loop-column-test.true c.column-item.is c.loop-column.invariant.0 c.in_err-add_column.ensures.gathers)

-- one more column
pub add_columns-loop-column-preserved : goal.add_columns-loop-column-preserved
add_columns-loop-column-preserved t c =
    let i = c.loop-column.column-index in
    let cs = c.args.columns.now in
    let x = c.column-item.result in
    let next : take (i + 1) cs ≡ take i cs ++ x ∷ [] = take_more cs i x c.loop-column-test.true ∙ ap (λ y. take i cs ++ y ∷ []) (sym c.column-item.is) in (
      more_gathered cs i x (dictionary_in c.args.self.now) (dictionary_in c.loop-column.self) (dictionary_in c.add_column.new.self)
          c.loop-column-test.true c.column-item.is c.loop-column.invariant.0 c.in_ok-add_column.ensures.gathers,
      subst (AllByRecursion IsColumn) (sym next) (all_both IsColumn (take i cs) (x ∷ []) c.loop-column.invariant.1 (c.in_ok-add_column.ensures.known, tt)),
    )

-- all columns
pub add_columns-returns-clause-gathers : goal.add_columns-returns-clause-gathers
add_columns-returns-clause-gathers t c =
    let i = c.loop-column.column-index in
    let all : length c.args.columns.now ≤ i = omega (arith, c.loop-column-test.false) in
    λ fields listed named found. subst (λ xs. AreFound fields (listed ++ listed_of xs) (dictionary_in c.loop-column.self)) (take_all i c.args.columns.now all)
    (c.loop-column.invariant.0 fields listed named found)
