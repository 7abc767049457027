use Rattle.std.proofs.Common.{◌≡◌, ◌∷◌, ◌++◌, [], ap, sym, ◌∙◌, subst, map}
use Rattle.std.proofs.lemmas.List.{map_push}
use Rattle.std.specs.Rc.{rc_value}
use Rattle.arrow_data.specs.Segments.{AreSame, block_segments, columns_of, starts_of}
use Rattle.arrow_data.specs.declared.array.Block.{Block}
use Rattle.arrow_data.proofs.Blocks.{closed}
use Rattle.arrow_data.proofs.dictionary.close.Goals as goal

pub returns-clause-same : goal.returns-clause-same
returns-clause-same c =
    let before = map rc_value c.args.older.now.items in
    let block = c.in_ok-block.block.value in
    let pushed : map rc_value c.push.new.self.items ≡ before ++ block ∷ [] = ap (map rc_value) c.in_ok-push.ensures.items ∙ map_push rc_value c.args.older.now.items c.in_ok-block.block in
    subst (λ bs. AreSame (block_segments bs) (block_segments before ++ c.args.segments.now.items)) (sym pushed)
    (closed before block c.args.segments.now.items
    (ap (λ (b : Block). columns_of b.segments.items) c.in_ok-block.ensures.ok ∙ c.in_ok-shared.ensures.arrays ∙ ap columns_of c.deref.ensures.value)
    (ap (λ (b : Block). starts_of b.segments.items) c.in_ok-block.ensures.ok ∙ c.in_ok-shared.ensures.starts ∙ ap starts_of c.deref.ensures.value))
