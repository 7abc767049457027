use Rattle.std.proofs.Common.{◌≡◌, ◌∷◌, ◌++◌, [], length, map, ap, sym, ◌∙◌, subst, arith, length-append}
use Rattle.std.specs.List.{AllByRecursion}
use Rattle.std.specs.Rc.{rc_value}
use Rattle.arrow_types.specs.View.{type_view}
use Rattle.arrow_data.specs.Column.{ValueList}
use Rattle.arrow_data.specs.Segments.{IsSegment, all_segments, block_segments, columns_of, joined, starts_from, starts_of}
use Rattle.arrow_data.specs.declared.array.Segment.{Segment}
use Rattle.arrow_data.proofs.Blocks.{more_columns, more_starts}
use Rattle.arrow_data.proofs.Segments.{fits_push, joined_push, segments_push, starts_push}
use Rattle.arrow_data.proofs.array.Dictionary.append.Goals as goal

pub invariant_of-self-2 : goal.invariant_of-self-2
invariant_of-self-2 c =
    let d = c.self.inside in
    let t = type_view d.data_type in
    let v = c.args.values in
    let bs = map rc_value d.older.items in
    let bs' = map rc_value c.close_full.new.older.items in
    let last = c.close_full.new.segments.items in
    let s : Segment = record { start = d.len; array = c.in_ok-new.field-0 } in
    let old = columns_of (all_segments d) in
    let new = block_segments bs' ++ c.push.new.self.items in
    let same = c.in_ok-close_full.ensures.same in
    let columns : columns_of new ≡ old ++ v ∷ [] =
    ap (λ xs. columns_of (block_segments bs' ++ xs)) c.in_ok-push.ensures.items ∙ more_columns bs bs' d.segments.items last s same ∙ ap (λ x. old ++ x ∷ []) c.in_ok-new.ensures.ok in
    let starts : starts_of new ≡ starts_of (all_segments d) ++ d.len ∷ [] =
    ap (λ xs. starts_of (block_segments bs' ++ xs)) c.in_ok-push.ensures.items ∙ more_starts bs bs' d.segments.items last s same in
    let values : joined (columns_of new) ≡ joined old ++ v.raw = ap joined columns ∙ joined_push old v in
    let typed : v.data_type ≡ t = c.requires.typed ∙ ap (λ (l : ValueList). l.data_type) (sym c.self.view_is) in
    let shown : length (joined old) ≡ length c.args.self.now.values = ap (λ (l : ValueList). length l.values) c.self.view_is in
    let h = c.self.invariant in
    record {
      known = record {
        flat = h.known.flat;
        few = omega (arith, ap length values, length-append (joined old) v.raw, shown, c.requires.few);
        fits = rw values (fits_push t (joined old) v h.known.fits c.len.ensures.known typed c.requires.plain);
      };
      typed = subst (AllByRecursion (IsSegment t)) (sym columns) (segments_push t old v h.typed (typed, c.requires.plain));
      starts = starts ∙ ap (λ ns. ns ++ d.len ∷ []) h.starts ∙ ap (λ n. starts_from 0 old ++ n ∷ []) (h.total ∙ omega arith) ∙ sym (starts_push 0 old v) ∙ ap (starts_from 0) (sym columns);
      blocks = c.in_ok-close_full.ensures.blocks;
      total = omega (arith, h.total, c.len.ensures.count, ap length values, length-append (joined old) v.raw);
    }

pub returns-clause-ok : goal.returns-clause-ok
returns-clause-ok c =
    let d = c.self.inside in
    let v = c.args.values in
    let bs = map rc_value d.older.items in
    let bs' = map rc_value c.close_full.new.older.items in
    let s : Segment = record { start = d.len; array = c.in_ok-new.field-0 } in
    let old = columns_of (all_segments d) in
    let columns : columns_of (block_segments bs' ++ c.push.new.self.items) ≡ old ++ v ∷ [] =
    ap (λ xs. columns_of (block_segments bs' ++ xs)) c.in_ok-push.ensures.items ∙ more_columns bs bs' d.segments.items c.close_full.new.segments.items s c.in_ok-close_full.ensures.same
    ∙ ap (λ x. old ++ x ∷ []) c.in_ok-new.ensures.ok in
    ap (λ vs. record { data_type = type_view d.data_type; values = vs }) (ap joined columns ∙ joined_push old v)
    ∙ ap (λ (l : ValueList). record { data_type = l.data_type; values = l.values ++ v.raw }) c.self.view_is
