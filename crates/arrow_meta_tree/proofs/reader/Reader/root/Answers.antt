use Rattle.std.proofs.Common.{Bool, false, IfErr, ◌≡◌, List, Some, ap, sym, subst, ◌∙◌, option_map, refl, ℕ}
use Rattle.std.proofs.lemmas.Result.{IfErr-weaker}
use Rattle.arrow_meta_tree.specs.declared.kinds.TableKind.TheVariants as kinds
use Rattle.arrow_meta_tree.specs.declared.kinds.FieldForm.TheVariants as forms
use Rattle.arrow_meta_tree.specs.Grows.{root}
use Rattle.arrow_meta_tree.specs.Kinds.{Spot, spots_of}
use Rattle.arrow_meta_tree.specs.Lies.{layer, table_layer}
use Rattle.arrow_meta_tree.specs.Reads.{ReadsTree, room, Ends, ends_unreadable}
use Rattle.arrow_meta_tree.specs.Views.{plain}
use Rattle.arrow_meta_tree.proofs.Layers.{layer_there, none_fits, element_layer}
use Rattle.arrow_meta_tree.proofs.reader.Reader.root.Goals as goal

-- no table is readable at the root
pub returns-in-None-clause-read : goal.returns-in-None-clause-read
returns-in-None-clause-read c =
    let b = c.args.bytes.now in
    none_fits b (root c.args.types) 32 (room c.args.self.now)
    (layer_there b (forms.Table (kinds.Message c.args.types)) (Some 0) 0 refl ∙ ap (option_map (λ t. table_layer (kinds.Message c.args.types) (spots_of (kinds.Message c.args.types) t))) (sym c.in-None.ensures.value))

-- the table at the root was read
pub returns-in-Some-clause-read : goal.returns-in-Some-clause-read
returns-in-Some-clause-read c =
    let b = c.args.bytes.now in
    let there = c.in-Some.ensures in
    let l = table_layer (kinds.Message c.args.types) (spots_of (kinds.Message c.args.types) c.in-Some.table) in
    let P : List ℕ → Type 0 = λ bytes. (s : Spot) → layer bytes s ≡ Some l → ReadsTree plain c.table.result bytes s 32 (room c.args.self.now) (room c.table.new.self) in
    subst P there.bytes c.table.ensures.read (root c.args.types) (element_layer b (kinds.Message c.args.types) 0 c.in-Some.table (sym there.value))

pub returns-in-None-clause-ends : goal.returns-in-None-clause-ends
returns-in-None-clause-ends c =
    let b = c.args.bytes.now in
    ends_unreadable (layer_there b (forms.Table (kinds.Message c.args.types)) (Some 0) 0 refl ∙ ap (option_map (λ t. table_layer (kinds.Message c.args.types) (spots_of (kinds.Message c.args.types) t))) (sym c.in-None.ensures.value))

pub returns-in-Some-clause-ends : goal.returns-in-Some-clause-ends
returns-in-Some-clause-ends c =
    let b = c.args.bytes.now in
    let there = c.in-Some.ensures in
    let l = table_layer (kinds.Message c.args.types) (spots_of (kinds.Message c.args.types) c.in-Some.table) in
    let P : List ℕ → Type 0 = λ bytes. IfErr c.table.result (λ e. (v : Bool) (s : Spot) (p : ℕ) → s ≡ record { form = forms.Table (kinds.Message c.args.types); place = Some p } → layer bytes s ≡ Some l → Ends bytes v e s 32 (room c.args.self.now) (room c.table.new.self)) in
    IfErr-weaker c.table.result _ _ (λ e h. h false (root c.args.types) 0 refl (element_layer b (kinds.Message c.args.types) 0 c.in-Some.table (sym there.value))) (subst P there.bytes c.table.ensures.ends)
