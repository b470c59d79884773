use Rattle.std.proofs.Common.{◌≡◌, ◌∙◌, ◌++◌, ◌<◌, ℕ, List, Some, map, length, get_or, slice_get, All, ap, sym, refl, subst}
use Rattle.std.specs.List.{flat_map}
use Rattle.std.proofs.lemmas.List.{take_all}
use Rattle.std.proofs.lemmas.Option.{slice_get_read}
use Rattle.sdc_base.specs.declared.cell.Cell.{Cell}
use Rattle.sdc_base.specs.declared.relation.Relation.{Relation}
use Rattle.sdc_base.specs.Systems.{NamesCells}
use Rattle.tableau.specs.declared.problem.LinRow.{LinRow}
use Rattle.interval_audit.specs.Groups.{Group}
use Rattle.interval_audit.specs.Labels.{forms_for}
use Rattle.interval_audit.specs.Problems.{row_of}
use Rattle.interval_audit.proofs.RowLists.{next_rows, forms_rows}
use Rattle.interval_audit.proofs.problem.push_all_forms.Goals as goal

pub bounds-relations-number : goal.bounds-relations-number
bounds-relations-number c =
    let number : ℕ = get_or c.args.met.now c.numbers.number-index 0 in
    subst (λ (rs : List Relation). number < length rs) (sym c.as_slice-relations.ensures) (c.requires.met c.numbers.number-index 0 c.numbers-test.true)

pub numbers-preserved : goal.numbers-preserved
numbers-preserved c =
    let place : ℕ = c.numbers.number-index in
    let number : ℕ = get_or c.args.met.now place 0 in
    let relations : c.as_slice-relations.result.now ≡ c.args.system.now.relations = c.as_slice-relations.ensures in
    let inside : number < length c.as_slice-relations.result.now = subst (λ (rs : List Relation). number < length rs) (sym relations) (c.requires.met place 0 c.numbers-test.true) in
    let found : slice_get c.as_slice-relations.result.now number ≡ Some c.index-relations-number.result = slice_get_read c.as_slice-relations.result.now (length c.as_slice-relations.result.now) number c.index-relations-number.result refl inside c.index-relations-number.is in
    let own = λ (cells : List Cell) (group : Group). forms_rows c.args.system.now cells group number c.index-relations-number.result (ap (λ rs. slice_get rs number) (sym relations) ∙ found) in
    record {
      long = c.push_forms.ensures.length ∙ c.numbers.invariant.long;
      zeros = c.in_ok-push_forms.ensures.zeros;
      rows = λ cells group is.
          next_rows c.args.rows.now.items c.numbers.rows.items c.push_forms.new.rows.items (row_of c.args.system.now cells group) forms_for c.args.met.now place 0 c.numbers-test.true (c.numbers.invariant.rows cells group is)
          (c.in_ok-push_forms.ensures.rows group c.args.system.now.cells is ∙ ap (λ (xs : List LinRow). c.numbers.rows.items ++ xs) (sym (own cells group)));
    }

pub push_forms-requires-clause-named : goal.push_forms-requires-clause-named
push_forms-requires-clause-named c =
    let place : ℕ = c.numbers.number-index in
    let number : ℕ = get_or c.args.met.now place 0 in
    let inside : number < length c.as_slice-relations.result.now = subst (λ (rs : List Relation). number < length rs) (sym c.as_slice-relations.ensures) (c.requires.met place 0 c.numbers-test.true) in
    let all : All (NamesCells c.args.system.now.cells) c.as_slice-relations.result.now = subst (λ rs. All (NamesCells c.args.system.now.cells) rs) (sym c.as_slice-relations.ensures) c.args.system.now.named in
    let own : NamesCells c.args.system.now.cells c.index-relations-number.result = subst (NamesCells c.args.system.now.cells) (sym c.index-relations-number.is) (all number c.index-relations-number.result inside) in
    subst (λ n. NamesCells n c.index-relations-number.result) (sym (c.numbers.invariant.long ∙ c.requires.scratch)) own

pub returns-clause-rows : goal.returns-clause-rows
returns-clause-rows c = λ cells group is met.
    c.numbers.invariant.rows cells group is
    ∙ ap (λ (xs : List ℕ). c.args.rows.now.items ++ map (row_of c.args.system.now cells group) (flat_map forms_for xs)) (take_all c.numbers.number-index c.args.met.now c.numbers-test.false ∙ met)
