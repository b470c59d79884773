-- Marks and priors side by side.
use Rattle.std.proofs.Common.{◌≡◌, ◌<◌, ◌≤◌, ◌+◌, ◌++◌, ◌∷◌, [], ℕ, List, length, take, map, get_or, None, ap, sym, ◌∙◌, arith, refl, true, false, cond, ◌==◌, ◌||◌, is_some}
use Rattle.std.specs.List.{zip}
use Rattle.std.proofs.lemmas.List.{take_more, take_all, map-append, get_or-map, length-map}
use Rattle.std.proofs.lemmas.List.Sums.{fold_more}
use Rattle.std.proofs.lemmas.Slice.Zip.{length-zip, get_or-zip}
use Rattle.std.proofs.lemmas.Option.{slice_get-get_or}
use Rattle.sdc_base.specs.RuleLevels.{Figures, figures_of_facts}
use Rattle.sdc_base.specs.declared.rule.Rules.{Rules}
use Rattle.sdc_base.specs.declared.cell.Cell.{Cell}
use Rattle.linked_tables.specs.declared.mark.Mark.{Mark}
use Rattle.apriori.specs.declared.prior.Prior.{Prior}
use Rattle.apriori.specs.Priors.{IsPriorOf, ArePriors}
use Rattle.apriori.specs.Settling.{SettledCell, view_of_cell, told_of, settled_cell, other_kind}
use Rattle.apriori.specs.CellLevels.{is_primary}
use Rattle.sdc_base.specs.declared.cell.Kind.TheVariants.{Primary, Free, Fixed}
use Rattle.apriori.specs.PrimaryShown.{clash_of, clash_by_kind, first_of, first_clash}

within : (figures : List Figures) (priors : List Prior) (cell : ℕ) → length priors ≡ length figures → cell < length priors → cell < length (zip figures priors)
within marks priors cell same inside = let e = length-zip marks priors in omega (arith, same, inside, e)

-- what stands at a place of both lists
pub prior_at : (marks : List Mark) (priors : List Prior) (cell : ℕ) (d : Mark) (e : Prior) → ArePriors marks priors → cell < length priors → IsPriorOf (get_or marks cell d).facts (get_or priors cell e)
prior_at marks priors cell d e are inside =
    let known : cell < length marks = omega (arith, inside, are.one_each) in
    are.each cell (get_or marks cell d) (get_or priors cell e) (slice_get-get_or marks cell d known) (slice_get-get_or priors cell e inside)

-- by its kind a settled cell has the line that its figures give
pub clash_by_cell : (rules : Rules) (figures : Figures) (prior : Prior) (cell : Cell) → view_of_cell cell ≡ settled_cell rules figures prior → clash_by_kind cell.kind prior ≡ clash_of rules figures prior
clash_by_cell rules figures prior cell is =
    ap (λ (settled : SettledCell). clash_by_kind settled.kind prior) is
    ∙ elim (is_primary rules figures prior) as (λ t. clash_by_kind (cond t Primary (other_kind figures prior)) prior ≡ cond t prior.keep None) [
      | true ↦ refl
      | false ↦ elim ((figures.freq == 0) || is_some prior.keep) as (λ t. clash_by_kind (cond t Fixed Free) prior ≡ None) [
        | true ↦ refl
        | false ↦ refl
      ]
    ]

pub clash_more : (rules : Rules) (marks : List Mark) (priors : List Prior) (cell : ℕ) (d : Mark) (e : Prior) → length priors ≡ length marks → cell < length priors
    → first_clash rules (take (cell + 1) (zip (told_of marks) priors)) ≡ first_of (first_clash rules (take cell (zip (told_of marks) priors))) (clash_of rules (figures_of_facts (get_or marks cell d).facts) (get_or priors cell e))
clash_more rules marks priors cell d e same inside =
    let known : cell < length marks = omega (arith, inside, same) in
    let many = length-map marks (λ (mark : Mark). figures_of_facts mark.facts) in
    let known_told : cell < length (told_of marks) = omega (arith, known, many) in
    let same_told : length priors ≡ length (told_of marks) = omega (arith, same, many) in
    let one : Figures = figures_of_facts d.facts in
    fold_more (λ first (pair : Figures × Prior). first_of first (clash_of rules pair.0 pair.1)) None (zip (told_of marks) priors) cell (one, e) (within (told_of marks) priors cell same_told inside)
    ∙ ap (λ (pair : Figures × Prior). first_of (first_clash rules (take cell (zip (told_of marks) priors))) (clash_of rules pair.0 pair.1)) (get_or-zip (told_of marks) priors cell (one, e) known_told inside)
    ∙ ap (λ (f : Figures). first_of (first_clash rules (take cell (zip (told_of marks) priors))) (clash_of rules f (get_or priors cell e))) (get_or-map (λ (mark : Mark). figures_of_facts mark.facts) marks cell d one known)

pub all_pairs : (marks : List Mark) (priors : List Prior) → length priors ≡ length marks → take (length priors) (zip (told_of marks) priors) ≡ zip (told_of marks) priors
all_pairs marks priors same =
    let many = length-map marks (λ (mark : Mark). figures_of_facts mark.facts) in
    let e = length-zip (told_of marks) priors in
    let short : length (zip (told_of marks) priors) ≤ length priors = omega (arith, e) in
    take_all (length priors) (zip (told_of marks) priors) short

pub settled_more : (rules : Rules) (marks : List Mark) (priors : List Prior) (i : ℕ) (d : Mark) (e : Prior) (cells : List Cell) (cell : Cell) → length priors ≡ length marks → i < length priors
    → map view_of_cell cells ≡ map (λ (pair : Figures × Prior). settled_cell rules pair.0 pair.1) (take i (zip (told_of marks) priors))
    → view_of_cell cell ≡ settled_cell rules (figures_of_facts (get_or marks i d).facts) (get_or priors i e)
    → map view_of_cell (cells ++ cell ∷ []) ≡ map (λ (pair : Figures × Prior). settled_cell rules pair.0 pair.1) (take (i + 1) (zip (told_of marks) priors))
settled_more rules marks priors i d e cells cell same inside before here =
    let known : i < length marks = omega (arith, inside, same) in
    let many = length-map marks (λ (mark : Mark). figures_of_facts mark.facts) in
    let known_told : i < length (told_of marks) = omega (arith, known, many) in
    let same_told : length priors ≡ length (told_of marks) = omega (arith, same, many) in
    let f : Figures × Prior → SettledCell = λ (pair : Figures × Prior). settled_cell rules pair.0 pair.1 in
    let pairs : List (Figures × Prior) = zip (told_of marks) priors in
    let one : Figures = figures_of_facts d.facts in
    let there : get_or pairs i (one, e) ≡ (figures_of_facts (get_or marks i d).facts, get_or priors i e) =
    get_or-zip (told_of marks) priors i (one, e) known_told inside ∙ ap (λ (x : Figures). (x, get_or priors i e)) (get_or-map (λ (mark : Mark). figures_of_facts mark.facts) marks i d one known) in
    map-append view_of_cell cells (cell ∷ [])
    ∙ ap (λ (xs : List SettledCell). xs ++ view_of_cell cell ∷ []) before
    ∙ ap (λ (x : SettledCell). map f (take i pairs) ++ x ∷ []) (here ∙ sym (ap f there))
    ∙ sym (map-append f (take i pairs) (get_or pairs i (one, e) ∷ []))
    ∙ sym (ap (map f) (take_more pairs i (one, e) (within (told_of marks) priors i same_told inside)))
