-- Settled cells have the truths of their marks.
use Rattle.std.proofs.Common.{◌≡◌, List, [], ◌∷◌, length, map, Option, None, Some, Ok, refl, ap, ◌∙◌, arith, ℤ}
use Rattle.std.specs.List.{zip}
use Rattle.sdc_base.specs.Steps.{◌>>=◌}
use Rattle.sdc_base.specs.RuleLevels.{Figures}
use Rattle.sdc_base.specs.declared.cell.Cell.{Cell}
use Rattle.sdc_base.specs.declared.rule.Rules.{Rules}
use Rattle.apriori.specs.Faults.{LineOf}
use Rattle.apriori.specs.Settling.{SettledCell, view_of_cell, told_of, settled_cell, settle_of}
use Rattle.apriori.specs.PrimaryShown.{first_clash, refuse_line}
use Rattle.apriori.specs.declared.prior.Prior.{Prior}
use Rattle.linked_tables.specs.declared.mark.Mark.{Mark}

by-cells : (cells : List Cell) → map (λ (one : SettledCell). one.truth) (map view_of_cell cells) ≡ map (λ (cell : Cell). cell.truth) cells
by-cells [] = refl
by-cells (cell ∷ cells) = ap (λ (ts : List ℤ). cell.truth ∷ ts) (by-cells cells)

by-marks : (rules : Rules) (marks : List Mark) (priors : List Prior) → length priors ≡ length marks
    → map (λ (mark : Mark). mark.facts.truth) marks ≡ map (λ (one : SettledCell). one.truth) (map (λ (pair : Figures × Prior). settled_cell rules pair.0 pair.1) (zip (told_of marks) priors))
by-marks rules [] priors many = refl
by-marks rules (mark ∷ marks) [] many = absurd (omega (arith, many))
by-marks rules (mark ∷ marks) (prior ∷ priors) many = ap (λ (ts : List ℤ). mark.facts.truth ∷ ts) (by-marks rules marks priors (omega (arith, many)))

settled-anyway : (line : Option LineOf) (rules : Rules) (pairs : List (Figures × Prior)) (cells : List SettledCell) → (refuse_line line >>= λ fine. Ok (map (λ (pair : Figures × Prior). settled_cell rules pair.0 pair.1) pairs)) ≡ Ok cells
    → map (λ (pair : Figures × Prior). settled_cell rules pair.0 pair.1) pairs ≡ cells
settled-anyway None rules pairs cells h = cc
settled-anyway (Some line) rules pairs cells h = absurd cc

-- the cells that marks are settled to have their truths
pub truths-are : (rules : Rules) (marks : List Mark) (priors : List Prior) (cells : List Cell) → length priors ≡ length marks → settle_of rules (told_of marks) priors ≡ Ok (map view_of_cell cells)
    → map (λ (mark : Mark). mark.facts.truth) marks ≡ map (λ (cell : Cell). cell.truth) cells
unfolding settle_of
truths-are rules marks priors cells many is =
    by-marks rules marks priors many
    ∙ ap (map (λ (one : SettledCell). one.truth)) (settled-anyway (first_clash rules (zip (told_of marks) priors)) rules (zip (told_of marks) priors) (map view_of_cell cells) is)
    ∙ by-cells cells
