-- A law of a priori files: the order of their lines changes nothing but which line a fault names (own).
use Rattle.std.specs.Prelude.{◌≡◌, ℕ, List, ◌∷◌, ◌++◌, map, Option, None, Some, option_map, Result, Ok, Err}
use Rattle.sdc_base.specs.Lines.{lines}
use Rattle.apriori.specs.KnownCells.{Basis}
use Rattle.apriori.specs.declared.prior.Prior.{Prior}
use Rattle.apriori.specs.declared.statement.Form.{Form}
use Rattle.apriori.specs.declared.faults.PriorWhy.{PriorWhy}
use Rattle.apriori.specs.Faults.{LineOf}
use Rattle.apriori.specs.Applying.{apply_of}

-- the same lines in another order, which exchanges of neighbours reach
pub data AreReordered : List (List ℕ) → List (List ℕ) → Type 0 where
  same : (texts : List (List ℕ)) → AreReordered texts texts
  exchanged : (front : List (List ℕ)) (one other : List ℕ) (rest texts : List (List ℕ))
      → AreReordered (front ++ other ∷ one ∷ rest) texts → AreReordered (front ++ one ∷ other ∷ rest) texts

-- what is stated of a cell, whatever the line by which it is to be always shown
abbrev pub but_for_line : Prior → Prior
but_for_line prior =
    record {
      status = prior.status;
      keep = option_map (λ at. (at.0, 0)) prior.keep;
      price = prior.price;
      levels = prior.levels;
      bounds = prior.bounds;
    }

-- the priors that an accepted file makes, whatever the lines; none where it is refused
abbrev pub priors_if_accepted : Result (List Prior) (LineOf × PriorWhy) → Option (List Prior)
priors_if_accepted (Ok priors) = Some (map but_for_line priors)
priors_if_accepted (Err fault) = None

-- Files with the same lines in another order are both accepted, with the same priors but for lines, or both refused.
abbrev pub OrderChangesNothing : Type 0
OrderChangesNothing =
    (basis : Basis) (form : Form) (priors : List Prior) (one other : List ℕ) → AreReordered (lines one) (lines other)
    → priors_if_accepted (apply_of basis form priors one) ≡ priors_if_accepted (apply_of basis form priors other)
