-- Lines noted one after another.
use Rattle.std.proofs.Common.{◌≡◌, ℕ, ◌+◌, List, [], ◌∷◌, Ok, refl}
use Rattle.sdc_base.specs.Answers.{Fails}
use Rattle.apriori.specs.KnownCells.{Basis}
use Rattle.apriori.specs.declared.prior.Prior.{Prior}
use Rattle.apriori.specs.declared.statement.Form.{Form}
use Rattle.apriori.specs.declared.faults.PriorError.{PriorError}
use Rattle.apriori.specs.declared.faults.PriorError.TheVariants as prior_error
use Rattle.apriori.specs.Faults.{prior_fault_of}
use Rattle.apriori.specs.Applying.{at_line}
use Rattle.apriori.specs.Noting.{line_noted, lines_noted}

pub lines_next : (basis : Basis) (form : Form) (before line given : ℕ) (priors next : List Prior) (texts after : List (List ℕ)) (text : List ℕ) → texts ≡ text ∷ after → line ≡ before + 1 → given ≡ line
    → at_line form.table line (line_noted basis form line text priors) ≡ Ok next → lines_noted basis form given after next ≡ lines_noted basis form before texts priors
unfolding lines_noted
lines_next basis form before line given priors next texts after text is number same noted = rw (same, is, ← number, noted) refl

pub lines_stop : (e : PriorError) (basis : Basis) (form : Form) (before line : ℕ) (priors : List Prior) (texts after : List (List ℕ)) (text : List ℕ) → texts ≡ text ∷ after → line ≡ before + 1
    → Fails (prior_fault_of e) (at_line form.table line (line_noted basis form line text priors)) → Fails (prior_fault_of e) (lines_noted basis form before texts priors)
unfolding lines_noted
lines_stop prior_error.Memory basis form before line priors texts after text is number noted = tt
lines_stop (prior_error.At table at why) basis form before line priors texts after text is number noted = rw (is, ← number, noted) refl

pub lines_end : (basis : Basis) (form : Form) (before : ℕ) (priors : List Prior) (texts : List (List ℕ)) → texts ≡ [] → lines_noted basis form before texts priors ≡ Ok priors
unfolding lines_noted
lines_end basis form before priors texts is = rw is refl
