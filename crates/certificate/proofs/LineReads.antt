-- Lines that are read, by what their tokens are read as.
use Rattle.std.proofs.Common.{◌≡◌, ℕ, true, false, List, map, Ok, Err, refl, ℤ}
use Rattle.std.specs.List.{list_all}
use Rattle.sdc_base.specs.Forms.{Term}
use Rattle.sdc_base.specs.declared.side.Side.{Side}
use Rattle.certificate.specs.Numerals.{natural_of, denominator_of, ascends}
use Rattle.certificate.specs.TokenLists.{is_pair, terms_of}
use Rattle.certificate.specs.LineReadings.{side_of, refutation_by}
use Rattle.certificate.specs.declared.faults.CertWhy.TheVariants.{Order}

pub refutation_reads : (subject cell side den : List ℕ) (pairs : List (List ℕ)) (at : Side) (hidden primary : ℕ) (divisor : ℤ) (terms : List Term)
    → side_of side ≡ Ok at → list_all is_pair pairs ≡ true → natural_of 0 subject ≡ Ok hidden → natural_of 0 cell ≡ Ok primary → denominator_of den ≡ Ok divisor → terms_of pairs ≡ Ok terms
    → ascends (map (λ term. term.0) terms) ≡ true
    → refutation_by subject cell side den pairs ≡ Ok (record { subject = hidden; cell = primary; side = at; multipliers = record { den = divisor; by_relation = terms } })
unfolding refutation_by
refutation_reads subject cell side den pairs at hidden primary divisor terms is-side shape is-hidden is-primary is-den is-terms order =
    rw (is-side, shape, is-hidden, is-primary, is-den, is-terms, order) refl

pub refutation_disordered : (subject cell side den : List ℕ) (pairs : List (List ℕ)) (at : Side) (hidden primary : ℕ) (divisor : ℤ) (terms : List Term)
    → side_of side ≡ Ok at → list_all is_pair pairs ≡ true → natural_of 0 subject ≡ Ok hidden → natural_of 0 cell ≡ Ok primary → denominator_of den ≡ Ok divisor → terms_of pairs ≡ Ok terms
    → ascends (map (λ term. term.0) terms) ≡ false
    → refutation_by subject cell side den pairs ≡ Err Order
unfolding refutation_by
refutation_disordered subject cell side den pairs at hidden primary divisor terms is-side shape is-hidden is-primary is-den is-terms order =
    rw (is-side, shape, is-hidden, is-primary, is-den, is-terms, order) refl
