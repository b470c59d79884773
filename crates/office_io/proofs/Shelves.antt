-- Reading on from a shelf that was only read from.
use Rattle.std.proofs.Common.{◌≡◌, ℕ, ◌<◌, ◌==◌, false, refl, ◌∙◌, arith}
use Rattle.office_io.specs.Shelves.{ShelfState, HasOnlyRead, empty_after}

pub only-read-on : (old mid new : ShelfState) → HasOnlyRead old mid → HasOnlyRead mid new → HasOnlyRead old new
only-read-on old mid new first then = record {
  files = then.files ∙ first.files;
  faults = omega (arith, first.faults, then.faults);
  faults_end = λ below. then.faults_end (first.faults_end below);
  absences = omega (arith, first.absences, then.absences);
  absences_end = λ below. then.absences_end (first.absences_end below);
}

-- a read that gave a byte is counted with none of those that gave none
pub filled : (n old new : ℕ) → 0 < n → new ≡ empty_after old n → new ≡ old
filled n old new some is = let test : (n == 0) ≡ false = grind arith in is ∙ rw test refl
