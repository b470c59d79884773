-- A put leaves the files of other names.
use Rattle.std.proofs.Common.{◌≡◌, ◌≢◌, ℕ, List, true, false, Some, if◌then◌else◌, refl, sym}
use Rattle.std.specs.Str.{bytes_eq}
use Rattle.std.proofs.lemmas.Slice.Eq.{bytes_eq-Decides}
use Rattle.office_io.specs.Files.{Files, files_after_put}

pub put_other : (files : Files) (name bytes other : List ℕ) → other ≢ name → files_after_put files name bytes other ≡ files other
put_other files name bytes other differs =
    elim (bytes_eq name other) as (λ same. bytes_eq name other ≡ same → (if same then Some bytes else files other) ≡ files other) [
      | true ↦ λ is. absurd (differs (sym ((bytes_eq-Decides name other).0 is)))
      | false ↦ λ _. refl
    ] refl
