-- Which words ask for which listing.
use Rattle.std.proofs.Common.{◌≡◌, ℕ, ◌==◌, Bool, true, false, List, [], ◌∷◌, length, get_or, None, Some, Result, Err, ◌≢◌, refl, ap, sym, subst, ◌∙◌, bytes_eq, if◌then◌else◌, arith}
use Rattle.std.proofs.lemmas.Bool.Decides.{nat_tests}
use Rattle.std.specs.Prelude.{codes}
use Rattle.std.proofs.lemmas.Slice.Eq.{bytes_eq-Decides}
use Rattle.cell_listing.specs.Asked.{job_and_file_for_intervals, asks_for_intervals, named_with, job_for_release, job_for_relations}
use Rattle.cell_listing.specs.Calls.{job_named}
use Rattle.cell_listing.specs.IntervalRuns.{IsSomeIntervalListingAnswer}
use Rattle.cell_listing.specs.declared.stop.ListingStop.{ListingStop}
use Rattle.cell_listing.specs.declared.stop.ListingStop.TheVariants as stop
use Rattle.std.specs.Prelude.{Vec}
use Rattle.std.specs.declared.alloc.Global.{Global}

-- words with an option name no job alone
pub alone_or_with : (option : List ℕ) (words : List (List ℕ)) (name : List ℕ) → named_with option words ≡ Some name → job_named words ≡ None
alone_or_with option [] name is = refl
alone_or_with option ([] ∷ []) name is = refl
alone_or_with option ((b ∷ rest) ∷ []) name is = absurd cc
alone_or_with option ([] ∷ word ∷ words) name is = refl
alone_or_with option ((b ∷ rest) ∷ word ∷ words) name is = refl

-- words that name a release name no job alone
pub one_of_both : (words : List (List ℕ)) (name : List ℕ) → job_for_release words ≡ Some name → job_named words ≡ None
one_of_both words name is = alone_or_with (codes "--released") words name is

-- words that ask for relations name no job alone
pub no_job_alone : (words : List (List ℕ)) (name : List ℕ) → job_for_relations words ≡ Some name → job_named words ≡ None
no_job_alone words name is = alone_or_with (codes "--relations") words name is

-- words that ask for relations ask for no release
pub one_option : (words : List (List ℕ)) (name : List ℕ) → job_for_relations words ≡ Some name → job_for_release words ≡ None
one_option [] name is = refl
one_option ([] ∷ words) name is = refl
one_option ((b ∷ rest) ∷ []) name is = refl
one_option ((b ∷ rest) ∷ word ∷ []) name is = by (bytes_eq word (codes "--relations")) refl is
  where
    by : (test : Bool) → bytes_eq word (codes "--relations") ≡ test → (if test then Some (b ∷ rest) else None) ≡ Some name → named_with (codes "--released") ((b ∷ rest) ∷ word ∷ []) ≡ None
    by true same is = let word_is : word ≡ codes "--relations" = (bytes_eq-Decides word (codes "--relations")).0 same in rw word_is refl
    by false same is = absurd cc
one_option ((b ∷ rest) ∷ word ∷ other ∷ words) name is = refl

-- words that ask for intervals name no job alone
pub no_job_by_four : (words : List (List ℕ)) (names : List ℕ × List ℕ) → job_and_file_for_intervals words ≡ Some names → job_named words ≡ None
no_job_by_four [] names is = refl
no_job_by_four ([] ∷ words) names is = refl
no_job_by_four ((b ∷ rest) ∷ []) names is = absurd cc
no_job_by_four ((b ∷ rest) ∷ word ∷ words) names is = refl

-- nor with one option
pub no_option_by_four : (option : List ℕ) (words : List (List ℕ)) (names : List ℕ × List ℕ) → job_and_file_for_intervals words ≡ Some names → named_with option words ≡ None
no_option_by_four option [] names is = refl
no_option_by_four option ([] ∷ words) names is = refl
no_option_by_four option ((b ∷ rest) ∷ []) names is = refl
no_option_by_four option ((b ∷ rest) ∷ word ∷ []) names is = absurd cc
no_option_by_four option ((b ∷ rest) ∷ word ∷ other ∷ words) names is = refl

-- four words are those at their places
pub four_words : (words : List (List ℕ)) (name first second file p q r s : List ℕ) → length words ≡ 4 → name ≡ get_or words 0 p → first ≡ get_or words 1 q → second ≡ get_or words 2 r → file ≡ get_or words 3 s → words ≡ name ∷ first ∷ second ∷ file ∷ []
four_words [] name first second file p q r s size in0 in1 in2 in3 = absurd (omega (arith, size))
four_words (a ∷ []) name first second file p q r s size in0 in1 in2 in3 = absurd (omega (arith, size))
four_words (a ∷ b ∷ []) name first second file p q r s size in0 in1 in2 in3 = absurd (omega (arith, size))
four_words (a ∷ b ∷ c ∷ []) name first second file p q r s size in0 in1 in2 in3 = absurd (omega (arith, size))
four_words (a ∷ b ∷ c ∷ d ∷ []) name first second file p q r s size in0 in1 in2 in3 =
    let one : name ≡ a = in0 in
    let two : first ≡ b = in1 in
    let three : second ≡ c = in2 in
    let four : file ≡ d = in3 in
    cc
four_words (a ∷ b ∷ c ∷ d ∷ e ∷ words) name first second file p q r s size in0 in1 in2 in3 = absurd (omega (arith, size))

-- four words name what they ask for
pub four_asked : (name first second file : List ℕ) → (if asks_for_intervals name first second file then Some (name, file) else None) ≡ job_and_file_for_intervals (name ∷ first ∷ second ∷ file ∷ [])
four_asked [] first second file = refl
four_asked (b ∷ name) first second [] = let test : (length (b ∷ name) == 0) ≡ false = grind (arith, nat_tests) in rw test refl
four_asked (b ∷ name) first second (d ∷ file) =
    let test : (length (b ∷ name) == 0) ≡ false = grind (arith, nat_tests) in
    let other : (length (d ∷ file) == 0) ≡ false = grind (arith, nat_tests) in
    rw (test, other) refl

-- four words that ask for intervals, and four that don't
pub named_by_four : (words : List (List ℕ)) (name first second file p q r s : List ℕ) (test : Bool) → length words ≡ 4 → name ≡ get_or words 0 p → first ≡ get_or words 1 q → second ≡ get_or words 2 r → file ≡ get_or words 3 s
    → asks_for_intervals name first second file ≡ test → (if test then Some (name, file) else None) ≡ job_and_file_for_intervals words
named_by_four words name first second file p q r s test size in0 in1 in2 in3 is =
    ap (λ (t : Bool). if t then Some (name, file) else None) (sym is) ∙ four_asked name first second file
    ∙ ap job_and_file_for_intervals (sym (four_words words name first second file p q r s size in0 in1 in2 in3))

-- a run of a listing with intervals ends in no usage
pub no_usage_of : (answer : Result (Vec ℕ Global) ListingStop) → IsSomeIntervalListingAnswer answer → answer ≢ Err stop.Usage
no_usage_of answer it is = subst (λ (one : Result (Vec ℕ Global) ListingStop). IsSomeIntervalListingAnswer one) is it
