-- Words that ask for one thing ask for no other.
use Rattle.std.proofs.Common.{◌≡◌, ℕ, Bool, true, false, if◌then◌else◌, List, [], ◌∷◌, Option, None, Some, refl, ap, ◌∙◌}
use Rattle.std.specs.Prelude.{codes}
use Rattle.std.specs.Str.{bytes_eq}
use Rattle.std.proofs.lemmas.Slice.Eq.{bytes_eq-Decides}
use Rattle.job_run.specs.Commands.{audit_names, run_job, check_job, interval_names, demo_numbers, migration_names, names_behind, seed_and_records}

-- what is given only where a test holds was given, so the test holds
given-where : {A : Type 0} (test : Bool) (o : Option A) (x : A) → (if test then o else None) ≡ Some x → test ≡ true
given-where true o x h = refl
given-where false o x h = absurd cc

-- a word that is one is not another
one-word : (word one other : List ℕ) → bytes_eq one other ≡ false → bytes_eq word one ≡ true → bytes_eq word other ≡ true → ⊥
one-word word one other apart is too =
    let no : bytes_eq word other ≡ false = ap (λ (w : List ℕ). bytes_eq w other) ((bytes_eq-Decides word one).0 is) ∙ apart in absurd cc

pub run-no-check : (words : List (List ℕ)) (name x : List ℕ) → run_job words ≡ Some name → check_job words ≡ Some x → ⊥
run-no-check [] name x run check = absurd cc
run-no-check (word ∷ []) name x run check = absurd cc
run-no-check (word ∷ [] ∷ rest) name x run check = absurd cc
run-no-check (word ∷ (b ∷ own) ∷ []) name x run check =
    one-word word (codes "run") (codes "check") refl (given-where (bytes_eq word (codes "run")) (Some (b ∷ own)) name run) (given-where (bytes_eq word (codes "check")) (Some (b ∷ own)) x check)
run-no-check (word ∷ (b ∷ own) ∷ more ∷ rest) name x run check = absurd cc

-- words that ask for a demonstration have no two names behind another verb
names-no-demo : (verb : List ℕ) (words : List (List ℕ)) (names : List ℕ × List ℕ) (x : ℕ × ℕ) → bytes_eq verb (codes "demo") ≡ false → names_behind verb words ≡ Some names → demo_numbers words ≡ Some x → ⊥
names-no-demo verb [] names x apart asked demo = absurd cc
names-no-demo verb (word ∷ []) names x apart asked demo = absurd cc
names-no-demo verb (word ∷ [] ∷ rest) names x apart asked demo = absurd cc
names-no-demo verb (word ∷ (b ∷ own) ∷ []) names x apart asked demo = absurd cc
names-no-demo verb (word ∷ (b ∷ own) ∷ [] ∷ rest) names x apart asked demo = absurd cc
names-no-demo verb (word ∷ (b ∷ own) ∷ (d ∷ out) ∷ []) names x apart asked demo =
    one-word word verb (codes "demo") apart (given-where (bytes_eq word verb) (Some (b ∷ own, d ∷ out)) names asked)
    (given-where (bytes_eq word (codes "demo")) (seed_and_records (b ∷ own) (d ∷ out)) x demo)
names-no-demo verb (word ∷ (b ∷ own) ∷ (d ∷ out) ∷ more ∷ rest) names x apart asked demo = absurd cc

-- two names stand behind one verb alone
names-apart : (one other : List ℕ) (words : List (List ℕ)) (names x : List ℕ × List ℕ) → bytes_eq one other ≡ false → names_behind one words ≡ Some names → names_behind other words ≡ Some x → ⊥
names-apart one other [] names x apart asked too = absurd cc
names-apart one other (word ∷ []) names x apart asked too = absurd cc
names-apart one other (word ∷ [] ∷ rest) names x apart asked too = absurd cc
names-apart one other (word ∷ (b ∷ own) ∷ []) names x apart asked too = absurd cc
names-apart one other (word ∷ (b ∷ own) ∷ [] ∷ rest) names x apart asked too = absurd cc
names-apart one other (word ∷ (b ∷ own) ∷ (d ∷ out) ∷ []) names x apart asked too =
    one-word word one other apart (given-where (bytes_eq word one) (Some (b ∷ own, d ∷ out)) names asked) (given-where (bytes_eq word other) (Some (b ∷ own, d ∷ out)) x too)
names-apart one other (word ∷ (b ∷ own) ∷ (d ∷ out) ∷ more ∷ rest) names x apart asked too = absurd cc

pub intervals-no-demo : (words : List (List ℕ)) (names : List ℕ × List ℕ) (x : ℕ × ℕ) → interval_names words ≡ Some names → demo_numbers words ≡ Some x → ⊥
intervals-no-demo words names x intervals demo = names-no-demo (codes "intervals") words names x refl intervals demo

pub intervals-no-migration : (words : List (List ℕ)) (names x : List ℕ × List ℕ) → interval_names words ≡ Some names → migration_names words ≡ Some x → ⊥
intervals-no-migration words names x intervals migration = names-apart (codes "intervals") (codes "migrate") words names x refl intervals migration

pub intervals-no-audit : (words : List (List ℕ)) (names x : List ℕ × List ℕ) → interval_names words ≡ Some names → audit_names words ≡ Some x → ⊥
intervals-no-audit words names x intervals audit = names-apart (codes "intervals") (codes "audit") words names x refl intervals audit

pub demo-no-migration : (words : List (List ℕ)) (numbers : ℕ × ℕ) (x : List ℕ × List ℕ) → demo_numbers words ≡ Some numbers → migration_names words ≡ Some x → ⊥
demo-no-migration words numbers x demo migration = names-no-demo (codes "migrate") words x numbers refl migration demo

pub audit-no-demo : (words : List (List ℕ)) (names : List ℕ × List ℕ) (x : ℕ × ℕ) → audit_names words ≡ Some names → demo_numbers words ≡ Some x → ⊥
audit-no-demo words names x audit demo = names-no-demo (codes "audit") words names x refl audit demo

pub audit-no-migration : (words : List (List ℕ)) (names x : List ℕ × List ℕ) → audit_names words ≡ Some names → migration_names words ≡ Some x → ⊥
audit-no-migration words names x audit migration = names-apart (codes "audit") (codes "migrate") words names x refl audit migration
