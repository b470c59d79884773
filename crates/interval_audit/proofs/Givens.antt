-- What lists of numbers give, and that they are as lists are to be.
use Rattle.std.proofs.Common.{◌≡◌, ◌≢◌, ℕ, zero, suc, ◌+◌, ◌<◌, ◌≤◌, ◌==◌, Bool, true, false, List, [], ◌∷◌, ◌++◌, fold, All, ℤ, pos, ◌*ℤ◌, arith, ap, sym, ◌∙◌, refl, subst, if◌then◌else◌}
use Rattle.std.specs.List.{flat_map}
use Rattle.std.specs.Ordering.{int_eq}
use Rattle.std.proofs.Math.IntN.{*ℤ_comm}
use Rattle.std.proofs.lemmas.Grind.{flat_map-append}
use Rattle.std.proofs.lemmas.Int.{ints}
use Rattle.std.proofs.lemmas.Bool.Decides.{Decides-int_eq, Decides-eqb, nat_tests}
use Rattle.std.proofs.lemmas.List.{append-nil}
use Rattle.std.proofs.lemmas.List.Elements.{All-nil, All-cons, All-head, All-tail, All-append, All-weaker}
use Rattle.sdc_base.specs.Forms.{Term}
use Rattle.sdc_base.specs.Systems.{Numbers}
use Rattle.worlds.specs.NumberLists.{Ascend, IsListed, number_given}
use Rattle.interval_audit.specs.Groups.{Group, members}
use Rattle.interval_audit.specs.LowestTerms.{times_each}
use Rattle.interval_audit.specs.Readings.{nonzero_terms}
use Rattle.interval_audit.proofs.Ranks.{members-more}
use Rattle.interval_audit.proofs.Members.{All-unmap}

-- what is listed of one number
abbrev pub one_listed : Numbers → ℕ → List Term
one_listed numbers n = if int_eq (numbers n) (pos 0) then [] else (n, numbers n) ∷ []

-- what is listed of one number where it is in the group
abbrev pub tail_listed : Group → Numbers → ℕ → List Term
tail_listed group numbers n = if group n then one_listed numbers n else []

pub nonzero_terms-more : (group : Group) (numbers : Numbers) (n : ℕ) → nonzero_terms numbers (members group (suc n)) ≡ nonzero_terms numbers (members group n) ++ tail_listed group numbers n
nonzero_terms-more group numbers n =
    ap (nonzero_terms numbers) (members-more group n) ∙ flat_map-append (one_listed numbers) (members group n) (if group n then n ∷ [] else [])
    ∙ ap (λ e. nonzero_terms numbers (members group n) ++ e) (elim (group n) as (λ b. flat_map (one_listed numbers) (if b then n ∷ [] else []) ≡ (if b then one_listed numbers n else [])) [ true ↦ append-nil (one_listed numbers n) | false ↦ refl ])

-- ---- what is given

fold_more : (c : ℕ) (a : ℤ) (xs ys : List Term) → fold (λ number (t : Term). if t.0 == c then t.1 else number) a (xs ++ ys) ≡ fold (λ number (t : Term). if t.0 == c then t.1 else number) (fold (λ number (t : Term). if t.0 == c then t.1 else number) a xs) ys
fold_more c a [] ys = refl
fold_more c a (x ∷ xs) ys = fold_more c (if x.0 == c then x.1 else a) xs ys

-- a number listed behind others
given_one : (numbers : Numbers) (terms : List Term) (n c : ℕ) → number_given (terms ++ one_listed numbers n) c ≡ (if n == c then (if int_eq (numbers n) (pos 0) then number_given terms c else numbers n) else number_given terms c)
given_one numbers terms n c =
    fold_more c (pos 0) terms (one_listed numbers n)
    ∙ elim (int_eq (numbers n) (pos 0)) as (λ b. fold (λ number (t : Term). if t.0 == c then t.1 else number) (number_given terms c) (if b then [] else (n, numbers n) ∷ []) ≡ (if n == c then (if b then number_given terms c else numbers n) else number_given terms c)) [
      | true ↦ elim (n == c) as (λ b. number_given terms c ≡ (if b then number_given terms c else number_given terms c)) [ true ↦ refl | false ↦ refl ]
      | false ↦ refl
    ]

given_other : (group : Group) (numbers : Numbers) (n c : ℕ) (b : Bool) → group n ≡ b → (b ≡ true → (n == c) ≡ false) → number_given (nonzero_terms numbers (members group (suc n))) c ≡ number_given (nonzero_terms numbers (members group n)) c
given_other group numbers n c true is apart =
    ap (λ ts. number_given ts c) (nonzero_terms-more group numbers n ∙ ap (λ b. nonzero_terms numbers (members group n) ++ (if b then one_listed numbers n else [])) is)
    ∙ given_one numbers (nonzero_terms numbers (members group n)) n c
    ∙ ap (λ b. if b then (if int_eq (numbers n) (pos 0) then number_given (nonzero_terms numbers (members group n)) c else numbers n) else number_given (nonzero_terms numbers (members group n)) c) (apart refl)
given_other group numbers n c false is apart =
    ap (λ ts. number_given ts c) (nonzero_terms-more group numbers n ∙ ap (λ b. nonzero_terms numbers (members group n) ++ (if b then one_listed numbers n else [])) is ∙ append-nil (nonzero_terms numbers (members group n)))

-- nothing is given for a number that isn't below n, or not in the group
pub given_past : (group : Group) (numbers : Numbers) (n c : ℕ) → n ≤ c → number_given (nonzero_terms numbers (members group n)) c ≡ pos 0
given_past group numbers zero c h = refl
given_past group numbers (suc n) c h =
    given_other group numbers n c (group n) refl (λ own. grind (arith, nat_tests, h)) ∙ given_past group numbers n c (omega (arith, h))

pub given_out : (group : Group) (numbers : Numbers) (n c : ℕ) → group c ≡ false → number_given (nonzero_terms numbers (members group n)) c ≡ pos 0
given_out group numbers zero c out = refl
given_out group numbers (suc n) c out =
    given_other group numbers n c (group n) refl (λ own. apart (n == c) refl own) ∙ given_out group numbers n c out
  where
    apart : (b : Bool) → (n == c) ≡ b → group n ≡ true → b ≡ false
    apart false is own = refl
    apart true is own = absurd (let same : n ≡ c = (Decides-eqb n c).0 is in let no : true ≡ false = sym own ∙ ap group same ∙ out in cc)

-- for a number of the group below n its own is given
pub given_in : (group : Group) (numbers : Numbers) (n c : ℕ) → c < n → group c ≡ true → number_given (nonzero_terms numbers (members group n)) c ≡ numbers c
given_in group numbers zero c below own = absurd (omega (arith, below))
given_in group numbers (suc n) c below own = by (n == c) refl (λ less. given_in group numbers n c less own)
  where
    by : (b : Bool) → (n == c) ≡ b → (c < n → number_given (nonzero_terms numbers (members group n)) c ≡ numbers c) → number_given (nonzero_terms numbers (members group (suc n))) c ≡ numbers c
    by false is before = given_other group numbers n c (group n) refl (λ _. is) ∙ before (grind (arith, nat_tests, is, below))
    by true is before =
        let same : n ≡ c = (Decides-eqb n c).0 is in
        let here : group n ≡ true = ap group same ∙ own in
        let none : number_given (nonzero_terms numbers (members group n)) c ≡ pos 0 = given_past group numbers n c (omega (arith, same)) in
        let value : (if int_eq (numbers n) (pos 0) then number_given (nonzero_terms numbers (members group n)) c else numbers n) ≡ numbers c =
        elim (int_eq (numbers n) (pos 0)) as (λ b. int_eq (numbers n) (pos 0) ≡ b → (if b then number_given (nonzero_terms numbers (members group n)) c else numbers n) ≡ numbers c) [
          | true ↦ λ test. none ∙ sym ((Decides-int_eq (numbers n) (pos 0)).0 test) ∙ ap numbers same
          | false ↦ λ test. ap numbers same
        ] refl in
        ap (λ ts. number_given ts c) (nonzero_terms-more group numbers n ∙ ap (λ b. nonzero_terms numbers (members group n) ++ (if b then one_listed numbers n else [])) here)
        ∙ given_one numbers (nonzero_terms numbers (members group n)) n c
        ∙ ap (λ b. if b then (if int_eq (numbers n) (pos 0) then number_given (nonzero_terms numbers (members group n)) c else numbers n) else number_given (nonzero_terms numbers (members group n)) c) is
        ∙ value

-- of numbers so many times, so many times as much is given
given_times_from : (by : ℤ) (less : List Term) (c : ℕ) (a : ℤ) → fold (λ number (t : Term). if t.0 == c then t.1 else number) (by *ℤ a) (times_each by less) ≡ by *ℤ fold (λ number (t : Term). if t.0 == c then t.1 else number) a less
given_times_from by [] c a = refl
given_times_from by (t ∷ less) c a =
    ap (λ z. fold (λ number (t : Term). if t.0 == c then t.1 else number) z (times_each by less)) (either (t.0 == c)) ∙ given_times_from by less c (if t.0 == c then t.1 else a)
  where
    either : (b : Bool) → (if b then by *ℤ t.1 else by *ℤ a) ≡ by *ℤ (if b then t.1 else a)
    either true = refl
    either false = refl

pub given_times : (by : ℤ) (less : List Term) (c : ℕ) → number_given (times_each by less) c ≡ by *ℤ number_given less c
given_times by less c =
    let none : pos 0 ≡ by *ℤ pos 0 = omega (arith, ints, *ℤ_comm by (pos 0)) in
    ap (λ z. fold (λ number (t : Term). if t.0 == c then t.1 else number) z (times_each by less)) none ∙ given_times_from by less c (pos 0)

-- ---- lists as they are to be

ascend_more : (least : ℕ) (terms : List Term) (m : ℕ) (k : ℤ) → Ascend least terms → All (λ (t : Term). t.0 < m) terms → least ≤ m → Ascend least (terms ++ (m, k) ∷ [])
ascend_more least [] m k up below low = (low, tt)
ascend_more least (t ∷ terms) m k up below low =
    (up.0, ascend_more (t.0 + 1) terms m k up.1 (All-tail (λ (t : Term). t.0 < m) t terms below) (let own : t.0 < m = All-head (λ (t : Term). t.0 < m) t terms below in omega (arith, own)))

pub listed_is : (group : Group) (numbers : Numbers) (n : ℕ) → IsListed n (nonzero_terms numbers (members group n))
listed_is group numbers zero = record { ascending = tt; named = All-nil (λ (t : Term). t.0 < 0); counting = All-nil (λ (t : Term). t.1 ≢ pos 0) }
listed_is group numbers (suc n) = subst (IsListed (suc n)) (sym (nonzero_terms-more group numbers n)) (more (group n) (listed_is group numbers n))
  where
    terms : List Term
    terms = nonzero_terms numbers (members group n)

    wider : IsListed n terms → IsListed (suc n) terms
    wider is = record { ascending = is.ascending; named = All-weaker (λ (t : Term). t.0 < n) (λ (t : Term). t.0 < suc n) (λ t h. omega (arith, h)) terms is.named; counting = is.counting }

    behind : (b : Bool) → int_eq (numbers n) (pos 0) ≡ b → IsListed n terms → IsListed (suc n) (terms ++ (if b then [] else (n, numbers n) ∷ []))
    behind true test is = subst (IsListed (suc n)) (sym (append-nil terms)) (wider is)
    behind false test is = record {
      ascending = ascend_more 0 terms n (numbers n) is.ascending is.named (omega arith);
      named = All-append (λ (t : Term). t.0 < suc n) terms ((n, numbers n) ∷ []) (wider is).named (All-cons (λ (t : Term). t.0 < suc n) (n, numbers n) [] (omega arith) (All-nil (λ (t : Term). t.0 < suc n)));
      counting = All-append (λ (t : Term). t.1 ≢ pos 0) terms ((n, numbers n) ∷ []) is.counting (All-cons (λ (t : Term). t.1 ≢ pos 0) (n, numbers n) [] (λ none. absurd (let yes : int_eq (numbers n) (pos 0) ≡ true = (Decides-int_eq (numbers n) (pos 0)).1 none in let no : true ≡ false = sym yes ∙ test in cc)) (All-nil (λ (t : Term). t.1 ≢ pos 0)));
    }

    more : (b : Bool) → IsListed n terms → IsListed (suc n) (terms ++ (if b then one_listed numbers n else []))
    more true is = behind (int_eq (numbers n) (pos 0)) refl is
    more false is = subst (IsListed (suc n)) (sym (append-nil terms)) (wider is)

ascend_less : (by : ℤ) (least : ℕ) (less : List Term) → Ascend least (times_each by less) → Ascend least less
ascend_less by least [] up = tt
ascend_less by least (t ∷ less) up = (up.0, ascend_less by (t.0 + 1) less up.1)

-- divided numbers are listed as they were
pub listed_less : (by : ℤ) (n : ℕ) (less : List Term) → IsListed n (times_each by less) → IsListed n less
listed_less by n less is = record {
  ascending = ascend_less by 0 less is.ascending;
  named = All-unmap (λ (t : Term). t.0 < n) (λ (t : Term). (t.0, by *ℤ t.1)) less is.named;
  counting = All-weaker (λ (t : Term). by *ℤ t.1 ≢ pos 0) (λ (t : Term). t.1 ≢ pos 0) (λ t h none. h (ap (λ z. by *ℤ z) none ∙ omega (arith, ints, *ℤ_comm by (pos 0)))) less (All-unmap (λ (t : Term). t.1 ≢ pos 0) (λ (t : Term). (t.0, by *ℤ t.1)) less is.counting);
}
