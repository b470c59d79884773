-- Numbers of cells listed without those of 0.
use Rattle.std.proofs.Common.{◌≡◌, ◌≢◌, ℕ, zero, suc, ◌+◌, ◌<◌, ◌≤◌, ◌==◌, Bool, true, false, List, [], ◌∷◌, ◌++◌, fold, length, All, ℤ, pos, arith, ap, sym, ◌∙◌, refl, subst, inl, inr, if◌then◌else◌}
use Rattle.std.specs.Ordering.{int_eq}
use Rattle.std.proofs.lemmas.Bool.{cases_lt}
use Rattle.std.proofs.lemmas.Bool.Decides.{Decides-int_eq, Decides-eqb, nat_tests}
use Rattle.std.proofs.lemmas.List.{append-nil}
use Rattle.std.proofs.lemmas.List.Elements.{All-nil, All-cons, All-head, All-tail, All-append, All-weaker}
use Rattle.sdc_base.specs.Forms.{Term}
use Rattle.sdc_base.specs.Systems.{Numbers, number_at}
use Rattle.worlds.specs.NumberLists.{Ascend, IsListed, number_given}
use Rattle.flow_worlds.proofs.Listed.{past_end}

-- what is listed of one number
abbrev pub one_listed : Numbers → ℕ → List Term
one_listed numbers n = if int_eq (numbers n) (pos 0) then [] else (n, numbers n) ∷ []

-- what is listed of the first numbers
abbrev pub listed : Numbers → ℕ → List Term
listed numbers zero = []
listed numbers (suc n) = listed numbers n ++ one_listed numbers n

pub listed_more : (numbers : Numbers) (k : ℕ) → listed numbers (k + 1) ≡ listed numbers k ++ one_listed numbers k
listed_more numbers k = ap (λ (n : ℕ). listed numbers n) (let next : k + 1 ≡ suc k = omega arith in next)

-- ---- what is given

fold_more : (c : ℕ) (a : ℤ) (xs ys : List Term) → fold (λ number (t : Term). if t.0 == c then t.1 else number) a (xs ++ ys) ≡ fold (λ number (t : Term). if t.0 == c then t.1 else number) (fold (λ number (t : Term). if t.0 == c then t.1 else number) a xs) ys
fold_more c a [] ys = refl
fold_more c a (x ∷ xs) ys = fold_more c (if x.0 == c then x.1 else a) xs ys

-- a number listed behind others
given_one : (numbers : Numbers) (terms : List Term) (n c : ℕ) → number_given (terms ++ one_listed numbers n) c ≡ (if n == c then (if int_eq (numbers n) (pos 0) then number_given terms c else numbers n) else number_given terms c)
given_one numbers terms n c =
    fold_more c (pos 0) terms (one_listed numbers n)
    ∙ elim (int_eq (numbers n) (pos 0)) as (λ b. fold (λ number (t : Term). if t.0 == c then t.1 else number) (number_given terms c) (if b then [] else (n, numbers n) ∷ []) ≡ (if n == c then (if b then number_given terms c else numbers n) else number_given terms c)) [
      | true ↦ elim (n == c) as (λ b. number_given terms c ≡ (if b then number_given terms c else number_given terms c)) [ true ↦ refl | false ↦ refl ]
      | false ↦ refl
    ]

given_other : (numbers : Numbers) (n c : ℕ) → (n == c) ≡ false → number_given (listed numbers (suc n)) c ≡ number_given (listed numbers n) c
given_other numbers n c apart =
    given_one numbers (listed numbers n) n c
    ∙ ap (λ b. if b then (if int_eq (numbers n) (pos 0) then number_given (listed numbers n) c else numbers n) else number_given (listed numbers n) c) apart

-- nothing is given for a number that isn't below n
given_past : (numbers : Numbers) (n c : ℕ) → n ≤ c → number_given (listed numbers n) c ≡ pos 0
given_past numbers zero c h = refl
given_past numbers (suc n) c h = given_other numbers n c (grind (arith, nat_tests, h)) ∙ given_past numbers n c (omega (arith, h))

-- for a number below n its own is given
given_in : (numbers : Numbers) (n c : ℕ) → c < n → number_given (listed numbers n) c ≡ numbers c
given_in numbers zero c below = absurd (omega (arith, below))
given_in numbers (suc n) c below = by (n == c) refl (λ less. given_in numbers n c less)
  where
    by : (b : Bool) → (n == c) ≡ b → (c < n → number_given (listed numbers n) c ≡ numbers c) → number_given (listed numbers (suc n)) c ≡ numbers c
    by false is before = given_other numbers n c is ∙ before (grind (arith, nat_tests, is, below))
    by true is before =
        let same : n ≡ c = (Decides-eqb n c).0 is in
        let none : number_given (listed numbers n) c ≡ pos 0 = given_past numbers n c (omega (arith, same)) in
        let value : (if int_eq (numbers n) (pos 0) then number_given (listed numbers n) c else numbers n) ≡ numbers c =
        elim (int_eq (numbers n) (pos 0)) as (λ b. int_eq (numbers n) (pos 0) ≡ b → (if b then number_given (listed numbers n) c else numbers n) ≡ numbers c) [
          | true ↦ λ test. none ∙ sym ((Decides-int_eq (numbers n) (pos 0)).0 test) ∙ ap numbers same
          | false ↦ λ test. ap numbers same
        ] refl in
        given_one numbers (listed numbers n) n c
        ∙ ap (λ b. if b then (if int_eq (numbers n) (pos 0) then number_given (listed numbers n) c else numbers n) else number_given (listed numbers n) c) is
        ∙ value

-- of a list of numbers each is given
pub given_all : (moves : List ℤ) (terms : List Term) → terms ≡ listed (number_at moves) (length moves) → (c : ℕ) → number_given terms c ≡ number_at moves c
given_all moves terms is c =
    ap (λ (ts : List Term). number_given ts c) is
    ∙ elim (cases_lt c (length moves)) as (λ _. number_given (listed (number_at moves) (length moves)) c ≡ number_at moves c) [
      | inl below ↦ given_in (number_at moves) (length moves) c below
      | inr past ↦ given_past (number_at moves) (length moves) c past ∙ sym (past_end moves c past)
    ]

-- ---- lists as they are to be

ascend_more : (least : ℕ) (terms : List Term) (m : ℕ) (k : ℤ) → Ascend least terms → All (λ (t : Term). t.0 < m) terms → least ≤ m → Ascend least (terms ++ (m, k) ∷ [])
ascend_more least [] m k up below low = (low, tt)
ascend_more least (t ∷ terms) m k up below low =
    (up.0, ascend_more (t.0 + 1) terms m k up.1 (All-tail (λ (t : Term). t.0 < m) t terms below) (let own : t.0 < m = All-head (λ (t : Term). t.0 < m) t terms below in omega (arith, own)))

pub none_is_listed : (n : ℕ) → IsListed n []
none_is_listed n = record { ascending = tt; named = All-nil (λ (t : Term). t.0 < n); counting = All-nil (λ (t : Term). t.1 ≢ pos 0) }

pub listed_wider : (n : ℕ) (terms : List Term) → IsListed n terms → IsListed (suc n) terms
listed_wider n terms is = record { ascending = is.ascending; named = All-weaker (λ (t : Term). t.0 < n) (λ (t : Term). t.0 < suc n) (λ t h. omega (arith, h)) terms is.named; counting = is.counting }

-- a number more, which isn't 0
pub listed_behind : (n : ℕ) (terms : List Term) (k : ℤ) → k ≢ pos 0 → IsListed n terms → IsListed (suc n) (terms ++ (n, k) ∷ [])
listed_behind n terms k some is = record {
  ascending = ascend_more 0 terms n k is.ascending is.named (omega arith);
  named = All-append (λ (t : Term). t.0 < suc n) terms ((n, k) ∷ []) (listed_wider n terms is).named (All-cons (λ (t : Term). t.0 < suc n) (n, k) [] (omega arith) (All-nil (λ (t : Term). t.0 < suc n)));
  counting = All-append (λ (t : Term). t.1 ≢ pos 0) terms ((n, k) ∷ []) is.counting (All-cons (λ (t : Term). t.1 ≢ pos 0) (n, k) [] some (All-nil (λ (t : Term). t.1 ≢ pos 0)));
}

pub listed_is : (numbers : Numbers) (n : ℕ) → IsListed n (listed numbers n)
listed_is numbers zero = none_is_listed 0
listed_is numbers (suc n) = behind (int_eq (numbers n) (pos 0)) refl (listed_is numbers n)
  where
    behind : (b : Bool) → int_eq (numbers n) (pos 0) ≡ b → IsListed n (listed numbers n) → IsListed (suc n) (listed numbers n ++ (if b then [] else (n, numbers n) ∷ []))
    behind true test is = subst (IsListed (suc n)) (sym (append-nil (listed numbers n))) (listed_wider n (listed numbers n) is)
    behind false test is = listed_behind n (listed numbers n) (numbers n) (λ none. absurd (let yes : int_eq (numbers n) (pos 0) ≡ true = (Decides-int_eq (numbers n) (pos 0)).1 none in let no : true ≡ false = sym yes ∙ test in cc)) is

-- what is listed in the end
pub listed_to_end : (moves : List ℤ) (terms after : List Term) (k : ℕ) → terms ≡ listed (number_at moves) k → length moves ≡ k → after ≡ terms → after ≡ listed (number_at moves) (length moves)
listed_to_end moves terms after k is all same = same ∙ is ∙ ap (λ (n : ℕ). listed (number_at moves) n) (sym all)

pub all_listed : (moves : List ℤ) (terms : List Term) → terms ≡ listed (number_at moves) (length moves) → IsListed (length moves) terms
all_listed moves terms is = subst (IsListed (length moves)) (sym is) (listed_is (number_at moves) (length moves))
