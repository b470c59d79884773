-- Texts differ where their lines do.
use Rattle.std.proofs.Common.{◌≡◌, ℕ, ◌+◌, ◌==◌, Bool, true, false, List, [], ◌∷◌, Some, refl, ap, sym, ◌∙◌, subst, if◌then◌else◌}
use Rattle.std.proofs.lemmas.Bool.Decides.{Decides-eqb}
use Rattle.sdc_base.specs.Lines.{with_front}
use Rattle.cert_check.specs.FirstDifference.{first_difference, same_numbers}
use Rattle.cert_check.specs.ReleaseLines.{differing_line}
use Rattle.cert_check.specs.LineLaws.{ended_lines, LinesDiffer}

-- no line is empty
abbrev AreFull : List (List ℕ) → Type 0
AreFull [] = Unit {0}
AreFull ([] ∷ lines) = ⊥
AreFull ((b ∷ line) ∷ lines) = AreFull lines

front_full : (b : ℕ) (lines : List (List ℕ)) → AreFull lines → AreFull (with_front b lines)
front_full b [] full = tt
front_full b ([] ∷ lines) full = absurd full
front_full b ((d ∷ line) ∷ lines) full = full

full : (bytes : List ℕ) → AreFull (ended_lines bytes)
full [] = tt
full (b ∷ bytes) = elim (b == 10) as (λ t. AreFull (if t then (10 ∷ []) ∷ ended_lines bytes else with_front b (ended_lines bytes))) [
  | true ↦ full bytes
  | false ↦ front_full b (ended_lines bytes) (full bytes)
]

same_self : (x : ℕ) → (x == x) ≡ true
same_self x = (Decides-eqb x x).1 refl

-- one byte more in front of both changes nothing
fronts : (k x : ℕ) (xs ys : List (List ℕ)) → AreFull xs → AreFull ys → first_difference same_numbers k (with_front x xs) (with_front x ys) ≡ first_difference same_numbers k xs ys
fronts k x [] [] one other = rw (same_self x) refl
fronts k x [] ([] ∷ ys) one other = absurd other
fronts k x [] ((b ∷ y) ∷ ys) one other = rw (same_self x) refl
fronts k x ([] ∷ xs) ys one other = absurd one
fronts k x ((a ∷ z) ∷ xs) [] one other = rw (same_self x) refl
fronts k x ((a ∷ z) ∷ xs) ([] ∷ ys) one other = absurd other
fronts k x ((a ∷ z) ∷ xs) ((b ∷ y) ∷ ys) one other = rw (same_self x) refl

-- lines that begin with two bytes differ
others : (k x y : ℕ) (xs ys : List (List ℕ)) → (x == y) ≡ false → AreFull xs → AreFull ys → first_difference same_numbers k (with_front x xs) (with_front y ys) ≡ Some k
others k x y [] [] is one other = rw is refl
others k x y [] (b ∷ ys) is one other = rw is refl
others k x y (a ∷ xs) [] is one other = rw is refl
others k x y (a ∷ xs) (b ∷ ys) is one other = rw is refl

first_is : (b : ℕ) (bytes : List ℕ) (k : ℕ) → first_difference same_numbers k [] (if b == 10 then (10 ∷ []) ∷ ended_lines bytes else with_front b (ended_lines bytes)) ≡ Some k
first_is b bytes k = elim (b == 10) as (λ t. first_difference same_numbers k [] (if t then (10 ∷ []) ∷ ended_lines bytes else with_front b (ended_lines bytes)) ≡ Some k) [
  | true ↦ refl
  | false ↦ elim (ended_lines bytes) as (λ l. first_difference same_numbers k [] (with_front b l) ≡ Some k) [
    | [] ↦ refl
    | line ∷ lines ↦ refl
  ]
]

last_is : (b : ℕ) (bytes : List ℕ) (k : ℕ) → first_difference same_numbers k (if b == 10 then (10 ∷ []) ∷ ended_lines bytes else with_front b (ended_lines bytes)) [] ≡ Some k
last_is b bytes k = elim (b == 10) as (λ t. first_difference same_numbers k (if t then (10 ∷ []) ∷ ended_lines bytes else with_front b (ended_lines bytes)) [] ≡ Some k) [
  | true ↦ refl
  | false ↦ elim (ended_lines bytes) as (λ l. first_difference same_numbers k (with_front b l) [] ≡ Some k) [
    | [] ↦ refl
    | line ∷ lines ↦ refl
  ]
]

-- one more byte in front of a line: LF makes a line of its own
abbrev begun : Bool → ℕ → List (List ℕ) → List (List ℕ)
begun feed b lines = if feed then (10 ∷ []) ∷ lines else with_front b lines

differ_by : (s f g : Bool) (k x y : ℕ) (one other : List ℕ) → (x == y) ≡ s → (x == 10) ≡ f → (y == 10) ≡ g → ((first : ℕ) → differing_line first one other ≡ first_difference same_numbers first (ended_lines one) (ended_lines other)) → (if s then differing_line (if f then k + 1 else k) one other else Some k) ≡ first_difference same_numbers k (begun f x (ended_lines one)) (begun g y (ended_lines other))
differ_by true true true k x y one other is feed feeds same = same (k + 1)
differ_by true false false k x y one other is feed feeds same =
    let equal : x ≡ y = (Decides-eqb x y).0 is in
    same k ∙ sym (fronts k x (ended_lines one) (ended_lines other) (full one) (full other)) ∙ ap (λ n. first_difference same_numbers k (with_front x (ended_lines one)) (with_front n (ended_lines other))) equal
differ_by true true false k x y one other is feed feeds same = absurd (let equal : x ≡ y = (Decides-eqb x y).0 is in let bad : true ≡ false = sym feed ∙ ap (λ n. n == 10) equal ∙ feeds in cc)
differ_by true false true k x y one other is feed feeds same = absurd (let equal : x ≡ y = (Decides-eqb x y).0 is in let bad : false ≡ true = sym feed ∙ ap (λ n. n == 10) equal ∙ feeds in cc)
differ_by false true true k x y one other is feed feeds same = absurd (let equal : x ≡ y = (Decides-eqb x 10).0 feed ∙ sym ((Decides-eqb y 10).0 feeds) in let bad : false ≡ true = sym is ∙ (Decides-eqb x y).1 equal in cc)
differ_by false false false k x y one other is feed feeds same = sym (others k x y (ended_lines one) (ended_lines other) is (full one) (full other))
differ_by false true false k x y one other is feed feeds same =
    let ten : x ≡ 10 = (Decides-eqb x 10).0 feed in
    let test : (10 == y) ≡ false = subst (λ n. (n == y) ≡ false) ten is in
    elim (ended_lines other) as (λ l. Some k ≡ first_difference same_numbers k ((10 ∷ []) ∷ ended_lines one) (with_front y l)) [
      | [] ↦ rw test refl
      | line ∷ lines ↦ rw test refl
    ]
differ_by false false true k x y one other is feed feeds same =
    let ten : y ≡ 10 = (Decides-eqb y 10).0 feeds in
    let test : (x == 10) ≡ false = subst (λ n. (x == n) ≡ false) ten is in
    elim (ended_lines one) as (λ l. Some k ≡ first_difference same_numbers k (with_front x l) ((10 ∷ []) ∷ ended_lines other)) [
      | [] ↦ rw test refl
      | line ∷ lines ↦ rw test refl
    ]

pub lines_law : LinesDiffer
lines_law first [] [] = refl
lines_law first [] (y ∷ other) = sym (first_is y other first)
lines_law first (x ∷ one) [] = sym (last_is x one first)
lines_law first (x ∷ one) (y ∷ other) = differ_by (x == y) (x == 10) (y == 10) first x y one other refl refl refl (λ k. lines_law k one other)
