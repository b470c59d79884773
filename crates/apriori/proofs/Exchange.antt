-- Two claims, noted in either order.
use Rattle.std.proofs.Common.{◌≡◌, ℕ, zero, suc, Bool, true, false, cond, List, [], ◌∷◌, Option, None, Some, ℤ, refl, ap, sym, subst, ◌∙◌, eqb, eq-eqb, length, ◌≤◌, ◌<◌, inl, inr}
use Rattle.std.specs.Prelude.{◌||◌, ◌&&◌, ◌==◌, not, slice_index_or, slice_set, if◌then◌else◌}
use Rattle.std.specs.Option.{option_or, option_and_then}
use Rattle.std.specs.Ordering.{int_eq}
use Rattle.std.proofs.lemmas.Bool.{cases_lt}
use Rattle.std.proofs.lemmas.Bool.Decides.{Decides-eqb, Decides-int_eq}
use Rattle.std.proofs.lemmas.List.{get_or-set_same, get_or-set_other, set-set, set_past, get_or_past}
use Rattle.std.proofs.Math.Bool.{or-false}
use Rattle.sdc_base.specs.declared.facts.Levels.{Levels}
use Rattle.apriori.specs.declared.prior.Status.{Status}
use Rattle.apriori.specs.declared.prior.Status.TheVariants.{Unsafe, Safe}
use Rattle.apriori.specs.declared.prior.Prior.{Prior}
use Rattle.apriori.specs.declared.statement.Claim.{Claim}
use Rattle.apriori.specs.declared.statement.Claim.TheVariants as claim
use Rattle.apriori.specs.Faults.{LineOf}
use Rattle.apriori.specs.Priors.{empty_prior}
use Rattle.apriori.specs.CellStatements.{status_in, line_in, price_in, levels_in, bounds_in, is_other_status, is_other_price, are_other_levels, are_other_bounds, contradicts}
use Rattle.apriori.specs.Noting.{with_statement}
use Rattle.apriori.proofs.Together.{same-prior}

or-comm : (a b : Bool) → (a || b) ≡ (b || a)
or-comm true true = refl
or-comm true false = refl
or-comm false true = refl
or-comm false false = refl

-- a test of something said against something that may be said
abbrev pub against : {X : Type 0} → (Option X → X → Bool) → Option X → Option X → Bool
against test earlier None = false
against test earlier (Some x) = test earlier x

-- a test that finds a difference: nothing differs from nothing, it looks the same from both sides, and where it finds none there is none
pub record FindsDifference {X : Type 0} (test : Option X → X → Bool) : Type 0 where
  pub nothing : (x : X) → test None x ≡ false
  pub alike : (x y : X) → test (Some x) y ≡ test (Some y) x
  pub equal : (x y : X) → test (Some x) y ≡ false → x ≡ y

-- the test of two that are said one after another
abbrev pub both : {X : Type 0} → (Option X → X → Bool) → Option X → Option X → Option X → Bool
both test earlier one other = against test earlier one || against test (option_or earlier one) other

either-order : {X : Type 0} (test : Option X → X → Bool) → FindsDifference test → (earlier one other : Option X) → both test earlier one other ≡ both test earlier other one
either-order test finds (Some x) one other = or-comm (against test (Some x) one) (against test (Some x) other)
either-order test finds None None None = refl
either-order test finds None None (Some y) = rw (finds.nothing y) refl
either-order test finds None (Some x) None = rw (finds.nothing x) refl
either-order test finds None (Some x) (Some y) = rw (finds.nothing x, finds.nothing y) (finds.alike x y)

same-value : {X : Type 0} (test : Option X → X → Bool) → FindsDifference test → (earlier one other : Option X) → both test earlier one other ≡ false
    → option_or (option_or earlier one) other ≡ option_or (option_or earlier other) one
same-value test finds (Some x) one other fine = refl
same-value test finds None None None fine = refl
same-value test finds None None (Some y) fine = refl
same-value test finds None (Some x) None fine = refl
same-value test finds None (Some x) (Some y) fine = ap Some (finds.equal x y (rw (sym (ap (λ (t : Bool). t || test (Some x) y) (finds.nothing x))) fine))

status-nothing : (x : Status) → is_other_status None x ≡ false
status-nothing Unsafe = refl
status-nothing Safe = refl

status-alike : (x y : Status) → is_other_status (Some x) y ≡ is_other_status (Some y) x
status-alike Unsafe Unsafe = refl
status-alike Unsafe Safe = refl
status-alike Safe Unsafe = refl
status-alike Safe Safe = refl

status-equal : (x y : Status) → is_other_status (Some x) y ≡ false → x ≡ y
status-equal Unsafe Unsafe h = refl
status-equal Unsafe Safe h = absurd cc
status-equal Safe Unsafe h = absurd cc
status-equal Safe Safe h = refl

status-finds : FindsDifference is_other_status
status-finds = record { nothing = status-nothing; alike = status-alike; equal = status-equal }

not-false : (t : Bool) → not t ≡ false → t ≡ true
not-false true h = refl
not-false false h = absurd cc

both-true : (s t : Bool) → (s && t) ≡ true → (s ≡ true) × (t ≡ true)
both-true true true h = (refl, refl)
both-true true false h = absurd cc
both-true false t h = absurd cc

same-test : (s t : Bool) → (s ≡ true → t ≡ true) → (t ≡ true → s ≡ true) → s ≡ t
same-test true t there back = sym (there refl)
same-test false true there back = back refl
same-test false false there back = refl

int-equal : (x y : ℤ) → int_eq x y ≡ true → x ≡ y
int-equal x y h = (Decides-int_eq x y).0 h

int-alike : (x y : ℤ) → int_eq x y ≡ int_eq y x
int-alike x y = same-test (int_eq x y) (int_eq y x) (λ h. (Decides-int_eq y x).1 (sym (int-equal x y h))) (λ h. (Decides-int_eq x y).1 (sym (int-equal y x h)))

nat-equal : (x y : ℕ) → (x == y) ≡ true → x ≡ y
nat-equal x y h = (Decides-eqb x y).0 h

nat-alike : (x y : ℕ) → (x == y) ≡ (y == x)
nat-alike x y = same-test (x == y) (y == x) (λ h. eq-eqb y x (sym (nat-equal x y h))) (λ h. eq-eqb x y (sym (nat-equal y x h)))

price-finds : FindsDifference is_other_price
price-finds = record {
  nothing = λ x. refl;
  alike = λ x y. ap (λ (t : Bool). not t) (nat-alike x y);
  equal = λ x y h. nat-equal x y (not-false (x == y) h);
}

abbrev pair-of-levels : ℤ → ℤ → Levels
pair-of-levels up down = record { up = up; down = down }

levels-finds : FindsDifference are_other_levels
levels-finds = record {
  nothing = λ x. refl;
  alike = λ x y. ap (λ (t : Bool). not (t && int_eq x.down y.down)) (int-alike x.up y.up) ∙ ap (λ (t : Bool). not (int_eq y.up x.up && t)) (int-alike x.down y.down);
  equal = λ x y h.
      let two = both-true (int_eq x.up y.up) (int_eq x.down y.down) (not-false (int_eq x.up y.up && int_eq x.down y.down) h) in
      ap (λ (n : ℤ). pair-of-levels n x.down) (int-equal x.up y.up two.0) ∙ ap (λ (n : ℤ). pair-of-levels y.up n) (int-equal x.down y.down two.1);
}

abbrev pair-of-bounds : ℤ → ℤ → ℤ × ℤ
pair-of-bounds low high = (low, high)

bounds-finds : FindsDifference are_other_bounds
bounds-finds = record {
  nothing = λ x. refl;
  alike = λ x y. ap (λ (t : Bool). not (t && int_eq x.1 y.1)) (int-alike x.0 y.0) ∙ ap (λ (t : Bool). not (int_eq y.0 x.0 && t)) (int-alike x.1 y.1);
  equal = λ x y h.
      let two = both-true (int_eq x.0 y.0) (int_eq x.1 y.1) (not-false (int_eq x.0 y.0 && int_eq x.1 y.1) h) in
      ap (λ (n : ℤ). pair-of-bounds n x.1) (int-equal x.0 y.0 two.0) ∙ ap (λ (n : ℤ). pair-of-bounds y.0 n) (int-equal x.1 y.1 two.1);
}

-- the tests of all kinds
abbrev four : Bool → Bool → Bool → Bool → Bool
four status price levels bounds = status || (price || (levels || bounds))

kind-by-kind : (prior : Prior) (what : Claim) → contradicts prior what
    ≡ four (against is_other_status prior.status (status_in what)) (against is_other_price prior.price (price_in what)) (against are_other_levels prior.levels (levels_in what)) (against are_other_bounds prior.bounds (bounds_in what))
kind-by-kind prior (claim.Declared status) = sym (or-false (is_other_status prior.status status))
kind-by-kind prior claim.Shown = refl
kind-by-kind prior (claim.Price price) = sym (or-false (is_other_price prior.price price))
kind-by-kind prior (claim.Open levels) = sym (or-false (are_other_levels prior.levels levels))
kind-by-kind prior (claim.Between bounds) = refl

or-assoc : (a b c : Bool) → ((a || b) || c) ≡ (a || (b || c))
or-assoc true b c = refl
or-assoc false b c = refl

swap-middle : (a b c d : Bool) → ((a || b) || (c || d)) ≡ ((a || c) || (b || d))
swap-middle true b c d = refl
swap-middle false true true d = refl
swap-middle false true false d = refl
swap-middle false false true d = refl
swap-middle false false false d = refl

-- two rows of tests, kind by kind
row-by-row : (a b c d e f g h : Bool) → (four a b c d || four e f g h) ≡ four (a || e) (b || f) (c || g) (d || h)
row-by-row a b c d e f g h =
    swap-middle a (b || (c || d)) e (f || (g || h))
    ∙ ap (λ (t : Bool). (a || e) || t) (swap-middle b (c || d) f (g || h) ∙ ap (λ (t : Bool). (b || f) || t) (swap-middle c d g h))

-- a claim, noted without its line
abbrev pub plainly : ℕ → Prior → Claim → Prior
plainly table prior what = with_statement table prior (record { line = 0; cell = 0; claim = what })

-- one of two claims contradicts what is said, or the second the first
abbrev either : ℕ → Prior → Claim → Claim → Bool
either table prior one other = contradicts prior one || contradicts (plainly table prior one) other

either-by-kind : (table : ℕ) (prior : Prior) (one other : Claim) → either table prior one other
    ≡ four (both is_other_status prior.status (status_in one) (status_in other)) (both is_other_price prior.price (price_in one) (price_in other)) (both are_other_levels prior.levels (levels_in one) (levels_in other)) (both are_other_bounds prior.bounds (bounds_in one) (bounds_in other))
either-by-kind table prior one other =
    ap (λ (t : Bool). t || contradicts (plainly table prior one) other) (kind-by-kind prior one)
    ∙ ap (λ (t : Bool). four (against is_other_status prior.status (status_in one)) (against is_other_price prior.price (price_in one)) (against are_other_levels prior.levels (levels_in one)) (against are_other_bounds prior.bounds (bounds_in one)) || t) (kind-by-kind (plainly table prior one) other)
    ∙ row-by-row (against is_other_status prior.status (status_in one)) (against is_other_price prior.price (price_in one)) (against are_other_levels prior.levels (levels_in one)) (against are_other_bounds prior.bounds (bounds_in one))
    (against is_other_status (option_or prior.status (status_in one)) (status_in other)) (against is_other_price (option_or prior.price (price_in one)) (price_in other)) (against are_other_levels (option_or prior.levels (levels_in one)) (levels_in other)) (against are_other_bounds (option_or prior.bounds (bounds_in one)) (bounds_in other))

four-same : (a b c d e f g h : Bool) → a ≡ e → b ≡ f → c ≡ g → d ≡ h → four a b c d ≡ four e f g h
four-same a b c d e f g h p q r s = ap (λ (t : Bool). four t b c d) p ∙ ap (λ (t : Bool). four e t c d) q ∙ ap (λ (t : Bool). four e f t d) r ∙ ap (λ (t : Bool). four e f g t) s

-- whether two claims go together rests on no order
either-order-all : (table : ℕ) (prior : Prior) (one other : Claim) → either table prior one other ≡ either table prior other one
either-order-all table prior one other =
    either-by-kind table prior one other
    ∙ four-same
    (both is_other_status prior.status (status_in one) (status_in other)) (both is_other_price prior.price (price_in one) (price_in other)) (both are_other_levels prior.levels (levels_in one) (levels_in other)) (both are_other_bounds prior.bounds (bounds_in one) (bounds_in other))
    (both is_other_status prior.status (status_in other) (status_in one)) (both is_other_price prior.price (price_in other) (price_in one)) (both are_other_levels prior.levels (levels_in other) (levels_in one)) (both are_other_bounds prior.bounds (bounds_in other) (bounds_in one))
    (either-order is_other_status status-finds prior.status (status_in one) (status_in other))
    (either-order is_other_price price-finds prior.price (price_in one) (price_in other))
    (either-order are_other_levels levels-finds prior.levels (levels_in one) (levels_in other))
    (either-order are_other_bounds bounds-finds prior.bounds (bounds_in one) (bounds_in other))
    ∙ sym (either-by-kind table prior other one)

four-none : (a b c d : Bool) → four a b c d ≡ false → (a ≡ false) × (b ≡ false) × (c ≡ false) × (d ≡ false)
four-none true b c d h = absurd cc
four-none false true c d h = absurd cc
four-none false false true d h = absurd cc
four-none false false false true h = absurd cc
four-none false false false false h = (refl, refl, refl, refl)

or-none : {X : Type 0} (one : Option X) → option_or one None ≡ one
or-none None = refl
or-none (Some x) = refl

line-order : (table : ℕ) (earlier : Option LineOf) (one other : Claim) → option_or (option_or earlier (line_in table 0 one)) (line_in table 0 other) ≡ option_or (option_or earlier (line_in table 0 other)) (line_in table 0 one)
line-order table (Some at) one other = refl
line-order table None claim.Shown claim.Shown = refl
line-order table None claim.Shown (claim.Declared status) = refl
line-order table None claim.Shown (claim.Price price) = refl
line-order table None claim.Shown (claim.Open levels) = refl
line-order table None claim.Shown (claim.Between bounds) = refl
line-order table None (claim.Declared status) other = sym (or-none (line_in table 0 other))
line-order table None (claim.Price price) other = sym (or-none (line_in table 0 other))
line-order table None (claim.Open levels) other = sym (or-none (line_in table 0 other))
line-order table None (claim.Between bounds) other = sym (or-none (line_in table 0 other))

-- two claims that go together make the same of a prior in either order
same-both : (table : ℕ) (prior : Prior) (one other : Claim) → either table prior one other ≡ false → plainly table (plainly table prior one) other ≡ plainly table (plainly table prior other) one
same-both table prior one other fine =
    let none = four-none
    (both is_other_status prior.status (status_in one) (status_in other)) (both is_other_price prior.price (price_in one) (price_in other)) (both are_other_levels prior.levels (levels_in one) (levels_in other)) (both are_other_bounds prior.bounds (bounds_in one) (bounds_in other))
    (sym (either-by-kind table prior one other) ∙ fine) in
    same-prior (plainly table (plainly table prior one) other) (plainly table (plainly table prior other) one)
    (same-value is_other_status status-finds prior.status (status_in one) (status_in other) none.0)
    (line-order table prior.keep one other)
    (same-value is_other_price price-finds prior.price (price_in one) (price_in other) none.1)
    (same-value are_other_levels levels-finds prior.levels (levels_in one) (levels_in other) none.2)
    (same-value are_other_bounds bounds-finds prior.bounds (bounds_in one) (bounds_in other) none.3)

-- a claim about a cell noted in the priors, without its line; none where it contradicts what is said
abbrev pub noted_plainly : ℕ → ℕ → Claim → List Prior → Option (List Prior)
noted_plainly table cell what priors =
    if contradicts (slice_index_or priors cell empty_prior) what then None else Some (slice_set priors cell (plainly table (slice_index_or priors cell empty_prior) what))

-- two tests one after another
two-tests : (first second : Bool) (priors : Option (List Prior)) → cond first None (cond second None priors) ≡ cond (first || second) None priors
two-tests true second priors = refl
two-tests false second priors = refl

then-noted : (table cell : ℕ) (what : Claim) (first : Bool) (priors : List Prior) → option_and_then (noted_plainly table cell what) (cond first None (Some priors)) ≡ cond first None (noted_plainly table cell what priors)
then-noted table cell what true priors = refl
then-noted table cell what false priors = refl

set-apart : (xs : List Prior) (i j : ℕ) (x y : Prior) → (i ≡ j → ⊥) → ◌≡◌ {A = List Prior} (slice_set (slice_set xs i x) j y) (slice_set (slice_set xs j y) i x)
set-apart [] i j x y other = refl
set-apart (a ∷ xs) zero zero x y other = absurd (other refl)
set-apart (a ∷ xs) zero (suc j) x y other = refl
set-apart (a ∷ xs) (suc i) zero x y other = refl
set-apart (a ∷ xs) (suc i) (suc j) x y other = ap (λ (ys : List Prior). a ∷ ys) (set-apart xs i j x y (λ e. other (ap suc e)))

apart : (table i j : ℕ) (one other : Claim) (priors : List Prior) → (i ≡ j → ⊥)
    → option_and_then (noted_plainly table j other) (noted_plainly table i one priors)
    ≡ cond (contradicts (slice_index_or priors i empty_prior) one || contradicts (slice_index_or priors j empty_prior) other) None (Some (slice_set (slice_set priors i (plainly table (slice_index_or priors i empty_prior) one)) j (plainly table (slice_index_or priors j empty_prior) other)))
apart table i j one other priors different =
    let before = slice_index_or priors i empty_prior in
    let there = slice_index_or priors j empty_prior in
    let new = plainly table before one in
    then-noted table j other (contradicts before one) (slice_set priors i new)
    ∙ ap (λ (p : Prior). cond (contradicts before one) None (cond (contradicts p other) None (Some (slice_set (slice_set priors i new) j (plainly table p other))))) (get_or-set_other priors i j new empty_prior (λ e. different (sym e)))
    ∙ two-tests (contradicts before one) (contradicts there other) (Some (slice_set (slice_set priors i new) j (plainly table there other)))

commute-apart : (table i j : ℕ) (one other : Claim) (priors : List Prior) → (i ≡ j → ⊥)
    → option_and_then (noted_plainly table j other) (noted_plainly table i one priors) ≡ option_and_then (noted_plainly table i one) (noted_plainly table j other priors)
commute-apart table i j one other priors different =
    let here = slice_index_or priors i empty_prior in
    let there = slice_index_or priors j empty_prior in
    let last : Option (List Prior) = Some (slice_set (slice_set priors i (plainly table here one)) j (plainly table there other)) in
    apart table i j one other priors different
    ∙ ap (λ (t : Bool). cond t None last) (or-comm (contradicts here one) (contradicts there other))
    ∙ ap (λ (ps : List Prior). cond (contradicts there other || contradicts here one) None (Some ps)) (set-apart priors i j (plainly table here one) (plainly table there other) different)
    ∙ sym (apart table j i other one priors (λ e. different (sym e)))

together : (table i : ℕ) (one other : Claim) (priors : List Prior) → i < length priors
    → option_and_then (noted_plainly table i other) (noted_plainly table i one priors)
    ≡ cond (either table (slice_index_or priors i empty_prior) one other) None (Some (slice_set priors i (plainly table (plainly table (slice_index_or priors i empty_prior) one) other)))
together table i one other priors inside =
    let before = slice_index_or priors i empty_prior in
    let new = plainly table before one in
    then-noted table i other (contradicts before one) (slice_set priors i new)
    ∙ ap (λ (p : Prior). cond (contradicts before one) None (cond (contradicts p other) None (Some (slice_set (slice_set priors i new) i (plainly table p other))))) (get_or-set_same priors i new empty_prior inside)
    ∙ two-tests (contradicts before one) (contradicts new other) (Some (slice_set (slice_set priors i new) i (plainly table new other)))
    ∙ ap (λ (ps : List Prior). cond (either table before one other) None (Some ps)) (set-set priors i new (plainly table new other))

commute-same : (table i : ℕ) (one other : Claim) (priors : List Prior) → i < length priors
    → option_and_then (noted_plainly table i other) (noted_plainly table i one priors) ≡ option_and_then (noted_plainly table i one) (noted_plainly table i other priors)
commute-same table i one other priors inside =
    let before = slice_index_or priors i empty_prior in
    let made : Prior → Option (List Prior) = λ (p : Prior). Some (slice_set priors i p) in
    together table i one other priors inside
    ∙ (elim (either table before one other) as (λ t. either table before one other ≡ t → cond t None (made (plainly table (plainly table before one) other)) ≡ cond t None (made (plainly table (plainly table before other) one))) [
      | true ↦ λ e. refl
      | false ↦ λ e. ap made (same-both table before one other e)
    ] refl)
    ∙ ap (λ (t : Bool). cond t None (made (plainly table (plainly table before other) one))) (either-order-all table before one other)
    ∙ sym (together table i other one priors inside)

blank-fine : (what : Claim) → contradicts empty_prior what ≡ false
blank-fine (claim.Declared Unsafe) = refl
blank-fine (claim.Declared Safe) = refl
blank-fine claim.Shown = refl
blank-fine (claim.Price price) = refl
blank-fine (claim.Open levels) = refl
blank-fine (claim.Between bounds) = refl

no-cell : (table i : ℕ) (what : Claim) (priors : List Prior) → length priors ≤ i → noted_plainly table i what priors ≡ Some priors
no-cell table i what priors past =
    ap (λ (p : Prior). cond (contradicts p what) None (Some (slice_set priors i (plainly table (slice_index_or priors i empty_prior) what)))) (get_or_past priors i empty_prior past)
    ∙ ap (λ (t : Bool). cond t None (Some (slice_set priors i (plainly table (slice_index_or priors i empty_prior) what)))) (blank-fine what)
    ∙ ap (λ (ps : List Prior). Some ps) (set_past priors i (plainly table (slice_index_or priors i empty_prior) what) past)

commute-past : (table i : ℕ) (one other : Claim) (priors : List Prior) → length priors ≤ i
    → option_and_then (noted_plainly table i other) (noted_plainly table i one priors) ≡ option_and_then (noted_plainly table i one) (noted_plainly table i other priors)
commute-past table i one other priors past =
    ap (option_and_then (noted_plainly table i other)) (no-cell table i one priors past) ∙ no-cell table i other priors past
    ∙ sym (ap (option_and_then (noted_plainly table i one)) (no-cell table i other priors past) ∙ no-cell table i one priors past)

commute-one : (table i : ℕ) (one other : Claim) (priors : List Prior)
    → option_and_then (noted_plainly table i other) (noted_plainly table i one priors) ≡ option_and_then (noted_plainly table i one) (noted_plainly table i other priors)
commute-one table i one other priors = elim (cases_lt i (length priors)) as (λ _. option_and_then (noted_plainly table i other) (noted_plainly table i one priors) ≡ option_and_then (noted_plainly table i one) (noted_plainly table i other priors)) [
  | inl inside ↦ commute-same table i one other priors inside
  | inr past ↦ commute-past table i one other priors past
]

-- two claims are noted alike in either order
pub commute : (table i j : ℕ) (one other : Claim) (priors : List Prior)
    → option_and_then (noted_plainly table j other) (noted_plainly table i one priors) ≡ option_and_then (noted_plainly table i one) (noted_plainly table j other priors)
commute table i j one other priors = elim (eqb i j) as (λ t. eqb i j ≡ t → option_and_then (noted_plainly table j other) (noted_plainly table i one priors) ≡ option_and_then (noted_plainly table i one) (noted_plainly table j other priors)) [
  | true ↦ λ e. let same : i ≡ j = (Decides-eqb i j).0 e in subst (λ (k : ℕ). option_and_then (noted_plainly table k other) (noted_plainly table i one priors) ≡ option_and_then (noted_plainly table i one) (noted_plainly table k other priors)) same (commute-one table i one other priors)
  | false ↦ λ e. commute-apart table i j one other priors (λ same. let yes = eq-eqb i j same in cc (yes, e))
] refl
