-- How long a chain of tables can be.
use Rattle.std.proofs.Common.{◌≡◌, ◌≢◌, ℕ, zero, suc, ◌+◌, ◌<◌, ◌≤◌, ◌^◌, ◌==◌, ◌||◌, eqb, true, false, List, [], ◌∷◌, length, map, slice_index, get_or, arith, refl, sym, subst, ◌∙◌, pow-suc, if◌then◌else◌}
use Rattle.std.specs.List.{list_any, AllByRecursion, IsDistinct}
use Rattle.std.proofs.lemmas.Bool.Decides.{Decides-eqb, nat_tests}
use Rattle.std.proofs.lemmas.Grind.{get_or_default_zero}
use Rattle.std.proofs.lemmas.List.{length-map}
use Rattle.std.proofs.lemmas.List.Folds.{list_any_at, Any-from_list_any}
use Rattle.std.proofs.lemmas.Map.Steps.{length-le_from_distinct_below}
use Rattle.tableau.specs.Tables.{Table}
use Rattle.tableau.specs.declared.problem.Problem.{Problem}
use Rattle.tableau.specs.Problems.{NamesColumns, variable_count}
use Rattle.tableau.specs.RowLists.{Rises, IsBasis, Implies}
use Rattle.tableau.specs.Walks.{IsTableOf, IsChain, ChainsAreShort}
use Rattle.tableau.proofs.Bases.{basis_determines}
use Rattle.tableau.proofs.Chains.{rising_is_transitive, rising_is_apart}
use Rattle.tableau.proofs.Steps.{step_keeps}

-- which of the numbers below this are among some, as bits
abbrev pub bits_of : List ℕ → ℕ → ℕ
bits_of others zero = 0
bits_of others (suc v) = bits_of others v + (if list_any (λ other. other == v) others then 2 ^ v else 0)

twice : (v : ℕ) → 2 ^ suc v ≡ 2 ^ v + 2 ^ v
twice v = pow-suc 2 v ∙ omega arith

below_bits : (others : List ℕ) (n : ℕ) → bits_of others n < 2 ^ n
below_bits others zero = omega arith
below_bits others (suc v) =
    elim (list_any (λ other. other == v) others) as (λ b. bits_of others v + (if b then 2 ^ v else 0) < 2 ^ suc v) [
      | true ↦ omega (arith, below_bits others v, twice v)
      | false ↦ omega (arith, below_bits others v, twice v)
    ]

-- equal bits, equal sets
same_bits : (a b : List ℕ) (n : ℕ) → bits_of a n ≡ bits_of b n → (v : ℕ) → v < n → list_any (λ x. x == v) a ≡ list_any (λ x. x == v) b
same_bits a b zero same v below = absurd (omega arith)
same_bits a b (suc m) same v below =
    let top : (list_any (λ x. x == m) a ≡ list_any (λ x. x == m) b) × (bits_of a m ≡ bits_of b m) =
    elim (list_any (λ x. x == m) a) as (λ p. bits_of a m + (if p then 2 ^ m else 0) ≡ bits_of b (suc m) → (p ≡ list_any (λ x. x == m) b) × (bits_of a m ≡ bits_of b m)) [
      | true ↦ elim (list_any (λ x. x == m) b) as (λ q. bits_of a m + 2 ^ m ≡ bits_of b m + (if q then 2 ^ m else 0) → (true ≡ q) × (bits_of a m ≡ bits_of b m)) [
        | true ↦ λ e. (refl, omega arith)
        | false ↦ λ e. absurd (omega (arith, below_bits b m))
      ]
      | false ↦ elim (list_any (λ x. x == m) b) as (λ q. bits_of a m + 0 ≡ bits_of b m + (if q then 2 ^ m else 0) → (false ≡ q) × (bits_of a m ≡ bits_of b m)) [
        | true ↦ λ e. absurd (omega (arith, below_bits a m))
        | false ↦ λ e. (refl, omega arith)
      ]
    ] same in
    elim (v == m) as (λ t. (v == m) ≡ t → list_any (λ x. x == v) a ≡ list_any (λ x. x == v) b) [
      | true ↦ λ is. let at : v ≡ m = (Decides-eqb v m).0 is in subst (λ w. list_any (λ x. x == w) a ≡ list_any (λ x. x == w) b) (sym at) top.0
      | false ↦ λ is. let less : v < m = grind (arith, nat_tests, is) in same_bits a b m top.1 v less
    ] refl

-- a number among some, and where
held_at : (xs : List ℕ) (k : ℕ) → k < length xs → list_any (λ x. x == slice_index xs k) xs ≡ true
held_at xs k below = let test : (get_or xs k 0 == slice_index xs k) ≡ true = grind (arith, nat_tests) in list_any_at (λ x. x == slice_index xs k) xs k 0 below test

pub bases_differ : (problem : Problem) (one other : Table) → IsTableOf problem one → IsTableOf problem other → Rises problem one other → bits_of one.others (variable_count problem) ≢ bits_of other.others (variable_count problem)
bases_differ problem one other kept also rises same =
    let basis : IsBasis one = record { distinct = kept.basis.members; apart = kept.basis.apart } in
    let says : Implies one other = λ amounts objective whole holds. also.from_start amounts objective whole (kept.to_start amounts objective whole holds) in
    let apart : (j k : ℕ) → j < length one.members → k < length other.others → slice_index one.members j ≢ slice_index other.others k = λ j k j_below k_below clash.
    let v : ℕ = slice_index other.others k in
    let among : list_any (λ x. x == v) one.others ≡ true = same_bits one.others other.others (variable_count problem) same v (also.basis.others_below k k_below) ∙ held_at other.others k k_below in
    let place = Any-from_list_any (λ x. x == v) one.others among in
    let at : slice_index one.others place.0 ≡ v = sym (get_or_default_zero one.others place.0 place.1 place.2) ∙ place.3 ∙ (Decides-eqb place.1 v).0 place.4 in
    kept.basis.apart j place.0 j_below place.2 (clash ∙ sym at)
    in
    rising_is_apart problem one other rises (basis_determines problem one other kept.shaped also.shaped basis says apart)

further : (problem : Problem) (before table : Table) → IsTableOf problem before → IsTableOf problem table → Rises problem before table → (more : List Table) → AllByRecursion (λ e. IsTableOf problem e × Rises problem e before) more → AllByRecursion (λ e. IsTableOf problem e × Rises problem e table) more
further problem before table kept also rises [] all = tt
further problem before table kept also rises (e ∷ more) all =
    ((all.0.0, rising_is_transitive problem e before table all.0.0.above_zero kept.above_zero also.above_zero all.0.1 rises), further problem before table kept also rises more all.1)

-- all earlier tables of a chain are kept, and the objective's list of the last is above theirs
pub all_rise : (problem : Problem) → NamesColumns problem → (table : Table) (rest : List Table) → IsChain problem (table ∷ rest) → IsTableOf problem table × AllByRecursion (λ earlier. IsTableOf problem earlier × Rises problem earlier table) rest
all_rise problem formed table [] chain = (chain, tt)
all_rise problem formed table (before ∷ more) chain =
    let earlier : IsTableOf problem before × AllByRecursion (λ e. IsTableOf problem e × Rises problem e before) more = all_rise problem formed before more chain.1 in
    let step : IsTableOf problem table × Rises problem before table = step_keeps problem before table chain.0.0 chain.0.1 chain.0.2 formed earlier.0 chain.0.3 in
    (step.0, ((earlier.0, step.1), further problem before table earlier.0 step.0 step.1 more earlier.1))

pub apart_test : (a b : ℕ) → a ≢ b → eqb b a ≡ false
apart_test a b apart = grind (arith, nat_tests)

other_codes : (problem : Problem) (table : Table) → IsTableOf problem table → (rest : List Table) → AllByRecursion (λ e. IsTableOf problem e × Rises problem e table) rest → AllByRecursion (λ c. eqb (bits_of table.others (variable_count problem)) c ≡ false) (map (λ (t : Table). bits_of t.others (variable_count problem)) rest)
other_codes problem table kept [] all = tt
other_codes problem table kept (e ∷ rest) all =
    let apart : bits_of e.others (variable_count problem) ≢ bits_of table.others (variable_count problem) = bases_differ problem e table all.0.0 kept all.0.1 in
    (apart_test (bits_of e.others (variable_count problem)) (bits_of table.others (variable_count problem)) apart, other_codes problem table kept rest all.1)

distinct_codes : (problem : Problem) → NamesColumns problem → (tables : List Table) → IsChain problem tables → IsDistinct eqb (map (λ (t : Table). bits_of t.others (variable_count problem)) tables)
unfolding IsDistinct
distinct_codes problem formed [] chain = tt
distinct_codes problem formed (table ∷ []) chain = (tt, tt)
distinct_codes problem formed (table ∷ before ∷ more) chain =
    let all : IsTableOf problem table × AllByRecursion (λ e. IsTableOf problem e × Rises problem e table) (before ∷ more) = all_rise problem formed table (before ∷ more) chain in
    (other_codes problem table all.0 (before ∷ more) all.1, distinct_codes problem formed (before ∷ more) chain.1)

codes_below : (problem : Problem) (tables : List Table) (q : ℕ) → list_any (eqb q) (map (λ (t : Table). bits_of t.others (variable_count problem)) tables) ≡ true → q < 2 ^ variable_count problem
codes_below problem [] q among = cc
codes_below problem (table ∷ rest) q among =
    elim (eqb q (bits_of table.others (variable_count problem))) as (λ b. eqb q (bits_of table.others (variable_count problem)) ≡ b → (b || list_any (eqb q) (map (λ (t : Table). bits_of t.others (variable_count problem)) rest)) ≡ true → q < 2 ^ variable_count problem) [
      | true ↦ λ is _. let same : q ≡ bits_of table.others (variable_count problem) = (Decides-eqb q (bits_of table.others (variable_count problem))).0 is in omega (arith, below_bits table.others (variable_count problem))
      | false ↦ λ _ later. codes_below problem rest q later
    ] refl among

pub chains_are_short : ChainsAreShort
chains_are_short problem tables formed chain =
    let codes : List ℕ = map (λ (t : Table). bits_of t.others (variable_count problem)) tables in
    let long : length codes ≡ length tables = length-map tables (λ (t : Table). bits_of t.others (variable_count problem)) in
    let most : length codes ≤ 2 ^ variable_count problem = length-le_from_distinct_below codes (2 ^ variable_count problem) (distinct_codes problem formed tables chain) (codes_below problem tables) in
    omega arith
