-- The checker's sum is the bound sum, and comes to an end exactly where no number is wider than 128 bits and no bound is missing.
use Rattle.std.proofs.Common.{◌≡◌, ℕ, ◌+◌, ◌<◌, ◌≤◌, ◌==◌, get_or, Bool, true, false, not, ◌&&◌, List, [], ◌∷◌, length, Option, None, Some, is_some, IsSome, slice_get, Ok, FitsSigned, ℤ, pos, ◌+ℤ◌, ◌<ℤ◌, int_lt, arith, refl, ap, sym, ◌∙◌, subst, add-one}
use Rattle.std.specs.Int.{w128}
use Rattle.std.specs.Option.{option_map_or}
use Rattle.std.proofs.lemmas.Int.{ints, by_lt_z}
use Rattle.std.proofs.lemmas.Bool.Decides.{Decides-eqb, nat_tests}
use Rattle.std.proofs.lemmas.Option.{slice_get_within, get_or_from_slice_get, slice_get-get_or}
use Rattle.sdc_base.specs.Steps.{◌>>=◌, refuse}
use Rattle.sdc_base.proofs.StepLemmas.{bind_ok, bind_same}
use Rattle.sdc_base.specs.declared.cell.Cell.{Cell}
use Rattle.sdc_base.specs.Totals.{sum_below}
use Rattle.sdc_base.specs.HiddenSets.{is_hidden}
use Rattle.sdc_base.specs.Systems.{Numbers}
use Rattle.sdc_base.specs.Refutations.{share, share_at}
use Rattle.worlds.specs.declared.faults.RefutationFault.TheVariants as fault
use Rattle.worlds.specs.BoundedNumbers.{within_128_bits}
use Rattle.worlds.specs.RefutationFaults.{share_or_fault, added_share, summed_from}
use Rattle.worlds.proofs.WorldLaws.{then_ok, not_refused, passes}
use Rattle.worlds.proofs.Held.{held_says, held_passes}

-- ---- one cell

-- a hidden cell with a coefficient above 0 has an upper bound
abbrev pub IsBounded : Bool → ℤ → Cell → Type 0
IsBounded hidden k cell = hidden ≡ true → pos 0 <ℤ k → IsSome cell.high

unbounded_says : (hidden : Bool) (k : ℤ) (cell : Cell) (high : Option ℤ) → cell.high ≡ high → (hidden && (int_lt (pos 0) k && not (is_some high))) ≡ false → hidden ≡ true → pos 0 <ℤ k → IsSome high
unbounded_says hidden k cell (Some high) same is shown up = refl
unbounded_says hidden k cell None same is shown up =
    let test : int_lt (pos 0) k ≡ true = grind (arith, ints, up) in
    let clash : (hidden && (int_lt (pos 0) k && true)) ≡ true = rw (shown, test) refl in
    absurd (let no : true ≡ false = sym clash ∙ is in cc)

pub bounded_test : (hidden : Bool) (k : ℤ) (high : Option ℤ) → (hidden ≡ true → pos 0 <ℤ k → IsSome high) → (hidden && (int_lt (pos 0) k && not (is_some high))) ≡ false
bounded_test false k high bounded = refl
bounded_test true k (Some high) bounded = elim (int_lt (pos 0) k) as (λ b. (true && (b && false)) ≡ false) [ true ↦ refl | false ↦ refl ]
bounded_test true k None bounded =
    by_lt_z (pos 0) k
    (λ up. absurd (let none : IsSome {T = ℤ} None = bounded refl up in cc))
    (λ down. let test : int_lt (pos 0) k ≡ false = grind (arith, ints, down) in rw test refl)

share_says : (hidden : Bool) (number : ℕ) (k : ℤ) (cell : Cell) (part : ℤ) → share_or_fault hidden number k cell ≡ Ok part → (part ≡ share hidden k cell) × FitsSigned w128 (share hidden k cell) × IsBounded hidden k cell
share_says hidden number k cell part ok =
    let wrong : Bool = hidden && (int_lt (pos 0) k && not (is_some cell.high)) in
    let parts = bind_ok (refuse (fault.Unbounded number) wrong) (λ _. within_128_bits number (share hidden k cell)) part ok in
    let own : (part ≡ share hidden k cell) × FitsSigned w128 (share hidden k cell) = held_says number (share hidden k cell) part parts.2 in
    (own.0, own.1, unbounded_says hidden k cell cell.high refl (not_refused (fault.Unbounded number) wrong parts.1))

share_passes : (hidden : Bool) (number : ℕ) (k : ℤ) (cell : Cell) → FitsSigned w128 (share hidden k cell) → IsBounded hidden k cell → share_or_fault hidden number k cell ≡ Ok (share hidden k cell)
share_passes hidden number k cell fits bounded =
    let wrong : Bool = hidden && (int_lt (pos 0) k && not (is_some cell.high)) in
    then_ok (refuse (fault.Unbounded number) wrong) (λ _. within_128_bits number (share hidden k cell)) tt (share hidden k cell)
    (passes (fault.Unbounded number) wrong (bounded_test hidden k cell.high bounded)) (held_passes number (share hidden k cell) fits)

added_says : (hidden : Bool) (number : ℕ) (k : ℤ) (cell : Cell) (sum next : ℤ) → added_share hidden number k cell sum ≡ Ok next → (next ≡ sum +ℤ share hidden k cell) × FitsSigned w128 (share hidden k cell) × FitsSigned w128 (sum +ℤ share hidden k cell) × IsBounded hidden k cell
added_says hidden number k cell sum next ok =
    let parts = bind_ok (share_or_fault hidden number k cell) (λ part. within_128_bits number (sum +ℤ part)) next ok in
    let own : (parts.0 ≡ share hidden k cell) × FitsSigned w128 (share hidden k cell) × IsBounded hidden k cell = share_says hidden number k cell parts.0 parts.1 in
    let later : within_128_bits number (sum +ℤ share hidden k cell) ≡ Ok next = subst (λ p. within_128_bits number (sum +ℤ p) ≡ Ok next) own.0 parts.2 in
    let whole : (next ≡ sum +ℤ share hidden k cell) × FitsSigned w128 (sum +ℤ share hidden k cell) = held_says number (sum +ℤ share hidden k cell) next later in
    (whole.0, own.1, whole.1, own.2)

added_passes : (hidden : Bool) (number : ℕ) (k : ℤ) (cell : Cell) (sum : ℤ) → FitsSigned w128 (share hidden k cell) → FitsSigned w128 (sum +ℤ share hidden k cell) → IsBounded hidden k cell → added_share hidden number k cell sum ≡ Ok (sum +ℤ share hidden k cell)
added_passes hidden number k cell sum fits whole bounded =
    then_ok (share_or_fault hidden number k cell) (λ part. within_128_bits number (sum +ℤ part)) (share hidden k cell) (sum +ℤ share hidden k cell)
    (share_passes hidden number k cell fits bounded) (held_passes number (sum +ℤ share hidden k cell) whole)

-- ---- all cells

-- these are the cells from a number on
abbrev pub Rest : List Cell → ℕ → List Cell → Type 0
Rest cells number rest = (i : ℕ) (cell : Cell) → slice_get rest i ≡ Some cell → slice_get cells (number + i) ≡ Some cell

get_next : (cell : Cell) (rest : List Cell) (i : ℕ) (one : Cell) → slice_get rest i ≡ Some one → slice_get (cell ∷ rest) (i + 1) ≡ Some one
get_next cell rest i one found =
    let within : i < length rest = slice_get_within rest i one found in
    let here : get_or rest i one ≡ one = get_or_from_slice_get rest i one one found in
    slice_get-get_or (cell ∷ rest) (i + 1) one (omega (arith, within)) ∙ ap Some (ap (λ n. get_or (cell ∷ rest) n one) (add-one i) ∙ here)

pub rest_tail : (cells : List Cell) (number : ℕ) (cell : Cell) (rest : List Cell) → Rest cells number (cell ∷ rest) → Rest cells (number + 1) rest
rest_tail cells number cell rest all i one found =
    subst (λ n. slice_get cells n ≡ Some one) (omega arith) (all (i + 1) one (get_next cell rest i one found))

pub rest_head : (cells : List Cell) (number : ℕ) (cell : Cell) (rest : List Cell) → Rest cells number (cell ∷ rest) → slice_get cells number ≡ Some cell
rest_head cells number cell rest all = subst (λ n. slice_get cells n ≡ Some cell) (omega arith) (all 0 cell refl)

same_some : (a b : Cell) → (Some a) ≡ Some b → a ≡ b
same_some a b is = cc

sum_next : (n : ℕ) (f : Numbers) → sum_below (n + 1) f ≡ sum_below n f +ℤ f n
sum_next n f = ap (λ m. sum_below m f) (add-one n)

-- what holds of the cell with a number that is among the rest
pub record Summed (cells : List Cell) (flags : List Bool) (k : Numbers) (from to : ℕ) : Type 0 where
  pub shares : (n : ℕ) → from ≤ n → n < to → FitsSigned w128 (share_at cells flags k n)
  pub sums : (n : ℕ) → from < n → n ≤ to → FitsSigned w128 (sum_below n (share_at cells flags k))
  pub bounds : (n : ℕ) (cell : Cell) → from ≤ n → n < to → slice_get cells n ≡ Some cell → IsBounded (is_hidden flags n) (k n) cell

-- by cases: the first number, or one above it
first_or : (P : ℕ → Type 0) (from n : ℕ) → from ≤ n → P from → ((m : ℕ) → from + 1 ≤ m → m ≡ n → P m) → P n
first_or P from n low here later =
    elim (from == n) as (λ b. (from == n) ≡ b → P n) [
      | true ↦ λ is. subst P ((Decides-eqb from n).0 is) here
      | false ↦ λ is. later n (grind (arith, nat_tests, is, low)) refl
    ] refl

pub summed_says : (cells : List Cell) (flags : List Bool) (k : Numbers) (number : ℕ) (rest : List Cell) (sum total : ℤ) → Rest cells number rest → sum ≡ sum_below number (share_at cells flags k) → summed_from flags k number sum rest ≡ Ok total → (total ≡ sum_below (number + length rest) (share_at cells flags k)) × Summed cells flags k number (number + length rest)
summed_says cells flags k number [] sum total all start ok =
    let same : sum ≡ total = cc in
    let here : number + 0 ≡ number = omega arith in (
      sym same ∙ start ∙ ap (λ n. sum_below n (share_at cells flags k)) (sym here),
      record { shares = λ n low high. absurd (omega (arith, low, high)); sums = λ n low high. absurd (omega (arith, low, high)); bounds = λ n cell low high found. absurd (omega (arith, low, high)) },
    )
summed_says cells flags k number (cell ∷ rest) sum total all start ok =
    let hidden : Bool = is_hidden flags number in
    let f : Numbers = share_at cells flags k in
    let parts = bind_ok (added_share hidden number (k number) cell sum) (λ next. summed_from flags k (number + 1) next rest) total ok in
    let one : (parts.0 ≡ sum +ℤ share hidden (k number) cell) × FitsSigned w128 (share hidden (k number) cell) × FitsSigned w128 (sum +ℤ share hidden (k number) cell) × IsBounded hidden (k number) cell = added_says hidden number (k number) cell sum parts.0 parts.1 in
    let found : slice_get cells number ≡ Some cell = rest_head cells number cell rest all in
    let own : f number ≡ share hidden (k number) cell = ap (λ o. option_map_or (share hidden (k number)) o (pos 0)) found in
    let next : sum +ℤ share hidden (k number) cell ≡ sum_below (number + 1) f = ap (λ s. s +ℤ share hidden (k number) cell) start ∙ ap (λ p. sum_below number f +ℤ p) (sym own) ∙ sym (sum_next number f) in
    let later = summed_says cells flags k (number + 1) rest parts.0 total (rest_tail cells number cell rest all) (one.0 ∙ next) parts.2 in
    let more : number + 1 + length rest ≡ number + length (cell ∷ rest) = omega arith in
    let rests : Summed cells flags k (number + 1) (number + length (cell ∷ rest)) = subst (λ n. Summed cells flags k (number + 1) n) more later.1 in (
      later.0 ∙ ap (λ n. sum_below n f) more,
      record {
        shares = λ n low high. first_or (λ m. m < number + length (cell ∷ rest) → FitsSigned w128 (f m)) number n low (λ _. subst (FitsSigned w128) (sym own) one.1) (λ m above _ below. rests.shares m above below) high;
        sums = λ n low high. first_or (λ m. m ≤ number + length (cell ∷ rest) → FitsSigned w128 (sum_below m f)) (number + 1) n (omega (arith, low)) (λ _. subst (FitsSigned w128) next one.2) (λ m above _ most. rests.sums m (omega (arith, above)) most) high;
        bounds = λ n c low high there. first_or (λ m. m < number + length (cell ∷ rest) → slice_get cells m ≡ Some c → IsBounded (is_hidden flags m) (k m) c) number n low (λ _ at. let same : cell ≡ c = same_some cell c (sym found ∙ at) in subst (IsBounded hidden (k number)) same one.3) (λ m above _ below at. rests.bounds m c above below at) high there;
      },
    )

pub summed_ends : (cells : List Cell) (flags : List Bool) (k : Numbers) (number : ℕ) (rest : List Cell) (sum : ℤ) → Rest cells number rest → sum ≡ sum_below number (share_at cells flags k) → Summed cells flags k number (number + length rest) → summed_from flags k number sum rest ≡ Ok (sum_below (number + length rest) (share_at cells flags k))
summed_ends cells flags k number [] sum all start is =
    let here : number ≡ number + 0 = omega arith in
    ap Ok (start ∙ ap (λ n. sum_below n (share_at cells flags k)) here)
summed_ends cells flags k number (cell ∷ rest) sum all start is =
    let hidden : Bool = is_hidden flags number in
    let f : Numbers = share_at cells flags k in
    let found : slice_get cells number ≡ Some cell = rest_head cells number cell rest all in
    let own : f number ≡ share hidden (k number) cell = ap (λ o. option_map_or (share hidden (k number)) o (pos 0)) found in
    let next : sum +ℤ share hidden (k number) cell ≡ sum_below (number + 1) f = ap (λ s. s +ℤ share hidden (k number) cell) start ∙ ap (λ p. sum_below number f +ℤ p) (sym own) ∙ sym (sum_next number f) in
    let more : number + 1 + length rest ≡ number + length (cell ∷ rest) = omega arith in
    let fits : FitsSigned w128 (share hidden (k number) cell) = subst (FitsSigned w128) own (is.shares number (omega arith) (omega arith)) in
    let whole : FitsSigned w128 (sum +ℤ share hidden (k number) cell) = subst (FitsSigned w128) (sym next) (is.sums (number + 1) (omega arith) (omega arith)) in
    let rests : Summed cells flags k (number + 1) (number + 1 + length rest) = record {
      shares = λ n low high. is.shares n (omega (arith, low)) (omega (arith, high));
      sums = λ n low high. is.sums n (omega (arith, low)) (omega (arith, high));
      bounds = λ n c low high there. is.bounds n c (omega (arith, low)) (omega (arith, high)) there;
    } in
    then_ok (added_share hidden number (k number) cell sum) (λ next. summed_from flags k (number + 1) next rest) (sum +ℤ share hidden (k number) cell) (sum_below (number + length (cell ∷ rest)) f)
    (added_passes hidden number (k number) cell sum fits whole (is.bounds number cell (omega arith) (omega arith) found))
    (summed_ends cells flags k (number + 1) rest (sum +ℤ share hidden (k number) cell) (rest_tail cells number cell rest all) next rests ∙ ap (λ n. Ok (sum_below n f)) more)

-- coefficients that are the same have the same sum
pub summed_same : (flags : List Bool) (f g : Numbers) (number : ℕ) (sum : ℤ) (cells : List Cell) → ((cell : ℕ) → f cell ≡ g cell) → summed_from flags f number sum cells ≡ summed_from flags g number sum cells
summed_same flags f g number sum [] same = refl
summed_same flags f g number sum (cell ∷ cells) same =
    ap (λ z. added_share (is_hidden flags number) number z cell sum >>= λ next. summed_from flags f (number + 1) next cells) (same number)
    ∙ bind_same (added_share (is_hidden flags number) number (g number) cell sum) (λ next. summed_from flags f (number + 1) next cells) (λ next. summed_from flags g (number + 1) next cells) (λ next. summed_same flags f g (number + 1) next cells same)
