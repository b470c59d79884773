-- The cheapest cell, found one after another.
use Rattle.std.proofs.Common.{◌≡◌, ℕ, ◌+◌, ◌<◌, ◌≤◌, inl, inr, Bool, true, false, List, length, Option, None, Some, IfNone, nat_lt, get_or, slice_get, slice_index, arith, refl, ap, sym, ◌∙◌, if◌then◌else◌, below_more}
use Rattle.std.specs.Option.{option_map_or}
use Rattle.std.proofs.lemmas.Bool.Decides.{nat_tests}
use Rattle.std.proofs.lemmas.Option.{slice_get_read, slice_get_past}
use Rattle.sdc_base.specs.declared.cell.Cell.{Cell}
use Rattle.sdc_base.specs.HiddenSets.{is_hidden}
use Rattle.sdc_base.specs.Systems.{Numbers}
use Rattle.repair.specs.HidingOrder.{breaks, breaks_at, ComesFirst, IsCheapest}
use Rattle.repair.specs.Choices.{cheaper_of}

-- of the cells below a number, this is the cheapest that would break a refutation
pub record IsFirstBelow (cells : List Cell) (prices : List ℕ) (flags : List Bool) (counts : Numbers) (n one : ℕ) : Type 0 where
  pub below : one < n
  pub breaking : breaks_at cells flags counts one ≡ true
  pub first : (other : ℕ) → other < n → breaks_at cells flags counts other ≡ true → ComesFirst prices one other

-- the best cell below a number, or that there is none
abbrev pub IsBestBelow : List Cell → List ℕ → List Bool → Numbers → ℕ → Option ℕ → Type 0
IsBestBelow cells prices flags counts n None = (number : ℕ) → number < n → breaks_at cells flags counts number ≡ false
IsBestBelow cells prices flags counts n (Some one) = IsFirstBelow cells prices flags counts n one

-- the cell with a number, as it is read
pub breaks_read : (cells : List Cell) (flags : List Bool) (counts : Numbers) (n : ℕ) (cell : Cell) → n < length cells → cell ≡ get_or cells n cell → breaks_at cells flags counts n ≡ breaks (is_hidden flags n) (counts n) cell
breaks_read cells flags counts n cell within is =
    ap (λ o. option_map_or (breaks (is_hidden flags n) (counts n)) o false) (slice_get_read cells (length cells) n cell refl within is)

clash : {P : Type 0} (b : Bool) → b ≡ true → b ≡ false → P
clash b one other = absurd (let bad : true ≡ false = sym one ∙ other in cc)

-- a cell that wouldn't break it leaves the best as it is
pub best_stays : (cells : List Cell) (prices : List ℕ) (flags : List Bool) (counts : Numbers) (n : ℕ) (best : Option ℕ) → breaks_at cells flags counts n ≡ false → IsBestBelow cells prices flags counts n best → IsBestBelow cells prices flags counts (n + 1) best
best_stays cells prices flags counts n None not_here is = below_more (λ k. breaks_at cells flags counts k ≡ false) n is not_here
best_stays cells prices flags counts n (Some one) not_here is = record {
  below = omega (arith, is.below);
  breaking = is.breaking;
  first = below_more (λ k. breaks_at cells flags counts k ≡ true → ComesFirst prices one k) n is.first (λ here_too. clash (breaks_at cells flags counts n) here_too not_here);
}

first_one : (prices : List ℕ) (n k : ℕ) → (slice_index prices n < slice_index prices k) → ComesFirst prices n k
first_one prices n k less = inl less

itself : (prices : List ℕ) (n : ℕ) → ComesFirst prices n n
itself prices n = inr (refl, omega arith)

-- a lower price than that of a cell that comes before another
lower : (prices : List ℕ) (n one k : ℕ) → slice_index prices n < slice_index prices one → ComesFirst prices one k → ComesFirst prices n k
lower prices n one k less first = elim first [ inl own ↦ inl (omega (arith, less, own)) | inr own ↦ inl (omega (arith, less, own.0)) ]

-- no lower price, and a higher number
no_lower : (prices : List ℕ) (one n : ℕ) → one < n → nat_lt (slice_index prices n) (slice_index prices one) ≡ false → ComesFirst prices one n
no_lower prices one n below not_less =
    elim (nat_lt (slice_index prices one) (slice_index prices n)) as (λ b. nat_lt (slice_index prices one) (slice_index prices n) ≡ b → ComesFirst prices one n) [
      | true ↦ λ is. inl (grind (arith, nat_tests, is))
      | false ↦ λ is. inr (grind (arith, nat_tests, is, not_less), omega (arith, below))
    ] refl

-- a cell that would break it is compared with the best
pub best_more : (cells : List Cell) (prices : List ℕ) (flags : List Bool) (counts : Numbers) (n : ℕ) (best : Option ℕ) → breaks_at cells flags counts n ≡ true → IsBestBelow cells prices flags counts n best → IsBestBelow cells prices flags counts (n + 1) (cheaper_of prices best n)
best_more cells prices flags counts n None here is = record {
  below = omega arith;
  breaking = here;
  first = below_more (λ k. breaks_at cells flags counts k ≡ true → ComesFirst prices n k) n (λ k below breaking. clash (breaks_at cells flags counts k) breaking (is k below)) (λ here_too. itself prices n);
}
best_more cells prices flags counts n (Some one) here is =
    elim (nat_lt (slice_index prices n) (slice_index prices one)) as (λ b. nat_lt (slice_index prices n) (slice_index prices one) ≡ b → IsBestBelow cells prices flags counts (n + 1) (if b then Some n else Some one)) [
      | true ↦ λ less. record {
        below = omega arith;
        breaking = here;
        first = below_more (λ k. breaks_at cells flags counts k ≡ true → ComesFirst prices n k) n (λ k below breaking. lower prices n one k (grind (arith, nat_tests, less)) (is.first k below breaking)) (λ here_too. itself prices n);
      }
      | false ↦ λ no. record {
        below = omega (arith, is.below);
        breaking = is.breaking;
        first = below_more (λ k. breaks_at cells flags counts k ≡ true → ComesFirst prices one k) n is.first (λ here_too. no_lower prices one n is.below no);
      }
    ] refl

-- beyond the cells there is none
past : (cells : List Cell) (flags : List Bool) (counts : Numbers) (k : ℕ) → length cells ≤ k → breaks_at cells flags counts k ≡ false
past cells flags counts k beyond = ap (λ o. option_map_or (breaks (is_hidden flags k) (counts k)) o false) (slice_get_past cells k beyond)

pub none_at_all : (cells : List Cell) (prices : List ℕ) (flags : List Bool) (counts : Numbers) → IsBestBelow cells prices flags counts (length cells) None → (k : ℕ) → breaks_at cells flags counts k ≡ false
none_at_all cells prices flags counts is k =
    elim (nat_lt k (length cells)) as (λ b. nat_lt k (length cells) ≡ b → breaks_at cells flags counts k ≡ false) [
      | true ↦ λ less. is k (grind (arith, nat_tests, less))
      | false ↦ λ no. past cells flags counts k (grind (arith, nat_tests, no))
    ] refl

pub cheapest_of_all : (cells : List Cell) (prices : List ℕ) (flags : List Bool) (counts : Numbers) (one : ℕ) → IsBestBelow cells prices flags counts (length cells) (Some one) → IsCheapest cells prices flags counts one
cheapest_of_all cells prices flags counts one is = record {
  breaking = is.breaking;
  first = λ k breaking.
      elim (nat_lt k (length cells)) as (λ b. nat_lt k (length cells) ≡ b → ComesFirst prices one k) [
        | true ↦ λ less. is.first k (grind (arith, nat_tests, less)) breaking
        | false ↦ λ no. clash (breaks_at cells flags counts k) breaking (past cells flags counts k (grind (arith, nat_tests, no)))
      ] refl;
}

-- counts that are the same make the same cell the cheapest
pub cheapest_same : (cells : List Cell) (prices : List ℕ) (flags : List Bool) (counts other : Numbers) (one : ℕ) → ((n : ℕ) → counts n ≡ other n) → IsCheapest cells prices flags counts one → IsCheapest cells prices flags other one
cheapest_same cells prices flags counts other one same is =
    let own : (n : ℕ) → breaks_at cells flags counts n ≡ breaks_at cells flags other n = λ n. ap (λ k. option_map_or (breaks (is_hidden flags n) k) (slice_get cells n) false) (same n) in
    record {
      breaking = sym (own one) ∙ is.breaking;
      first = λ k breaking. is.first k (own k ∙ breaking);
    }

-- counts that are the same, of sets that are the same, leave no cell where the others leave none
pub none_same : (cells : List Cell) (flags more : List Bool) (counts other : Numbers) (found : Option ℕ) → flags ≡ more → ((n : ℕ) → counts n ≡ other n) → IfNone found ((n : ℕ) → breaks_at cells flags counts n ≡ false) → IfNone found ((n : ℕ) → breaks_at cells more other n ≡ false)
none_same cells flags more counts other (Some one) same each none = tt
none_same cells flags more counts other None same each none =
    λ n. ap (λ k. option_map_or (breaks (is_hidden more n) k) (slice_get cells n) false) (sym (each n)) ∙ ap (λ (f : List Bool). breaks_at cells f counts n) (sym same) ∙ none n
