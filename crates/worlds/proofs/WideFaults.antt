-- Where multipliers are listed and no bound is missing, a number wider than 128 bits is the one fault of a bound sum.
use Rattle.std.proofs.Common.{◌≡◌, ℕ, ◌+◌, ◌<◌, Bool, true, false, not, ◌&&◌, is_some, List, [], ◌∷◌, length, replicate, Option, Some, slice_get, slice_set, Result, Ok, Err, ℤ, pos, ◌+ℤ◌, ◌≤ℤ◌, ◌<ℤ◌, int_lt, arith, refl, sym, subst, if◌then◌else◌}
use Rattle.std.proofs.lemmas.Int.{ints}
use Rattle.sdc_base.specs.Steps.{◌>>=◌, refuse}
use Rattle.sdc_base.specs.declared.cell.Cell.{Cell}
use Rattle.sdc_base.specs.declared.side.Side.{Side}
use Rattle.sdc_base.specs.declared.system.System.{System}
use Rattle.sdc_base.specs.Forms.{Term, coefficient}
use Rattle.sdc_base.specs.HiddenSets.{is_hidden}
use Rattle.sdc_base.specs.Systems.{Numbers, number_at}
use Rattle.sdc_base.specs.Refutations.{share, AreBounded}
use Rattle.worlds.specs.declared.faults.RefutationFault.{RefutationFault}
use Rattle.worlds.specs.declared.faults.RefutationFault.TheVariants as fault
use Rattle.worlds.specs.declared.multipliers.Multipliers.{Multipliers}
use Rattle.worlds.specs.NumberLists.{IsListed, first_misplaced}
use Rattle.worlds.specs.WorldFaults.{refuse_at}
use Rattle.worlds.specs.BoundedNumbers.{fits_128_bits, within_128_bits, numbers_with_terms}
use Rattle.worlds.specs.RefutationFaults.{share_or_fault, added_share, summed_from, sum_of_bounds, terms_added, IsWideFault}
use Rattle.worlds.proofs.WorldLaws.{passes, passes_none}
use Rattle.worlds.proofs.Lists.{none_where_listed}
use Rattle.worlds.proofs.Held.{Gathering, gathered_says}
use Rattle.worlds.proofs.BoundSums.{Rest, rest_head, rest_tail, bounded_test}
use Rattle.worlds.proofs.RefutationLaws.{zeros_none, terms_inside, from_start}

-- there is a value, or else a number is too wide
abbrev OnlyWide : {X : Type 0} → Result X RefutationFault → Type 0
OnlyWide (Ok x) = Unit {0}
OnlyWide (Err found) = IsWideFault found

then_wide : {A B : Type 0} (r : Result A RefutationFault) (f : A → Result B RefutationFault) → OnlyWide r → ((x : A) → r ≡ Ok x → OnlyWide (f x)) → OnlyWide (r >>= f)
then_wide (Ok x) f one next = next x refl
then_wide (Err found) f one next = one

held_wide : (cell : ℕ) (n : ℤ) → OnlyWide (within_128_bits cell n)
held_wide cell n = elim (fits_128_bits n) as (λ b. OnlyWide (if b then Ok n else Err (fault.Wide cell))) [ true ↦ tt | false ↦ (cell, refl) ]

gathered_wide : (numbers : List ℤ) (terms : List Term) → OnlyWide (numbers_with_terms numbers terms)
gathered_wide numbers [] = tt
gathered_wide numbers (term ∷ terms) = then_wide (within_128_bits term.0 (number_at numbers term.0 +ℤ term.1)) (λ sum. numbers_with_terms (slice_set numbers term.0 sum) terms) (held_wide term.0 (number_at numbers term.0 +ℤ term.1)) (λ sum is. gathered_wide (slice_set numbers term.0 sum) terms)

summed_wide : (cells : List Cell) (flags : List Bool) (k : Numbers) (number : ℕ) (rest : List Cell) (sum : ℤ) → Rest cells number rest → AreBounded cells flags k → OnlyWide (summed_from flags k number sum rest)
summed_wide cells flags k number [] sum all bounded = tt
summed_wide cells flags k number (cell ∷ rest) sum all bounded =
    let hidden : Bool = is_hidden flags number in
    let found : slice_get cells number ≡ Some cell = rest_head cells number cell rest all in
    let wrong : Bool = hidden && (int_lt (pos 0) (k number) && not (is_some cell.high)) in
    let none : wrong ≡ false = bounded_test hidden (k number) cell.high (λ hides up. bounded number cell found hides up) in
    let one : OnlyWide (share_or_fault hidden number (k number) cell) =
    then_wide (refuse (fault.Unbounded number) wrong) (λ _. within_128_bits number (share hidden (k number) cell)) (subst OnlyWide (sym (passes (fault.Unbounded number) wrong none)) tt) (λ _ is. held_wide number (share hidden (k number) cell)) in
    let both : OnlyWide (added_share hidden number (k number) cell sum) = then_wide (share_or_fault hidden number (k number) cell) (λ part. within_128_bits number (sum +ℤ part)) one (λ part is. held_wide number (sum +ℤ part)) in
    then_wide (added_share hidden number (k number) cell sum) (λ next. summed_from flags k (number + 1) next rest) both
    (λ next is. summed_wide cells flags k (number + 1) rest next (rest_tail cells number cell rest all) bounded)

pub only_wide : (system : System) (cells : List Cell) (flags : List Bool) (asked : ℕ) (side : Side) (m : Multipliers) → asked < system.cells → pos 1 ≤ℤ m.den → IsListed (length system.relations) m.by_relation → AreBounded cells flags (coefficient (terms_added system asked side m)) → OnlyWide (sum_of_bounds system cells flags asked side m)
only_wide system cells flags asked side m inside positive listed bounded =
    let terms : List Term = terms_added system asked side m in
    let zeros : List ℤ = replicate system.cells (pos 0) in
    let place : Option ℕ = first_misplaced (length system.relations) 0 0 m.by_relation in
    let last : List ℤ → Result ℤ RefutationFault = λ cs. summed_from flags (number_at cs) 0 (pos 0) cells in
    then_wide (refuse fault.Den (int_lt m.den (pos 1))) (λ _. refuse_at fault.Order place >>= λ _. numbers_with_terms zeros terms >>= last) (subst OnlyWide (sym (passes fault.Den (int_lt m.den (pos 1)) (one_or_more m.den positive))) tt)
    (λ _ one. then_wide (refuse_at fault.Order place) (λ _. numbers_with_terms zeros terms >>= last) (subst OnlyWide (sym (passes_none fault.Order place (none_where_listed (length system.relations) m.by_relation listed))) tt)
    (λ _ two. then_wide (numbers_with_terms zeros terms) last (gathered_wide zeros terms)
    (λ cs is.
    let gathering : Gathering [] terms cs = gathered_says zeros [] terms cs (terms_inside system asked side m inside) (zeros_none system.cells) is in
    summed_wide cells flags (number_at cs) 0 cells (pos 0) (from_start cells) (λ number cell found hides up. bounded number cell found hides (subst (λ z. pos 0 <ℤ z) (gathering.sums number) up)))))
  where
    one_or_more : (z : ℤ) → pos 1 ≤ℤ z → int_lt z (pos 1) ≡ false
    one_or_more z h = grind (arith, ints, h)

pub wide_where : (r : Result ℤ RefutationFault) (found : RefutationFault) → r ≡ Err found → OnlyWide r → IsWideFault found
wide_where r found is only = subst (λ (s : Result ℤ RefutationFault). OnlyWide s) is only
