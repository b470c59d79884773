-- A world over a denominator, brought to lowest terms, is a world.
use Rattle.std.proofs.Common.{◌≡◌, ℕ, ◌<◌, Bool, true, false, List, length, Some, slice_get, slice_index_or, ℤ, pos, ◌+ℤ◌, ◌*ℤ◌, ◌≤ℤ◌, arith, ap, sym, ◌∙◌, refl, subst}
use Rattle.std.proofs.Math.IntN.{*ℤ_comm}
use Rattle.std.proofs.lemmas.Int.{ints}
use Rattle.std.proofs.lemmas.Option.{slice_get_within, slice_get-get_or}
use Rattle.sdc_base.specs.declared.cell.Cell.{Cell}
use Rattle.sdc_base.specs.declared.relation.Relation.{Relation}
use Rattle.sdc_base.specs.declared.side.Side.{Side}
use Rattle.sdc_base.specs.declared.side.Side.TheVariants.{Above, Below}
use Rattle.sdc_base.specs.declared.system.System.{System}
use Rattle.sdc_base.specs.Totals.{sum_of}
use Rattle.sdc_base.specs.Systems.{Numbers, form}
use Rattle.sdc_base.specs.Worlds.{IsWorld, IsWithinBounds, amount_toward}
use Rattle.sdc_base.proofs.WholeNumbers.{distrib, assoc}
use Rattle.sdc_base.proofs.TotalLemmas.{times_sum}
use Rattle.worlds.specs.declared.world.World.{World}
use Rattle.worlds.specs.NumberLists.{IsListed, terms_of, number_given}
use Rattle.worlds.specs.WorldFaults.{IsGivenWorld}
use Rattle.interval_audit.specs.Groups.{Group, members}
use Rattle.interval_audit.specs.Columns.{moves_of}
use Rattle.interval_audit.specs.Readings.{nonzero_terms, IsWorldOf}
use Rattle.interval_audit.proofs.Spread.{times_minus, times_less}
use Rattle.interval_audit.proofs.Moves.{moves_out}
use Rattle.interval_audit.proofs.Amounts.{same_form, named_inside}
use Rattle.interval_audit.proofs.Best.{cancel_le, cancel_same}
use Rattle.interval_audit.proofs.Givens.{given_in, given_out, given_times, listed_is, listed_less}

none_from_times : (by z : ℤ) → pos 1 ≤ℤ by → by *ℤ z ≡ pos 0 → z ≡ pos 0
none_from_times by z positive is = cancel_same by z (pos 0) positive (is ∙ omega (arith, ints, *ℤ_comm by (pos 0)))

form_times_all : (by : ℤ) (g : Numbers) (r : Relation) → form (λ c. by *ℤ g c) r ≡ by *ℤ form g r
form_times_all by g r = omega (arith, ints, times_sum by g r.parts, times_less by (g r.total) (sum_of g r.parts))

-- the bounds of one cell
within_lower : (cell : Cell) (by lower whole move less : ℤ) → pos 1 ≤ℤ by → whole ≡ by *ℤ lower → move ≡ by *ℤ less → IsWithinBounds cell whole move → IsWithinBounds cell lower less
within_lower cell by lower whole move less positive den_is move_is within =
    let value : whole *ℤ cell.truth +ℤ move ≡ by *ℤ (lower *ℤ cell.truth +ℤ less) =
    ap (λ z. z *ℤ cell.truth +ℤ move) den_is ∙ omega (arith, ints, move_is, assoc by lower cell.truth, distrib by (lower *ℤ cell.truth) less) in
    let low : whole *ℤ cell.low ≡ by *ℤ (lower *ℤ cell.low) = ap (λ z. z *ℤ cell.low) den_is ∙ assoc by lower cell.low in
    record {
      from_low = cancel_le by (lower *ℤ cell.low) (lower *ℤ cell.truth +ℤ less) positive (omega (arith, ints, within.from_low, value, low));
      to_high = λ high is.
          let top : whole *ℤ high ≡ by *ℤ (lower *ℤ high) = ap (λ z. z *ℤ high) den_is ∙ assoc by lower high in
          cancel_le by (lower *ℤ cell.truth +ℤ less) (lower *ℤ high) positive (omega (arith, ints, within.to_high high is, value, top));
    }

pub world_lower : (system : System) (cells : List Cell) (flags : List Bool) (by lower whole : ℤ) (moves less : Numbers) → length cells ≡ system.cells → pos 1 ≤ℤ by → pos 1 ≤ℤ lower → whole ≡ by *ℤ lower
    → ((c : ℕ) → c < system.cells → moves c ≡ by *ℤ less c) → IsWorld system cells flags whole moves → IsWorld system cells flags lower less
world_lower system cells flags by lower whole moves less each by_positive positive den_is moves_are world = record {
  positive = positive;
  shown_stay = λ cell inside shown. none_from_times by (less cell) by_positive (sym (moves_are cell inside) ∙ world.shown_stay cell inside shown);
  relations_hold = λ k d inside. holds k (slice_index_or system.relations k d) (slice_get-get_or system.relations k d inside) (world.relations_hold k d inside);
  bounds_hold = λ number cell found. within_lower cell by lower whole (moves number) (less number) by_positive den_is (moves_are number (omega (arith, slice_get_within cells number cell found, each))) (world.bounds_hold number cell found);
}
  where
    holds : (number : ℕ) (r : Relation) → slice_get system.relations number ≡ Some r → form moves r ≡ pos 0 → form less r ≡ pos 0
    holds number r found is =
        let same : form moves r ≡ form (λ c. by *ℤ less c) r = same_form moves (λ c. by *ℤ less c) r (λ c named. moves_are c (named_inside system number r found c named)) in
        none_from_times by (form less r) by_positive (sym (form_times_all by less r) ∙ sym same ∙ is)

-- what a world that is read gives
pub read_moves : (system : System) (group : Group) (den : ℤ) (amounts : Numbers) (world : World) (read : IsWorldOf system group den amounts world) → (c : ℕ) → c < system.cells → moves_of group amounts c ≡ read.by *ℤ number_given (terms_of world.moves) c
read_moves system group den amounts world read c inside =
    let told : number_given (nonzero_terms (moves_of group amounts) (members group system.cells)) c ≡ read.by *ℤ number_given (terms_of world.moves) c = ap (λ ts. number_given ts c) read.each_same ∙ given_times read.by (terms_of world.moves) c in
    by (group c) refl ∙ told
  where
    by : (b : Bool) → group c ≡ b → moves_of group amounts c ≡ number_given (nonzero_terms (moves_of group amounts) (members group system.cells)) c
    by true is = sym (given_in group (moves_of group amounts) system.cells c inside is)
    by false is = moves_out group amounts c is ∙ sym (given_out group (moves_of group amounts) system.cells c is)

-- a world that is read is one
pub read_is_world : (system : System) (cells : List Cell) (flags : List Bool) (group : Group) (den : ℤ) (amounts : Numbers) (world : World) → length cells ≡ system.cells → IsWorld system cells flags den (moves_of group amounts) → IsWorldOf system group den amounts world → IsGivenWorld system cells flags world
read_is_world system cells flags group den amounts world each is read = record {
  listed = listed_less read.by system.cells (terms_of world.moves) (subst (IsListed system.cells) read.each_same (listed_is group (moves_of group amounts) system.cells));
  is_world = world_lower system cells flags read.by world.den den (moves_of group amounts) (number_given (terms_of world.moves)) each read.by_positive read.lowest.positive read.den_same (read_moves system group den amounts world read) is;
}

pub toward_times_by : (side : Side) (by z : ℤ) → amount_toward side (by *ℤ z) ≡ by *ℤ amount_toward side z
toward_times_by Above by z = refl
toward_times_by Below by z = sym (times_minus by z)
