-- The ends of a cell's values, by the answers of its questions.
use Rattle.std.proofs.Common.{◌≡◌, ◌↔◌, IsTrue, ℕ, ◌<◌, ◌^◌, Bool, List, All, length, slice_get, slice_index_or, Some, ℤ, pos, ◌+ℤ◌, ◌-ℤ◌, ◌*ℤ◌, ◌≤ℤ◌, arith, refl, ap, sym, subst, ◌∙◌}
use Rattle.std.proofs.Math.IntN.{*ℤ_comm}
use Rattle.std.proofs.lemmas.Int.{ints}
use Rattle.std.proofs.lemmas.Option.{get_or_from_slice_get, slice_get-get_or, slice_get_within}
use Rattle.sdc_base.specs.declared.cell.Cell.{Cell}
use Rattle.sdc_base.specs.declared.side.Side.{Side}
use Rattle.sdc_base.specs.declared.side.Side.TheVariants.{Above, Below}
use Rattle.sdc_base.specs.declared.system.System.{System}
use Rattle.sdc_base.specs.Forms.{coefficient}
use Rattle.sdc_base.specs.Refutations.{bound_sum}
use Rattle.sdc_base.specs.Systems.{Numbers, number_at}
use Rattle.sdc_base.specs.Worlds.{IsWorld, Reaches, amount_toward, level, value_over}
use Rattle.sdc_base.proofs.WholeNumbers.{distrib, times_up}
use Rattle.worlds.specs.declared.multipliers.Multipliers.{Multipliers}
use Rattle.worlds.specs.declared.world.World.{World}
use Rattle.worlds.specs.NumberLists.{number_given, terms_of}
use Rattle.worlds.specs.RefutationFaults.{IsGivenSum, terms_added}
use Rattle.worlds.specs.WorldFaults.{IsGivenWorld}
use Rattle.sdc_base.specs.declared.fraction.Fraction.{Fraction}
use Rattle.interval_audit.specs.declared.question.Question.{Question}
use Rattle.interval_audit.specs.Answers.{ReachesTarget, StopsShort, asked_move_in}
use Rattle.interval_audit.specs.Ends.{IsEndQuestion}
use Rattle.interval_audit.specs.QuestionLaws.{IsBest}
use Rattle.interval_audit.proofs.Best.{cancel_le}
use Rattle.cell_intervals.specs.Intervals.{IsIntervalOf, IsLeastValue, IsUpperEnd}
use Rattle.cell_intervals.specs.declared.interval.CellInterval.{CellInterval}
use Rattle.cell_intervals.specs.declared.interval.UpperEnd.{UpperEnd}
use Rattle.cell_intervals.specs.declared.interval.UpperEnd.TheVariants.{At, Open}
use Rattle.cell_intervals.specs.declared.ratio.Ratio.{Ratio}
use Rattle.rounding_audit.specs.Audits.{IsAuditedEnd, IsFraction, IsNoFurther, distance_over}
use Rattle.rounding_audit.specs.EndValues.{IsEndValue, IsEndValueOf}
use Rattle.rounding_audit.specs.Readers.{AreReaderCells, IsCovered, IsReaderCell, all_hidden, reader_high}
use Rattle.rounding_audit.proofs.Amounts.{amount_attained, amount_within, as_far, bounds_distance, fraction_attained, meets}
use Rattle.rounding_audit.proofs.Bounds.{high_few}
use Rattle.rounding_audit.proofs.ReaderWorlds.{reader_world, world_of_reader}

-- ---- no world takes a cell as far as is asked

high_value : (base shown : ℤ) (cell one : Cell) (den move : ℤ) → IsReaderCell base shown cell one → pos 1 ≤ℤ den → ((high : ℤ) → one.high ≡ Some high → value_over den one move ≤ℤ (den *ℤ high)) → value_over den one move ≤ℤ (den *ℤ pos (10 ^ 29))
high_value base shown cell one den move fits some to_high =
    let within = to_high (reader_high base shown cell) fits.high in
    let few = times_up den (reader_high base shown cell) (pos (10 ^ 29)) (omega (arith, ints, some)) (high_few base shown cell) in
    omega (arith, ints, within, few)

never_far : (side : Side) (base shown : ℤ) (cell one : Cell) (den move : ℤ) → IsReaderCell base shown cell one → one.truth ≤ℤ pos (10 ^ 29) → pos 1 ≤ℤ den → (den *ℤ one.low) ≤ℤ value_over den one move → ((high : ℤ) → one.high ≡ Some high → value_over den one move ≤ℤ (den *ℤ high))
    → amount_toward side move ≡ den *ℤ pos (2 ^ 110) → ⊥
never_far Above base shown cell one den move fits few some from_low to_high far =
    let most = high_value base shown cell one den move fits some to_high in
    let truth = times_up den (pos 0) one.truth (omega (arith, ints, some)) (omega (arith, ints, one.low_from_zero, one.low_within)) in
    let less : pos (2 ^ 110) ≤ℤ pos (10 ^ 29) = cancel_le den (pos (2 ^ 110)) (pos (10 ^ 29)) some (omega (arith, ints, most, truth, far, *ℤ_comm den (pos 0))) in
    omega (arith, ints, less)
never_far Below base shown cell one den move fits few some from_low to_high far =
    let low = times_up den (pos 0) one.low (omega (arith, ints, some)) one.low_from_zero in
    let less : pos (2 ^ 110) ≤ℤ one.truth = cancel_le den (pos (2 ^ 110)) one.truth some (omega (arith, ints, from_low, low, far, *ℤ_comm den (pos 0))) in
    omega (arith, ints, less, few)

pub never_reached : (system : System) (cells : List Cell) (values : List ℤ) (base : ℤ) (known : List Cell) (number : ℕ) (one : Cell) (side : Side) (den : ℤ) (moves : Numbers) → AreReaderCells cells values base known → slice_get known number ≡ Some one → one.truth ≤ℤ pos (10 ^ 29) → IsWorld system known (all_hidden system.cells) den moves
    → amount_toward side (moves number) ≡ den *ℤ pos (2 ^ 110) → ⊥
never_reached system cells values base known number one side den moves are found few world far =
    let cell : Cell = slice_index_or cells number one in
    let there : slice_get cells number ≡ Some cell = slice_get-get_or cells number one (omega (arith, are.each, slice_get_within known number one found)) in
    let bounds = world.bounds_hold number one found in
    never_far side base (number_at values number) cell one den (moves number) (are.bounded number cell one there found) few world.positive bounds.from_low bounds.to_high far

-- ---- the end by the answer

-- no world goes further than the end
further_than : (system : System) (known : List Cell) (flags : List Bool) (number : ℕ) (cell : Cell) (side : Side) (value : Ratio) → IsEndValueOf system known flags number cell side value → (den : ℤ) (moves : Numbers) → IsWorld system known flags den moves → IsNoFurther side value den (value_over den cell (moves number))
further_than system known flags number cell Below value end den moves world = end.least den moves world
further_than system known flags number cell Above value end den moves world = end.greatest den moves world

record IsAttainedBy (system : System) (known : List Cell) (flags : List Bool) (number : ℕ) (cell : Cell) (value : Ratio) : Type 0 where
  den : ℤ
  moves : Numbers
  world : IsWorld system known flags den moves
  attained : IsFraction value den (value_over den cell (moves number))

-- and some world attains it
attained_by : (system : System) (known : List Cell) (flags : List Bool) (number : ℕ) (cell : Cell) (side : Side) (value : Ratio) → IsEndValueOf system known flags number cell side value → IsAttainedBy system known flags number cell value
attained_by system known flags number cell Below value end = record { den = end.attained.0; moves = end.attained.1; world = end.attained.2; attained = end.attained.3 }
attained_by system known flags number cell Above value end = record { den = end.attained.0; moves = end.attained.1; world = end.attained.2; attained = end.attained.3 }

-- so the world of an answer attains it
pub own_amount : (system : System) (known : List Cell) (flags : List Bool) (number : ℕ) (cell : Cell) (side : Side) (value : Ratio) (w m : ℤ) (moves : Numbers) → IsEndValueOf system known flags number cell side value → IsWorld system known flags w moves → moves number ≡ m
    → ((other : ℤ) (others : Numbers) → IsWorld system known flags other others → (amount_toward side (others number) *ℤ w) ≤ℤ (amount_toward side m *ℤ other)) → amount_toward side m *ℤ pos value.den ≡ w *ℤ distance_over side cell value
own_amount system known flags number cell side value w m moves end world is furthest =
    let by = attained_by system known flags number cell side value end in
    let own : IsNoFurther side value w (value_over w cell m) = subst (λ z. IsNoFurther side value w (value_over w cell z)) is (further_than system known flags number cell side value end w moves world) in
    meets (amount_toward side m) w (distance_over side cell value) (pos value.den) (amount_toward side (by.moves number)) by.den by.world.positive (omega (arith, ints)) (amount_within side value w m cell own)
    (amount_attained side value by.den (by.moves number) cell by.attained) (furthest by.den by.moves by.world)

-- ---- the answer's own words

-- how far the world of an answer takes the cell
asked_amount : (number : ℕ) (side : Side) (question : Question) (world : World) → IsEndQuestion number side question → asked_move_in question world ≡ amount_toward side (number_given (terms_of world.moves) number)
asked_amount number side question world asks =
    ap (λ (s : Side). amount_toward s (number_given (terms_of world.moves) question.cell)) asks.side_is ∙ ap (λ n. amount_toward side (number_given (terms_of world.moves) n)) asks.cell_is

-- a question that reaches its target takes the cell so far
pub reached_never : (system : System) (cells : List Cell) (values : List ℤ) (base : ℤ) (known : List Cell) (number : ℕ) (one : Cell) (side : Side) (question : Question) (world : World) → AreReaderCells cells values base known → slice_get known number ≡ Some one → one.truth ≤ℤ pos (10 ^ 29)
    → IsEndQuestion number side question → ReachesTarget system known (all_hidden system.cells) question world → ⊥
reached_never system cells values base known number one side question world are found few asks reaches =
    never_reached system cells values base known number one side world.den (number_given (terms_of world.moves)) are found few reaches.is_world.is_world
    (sym (asked_amount number side question world asks) ∙ reaches.exactly ∙ ap (λ z. world.den *ℤ z) asks.target_is)

-- what a question that stops short says of the cell and the side
record IsStopped (system : System) (known : List Cell) (number : ℕ) (side : Side) (world : World) (multipliers : Multipliers) : Type 0 where
  is_world : IsGivenWorld system known (all_hidden system.cells) world
  furthest : (other : ℤ) (others : Numbers) → IsWorld system known (all_hidden system.cells) other others
      → (amount_toward side (others number) *ℤ world.den) ≤ℤ (amount_toward side (number_given (terms_of world.moves) number) *ℤ other)
  is_sum : IsGivenSum system known (all_hidden system.cells) number side multipliers
  equal : bound_sum known (all_hidden system.cells) (coefficient (terms_added system number side multipliers)) *ℤ world.den ≡ multipliers.den *ℤ amount_toward side (number_given (terms_of world.moves) number)

stopped : (system : System) (known : List Cell) (number : ℕ) (side : Side) (question : Question) (best : Fraction) (world : World) (multipliers : Multipliers) → IsEndQuestion number side question → StopsShort system known (all_hidden system.cells) question best world multipliers → IsStopped system known number side world multipliers
stopped system known number side question best world multipliers asks stops =
    let flags : List Bool = all_hidden system.cells in
    let num : best.num ≡ amount_toward side (number_given (terms_of world.moves) number) = stops.num ∙ asked_amount number side question world asks in
    let own : IsBest system known flags number side best.num best.den = subst (λ (s : Side). IsBest system known flags number s best.num best.den) asks.side_is (subst (λ n. IsBest system known flags n question.side best.num best.den) asks.cell_is stops.is_best) in
    let whole : IsBest system known flags number side (amount_toward side (number_given (terms_of world.moves) number)) world.den = subst (λ z. IsBest system known flags number side z world.den) num (subst (λ z. IsBest system known flags number side best.num z) stops.den own) in
    let sum : (n : ℕ) (s : Side) → ℤ = λ n s. bound_sum known flags (coefficient (terms_added system n s multipliers)) in
    let here : sum question.cell question.side ≡ sum number side = ap (λ (s : Side). sum question.cell s) asks.side_is ∙ ap (λ n. sum n side) asks.cell_is in
    record {
      is_world = stops.is_world;
      furthest = whole.furthest;
      is_sum = subst (λ (s : Side). IsGivenSum system known flags number s multipliers) asks.side_is (subst (λ n. IsGivenSum system known flags n question.side multipliers) asks.cell_is stops.is_sum);
      equal = ap (λ z. z *ℤ world.den) (sym here) ∙ ap (λ z. sum question.cell question.side *ℤ z) (sym stops.den) ∙ stops.equal ∙ ap (λ z. multipliers.den *ℤ z) num;
    }

-- ---- the end

covered_where : (system : System) (cells : List Cell) (values : List ℤ) (base : ℤ) (known : List Cell) (number : ℕ) (cell : Cell) (side : Side) (world : World) (multipliers : Multipliers) (covered : Bool) → AreReaderCells cells values base known → slice_get cells number ≡ Some cell → IsStopped system known number side world multipliers
    → (IsTrue covered ↔ Reaches side cell world.den (number_given (terms_of world.moves) number)) → (IsTrue covered ↔ IsCovered system cells values base number side)
covered_where system cells values base known number cell side world multipliers covered are found stops says = (
  (λ is. (world.den, number_given (terms_of world.moves), cell, reader_world system cells values base known world.den (number_given (terms_of world.moves)) are stops.is_world.is_world, found, says.0 is)),
  (λ is.
      let same : Some is.2 ≡ Some cell = sym is.4 ∙ found in
      let own : is.2 ≡ cell = cc in
      let reaches : Reaches side cell is.0 (is.1 number) = subst (λ (c : Cell). Reaches side c is.0 (is.1 number)) own is.5 in
      says.1 (as_far (level side cell) (amount_toward side (number_given (terms_of world.moves) number)) world.den (amount_toward side (is.1 number)) is.0 stops.is_world.is_world.positive is.3.positive reaches
      (stops.furthest is.0 is.1 (world_of_reader system cells values base known is.0 is.1 are is.3)))),
)

pub audited_end : (system : System) (cells : List Cell) (values : List ℤ) (base : ℤ) (known : List Cell) (number : ℕ) (cell one : Cell) (side : Side) (question : Question) (best : Fraction) (world : World) (multipliers : Multipliers) (value : Ratio) (covered : Bool) → AreReaderCells cells values base known → slice_get cells number ≡ Some cell
    → slice_get known number ≡ Some one → IsEndQuestion number side question → StopsShort system known (all_hidden system.cells) question best world multipliers → IsEndValueOf system known (all_hidden system.cells) number one side value
    → (IsTrue covered ↔ Reaches side cell world.den (number_given (terms_of world.moves) number)) → IsAuditedEnd system cells values base number side (record { value = value; covered = covered; world = world; stop = multipliers })
audited_end system cells values base known number cell one side question best world multipliers value covered are found there asks stops end says =
    let flags : List Bool = all_hidden system.cells in
    let moves : Numbers = number_given (terms_of world.moves) in
    let fits : IsReaderCell base (number_at values number) cell one = are.bounded number cell one found there in
    let is : IsStopped system known number side world multipliers = stopped system known number side question best world multipliers asks stops in
    let amount : amount_toward side (moves number) *ℤ pos value.den ≡ world.den *ℤ distance_over side one value = own_amount system known flags number one side value world.den (moves number) moves end is.is_world.is_world refl is.furthest in
    let own : amount_toward side (moves number) *ℤ pos value.den ≡ world.den *ℤ distance_over side cell value =
    subst (λ t. amount_toward side (moves number) *ℤ pos value.den ≡ world.den *ℤ amount_toward side (pos value.num -ℤ t *ℤ pos value.den)) fits.truth amount in
    record {
      cell = cell;
      cell_is = found;
      world = record { listed = is.is_world.listed; is_world = reader_world system cells values base known world.den moves are is.is_world.is_world };
      attained = fraction_attained side value world.den (moves number) cell own;
      farthest = λ den others reader.
          subst (λ t. IsNoFurther side value den (den *ℤ t +ℤ others number)) fits.truth
          (further_than system known flags number one side value end den others (world_of_reader system cells values base known den others are reader));
      known = known;
      known_are = are;
      stopping = record {
        is_sum = is.is_sum;
        equal = bounds_distance (bound_sum known flags (coefficient (terms_added system number side multipliers))) multipliers.den (amount_toward side (moves number)) world.den (distance_over side cell value) (pos value.den) is.is_world.is_world.positive is.equal own;
      };
      covered = covered_where system cells values base known number cell side world multipliers covered are found is says;
    }

-- a value that lies open is never one
pub never_open : (system : System) (cells : List Cell) (values : List ℤ) (base : ℤ) (known : List Cell) (number : ℕ) (one : Cell) → AreReaderCells cells values base known → slice_get known number ≡ Some one → one.truth ≤ℤ pos (10 ^ 29) → IsUpperEnd system known (all_hidden system.cells) number one Open → ⊥
never_open system cells values base known number one are found few lies =
    never_reached system cells values base known number one Above lies.0 lies.1 are found few lies.2 (omega (arith, ints, lies.3, distrib lies.0 one.truth (pos (2 ^ 110))))

pub truth_few : (known : List Cell) (number : ℕ) (one : Cell) → slice_get known number ≡ Some one → All (λ (cell : Cell). cell.truth ≤ℤ pos (10 ^ 29)) known → one.truth ≤ℤ pos (10 ^ 29)
truth_few known number one found few =
    let own : (slice_index_or known number one).truth ≤ℤ pos (10 ^ 29) = few number one (slice_get_within known number one found) in
    subst (λ (cell : Cell). cell.truth ≤ℤ pos (10 ^ 29)) (get_or_from_slice_get known number one one found) own

-- ---- the interval of a cell as two ends

pub interval_low : (system : System) (known : List Cell) (flags : List Bool) (number : ℕ) (interval : CellInterval) → interval.cell ≡ number → IsIntervalOf system known flags interval → IsEndValue system known flags number Below interval.low
interval_low system known flags number interval same is = (
  is.cell,
  subst (λ n. slice_get known n ≡ Some is.cell) same is.known,
  subst (λ n. IsLeastValue system known flags n is.cell interval.low) same is.low,
)

pub interval_high : (system : System) (known : List Cell) (flags : List Bool) (number : ℕ) (interval : CellInterval) (high : Ratio) → interval.cell ≡ number → interval.high ≡ At high → IsIntervalOf system known flags interval → IsEndValue system known flags number Above high
interval_high system known flags number interval high same at is =
    let upper : IsUpperEnd system known flags number is.cell (At high) = subst (λ n. IsUpperEnd system known flags n is.cell (At high)) same (subst (λ (end : UpperEnd). IsUpperEnd system known flags interval.cell is.cell end) at is.high) in
    (is.cell, subst (λ n. slice_get known n ≡ Some is.cell) same is.known, upper.0)

pub interval_closed : (system : System) (cells : List Cell) (values : List ℤ) (base : ℤ) (known : List Cell) (number : ℕ) (interval : CellInterval) → AreReaderCells cells values base known → All (λ (cell : Cell). cell.truth ≤ℤ pos (10 ^ 29)) known → interval.cell ≡ number → interval.high ≡ Open
    → IsIntervalOf system known (all_hidden system.cells) interval → ⊥
interval_closed system cells values base known number interval are few same lies is =
    let flags : List Bool = all_hidden system.cells in
    let upper : IsUpperEnd system known flags interval.cell is.cell Open = subst (λ (end : UpperEnd). IsUpperEnd system known flags interval.cell is.cell end) lies is.high in
    never_open system cells values base known interval.cell is.cell are is.known (truth_few known interval.cell is.cell is.known few) upper

pub known_few : (cells : List Cell) (values : List ℤ) (base : ℤ) (known : List Cell) → AreReaderCells cells values base known → All (λ (cell : Cell). cell.truth ≤ℤ pos (10 ^ 29)) cells → All (λ (cell : Cell). cell.truth ≤ℤ pos (10 ^ 29)) known
known_few cells values base known are few =
    λ number d inside.
    let within : number < length cells = omega (arith, inside, are.each) in
    let fits = are.bounded number (slice_index_or cells number d) (slice_index_or known number d) (slice_get-get_or cells number d within) (slice_get-get_or known number d inside) in
    subst (λ t. t ≤ℤ pos (10 ^ 29)) (sym fits.truth) (few number d within)
