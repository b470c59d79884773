-- The worlds of a rounded release are those of the cells with the reader's bounds, all cells hidden.
use Rattle.std.proofs.Common.{◌≡◌, ℕ, ◌<◌, true, false, List, slice_get, slice_index_or, Some, ℤ, ◌+ℤ◌, ◌*ℤ◌, ◌≤ℤ◌, arith, sym, subst, ◌∙◌}
use Rattle.std.proofs.lemmas.List.{get_or-replicate}
use Rattle.std.proofs.lemmas.Option.{slice_get-get_or, slice_get_within}
use Rattle.sdc_base.specs.declared.cell.Cell.{Cell}
use Rattle.sdc_base.specs.declared.system.System.{System}
use Rattle.sdc_base.specs.HiddenSets.{is_hidden}
use Rattle.sdc_base.specs.Systems.{Numbers, number_at}
use Rattle.sdc_base.specs.Worlds.{IsWithinBounds, IsWorld, value_over}
use Rattle.rounding_audit.specs.Readers.{AreReaderCells, IsReaderCell, IsReaderWorld, IsWithinReading, ReaderWorldsAreWorlds, all_hidden, reader_high, reader_low}

pub hidden_all : (cells number : ℕ) → number < cells → is_hidden (all_hidden cells) number ≡ true
hidden_all cells number inside = get_or-replicate cells number true false inside

within_reading : (base shown : ℤ) (cell one : Cell) (den move : ℤ) → IsReaderCell base shown cell one → IsWithinBounds one den move → IsWithinReading base shown cell den move
within_reading base shown cell one den move fits within = record {
  from_low = subst (λ z. (den *ℤ z) ≤ℤ value_over den cell move) fits.low (subst (λ z. (den *ℤ one.low) ≤ℤ (den *ℤ z +ℤ move)) fits.truth within.from_low);
  to_high = subst (λ z. (den *ℤ z +ℤ move) ≤ℤ (den *ℤ reader_high base shown cell)) fits.truth (within.to_high (reader_high base shown cell) fits.high);
}

within_bounds : (base shown : ℤ) (cell one : Cell) (den move : ℤ) → IsReaderCell base shown cell one → IsWithinReading base shown cell den move → IsWithinBounds one den move
within_bounds base shown cell one den move fits within = record {
  from_low = subst (λ z. (den *ℤ z) ≤ℤ value_over den one move) (sym fits.low) (subst (λ z. (den *ℤ reader_low base shown cell) ≤ℤ (den *ℤ z +ℤ move)) (sym fits.truth) within.from_low);
  to_high = λ high is. (let same : Some high ≡ Some (reader_high base shown cell) = sym is ∙ fits.high in
      let bound : reader_high base shown cell ≡ high = cc in
      subst (λ z. value_over den one move ≤ℤ (den *ℤ z)) bound (subst (λ z. (den *ℤ z +ℤ move) ≤ℤ (den *ℤ reader_high base shown cell)) (sym fits.truth) within.to_high));
}

pub reader_world : (system : System) (cells : List Cell) (values : List ℤ) (base : ℤ) (known : List Cell) (den : ℤ) (moves : Numbers) → AreReaderCells cells values base known → IsWorld system known (all_hidden system.cells) den moves → IsReaderWorld system cells values base den moves
reader_world system cells values base known den moves are world = record {
  positive = world.positive;
  relations_hold = world.relations_hold;
  bounds_hold = λ number cell found.
      let there : slice_get known number ≡ Some (slice_index_or known number cell) = slice_get-get_or known number cell (omega (arith, are.each, slice_get_within cells number cell found)) in
      within_reading base (number_at values number) cell (slice_index_or known number cell) den (moves number) (are.bounded number cell (slice_index_or known number cell) found there) (world.bounds_hold number (slice_index_or known number cell) there);
}

pub world_of_reader : (system : System) (cells : List Cell) (values : List ℤ) (base : ℤ) (known : List Cell) (den : ℤ) (moves : Numbers) → AreReaderCells cells values base known → IsReaderWorld system cells values base den moves → IsWorld system known (all_hidden system.cells) den moves
world_of_reader system cells values base known den moves are world = record {
  positive = world.positive;
  shown_stay = λ number inside shown. let clash : true ≡ false = sym (hidden_all system.cells number inside) ∙ shown in absurd cc;
  relations_hold = world.relations_hold;
  bounds_hold = λ number one found.
      let there : slice_get cells number ≡ Some (slice_index_or cells number one) = slice_get-get_or cells number one (omega (arith, are.each, slice_get_within known number one found)) in
      within_bounds base (number_at values number) (slice_index_or cells number one) one den (moves number) (are.bounded number (slice_index_or cells number one) one there found) (world.bounds_hold number (slice_index_or cells number one) there);
}

pub reader_worlds_are_worlds : ReaderWorldsAreWorlds
reader_worlds_are_worlds system cells values base known den moves each are =
    ((λ world. reader_world system cells values base known den moves are world), (λ world. world_of_reader system cells values base known den moves are world))
