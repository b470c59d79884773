-- One share more.
use Rattle.std.proofs.Common.{◌≡◌, ℕ, ◌+◌, ◌<◌, Bool, true, false, List, length, drop, get_or, Some, Result, Ok, Err, ℤ, pos, ◌+ℤ◌, ◌-ℤ◌, ◌*ℤ◌, int_lt, int_le, arith, refl, ap, sym, ◌∙◌}
use Rattle.std.proofs.lemmas.Int.{ints}
use Rattle.std.proofs.lemmas.List.{drop_more}
use Rattle.sdc_base.specs.Steps.{◌>>=◌}
use Rattle.sdc_base.specs.declared.cell.Cell.{Cell}
use Rattle.sdc_base.specs.HiddenSets.{is_hidden}
use Rattle.sdc_base.specs.Systems.{Numbers}
use Rattle.worlds.specs.declared.faults.RefutationFault.{RefutationFault}
use Rattle.worlds.specs.BoundedNumbers.{within_128_bits}
use Rattle.worlds.specs.RefutationFaults.{share_or_fault, added_share, summed_from}

pub high_share : (hidden : Bool) (number : ℕ) (k : ℤ) (cell : Cell) (high : ℤ) → hidden ≡ true → int_le k (pos 0) ≡ false → cell.high ≡ Some high → share_or_fault hidden number k cell ≡ within_128_bits number (k *ℤ (high -ℤ cell.truth))
high_share false number k cell high hides up has = absurd cc
high_share true number k cell high hides up has =
    let test : int_lt (pos 0) k ≡ true = grind (arith, ints, up) in
    rw (test, has) refl

pub low_share : (hidden : Bool) (number : ℕ) (k : ℤ) (cell : Cell) → hidden ≡ true → int_le k (pos 0) ≡ true → share_or_fault hidden number k cell ≡ within_128_bits number (k *ℤ (cell.low -ℤ cell.truth))
low_share false number k cell hides up = absurd cc
low_share true number k cell hides up =
    let test : int_lt (pos 0) k ≡ false = grind (arith, ints, up) in
    rw test refl

next_cell : (flags : List Bool) (k : Numbers) (number : ℕ) (sum : ℤ) (cells : List Cell) (d : Cell) (read : Result ℤ RefutationFault) → number < length cells → added_share (is_hidden flags number) number (k number) (get_or cells number d) sum ≡ read → summed_from flags k number sum (drop number cells) ≡ (read >>= λ one. summed_from flags k (number + 1) one (drop (number + 1) cells))
next_cell flags k number sum cells d read within is =
    ap (λ (l : List Cell). summed_from flags k number sum l) (drop_more cells number d within)
    ∙ ap (λ r. r >>= λ one. summed_from flags k (number + 1) one (drop (number + 1) cells)) is

own_cell : (flags : List Bool) (k : Numbers) (number : ℕ) (sum : ℤ) (cells : List Cell) (cell : Cell) (read : Result ℤ RefutationFault) → cell ≡ get_or cells number cell → added_share (is_hidden flags number) number (k number) cell sum ≡ read → added_share (is_hidden flags number) number (k number) (get_or cells number cell) sum ≡ read
own_cell flags k number sum cells cell read same is = ap (λ c. added_share (is_hidden flags number) number (k number) c sum) (sym same) ∙ is

pub sum_step : (flags : List Bool) (k : Numbers) (number : ℕ) (sum : ℤ) (cells : List Cell) (cell : Cell) (part next : ℤ) → number < length cells → cell ≡ get_or cells number cell → share_or_fault (is_hidden flags number) number (k number) cell ≡ Ok part → within_128_bits number (sum +ℤ part) ≡ Ok next → summed_from flags k number sum (drop number cells) ≡ summed_from flags k (number + 1) next (drop (number + 1) cells)
sum_step flags k number sum cells cell part next within read shared is =
    next_cell flags k number sum cells cell (Ok next) within (own_cell flags k number sum cells cell (Ok next) read (ap (λ r. r >>= λ p. within_128_bits number (sum +ℤ p)) shared ∙ is))

pub share_stop : (flags : List Bool) (k : Numbers) (number : ℕ) (sum : ℤ) (cells : List Cell) (cell : Cell) (fault : RefutationFault) → number < length cells → cell ≡ get_or cells number cell → share_or_fault (is_hidden flags number) number (k number) cell ≡ Err fault → summed_from flags k number sum (drop number cells) ≡ Err fault
share_stop flags k number sum cells cell fault within read shared =
    next_cell flags k number sum cells cell (Err fault) within (own_cell flags k number sum cells cell (Err fault) read (ap (λ r. r >>= λ p. within_128_bits number (sum +ℤ p)) shared))

pub sum_stop : (flags : List Bool) (k : Numbers) (number : ℕ) (sum : ℤ) (cells : List Cell) (cell : Cell) (part : ℤ) (fault : RefutationFault) → number < length cells → cell ≡ get_or cells number cell → share_or_fault (is_hidden flags number) number (k number) cell ≡ Ok part → within_128_bits number (sum +ℤ part) ≡ Err fault → summed_from flags k number sum (drop number cells) ≡ Err fault
sum_stop flags k number sum cells cell part fault within read shared is =
    next_cell flags k number sum cells cell (Err fault) within (own_cell flags k number sum cells cell (Err fault) read (ap (λ r. r >>= λ p. within_128_bits number (sum +ℤ p)) shared ∙ is))
