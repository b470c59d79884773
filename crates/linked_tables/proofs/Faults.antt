-- The first fault of tables, table after table.
use Rattle.std.proofs.Common.{◌≡◌, ℕ, ◌≤◌, nat_lt, true, false, List, length, Option, None, Some, Ok, Err, if◌then◌else◌, arith, refl, ap}
use Rattle.std.proofs.lemmas.Bool.Decides.{nat_tests}
use Rattle.sdc_base.specs.Records.{Name}
use Rattle.sdc_base.specs.Answers.{Fails}
use Rattle.sdc_base.specs.declared.dimension.Dimension.{Dimension}
use Rattle.linked_tables.specs.declared.book_fault.BookFault.{BookFault}
use Rattle.linked_tables.specs.declared.book_fault.BookFault.TheVariants as fault
use Rattle.linked_tables.specs.Tables.{most_cells, has_unknown, has_twice, or_later, variables_fault, unless_fault}
use Rattle.linked_tables.specs.BookCells.{IsTable}
use Rattle.linked_tables.specs.BookKeeping.{names_within_limit}

-- where there is a value there is no fault
pub no-fault : {X : Type 0} (told : Option BookFault) (x y : X) → unless_fault told x ≡ Ok y → told ≡ None
no-fault None x y h = refl
no-fault (Some one) x y h = cc

pub same-value : {X : Type 0} (told : Option BookFault) (x y : X) → unless_fault told x ≡ Ok y → x ≡ y
same-value None x y h = cc
same-value (Some one) x y h = cc

-- a fault of the variables is the first
pub fails-first : {X Y : Type 0} (named told later rest : Option BookFault) (x : X) (y : Y) → Fails named (unless_fault told x) → Fails named (unless_fault (or_later (or_later told later) rest) y)
fails-first None told later rest x y h = tt
fails-first (Some one) None later rest x y h = cc
fails-first (Some one) (Some other) later rest x y h = let same : other ≡ one = cc in ap Err same

-- where the variables have none, that of the cells is
pub fails-second : {X Y : Type 0} (named told later rest : Option BookFault) (x : X) (y : Y) → told ≡ None → Fails named (unless_fault later x) → Fails named (unless_fault (or_later (or_later told later) rest) y)
fails-second None told later rest x y none h = tt
fails-second (Some one) told None rest x y none h = cc
fails-second (Some one) told (Some other) rest x y none h = let same : other ≡ one = cc in rw none (ap Err same)

-- more names are too many too
pub fails-more : (named : Option BookFault) (t : ℕ) (some all : List Name) → length some ≤ length all → Fails named (names_within_limit t some) → Fails named (names_within_limit t all)
fails-more None t some all h fails = tt
fails-more (Some one) t some all h fails =
    elim (nat_lt most_cells (length some)) as (λ b. nat_lt most_cells (length some) ≡ b → unless_fault (if b then Some (fault.TooManyCells t) else None) some ≡ Err one → names_within_limit t all ≡ Err one) [
      | true ↦ λ is failed. let too : nat_lt most_cells (length all) ≡ true = grind (arith, nat_tests) in let same : fault.TooManyCells t ≡ one = cc in rw too (ap Err same)
      | false ↦ λ is failed. cc
    ] refl fails

-- names that aren't too many stay as they are
pub capped-few : (t : ℕ) (names : List Name) → length names ≤ most_cells → names_within_limit t names ≡ Ok names
capped-few t names h = let few : nat_lt most_cells (length names) ≡ false = grind (arith, nat_tests) in rw few refl

pub capped-Ok : (t : ℕ) (names others : List Name) → names_within_limit t names ≡ Ok others → (names ≡ others) × (length names ≤ most_cells)
capped-Ok t names others h =
    elim (nat_lt most_cells (length names)) as (λ b. nat_lt most_cells (length names) ≡ b → unless_fault (if b then Some (fault.TooManyCells t) else None) names ≡ Ok others → (names ≡ others) × (length names ≤ most_cells)) [
      | true ↦ λ is made. cc
      | false ↦ λ is made. let same : names ≡ others = cc in (same, grind (arith, nat_tests))
    ] refl h

-- the variables of a table without a fault
pub sound-table : (variables t : ℕ) (table : List Dimension) → variables_fault variables t table ≡ None → IsTable variables table
sound-table variables t table none =
    elim (has_unknown variables table) as (λ b. has_unknown variables table ≡ b → (if b then Some (fault.NoSuchVariable t) else if has_twice table then Some (fault.TwiceInTable t) else None) ≡ None → IsTable variables table) [
      | true ↦ λ is none. cc
      | false ↦ λ is none.
          elim (has_twice table) as (λ b. has_twice table ≡ b → (if b then Some (fault.TwiceInTable t) else None) ≡ None → IsTable variables table) [
            | true ↦ λ twice none. cc
            | false ↦ λ twice none. record { known = is; once = twice }
          ] refl none
    ] refl none
