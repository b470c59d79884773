-- The order of attacks: rows ascending, for each the primary cells that it doesn't know, above before below (own).
use Rattle.std.specs.Prelude.{ℕ, ◌&&◌, not, Bool, List, [], ◌∷◌, map, filter, fold, flat_map, if◌then◌else◌, Option, None, Some}
use Rattle.std.specs.Ordering.{nat_cmp}
use Rattle.std.specs.BTreeSet.{insert_key}
use Rattle.sdc_base.specs.declared.cell.Cell.{Cell}
use Rattle.sdc_base.specs.declared.side.Side.{Side}
use Rattle.worlds.specs.declared.world.World.{World}
use Rattle.worlds.specs.ProtectFaults.{asked_of}
use Rattle.attackers.specs.declared.attack.Attack.{Attack}
use Rattle.attackers.specs.KnownCells.{is_known, serves}

-- rows with that of one cell more, if it has one
abbrev pub with_row : List ℕ → Option ℕ → List ℕ
with_row rows None = rows
with_row rows (Some row) = insert_key nat_cmp rows row

-- the rows that alone make up some cell, ascending
abbrev pub sole_rows : List (Option ℕ) → List ℕ
sole_rows soles = fold with_row [] soles

-- what these make
abbrev pub attack_by : ℕ → ℕ × Side → Attack
attack_by row asked = record { row = row; cell = asked.0; side = asked.1 }

-- the attacks of one contributor on what is asked: cells that it knows are left out
abbrev pub attacks_on : List (Option ℕ) → List (ℕ × Side) → ℕ → List Attack
attacks_on soles asked row = map (attack_by row) (filter (λ one. not (is_known soles row one.0)) asked)

-- all attacks, in their order
abbrev pub attacks_of : List Cell → List (Option ℕ) → List Attack
attacks_of cells soles = flat_map (attacks_on soles (asked_of 0 cells)) (sole_rows soles)

-- the contributor doesn't know the cell, and the world doesn't serve against it
abbrev pub is_unserved : List Cell → List (Option ℕ) → Attack → World → Bool
is_unserved cells soles attack world =
    not (is_known soles attack.row attack.cell) && not (serves cells soles attack world)

-- the attacks of one contributor against which the worlds for what is asked, one for each, don't serve
abbrev pub unserved_on : List Cell → List (Option ℕ) → List (ℕ × Side) → List World → ℕ → List Attack
unserved_on cells soles [] worlds row = []
unserved_on cells soles (asked ∷ more) [] row = []
unserved_on cells soles (asked ∷ more) (world ∷ worlds) row =
    if is_unserved cells soles (attack_by row asked) world then attack_by row asked ∷ unserved_on cells soles more worlds row
    else unserved_on cells soles more worlds row

-- all of them, in their order
abbrev pub unserved_attacks : List Cell → List (Option ℕ) → List World → List Attack
unserved_attacks cells soles worlds =
    flat_map (unserved_on cells soles (asked_of 0 cells) worlds) (sole_rows soles)
