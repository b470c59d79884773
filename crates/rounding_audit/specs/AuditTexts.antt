-- The text of an audit: a line of headings, a line for each primary cell, and for each of them the worlds and the
-- multipliers that show its ends, spelled as in a certificate (own).
use Rattle.std.specs.Prelude.{ℕ, Bool, true, false, List, ◌∷◌, ◌++◌, codes, decimal, flat_map, map}
use Rattle.std.specs.Fmt.{signed_decimal}
use Rattle.sdc_base.specs.declared.side.Side.{Side}
use Rattle.sdc_base.specs.declared.side.Side.TheVariants.{Above, Below}
use Rattle.sdc_base.specs.Sides.{side_word}
use Rattle.worlds.specs.declared.multipliers.Multipliers.{Multipliers}
use Rattle.worlds.specs.declared.world.Move.{Move}
use Rattle.worlds.specs.declared.world.World.{World}
use Rattle.certificate.specs.Texts.{line_text, pair_token}
use Rattle.cell_intervals.specs.IntervalTexts.{ratio_text}
use Rattle.rounding_audit.specs.declared.audited.AuditedCell.{AuditedCell}
use Rattle.rounding_audit.specs.declared.audited.AuditedEnd.{AuditedEnd}

-- whether a side is covered
abbrev pub covered_word : Bool → List ℕ
covered_word true = codes "yes"
covered_word false = codes "no"

-- the line of a cell: its number, its least and its greatest value, and whether it is covered below and above
abbrev pub cell_text : AuditedCell → List ℕ
cell_text one =
    decimal one.cell ++ codes "," ++ ratio_text one.below.value ++ codes "," ++ ratio_text one.above.value ++ codes ","
    ++ covered_word one.below.covered ++ codes "," ++ covered_word one.above.covered ++ codes "\n"

-- a move: the number of its cell, a colon and by how much
abbrev pub move_token : Move → List ℕ
move_token move = pair_token (move.cell, move.by)

-- the tokens of the line of a world: only the cells that move are listed
abbrev pub world_tokens : ℕ → Side → World → List (List ℕ)
world_tokens cell side world =
    codes "world" ∷ decimal cell ∷ side_word side ∷ signed_decimal world.den ∷ map move_token world.moves

-- the tokens of the line of multipliers that stop a cell
abbrev pub stop_tokens : ℕ → Side → Multipliers → List (List ℕ)
stop_tokens cell side stop =
    codes "stop" ∷ decimal cell ∷ side_word side ∷ signed_decimal stop.den ∷ map pair_token stop.by_relation

-- the two lines that show the end of a cell's values to a side
abbrev pub end_text : ℕ → Side → AuditedEnd → List ℕ
end_text cell side end = line_text (world_tokens cell side end.world) ++ line_text (stop_tokens cell side end.stop)

-- the lines that show both ends, below first
abbrev pub ends_text : AuditedCell → List ℕ
ends_text one = end_text one.cell Below one.below ++ end_text one.cell Above one.above

-- the file: the headings, each cell's line, and then what shows its ends
abbrev pub audit_text : List AuditedCell → List ℕ
audit_text audited = codes "cell,low,high,below,above\n" ++ flat_map cell_text audited ++ flat_map ends_text audited
