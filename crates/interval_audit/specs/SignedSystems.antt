-- A system with its signs (network flows; own).
use Rattle.std.specs.Prelude.{Bool, List, Option, None, Some}
use Rattle.sdc_base.specs.Signs.{AreSigns, HasNone}
use Rattle.sdc_base.specs.declared.relation.Relation.{Relation}

-- what was found where signs of these relations were looked for: signs, or none where there are none
abbrev pub AreFound : List Relation → Option (List Bool) → Type 0
AreFound relations (Some signs) = AreSigns relations signs
AreFound relations None = HasNone relations
