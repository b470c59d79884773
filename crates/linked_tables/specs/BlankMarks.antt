-- The mark of a cell of which nothing is known yet (own).
use Rattle.std.specs.Prelude.{◌≡◌, [], false, pos}
use Rattle.linked_tables.specs.declared.mark.Mark.{Mark}

-- no records: the sum and the number are 0, and the list, which keeps the two largest at scale 1, is empty; the cell
-- isn't hidden
pub record IsBlank (mark : Mark) : Type 0 where
  pub truth : mark.facts.truth ≡ pos 0
  pub freq : mark.facts.freq ≡ 0
  pub keep : mark.facts.tops.keep ≡ 2
  pub scale : mark.facts.tops.scale ≡ 1
  pub none : mark.facts.tops.list ≡ []
  pub shown : mark.hidden ≡ false
