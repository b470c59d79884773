-- The one record of a cell.
use Rattle.std.proofs.Common.{◌≡◌, ℕ, suc, ◌<◌, true, false, List, [], ◌∷◌, length, get_or, Option, None, Some, IfNone, IfSome, slice_get, refl, ap, ◌∙◌, arith}
use Rattle.std.proofs.lemmas.Option.{slice_get_read}
use Rattle.sdc_base.specs.Trees.{Tree}
use Rattle.sdc_base.specs.Records.{Name, row_falls}
use Rattle.sdc_base.specs.Sums.{freq}
use Rattle.sdc_base.specs.declared.rows.Row.{Row}
use Rattle.linked_tables.specs.declared.mark.Mark.{Mark}
use Rattle.linked_tables.specs.BookViews.{BookView}
use Rattle.linked_tables.specs.BookCells.{cells}
use Rattle.attackers.specs.Alone.{TellFrequencies, falls_at, IsSole}

-- the frequency of a cell, as it is read off its mark
pub told_here : (book : BookView) (rows : List Row) (marks : List Mark) (cell : ℕ) (name : Name) (mark : Mark) → TellFrequencies book rows → marks ≡ book.marks → slice_get (cells book) cell ≡ Some name → cell < length book.marks → mark ≡ get_or marks cell mark → mark.facts.freq ≡ freq book.trees name rows
told_here book rows marks cell name mark told same found within is =
    told cell name mark found (slice_get_read book.marks (length book.marks) cell mark refl within (is ∙ ap (λ (l : List Mark). get_or l cell mark) same))

-- where no record falls in a cell, its frequency is 0
pub none_falls : (trees : List Tree) (rows : List Row) (name : Name) → ((place : ℕ) → falls_at trees rows name place ≡ false) → freq trees name rows ≡ 0
none_falls trees [] name none = refl
none_falls trees (row ∷ rows) name none =
    let here : row_falls trees name row ≡ false = none 0 in
    rw here (none_falls trees rows name (λ place. none (suc place)))

-- a cell of one record, as it was looked for
pub sole_by : (trees : List Tree) (rows : List Row) (name : Name) (found : Option ℕ) → freq trees name rows ≡ 1 → IfNone found ((place : ℕ) → falls_at trees rows name place ≡ false) → IfSome found (λ place. falls_at trees rows name place ≡ true) → IsSole trees rows name found
sole_by trees rows name None one none some = λ is. let zero_too : freq trees name rows ≡ 0 = none_falls trees rows name none in omega (arith, one, zero_too)
sole_by trees rows name (Some place) one none some = (one, some)
