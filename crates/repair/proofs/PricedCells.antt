-- The prices of cells.
use Rattle.std.proofs.Common.{◌≡◌, ℕ, zero, suc, ◌+◌, ◌<◌, List, [], ◌∷◌, ◌++◌, length, take, get_or, arith, refl, ap, sym, ◌∙◌, add-one}
use Rattle.sdc_base.specs.declared.cell.Cell.{Cell}
use Rattle.cost_rule.specs.declared.kind.CostKind.{CostKind}
use Rattle.cost_rule.specs.Costs.{price_of}
use Rattle.linked_tables.specs.declared.mark.Mark.{Mark}
use Rattle.repair.specs.HidingOrder.{prices_of}

prices_suc : (cost : CostKind) (cells : List Cell) (marks : List Mark) (i : ℕ) (cell : Cell) (mark : Mark) → i < length cells → i < length marks → cell ≡ get_or cells i cell → prices_of cost (take (suc i) cells) (take (suc i) marks) ≡ prices_of cost (take i cells) (take i marks) ++ price_of cost cell.price (get_or marks i mark).facts ∷ []
prices_suc cost [] marks i cell mark below within is = absurd (omega (arith, below))
prices_suc cost (c ∷ cells) [] i cell mark below within is = absurd (omega (arith, within))
prices_suc cost (c ∷ cells) (m ∷ marks) zero cell mark below within is = ap (λ (z : Cell). price_of cost z.price m.facts ∷ []) (sym is)
prices_suc cost (c ∷ cells) (m ∷ marks) (suc i) cell mark below within is = ap (λ (l : List ℕ). price_of cost c.price m.facts ∷ l) (prices_suc cost cells marks i cell mark (omega (arith, below)) (omega (arith, within)) is)

-- the price of one cell more
prices_more : (cost : CostKind) (cells : List Cell) (marks : List Mark) (i : ℕ) (cell : Cell) (mark : Mark) → i < length cells → i < length marks → cell ≡ get_or cells i cell → prices_of cost (take (i + 1) cells) (take (i + 1) marks) ≡ prices_of cost (take i cells) (take i marks) ++ price_of cost cell.price (get_or marks i mark).facts ∷ []
prices_more cost cells marks i cell mark below within is = rw add-one (prices_suc cost cells marks i cell mark below within is)

-- the list with the price of one cell more
pub prices_pushed : (cost : CostKind) (cells : List Cell) (marks : List Mark) (i : ℕ) (cell : Cell) (mark : Mark) (before after : List ℕ) (price : ℕ) → i < length cells → length marks ≡ length cells → cell ≡ get_or cells i cell → before ≡ prices_of cost (take i cells) (take i marks) → price ≡ price_of cost cell.price (get_or marks i mark).facts → after ≡ before ++ price ∷ [] → after ≡ prices_of cost (take (i + 1) cells) (take (i + 1) marks)
prices_pushed cost cells marks i cell mark before after price below each is done told pushed =
    pushed ∙ ap (λ (l : List ℕ). l ++ price ∷ []) done ∙ ap (λ p. prices_of cost (take i cells) (take i marks) ++ p ∷ []) told
    ∙ sym (prices_more cost cells marks i cell mark below (omega (arith, below, each)) is)

pub length-prices : (cost : CostKind) (cells : List Cell) (marks : List Mark) → length marks ≡ length cells → length (prices_of cost cells marks) ≡ length cells
length-prices cost [] marks each = refl
length-prices cost (cell ∷ cells) [] each = absurd (omega (arith, each))
length-prices cost (cell ∷ cells) (mark ∷ marks) each = omega (arith, length-prices cost cells marks (omega (arith, each)))
