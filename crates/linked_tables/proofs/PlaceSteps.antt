-- Whether a place is one of a table, variable after variable.
use Rattle.std.proofs.Common.{◌≡◌, ℕ, ◌+◌, ◌-◌, ◌<◌, ◌≤◌, nat_eq, true, false, List, [], ◌∷◌, length, drop, get_or, arith, refl, ap, sym, ◌∙◌, length-drop}
use Rattle.std.proofs.lemmas.Bool.Decides.{nat_tests}
use Rattle.std.proofs.lemmas.List.{drop_more, drop_all}
use Rattle.sdc_base.specs.Trees.{Tree}
use Rattle.sdc_base.specs.Cells.{spans, trees_of}
use Rattle.sdc_base.specs.CellOrder.{is_place_in}
use Rattle.sdc_base.specs.declared.dimension.Dimension.{Dimension}
use Rattle.linked_tables.specs.Tables.{has_twice}

-- a dimension for what stands behind the last one
abbrev pub no_dimension : Dimension
no_dimension = record { variable = 0; depth = 0 }

-- a place that is too short
pub place-short : (trees : List Tree) (table : List Dimension) (place : List ℕ) (k : ℕ) (d : Dimension) → length place ≤ k → k < length table → is_place_in (trees_of trees (drop k table)) (drop k place) ≡ false
place-short trees table place k d short inside =
    ap (λ rest. is_place_in (trees_of trees (drop k table)) rest) (drop_all k place short) ∙ ap (λ left. is_place_in (trees_of trees left) []) (drop_more table k d inside)

no-trees : (rest : List ℕ) → is_place_in [] rest ≡ nat_eq (length rest) 0
no-trees [] = refl
no-trees (code ∷ rest) = let test : nat_eq (length (code ∷ rest)) 0 ≡ false = grind (arith, nat_tests) in sym test

-- behind the last variable
pub place-end : (trees : List Tree) (table : List Dimension) (place : List ℕ) (k : ℕ) → length table ≤ k → k ≤ length table → k ≤ length place → is_place_in (trees_of trees (drop k table)) (drop k place) ≡ nat_eq (length place) (length table)
place-end trees table place k past within long =
    let left : length (drop k place) ≡ length place - k = length-drop k place in
    let same : nat_eq (length place - k) 0 ≡ nat_eq (length place) (length table) = grind (arith, nat_tests) in
    ap (λ left. is_place_in (trees_of trees left) (drop k place)) (drop_all k table past) ∙ no-trees (drop k place) ∙ ap (λ n. nat_eq n 0) left ∙ same

-- a variable that doesn't come again
pub twice-next : (table : List Dimension) (k : ℕ) (d : Dimension) → k < length table → spans (drop (k + 1) table) (get_or table k d).variable ≡ false → has_twice (drop k table) ≡ has_twice (drop (k + 1) table)
twice-next table k d inside once = ap has_twice (drop_more table k d inside) ∙ rw once refl

-- a variable that comes again
pub twice-found : (table : List Dimension) (k : ℕ) (d : Dimension) → k < length table → spans (drop (k + 1) table) (get_or table k d).variable ≡ true → has_twice (drop k table) ≡ true
twice-found table k d inside again = ap has_twice (drop_more table k d inside) ∙ rw again refl
