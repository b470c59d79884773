-- The place that codes write, code by code.
use Rattle.std.proofs.Common.{◌≡◌, ℕ, ◌+◌, ◌<◌, ◌≤◌, List, [], ◌∷◌, ◌++◌, length, drop, get_or, Option, None, Some, refl, ap, sym, ◌∙◌, append_assoc}
use Rattle.std.specs.Prelude.{option_map, slice_get, unwrap_or}
use Rattle.std.proofs.lemmas.List.{drop_more, drop_all, append-nil}
use Rattle.std.proofs.lemmas.Option.{unwrap_or-slice_get}
use Rattle.sdc_base.specs.Trees.{Tree, find}
use Rattle.sdc_base.specs.Cells.{trees_of}
use Rattle.sdc_base.specs.declared.dimension.Dimension.{Dimension}
use Rattle.apriori.specs.KnownCells.{with_place, place_in}

-- a dimension for what stands behind the last one
abbrev pub no_dimension : Dimension
no_dimension = record { variable = 0; depth = 0 }

-- the places behind a front
abbrev pub behind : List ℕ → Option (List ℕ) → Option (List ℕ)
behind front rest = option_map (λ (places : List ℕ). front ++ places) rest

longer : (front : List ℕ) (place : ℕ) (rest : Option (List ℕ)) → behind (front ++ place ∷ []) rest ≡ behind front (with_place (Some place) rest)
longer front place None = refl
longer front place (Some places) = ap (λ (xs : List ℕ). Some xs) (append_assoc front (place ∷ []) places)

-- what the codes from here write
abbrev pub from : List Tree → List Dimension → ℕ → List (List ℕ) → Option (List ℕ)
from trees table at fields = place_in (trees_of trees (drop at table)) fields

here : (trees : List Tree) (table : List Dimension) (at : ℕ) (d : Dimension) (code : List ℕ) (more : List (List ℕ)) → at < length table
    → from trees table at (code ∷ more) ≡ with_place (find (unwrap_or (slice_get trees (get_or table at d).variable) []) code) (from trees table (at + 1) more)
here trees table at d code more inside =
    ap (λ (rest : List Dimension). place_in (trees_of trees rest) (code ∷ more)) (drop_more table at d inside)
    ∙ ap (λ (tree : Tree). with_place (find tree code) (from trees table (at + 1) more)) (sym (unwrap_or-slice_get trees (get_or table at d).variable []))

pub place_next : (trees : List Tree) (table : List Dimension) (at : ℕ) (d : Dimension) (front : List ℕ) (place : ℕ) (fields : List (List ℕ)) (code : List ℕ) (more : List (List ℕ)) → at < length table
    → fields ≡ code ∷ more → Some place ≡ find (unwrap_or (slice_get trees (get_or table at d).variable) []) code
    → behind (front ++ place ∷ []) (from trees table (at + 1) more) ≡ behind front (from trees table at fields)
place_next trees table at d front place fields code more inside is found =
    longer front place (from trees table (at + 1) more)
    ∙ ap (λ (o : Option ℕ). behind front (with_place o (from trees table (at + 1) more))) found
    ∙ sym (ap (behind front) (here trees table at d code more inside))
    ∙ ap (λ (fs : List (List ℕ)). behind front (from trees table at fs)) (sym is)

pub place_unknown : (trees : List Tree) (table : List Dimension) (at : ℕ) (d : Dimension) (front : List ℕ) (fields : List (List ℕ)) (code : List ℕ) (more : List (List ℕ)) → at < length table
    → fields ≡ code ∷ more → None ≡ find (unwrap_or (slice_get trees (get_or table at d).variable) []) code
    → None ≡ behind front (from trees table at fields)
place_unknown trees table at d front fields code more inside is found =
    ap (λ (o : Option ℕ). behind front (with_place o (from trees table (at + 1) more))) found
    ∙ sym (ap (behind front) (here trees table at d code more inside))
    ∙ ap (λ (fs : List (List ℕ)). behind front (from trees table at fs)) (sym is)

pub place_short : (trees : List Tree) (table : List Dimension) (at : ℕ) (front : List ℕ) (fields : List (List ℕ)) → at < length table → fields ≡ []
    → None ≡ behind front (from trees table at fields)
place_short trees table at front fields inside is =
    sym (ap (λ (rest : List Dimension). behind front (place_in (trees_of trees rest) [])) (drop_more table at no_dimension inside))
    ∙ ap (λ (fs : List (List ℕ)). behind front (from trees table at fs)) (sym is)

pub place_whole : (trees : List Tree) (table : List Dimension) (at : ℕ) (front : List ℕ) (fields : List (List ℕ)) → length table ≤ at → Some front ≡ behind front (from trees table at fields)
place_whole trees table at front fields past =
    ap (λ (xs : List ℕ). Some xs) (sym (append-nil front))
    ∙ sym (ap (λ (rest : List Dimension). behind front (place_in (trees_of trees rest) fields)) (drop_all at table past))
