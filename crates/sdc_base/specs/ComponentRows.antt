-- In which relations the cells of each connected part stand (own).
use Rattle.std.specs.Prelude.{ℕ, ◌||◌, ◌++◌, ◌∷◌, [], Bool, false, List, filter, length, map, slice_get, slice_index_or, slice_set, Option, None, Some, Vec}
use Rattle.std.specs.declared.alloc.Global.{Global}
use Rattle.std.specs.List.{list_any, range_with_len}
use Rattle.std.specs.Option.{option_map_or}
use Rattle.sdc_base.specs.declared.relation.Relation.{Relation}
use Rattle.sdc_base.specs.Components.{component, is_of}

-- a cell of the component with this number stands in the relation, as its total or as one of its parts
abbrev pub stands_in : List (Option ℕ) → ℕ → Relation → Bool
stands_in of number r =
    is_of number (component of r.total) || list_any (λ part. is_of number (component of part)) r.parts

-- the relations, ascending, in which a cell of the component with this number stands
abbrev pub rows_in : List Relation → List (Option ℕ) → ℕ → List ℕ
rows_in relations of number =
    filter (λ row. option_map_or (stands_in of number) (slice_get relations row) false)
    (range_with_len 0 (length relations))

-- these for each component, by its number
abbrev pub rows_of : List Relation → List (Option ℕ) → ℕ → List (List ℕ)
rows_of relations of components = map (rows_in relations of) (range_with_len 0 components)

-- the items of each list
abbrev pub lists_in : List (Vec ℕ Global) → List (List ℕ)
lists_in lists = map (λ list. list.items) lists

-- a number put at the end of the list of a component, where there is one
abbrev pub put_in : Option ℕ → ℕ → List (List ℕ) → List (List ℕ)
put_in None number lists = lists
put_in (Some at) number lists = slice_set lists at (slice_index_or lists at [] ++ number ∷ [])
