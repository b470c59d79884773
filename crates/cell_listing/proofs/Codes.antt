-- The codes of a name, variable after variable.
use Rattle.std.proofs.Common.{◌≡◌, ℕ, ◌+◌, ◌<◌, ◌≤◌, List, [], ◌∷◌, ◌++◌, length, drop, get_or, slice_index_or, refl, ap, sym, ◌∙◌, append_assoc}
use Rattle.std.proofs.lemmas.List.{drop_more, drop_all}
use Rattle.sdc_base.specs.Trees.{Tree, code_in}
use Rattle.cell_listing.specs.Columns.{codes_of_name}

-- no codes are left of no name, and none of no tree
pub no_name : (trees : List Tree) → codes_of_name trees [] ≡ []
no_name [] = refl
no_name (tree ∷ trees) = refl

-- one code more
pub codes_next : (trees : List Tree) (name : List ℕ) (variable : ℕ) (fields : List (List ℕ)) → variable < length trees → variable < length name
    → (fields ++ code_in (slice_index_or trees variable []) (get_or name variable 0) ∷ []) ++ codes_of_name (drop (variable + 1) trees) (drop (variable + 1) name)
    ≡ fields ++ codes_of_name (drop variable trees) (drop variable name)
codes_next trees name variable fields inside long =
    append_assoc fields (code_in (slice_index_or trees variable []) (get_or name variable 0) ∷ []) (codes_of_name (drop (variable + 1) trees) (drop (variable + 1) name))
    ∙ ap (λ t. fields ++ t) (sym (ap (λ left. codes_of_name left (drop variable name)) (drop_more trees variable [] inside) ∙ ap (λ left. codes_of_name (slice_index_or trees variable [] ∷ drop (variable + 1) trees) left) (drop_more name variable 0 long)))

-- what is left where the name is at its end
pub codes_end : (trees : List Tree) (name : List ℕ) (variable : ℕ) (fields : List (List ℕ)) → length name ≤ variable
    → fields ++ codes_of_name (drop variable trees) (drop variable name) ≡ fields ++ []
codes_end trees name variable fields h = ap (λ t. fields ++ t) (ap (λ left. codes_of_name (drop variable trees) left) (drop_all variable name h) ∙ no_name (drop variable trees))

-- what is left where the trees are at their end
pub trees_end : (trees : List Tree) (name : List ℕ) (variable : ℕ) (fields : List (List ℕ)) → length trees ≤ variable
    → fields ++ codes_of_name (drop variable trees) (drop variable name) ≡ fields ++ []
trees_end trees name variable fields h = ap (λ left. fields ++ codes_of_name left (drop variable name)) (drop_all variable trees h)
