-- The dimensions of tables that are made one by one.
use Rattle.std.proofs.Common.{◌≡◌, ℕ, ◌+◌, ◌<◌, List, [], ◌∷◌, ◌++◌, length, drop, get_or, ap, sym, ◌∙◌, append_assoc}
use Rattle.std.proofs.lemmas.List.{drop_more}
use Rattle.sdc_base.specs.declared.dimension.Dimension.{Dimension}
use Rattle.rda_meta.specs.declared.meta.Variable.{Variable}
use Rattle.job_lang.specs.declared.job.DepthLine.{DepthLine}
use Rattle.job_lang.specs.declared.job.TableLine.{TableLine}
use Rattle.job_lang.specs.Binding.{table_dimensions, dimensions_from}

pub dimensions_go_on : (spanning : List ℕ) (variables : List Variable) (depths : List DepthLine) (place : ℕ) (front : List (List Dimension)) (tables : List TableLine) (table : TableLine) (one : List Dimension)
    → place < length tables → table ≡ get_or tables place table → one ≡ table_dimensions spanning variables depths place table
    → (front ++ one ∷ []) ++ dimensions_from spanning variables depths (place + 1) (drop (place + 1) tables) ≡ front ++ dimensions_from spanning variables depths place (drop place tables)
dimensions_go_on spanning variables depths place front tables table one within at made =
    let rest : List (List Dimension) = dimensions_from spanning variables depths (place + 1) (drop (place + 1) tables) in
    append_assoc front (one ∷ []) rest
    ∙ ap (λ (list : List (List Dimension)). front ++ list)
    (ap (λ (first : List Dimension). first ∷ rest) made
    ∙ ap (λ (t : TableLine). dimensions_from spanning variables depths place (t ∷ drop (place + 1) tables)) at
    ∙ ap (λ (list : List TableLine). dimensions_from spanning variables depths place list) (sym (drop_more tables place table within)))
