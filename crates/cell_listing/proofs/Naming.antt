-- The words of the rules that name a cell, rule after rule.
use Rattle.std.proofs.Common.{◌≡◌, ℕ, ◌+◌, ◌<◌, length, take, get_or, sym, cond, true, false, is_some, None, Some, option_map, List, [], ◌∷◌, ◌++◌, map, filter, refl, ap, ◌∙◌}
use Rattle.std.proofs.lemmas.List.{map-append, take_more}
use Rattle.std.proofs.lemmas.List.Elements.{filter-append}
use Rattle.sdc_base.specs.RuleLevels.{Figures, is_sensitive_by, level_of, levels_up_to, greater_number, rounded_up, wanted_level}
use Rattle.sdc_base.specs.declared.rule.Rule.{Rule}
use Rattle.cell_listing.specs.Reasons.{naming_words, rule_word}

-- a rule alone gives levels exactly where it names the cell
pub alone_names : (one : Rule) (cell : Figures) → is_some (level_of (one ∷ []) cell) ≡ is_sensitive_by one cell
alone_names one cell =
    elim (is_sensitive_by one cell) as (λ t. is_some (option_map (levels_up_to cell.truth) (cond t (Some (greater_number (rounded_up (wanted_level one cell)) None)) None)) ≡ t) [
      | true ↦ refl
      | false ↦ refl
    ]

-- the words of some rules, and then of more
pub naming_more : (rules more : List Rule) (cell : Figures) → naming_words (rules ++ more) cell ≡ naming_words rules cell ++ naming_words more cell
naming_more rules more cell =
    ap (λ chosen. map rule_word chosen) (filter-append (λ one. is_sensitive_by one cell) rules more) ∙ map-append rule_word (filter (λ one. is_sensitive_by one cell) rules) (filter (λ one. is_sensitive_by one cell) more)

pub one_word : (one : Rule) (cell : Figures) → is_sensitive_by one cell ≡ true → naming_words (one ∷ []) cell ≡ rule_word one ∷ []
one_word one cell h = rw h refl

pub no_word : (one : Rule) (cell : Figures) → is_sensitive_by one cell ≡ false → naming_words (one ∷ []) cell ≡ []
no_word one cell h = rw h refl

-- the words up to one rule more
pub naming_step : (rules : List Rule) (i : ℕ) (d : Rule) (cell : Figures) (before after : List (List ℕ)) → i < length rules → before ≡ naming_words (take i rules) cell → after ≡ before ++ naming_words (get_or rules i d ∷ []) cell → after ≡ naming_words (take (i + 1) rules) cell
naming_step rules i d cell before after within were are =
    are
    ∙ ap (λ (words : List (List ℕ)). words ++ naming_words (get_or rules i d ∷ []) cell) were
    ∙ sym (naming_more (take i rules) (get_or rules i d ∷ []) cell)
    ∙ ap (λ (some : List Rule). naming_words some cell) (sym (take_more rules i d within))
