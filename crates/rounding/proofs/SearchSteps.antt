-- The steps of the search on a partial list.
use Rattle.std.proofs.Common.{◌≡◌, ℕ, ◌+◌, ◌<◌, Bool, true, false, not, List, [], ◌∷◌, ◌++◌, length, get_or, ℤ, arith, ap, sym, subst, ◌∙◌, append-nil}
use Rattle.sdc_base.specs.Roundings.{IsRounding}
use Rattle.sdc_base.specs.Systems.{number_at}
use Rattle.rounding.specs.Neighbours.{is_multiple}
use Rattle.rounding.specs.Choices.{Choices}
use Rattle.rounding.specs.Extremes.{is_open}
use Rattle.rounding.specs.Searches.{IsRoundingList, Stops, HasSeen, unrounded_count}
use Rattle.rounding.specs.Tasks.{IsProper}
use Rattle.rounding.specs.Fixes.{by_fixes, FixedCells, allows}
use Rattle.rounding.specs.PartialLists.{Step, choices_of, IsPartial, IsSameTask, LeadsTo, ahead_of}
use Rattle.rounding.proofs.LeftSteps.{left_open, up_allowed, whole_left, none_extends, barred_extends, NoneExtends}
use Rattle.rounding.proofs.Opening.{open_whole_rounds}
use Rattle.rounding.proofs.PartialSteps.{IsNext, length-choices_of}
use Rattle.rounding.proofs.SeenSteps.{nothing_seen, left_out, on_down, on_up, back_up, back_down, back_past, looked_stops, none_ahead, after_in}

-- what comes after a list and those that extend it
abbrev pub after_of : FixedCells → Choices → List Choices
after_of b list = after_in b.system b.truths b.base list

-- the count of cells that aren't multiples
whole_count : (b : FixedCells) (naming : List (List ℕ)) (cells : List ℕ) (steps : List Step) (viable : Bool) → IsPartial b naming cells steps viable → length steps ≡ length cells → length (choices_of steps) ≡ unrounded_count b.truths b.base
whole_count b naming cells steps viable kept whole = length-choices_of steps ∙ whole ∙ ap (λ (ns : List ℕ). length ns) kept.unrounded

opens : (b : FixedCells) (naming : List (List ℕ)) (cells : List ℕ) (steps : List Step) (viable : Bool) → IsPartial b naming cells steps viable → viable ≡ true → is_open b.system b.truths b.base (choices_of steps) ≡ true
opens b naming cells steps viable kept is = left_open b (choices_of steps) kept.proper kept.left (kept.hold is)

-- a whole list that is viable has the values of a rounding
pub found_values : (first b : FixedCells) (naming : List (List ℕ)) (cells : List ℕ) (steps : List Step) (viable : Bool) → IsPartial b naming cells steps viable → IsSameTask first b → viable ≡ true → length steps ≡ length cells → IsRounding first.system first.truths first.base (by_fixes false b.base b.truths b.fixes)
found_values first b naming cells steps viable kept same is whole =
    let count = whole_count b naming cells steps viable kept whole in
    let rounds = open_whole_rounds b.system b.truths b.base (choices_of steps) kept.proper count (opens b naming cells steps viable kept is) in
    subst (λ (a : FixedCells). IsRounding a.system a.truths a.base (by_fixes false b.base b.truths b.fixes)) same
    (subst (λ (values : List ℤ). IsRounding b.system b.truths b.base values) (sym (whole_left b (choices_of steps) kept.proper kept.left count)) rounds.rounding)

-- a list that isn't whole, or isn't viable, is no rounding
pub not_whole : (b : FixedCells) (naming : List (List ℕ)) (cells : List ℕ) (steps : List Step) (viable : Bool) → IsPartial b naming cells steps viable → (length steps ≡ length cells → ⊥) → IsRoundingList b.system b.truths b.base (choices_of steps) → ⊥
not_whole b naming cells steps viable kept partly rounds = partly (omega (arith, rounds.one_for_each, length-choices_of steps, ap (λ (ns : List ℕ). length ns) kept.unrounded))

pub not_viable : (b : FixedCells) (naming : List (List ℕ)) (cells : List ℕ) (steps : List Step) (viable : Bool) → IsPartial b naming cells steps viable → viable ≡ false → IsRoundingList b.system b.truths b.base (choices_of steps) → ⊥
not_viable b naming cells steps viable kept is rounds = none_extends b (choices_of steps) kept.left (kept.none is) [] (subst (λ (list : Choices). IsRoundingList b.system b.truths b.base list) (sym (append-nil (choices_of steps))) rounds)

pub stops_here : (first b : FixedCells) (list : Choices) (seen nodes n : ℕ) → IsSameTask first b → (IsRoundingList b.system b.truths b.base list → ⊥) → HasSeen first.system first.truths first.base seen (ahead_of first list) → seen + 1 ≡ nodes → nodes ≡ n → (n ≡ nodes) × Stops first.system first.truths first.base n
stops_here first b list seen nodes n same not has is at_nodes =
    (sym at_nodes, subst (λ (k : ℕ). Stops first.system first.truths first.base k) (is ∙ at_nodes) (looked_stops first.system first.truths first.base seen list (λ rounds. not (subst (λ (a : FixedCells). IsRoundingList a.system a.truths a.base list) (sym same) rounds)) has))

-- on to one more choice
pub leads_on : (b : FixedCells) (naming : List (List ℕ)) (cells : List ℕ) (steps steps' : List Step) (viable down up : Bool) (cell : ℕ) → IsPartial b naming cells steps viable → viable ≡ true → IsNext b naming steps cell → down ≡ allows b cell false → up ≡ not down → choices_of steps' ≡ choices_of steps ++ up ∷ [] → LeadsTo b (choices_of steps) (ahead_of b (choices_of steps'))
leads_on b naming cells steps steps' viable true up cell kept is next down other longer seen has =
    subst (λ (list : Choices). HasSeen b.system b.truths b.base (seen + 1) (ahead_of b list)) (sym (longer ∙ ap (λ (u : Bool). choices_of steps ++ u ∷ []) other))
    (on_down b.system b.truths b.base seen (choices_of steps) (opens b naming cells steps viable kept is) next.short has)
leads_on b naming cells steps steps' viable false up cell kept is next down other longer seen has =
    subst (λ (list : Choices). HasSeen b.system b.truths b.base (seen + 1) (ahead_of b list)) (sym (longer ∙ ap (λ (u : Bool). choices_of steps ++ u ∷ []) other))
    (on_up b.system b.truths b.base seen (choices_of steps) (opens b naming cells steps viable kept is) next.short (barred_extends b (choices_of steps) cell false kept.proper kept.left next.short next.is (sym down)) has)

-- back from a list that isn't viable
pub leads_back : (b : FixedCells) (naming : List (List ℕ)) (cells : List ℕ) (steps : List Step) (viable : Bool) → IsPartial b naming cells steps viable → viable ≡ false → LeadsTo b (choices_of steps) (after_of b (choices_of steps))
leads_back b naming cells steps viable kept is seen has = left_out b.system b.truths b.base seen 1 (choices_of steps) (none_extends b (choices_of steps) kept.left (kept.none is)) (omega arith) has

pub leads_up : (first : FixedCells) (start before rest : Choices) (up : Bool) → before ≡ rest ++ up ∷ [] → up ≡ true → LeadsTo first start (after_of first before) → LeadsTo first start (after_of first rest)
leads_up first start before rest up longer is leads seen has =
    subst (λ (lists : List Choices). HasSeen first.system first.truths first.base (seen + 1) lists)
    (ap (λ (list : Choices). after_of first list) (longer ∙ ap (λ (u : Bool). rest ++ u ∷ []) is) ∙ back_up first.system first.truths first.base rest) (leads seen has)

pub leads_past : (first b : FixedCells) (naming : List (List ℕ)) (cells : List ℕ) (steps : List Step) (viable up : Bool) (start before : Choices) (cell : ℕ) → IsPartial b naming cells steps viable → IsSameTask first b → IsNext b naming steps cell → before ≡ choices_of steps ++ up ∷ [] → up ≡ false → false ≡ allows b cell true
    → LeadsTo first start (after_of first before) → LeadsTo first start (after_of first (choices_of steps))
leads_past first b naming cells steps viable up start before cell kept same next longer is barred leads seen has =
    let none : NoneExtends b.system b.truths b.base (choices_of steps ++ true ∷ []) = barred_extends b (choices_of steps) cell true kept.proper kept.left next.short next.is (sym barred) in
    back_past first.system first.truths first.base (seen + 1) (choices_of steps) (subst (λ (a : FixedCells). NoneExtends a.system a.truths a.base (choices_of steps ++ true ∷ [])) same none)
    (subst (λ (list : Choices). HasSeen first.system first.truths first.base (seen + 1) (after_of first list)) (longer ∙ ap (λ (u : Bool). choices_of steps ++ u ∷ []) is) (leads seen has))

pub leads_beside : (first : FixedCells) (steps steps' : List Step) (up : Bool) (start before : Choices) → before ≡ choices_of steps ++ up ∷ [] → up ≡ false → choices_of steps' ≡ choices_of steps ++ true ∷ [] → LeadsTo first start (after_of first before) → LeadsTo first start (ahead_of first (choices_of steps'))
leads_beside first steps steps' up start before longer is next leads seen has =
    subst (λ (lists : List Choices). HasSeen first.system first.truths first.base (seen + 1) lists)
    (ap (λ (list : Choices). after_of first list) (longer ∙ ap (λ (u : Bool). choices_of steps ++ u ∷ []) is) ∙ back_down first.system first.truths first.base (choices_of steps) ∙ ap (λ (list : Choices). ahead_of first list) (sym next)) (leads seen has)

pub leads_end : (first : FixedCells) (steps : List Step) (start : Choices) → steps ≡ [] → LeadsTo first start (after_of first (choices_of steps)) → LeadsTo first start []
leads_end first steps start none leads seen has = subst (λ (ss : List Step). HasSeen first.system first.truths first.base (seen + 1) (after_of first (choices_of ss))) none (leads seen has)

-- the task stays the same
pub same_then : (first b after : FixedCells) → IsSameTask first b → IsSameTask b after → IsSameTask first after
same_then first b after one two = subst (λ (a : FixedCells). after ≡ record a { fixes = after.fixes }) one two

pub same_left : (first b : FixedCells) (list : Choices) (lists : List Choices) → IsSameTask first b → LeadsTo b list lists → LeadsTo first list lists
same_left first b list lists same leads = subst (λ (a : FixedCells). LeadsTo a list lists) same leads

pub start_seen : (b : FixedCells) (steps : List Step) → steps ≡ [] → HasSeen b.system b.truths b.base 0 (ahead_of b (choices_of steps))
start_seen b steps none = subst (λ (ss : List Step). HasSeen b.system b.truths b.base 0 (ahead_of b (choices_of ss))) (sym none) (nothing_seen b.system b.truths b.base)

pub all_seen : (first b : FixedCells) (naming : List (List ℕ)) (cells : List ℕ) (steps : List Step) (viable : Bool) (seen : ℕ) → IsPartial b naming cells steps viable → IsSameTask first b → HasSeen first.system first.truths first.base seen [] → (values : List ℤ) → IsRounding first.system first.truths first.base values → ⊥
all_seen first b naming cells steps viable seen kept same has = none_ahead first.system first.truths first.base seen (subst (λ (a : FixedCells). IsProper a.system a.truths a.base) same kept.proper) has

-- the side that is gone on to is allowed
pub go_allowed : (b : FixedCells) (cell place : ℕ) (cells : List ℕ) (down up : Bool) → IsProper b.system b.truths b.base → cell < length b.truths → is_multiple b.base (number_at b.truths cell) ≡ false → cell ≡ get_or cells place 0 → down ≡ allows b cell false → up ≡ not down → allows b (get_or cells place 0) up ≡ true
go_allowed b cell place cells true up proper inside off read down other = subst (λ (c : ℕ). allows b c up ≡ true) read (ap (λ (u : Bool). allows b cell u) other ∙ sym down)
go_allowed b cell place cells false up proper inside off read down other = subst (λ (c : ℕ). allows b c up ≡ true) read (ap (λ (u : Bool). allows b cell u) other ∙ up_allowed b cell proper inside off (sym down))

pub same_on : (first b : FixedCells) (list longer : Choices) → IsSameTask first b → LeadsTo b list (ahead_of b longer) → LeadsTo first list (ahead_of first longer)
same_on first b list longer same leads = subst (λ (a : FixedCells). LeadsTo a list (ahead_of a longer)) same leads
