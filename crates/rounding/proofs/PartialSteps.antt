-- The steps of a partial list.
use Rattle.std.proofs.Common.{◌≡◌, ◌⊎◌, inl, inr, ℕ, zero, suc, ◌<◌, ◌≤◌, Bool, true, false, List, [], ◌∷◌, ◌++◌, length, get_or, take, drop, Some, slice_get, ◌≤ℤ◌, arith, refl, ap, sym, subst, ◌∙◌, append_assoc, length-append}
use Rattle.std.proofs.Math.Seq.{take-append_seam, drop-append_seam, take-length}
use Rattle.std.proofs.lemmas.Int.{ints}
use Rattle.std.proofs.lemmas.List.{take-append-le, length-take-le, map-append}
use Rattle.std.proofs.lemmas.Option.{slice_get_within, get_or_from_slice_get, same_Some}
use Rattle.std.proofs.lemmas.List.Elements.{All-get_or}
use Rattle.sdc_base.specs.declared.relation.Relation.{Relation}
use Rattle.sdc_base.specs.Systems.{number_at}
use Rattle.rounding.specs.Neighbours.{is_multiple}
use Rattle.rounding.specs.Choices.{Choices, unrounded_cells, by_choices}
use Rattle.rounding.specs.Namings.{IsNaming}
use Rattle.rounding.specs.Tasks.{IsProper}
use Rattle.rounding.specs.Fixes.{Fix, by_fixes, FixedCells, number_left, NoneWithin, can_hold, AllCanHold, HoldFrom, FixesNone}
use Rattle.rounding.specs.FixedSteps.{IsForced, IsTaken}
use Rattle.rounding.specs.PartialLists.{Step, choices_of, AreLeft, fixed_before, IsPartial}
use Rattle.rounding.proofs.LeftSteps.{next_cell, next_inside, next_off, left_none, left_taken, left_forced}
use Rattle.rounding.proofs.FixSteps.{truths_between}
use Rattle.rounding.proofs.Opening.{each_spans}
use Rattle.rounding.proofs.SumSteps.{get_or_any, named_at}
use Rattle.rounding.proofs.ForceSteps.{untouched_holds}

pub length-choices_of : (steps : List Step) → length (choices_of steps) ≡ length steps
length-choices_of [] = refl
length-choices_of (step ∷ steps) = ap suc (length-choices_of steps)

pub choices_more : (steps : List Step) (step : Step) → choices_of (steps ++ step ∷ []) ≡ choices_of steps ++ step.0 ∷ []
choices_more steps step = map-append (λ (s : Step). s.0) steps (step ∷ [])

-- ---- the cell of the next choice

-- what is known of it
pub record IsNext (b : FixedCells) (naming : List (List ℕ)) (steps : List Step) (cell : ℕ) : Type 0 where
  pub short : length (choices_of steps) < length (unrounded_cells b.base 0 b.truths)
  pub is : cell ≡ next_cell b.base b.truths (length (choices_of steps))
  pub inside : cell < length b.truths
  pub inside_cells : cell < b.system.cells
  pub inside_naming : cell < length naming
  pub off : is_multiple b.base (number_at b.truths cell) ≡ false

pub next_of : (b : FixedCells) (naming : List (List ℕ)) (cells : List ℕ) (steps : List Step) (viable : Bool) (k cell : ℕ) → IsPartial b naming cells steps viable → length steps < length cells → k ≡ length steps → cell ≡ get_or cells k 0 → IsNext b naming steps cell
next_of b naming cells steps viable k cell kept below last read =
    let long : length (choices_of steps) ≡ length steps = length-choices_of steps in
    let same : length cells ≡ length (unrounded_cells b.base 0 b.truths) = ap (λ (ns : List ℕ). length ns) kept.unrounded in
    let short : length (choices_of steps) < length (unrounded_cells b.base 0 b.truths) = omega (arith, long, same, below) in
    let is : cell ≡ next_cell b.base b.truths (length (choices_of steps)) = read ∙ (λ i. get_or (kept.unrounded i) ((last ∙ sym long) i) 0) in
    let inside : cell < length b.truths = omega (arith, is, next_inside b.base b.truths (length (choices_of steps)) short) in
    record {
      short = short;
      is = is;
      inside = inside;
      inside_cells = omega (arith, inside, kept.proper.each);
      inside_naming = omega (arith, inside, kept.proper.each, kept.listed.each);
      off = ap (λ (c : ℕ). is_multiple b.base (number_at b.truths c)) is ∙ next_off b.base b.truths (length (choices_of steps)) short;
    }

-- a cell as code reads it
pub read_cell : (cells : List ℕ) (k cell : ℕ) → k < length cells → cell ≡ get_or cells k cell → cell ≡ get_or cells k 0
read_cell cells k cell inside is = is ∙ get_or_any cells k cell 0 inside

-- ---- one more choice

last_or_before : (steps : List Step) (step : Step) (place : ℕ) (one : Step) → slice_get (steps ++ step ∷ []) place ≡ Some one → ((place < length steps) × (slice_get steps place ≡ Some one)) ⊎ ((place ≡ length steps) × (one ≡ step))
last_or_before [] step zero one there = inr (refl, sym (same_Some step one there))
last_or_before [] step (suc place) one there = absurd (omega (arith, slice_get_within (step ∷ []) (suc place) one there))
last_or_before (f ∷ steps) step zero one there = inl (omega arith, there)
last_or_before (f ∷ steps) step (suc place) one there =
    elim (last_or_before steps step place one there) as (λ _. ((suc place < suc (length steps)) × (slice_get (f ∷ steps) (suc place) ≡ Some one)) ⊎ ((suc place ≡ suc (length steps)) × (one ≡ step))) [
      | inl before ↦ inl (omega (arith, before.0), before.1)
      | inr last ↦ inr (ap suc last.0, last.1)
    ]

-- what was fixed before a step is the same after more is fixed
same_before : (b after : FixedCells) (more : List Fix) (step : Step) → after ≡ record b { fixes = b.fixes ++ more } → step.1 ≤ length b.fixes → fixed_before after step ≡ fixed_before b step
same_before b after more step grown inside = ap (λ (a : FixedCells). fixed_before a step) grown ∙ ap (λ (fs : List Fix). record b { fixes = fs }) (take-append-le step.1 b.fixes more inside)

whole_before : (b after : FixedCells) (more : List Fix) (step : Step) → after ≡ record b { fixes = b.fixes ++ more } → step.1 ≡ length b.fixes → fixed_before after step ≡ b
whole_before b after more step grown last = ap (λ (a : FixedCells). fixed_before a step) grown ∙ ap (λ (fs : List Fix). record b { fixes = fs }) (ap (λ (k : ℕ). take k (b.fixes ++ more)) last ∙ take-append_seam b.fixes more)

taken_then : (b mid after : FixedCells) (cell : ℕ) (up : Bool) (taken : IsTaken cell up b mid) (forced : IsForced mid after) → after ≡ record b { fixes = b.fixes ++ (taken.more ++ forced.more) }
taken_then b mid after cell up taken forced =
    subst (λ (a : FixedCells). after ≡ record a { fixes = a.fixes ++ forced.more }) taken.grown forced.grown ∙ ap (λ (fs : List Fix). record b { fixes = fs }) (append_assoc b.fixes taken.more forced.more)

pub partial_on : (b mid after : FixedCells) (naming : List (List ℕ)) (cells : List ℕ) (steps steps' : List Step) (viable viable' up : Bool) (mark cell : ℕ) → IsPartial b naming cells steps viable → viable ≡ true → length steps < length cells → IsNext b naming steps cell → steps' ≡ steps ++ (up, mark) ∷ [] → mark ≡ length b.fixes
    → IsTaken cell up b mid → IsForced mid after → (viable' ≡ true → AllCanHold after) → (viable' ≡ false → NoneWithin after) → IsPartial after naming cells steps' viable'
partial_on b mid after naming cells steps steps' viable viable' up mark cell kept is_viable below next longer mark_is taken forced hold none =
    let more : List Fix = taken.more ++ forced.more in
    let step : Step = (up, mark) in
    let grown : after ≡ record b { fixes = b.fixes ++ more } = taken_then b mid after cell up taken forced in
    let long : length after.fixes ≡ length (b.fixes ++ more) = ap (λ (a : FixedCells). length a.fixes) grown in
    let find : (place : ℕ) (one : Step) → slice_get steps' place ≡ Some one → ((place < length steps) × (slice_get steps place ≡ Some one)) ⊎ ((place ≡ length steps) × (one ≡ step)) = λ place one there. last_or_before steps step place one (ap (λ (ss : List Step). slice_get ss place) (sym longer) ∙ there) in
    record {
      proper = subst (λ (a : FixedCells). IsProper a.system a.truths a.base) (sym grown) kept.proper;
      listed = subst (λ (a : FixedCells). IsNaming a.system naming) (sym grown) kept.listed;
      unrounded = kept.unrounded ∙ ap (λ (a : FixedCells). unrounded_cells a.base 0 a.truths) (sym grown);
      at_most_cells = omega (arith, ap (λ (ss : List Step). length ss) longer, length-append steps (step ∷ []), below);
      ascending = λ one other s t less first second.
          elim (find other t second) as (λ _. s.1 ≤ t.1) [
            | inl before ↦ elim (find one s first) as (λ _. s.1 ≤ t.1) [ inl earlier ↦ kept.ascending one other s t less earlier.1 before.1 | inr last ↦ absurd (omega (arith, last.0, before.0)) ]
            | inr last ↦ elim (find one s first) as (λ _. s.1 ≤ t.1) [
              | inl earlier ↦ omega (arith, kept.marks one s earlier.1, mark_is, ap (λ (x : Step). x.1) last.1)
              | inr same ↦ absurd (omega (arith, same.0, last.0))
            ]
          ];
      marks = λ place one there. elim (find place one there) as (λ _. one.1 ≤ length after.fixes) [
        | inl before ↦ omega (arith, kept.marks place one before.1, long, length-append b.fixes more)
        | inr last ↦ omega (arith, mark_is, ap (λ (x : Step). x.1) last.1, long, length-append b.fixes more)
      ];
      earlier = λ place one there. elim (find place one there) as (λ _. AreLeft (fixed_before after one) (choices_of (take place steps')) × AllCanHold (fixed_before after one)) [
        | inl before ↦
            let front : take place steps' ≡ take place steps = ap (λ (ss : List Step). take place ss) longer ∙ take-append-le place steps (step ∷ []) (omega (arith, before.0)) in
            let was = kept.earlier place one before.1 in
            subst (λ (a : FixedCells). AreLeft a (choices_of (take place steps')) × AllCanHold a) (sym (same_before b after more one grown (kept.marks place one before.1)))
            (subst (λ (ss : List Step). AreLeft (fixed_before b one) (choices_of ss) × AllCanHold (fixed_before b one)) (sym front) was)
        | inr last ↦
            let front : take place steps' ≡ steps = (λ i. take (last.0 i) (longer i)) ∙ take-append_seam steps (step ∷ []) in
            subst (λ (a : FixedCells). AreLeft a (choices_of (take place steps')) × AllCanHold a) (sym (whole_before b after more one grown (ap (λ (x : Step). x.1) last.1 ∙ mark_is)))
            (subst (λ (ss : List Step). AreLeft b (choices_of ss) × AllCanHold b) (sym front) (kept.left, kept.hold is_viable))
      ];
      left = subst (λ (list : Choices). AreLeft after list) (sym (ap (λ (ss : List Step). choices_of ss) longer ∙ choices_more steps step))
          (left_forced mid after (choices_of steps ++ up ∷ []) (left_taken b mid (choices_of steps) cell up kept.proper kept.left next.short next.is taken) forced);
      hold = hold;
      none = none;
    }

-- what is fixed behind a place touches no relation where it is nothing
pub taken_ready : (b mid : FixedCells) (cell : ℕ) (up : Bool) (mark : ℕ) → mark ≡ length b.fixes → AllCanHold b → IsTaken cell up b mid → HoldFrom mark mid
taken_ready b mid cell up mark mark_is hold taken n r there untouched =
    let more : drop mark mid.fixes ≡ taken.more = (λ i. drop (mark_is i) (taken.grown i).fixes) ∙ drop-append_seam b.fixes taken.more in
    let found : slice_get b.system.relations n ≡ Some r = ap (λ (a : FixedCells). slice_get a.system.relations n) (sym taken.grown) ∙ there in
    subst (λ (a : FixedCells). can_hold a r ≡ true) (sym taken.grown)
    (untouched_holds b taken.more r (named_at b.system.cells b.system.relations n r b.system.named found) (subst (λ (fs : List Fix). FixesNone r fs) more untouched) (hold n r found))

pub taken_from : (b mid : FixedCells) (cell : ℕ) (up : Bool) (mark : ℕ) → mark ≡ length b.fixes → IsTaken cell up b mid → mark ≤ length mid.fixes
taken_from b mid cell up mark mark_is taken = omega (arith, mark_is, ap (λ (a : FixedCells). length a.fixes) taken.grown, length-append b.fixes taken.more)

pub on_same : (b mid after : FixedCells) (cell : ℕ) (up : Bool) → IsTaken cell up b mid → IsForced mid after → after ≡ record b { fixes = after.fixes }
on_same b mid after cell up taken forced =
    let grown = taken_then b mid after cell up taken forced in
    grown ∙ (λ i. record b { fixes = (sym grown i).fixes })

-- ---- the last one taken back

get_in_front : (steps : List Step) (step : Step) (place : ℕ) (one : Step) → slice_get steps place ≡ Some one → slice_get (steps ++ step ∷ []) place ≡ Some one
get_in_front [] step place one there = absurd (omega (arith, slice_get_within [] place one there))
get_in_front (f ∷ steps) step zero one there = there
get_in_front (f ∷ steps) step (suc place) one there = get_in_front steps step place one there

get_last : (steps : List Step) (step : Step) → slice_get (steps ++ step ∷ []) (length steps) ≡ Some step
get_last [] step = refl
get_last (f ∷ steps) step = get_last steps step

take_less : {X : Type 0} (xs : List X) (few more : ℕ) → few ≤ more → take few (take more xs) ≡ take few xs
take_less {X} xs zero more under = refl
take_less {X} xs (suc few) zero under = absurd (omega arith)
take_less {X} [] (suc few) (suc more) under = refl
take_less {X} (x ∷ xs) (suc few) (suc more) under = ap (λ (ys : List X). x ∷ ys) (take_less xs few more (omega arith))

-- the place of what was fixed before the last step
pub last_mark : (b : FixedCells) (naming : List (List ℕ)) (cells : List ℕ) (steps rest : List Step) (step : Step) (viable : Bool) → IsPartial b naming cells steps viable → steps ≡ rest ++ step ∷ [] → step.1 ≤ length b.fixes
last_mark b naming cells steps rest step viable kept longer = kept.marks (length rest) step (ap (λ (ss : List Step). slice_get ss (length rest)) longer ∙ get_last rest step)

pub partial_back : (b after : FixedCells) (naming : List (List ℕ)) (cells : List ℕ) (steps rest : List Step) (step : Step) (viable : Bool) → IsPartial b naming cells steps viable → steps ≡ rest ++ step ∷ [] → after ≡ record b { fixes = take step.1 b.fixes } → IsPartial after naming cells rest true
partial_back b after naming cells steps rest step viable kept longer made =
    let last : slice_get steps (length rest) ≡ Some step = ap (λ (ss : List Step). slice_get ss (length rest)) longer ∙ get_last rest step in
    let there_before : (place : ℕ) (one : Step) → slice_get rest place ≡ Some one → slice_get steps place ≡ Some one = λ place one found. ap (λ (ss : List Step). slice_get ss place) longer ∙ get_in_front rest step place one found in
    let mark : step.1 ≤ length b.fixes = kept.marks (length rest) step last in
    let long : length after.fixes ≡ step.1 = ap (λ (a : FixedCells). length a.fixes) made ∙ length-take-le step.1 b.fixes mark in
    let front : (place : ℕ) → place ≤ length rest → take place steps ≡ take place rest = λ place inside. ap (λ (ss : List Step). take place ss) longer ∙ take-append-le place rest (step ∷ []) inside in
    let was = kept.earlier (length rest) step last in
    let whole : take (length rest) steps ≡ rest = front (length rest) (omega arith) ∙ take-length rest in
    record {
      proper = subst (λ (a : FixedCells). IsProper a.system a.truths a.base) (sym made) kept.proper;
      listed = subst (λ (a : FixedCells). IsNaming a.system naming) (sym made) kept.listed;
      unrounded = kept.unrounded ∙ ap (λ (a : FixedCells). unrounded_cells a.base 0 a.truths) (sym made);
      at_most_cells = omega (arith, kept.at_most_cells, ap (λ (ss : List Step). length ss) longer, length-append rest (step ∷ []));
      ascending = λ one other s t less first second. kept.ascending one other s t less (there_before one s first) (there_before other t second);
      marks = λ place one found. omega (arith, long, kept.ascending place (length rest) one step (slice_get_within rest place one found) (there_before place one found) last);
      earlier = λ place one found.
          let under : place < length rest = slice_get_within rest place one found in
          let less = kept.ascending place (length rest) one step under (there_before place one found) last in
          let same : fixed_before after one ≡ fixed_before b one = ap (λ (a : FixedCells). fixed_before a one) made ∙ ap (λ (fs : List Fix). record b { fixes = fs }) (take_less b.fixes one.1 step.1 less) in
          subst (λ (a : FixedCells). AreLeft a (choices_of (take place rest)) × AllCanHold a) (sym same)
          (subst (λ (ss : List Step). AreLeft (fixed_before b one) (choices_of ss) × AllCanHold (fixed_before b one)) (front place (omega arith)) (kept.earlier place one (there_before place one found)));
      left = subst (λ (a : FixedCells). AreLeft a (choices_of rest)) (sym made) (subst (λ (ss : List Step). AreLeft (fixed_before b step) (choices_of ss)) whole was.0);
      hold = λ _. subst (λ (a : FixedCells). AllCanHold a) (sym made) was.1;
      none = λ clash. absurd (let no : true ≡ false = clash in cc);
    }

-- ---- no choices yet

none_hold : (b : FixedCells) → IsProper b.system b.truths b.base → b.fixes ≡ [] → AllCanHold b
none_hold b proper none n r there =
    let same : (side : Bool) (c : ℕ) → number_left side b c ≡ number_at (by_choices side b.base b.truths []) c = λ side c. ap (λ (fs : List Fix). number_at (by_fixes side b.base b.truths fs) c) none in
    let lies : (c : ℕ) → (number_left false b c ≤ℤ number_at b.truths c) × (number_at b.truths c ≤ℤ number_left true b c) = λ c. let truth = truths_between b.base b.truths proper.from_one proper.within c in (omega (arith, ints, truth.0, same false c), omega (arith, ints, truth.1, same true c)) in
    let all = each_spans b.system.cells (number_left false b) (number_left true b) (number_at b.truths) b.system.relations lies b.system.named proper.hold in
    subst (λ (one : Relation). can_hold b one ≡ true) (get_or_from_slice_get b.system.relations n r r there) (All-get_or (λ (one : Relation). can_hold b one ≡ true) b.system.relations n r (slice_get_within b.system.relations n r there) all)

pub partial_none : (b : FixedCells) (naming : List (List ℕ)) (cells : List ℕ) (steps : List Step) (viable : Bool) → IsProper b.system b.truths b.base → b.fixes ≡ [] → IsNaming b.system naming → cells ≡ unrounded_cells b.base 0 b.truths → steps ≡ [] → viable ≡ true → IsPartial b naming cells steps viable
partial_none b naming cells steps viable proper none is unrounded no_steps is_viable =
    let empty : length steps ≡ 0 = ap (λ (ss : List Step). length ss) no_steps in
    record {
      proper = proper;
      listed = is;
      unrounded = unrounded;
      at_most_cells = omega (arith, empty);
      ascending = λ one other s t less first second. absurd (omega (arith, slice_get_within steps one s first, empty));
      marks = λ place step there. absurd (omega (arith, slice_get_within steps place step there, empty));
      earlier = λ place step there. absurd (omega (arith, slice_get_within steps place step there, empty));
      left = subst (λ (ss : List Step). AreLeft b (choices_of ss)) (sym no_steps) (left_none b proper none);
      hold = λ _. none_hold b proper none;
      none = λ barred. absurd (let clash : true ≡ false = sym is_viable ∙ barred in cc);
    }
