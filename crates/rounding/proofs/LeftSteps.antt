-- What choices and what they force leave.
use Rattle.std.proofs.Common.{◌≡◌, ◌≢◌, ◌⊎◌, inl, inr, ℕ, zero, suc, ◌+◌, ◌-◌, ◌<◌, ◌≤◌, ◌==◌, Bool, true, false, List, [], ◌∷◌, ◌++◌, length, get_or, All, Some, slice_get, ℤ, pos, ◌≤ℤ◌, ◌<ℤ◌, int_lt, int_le, ◌&&◌, fold, arith, refl, ap, sym, subst, ◌∙◌, if◌then◌else◌, append_assoc, get_or-set_other, get_or-set_same}
use Rattle.std.proofs.Math.ListN.{set}
use Rattle.std.proofs.lemmas.Int.{ints}
use Rattle.std.proofs.lemmas.Bool.Decides.{Decides-eqb, nat_tests}
use Rattle.std.proofs.lemmas.List.{ext_get_or}
use Rattle.std.proofs.lemmas.List.Elements.{All-head, All-tail}
use Rattle.std.proofs.lemmas.List.Sums.{fold-append, list_all-from_AllPass}
use Rattle.std.proofs.lemmas.Option.{slice_get-get_or}
use Rattle.sdc_base.specs.declared.relation.Relation.{Relation}
use Rattle.sdc_base.specs.Systems.{NamesCells, number_at}
use Rattle.rounding.specs.Neighbours.{is_multiple, neighbour}
use Rattle.rounding.specs.Choices.{Choices, unrounded_cells, by_choices}
use Rattle.sdc_base.specs.Forms.{count_of}
use Rattle.rounding.specs.Extremes.{extreme_numbers, extreme_of_form, spans_none, is_open}
use Rattle.rounding.specs.Searches.{IsRoundingList, unrounded_count}
use Rattle.rounding.specs.Tasks.{IsProper}
use Rattle.rounding.specs.Fixes.{Fix, with_fix, by_fixes, FixedCells, number_left, allows, IsWithin, NoneWithin, AllCanHold}
use Rattle.rounding.specs.FixedSteps.{IsForced, IsTaken}
use Rattle.rounding.specs.PartialLists.{AreLeft}
use Rattle.rounding.proofs.Betweenness.{longer_lies}
use Rattle.rounding.proofs.Choosing.{unrounded_within, one_more_choice, length-by_choices, whole_leaves_one}
use Rattle.rounding.proofs.FormLemmas.{least_is, greatest_is}
use Rattle.rounding.proofs.FixSteps.{length-by_fixes, ordered, between, left_spot}
use Rattle.rounding.proofs.Opening.{spans}
use Rattle.rounding.proofs.SumSteps.{named_at}
use Rattle.sdc_base.specs.declared.system.System.{System}

-- no rounding extends a list
abbrev pub NoneExtends : System → List ℤ → ℤ → Choices → Type 0
NoneExtends system truths base list = (rest : Choices) → IsRoundingList system truths base (list ++ rest) → ⊥

-- ---- the cell of the next choice

abbrev pub next_cell : ℤ → List ℤ → ℕ → ℕ
next_cell base truths k = get_or (unrounded_cells base 0 truths) k 0

pub next_inside : (base : ℤ) (truths : List ℤ) (k : ℕ) → k < length (unrounded_cells base 0 truths) → next_cell base truths k < length truths
next_inside base truths k below = omega (arith, (unrounded_within base 0 truths k below).1)

-- it is no multiple
off_later : (base truth : ℤ) (truths : List ℤ) (n g : ℕ) → n + 1 ≤ g → is_multiple base (get_or truths (g - (n + 1)) (pos 0)) ≡ false → is_multiple base (get_or (truth ∷ truths) (g - n) (pos 0)) ≡ false
off_later base truth truths n g from off = let next : g - n ≡ suc (g - (n + 1)) = omega arith in ap (λ (k : ℕ). is_multiple base (get_or (truth ∷ truths) k (pos 0))) next ∙ off

off_here : (base truth : ℤ) (truths : List ℤ) (n : ℕ) (later : List ℕ) → is_multiple base truth ≡ false → ((j : ℕ) → j < length later → (n + 1 ≤ get_or later j 0) × (is_multiple base (get_or truths (get_or later j 0 - (n + 1)) (pos 0)) ≡ false)) → (k : ℕ) → k < suc (length later) → is_multiple base (get_or (truth ∷ truths) (get_or (n ∷ later) k 0 - n) (pos 0)) ≡ false
off_here base truth truths n later test each zero under = let none : n - n ≡ 0 = omega arith in ap (λ (j : ℕ). is_multiple base (get_or (truth ∷ truths) j (pos 0))) none ∙ test
off_here base truth truths n later test each (suc k) under = let one = each k (omega arith) in off_later base truth truths n (get_or later k 0) one.0 one.1

off_at : (base : ℤ) (n : ℕ) (truths : List ℤ) (k : ℕ) → k < length (unrounded_cells base n truths) → is_multiple base (get_or truths (get_or (unrounded_cells base n truths) k 0 - n) (pos 0)) ≡ false
off_at base n [] k below = absurd (omega arith)
off_at base n (truth ∷ truths) k below =
    elim (is_multiple base truth) as (λ b. is_multiple base truth ≡ b → k < length (if b then unrounded_cells base (n + 1) truths else n ∷ unrounded_cells base (n + 1) truths) → is_multiple base (get_or (truth ∷ truths) (get_or (if b then unrounded_cells base (n + 1) truths else n ∷ unrounded_cells base (n + 1) truths) k 0 - n) (pos 0)) ≡ false) [
      | true ↦ λ _ under. off_later base truth truths n (get_or (unrounded_cells base (n + 1) truths) k 0) (unrounded_within base (n + 1) truths k under).0 (off_at base (n + 1) truths k under)
      | false ↦ λ test under. off_here base truth truths n (unrounded_cells base (n + 1) truths) test (λ j inside. ((unrounded_within base (n + 1) truths j inside).0, off_at base (n + 1) truths j inside)) k under
    ] refl below

pub next_off : (base : ℤ) (truths : List ℤ) (k : ℕ) → k < length (unrounded_cells base 0 truths) → is_multiple base (number_at truths (next_cell base truths k)) ≡ false
next_off base truths k below = let whole : next_cell base truths k - 0 ≡ next_cell base truths k = omega arith in subst (λ (j : ℕ). is_multiple base (get_or truths j (pos 0)) ≡ false) whole (off_at base 0 truths k below)

next_chosen : (side choice : Bool) (base : ℤ) (truths : List ℤ) (choices : Choices) → length choices < length (unrounded_cells base 0 truths) → by_choices side base truths (choices ++ choice ∷ []) ≡ set (by_choices side base truths choices) (next_cell base truths (length choices)) (neighbour base (number_at truths (next_cell base truths (length choices))) choice)
next_chosen side choice base truths choices below =
    let cell : ℕ = next_cell base truths (length choices) in
    let whole : cell - 0 ≡ cell = omega arith in
    subst (λ (t : ℕ). by_choices side base truths (choices ++ choice ∷ []) ≡ set (by_choices side base truths choices) t (neighbour base (get_or truths t (pos 0)) choice)) whole (one_more_choice side choice base 0 truths choices below)

-- with one more choice its cell is at the neighbour, and the others are where they were
chosen_here : (side choice : Bool) (base : ℤ) (truths : List ℤ) (choices : Choices) (cell : ℕ) → length choices < length (unrounded_cells base 0 truths) → cell ≡ next_cell base truths (length choices) → number_at (by_choices side base truths (choices ++ choice ∷ [])) cell ≡ neighbour base (number_at truths cell) choice
chosen_here side choice base truths choices cell below is =
    let next : ℕ = next_cell base truths (length choices) in
    let inside = next_inside base truths (length choices) below in
    subst (λ (c : ℕ). number_at (by_choices side base truths (choices ++ choice ∷ [])) c ≡ neighbour base (number_at truths c) choice) (sym is)
    (ap (λ (xs : List ℤ). number_at xs next) (next_chosen side choice base truths choices below) ∙ get_or-set_same (by_choices side base truths choices) next (neighbour base (number_at truths next) choice) (pos 0) (omega (arith, inside, length-by_choices side base truths choices)))

chosen_other : (side choice : Bool) (base : ℤ) (truths : List ℤ) (choices : Choices) (cell c : ℕ) → length choices < length (unrounded_cells base 0 truths) → cell ≡ next_cell base truths (length choices) → c ≢ cell → number_at (by_choices side base truths (choices ++ choice ∷ [])) c ≡ number_at (by_choices side base truths choices) c
chosen_other side choice base truths choices cell c below is apart =
    let next : ℕ = next_cell base truths (length choices) in
    ap (λ (xs : List ℤ). number_at xs c) (next_chosen side choice base truths choices below) ∙ get_or-set_other (by_choices side base truths choices) next c (neighbour base (number_at truths next) choice) (pos 0) (λ same. apart (same ∙ sym is))

-- values of a list that goes on from a choice have its cell there
made_here : (choice : Bool) (base : ℤ) (truths : List ℤ) (choices rest : Choices) (cell : ℕ) → pos 1 ≤ℤ base → length choices < length (unrounded_cells base 0 truths) → cell ≡ next_cell base truths (length choices) → number_at (by_choices false base truths ((choices ++ choice ∷ []) ++ rest)) cell ≡ neighbour base (number_at truths cell) choice
made_here choice base truths choices rest cell positive below is =
    let lies = longer_lies false base truths (choices ++ choice ∷ []) rest positive cell in
    omega (arith, ints, lies.0, lies.1, chosen_here false choice base truths choices cell below is, chosen_here true choice base truths choices cell below is)

-- ---- what is left, and the lists

spans_both : (a b : ℤ) → (int_le a (pos 0) && int_le (pos 0) b) ≡ true → (a ≤ℤ pos 0) × (pos 0 ≤ℤ b)
spans_both a b is =
    elim (int_le a (pos 0)) as (λ t. int_le a (pos 0) ≡ t → (t && int_le (pos 0) b) ≡ true → (a ≤ℤ pos 0) × (pos 0 ≤ℤ b)) [
      | true ↦ λ low high. (let below : a ≤ℤ pos 0 = grind (arith, ints, low) in below, let above : pos 0 ≤ℤ b = grind (arith, ints, high) in above)
      | false ↦ λ _ clash. absurd cc
    ] refl is

-- where every relation can hold on what is left, the list is open
pub left_open : (b : FixedCells) (choices : Choices) → IsProper b.system b.truths b.base → AreLeft b choices → AllCanHold b → is_open b.system b.truths b.base choices ≡ true
left_open b choices proper left hold =
    let lows : ℕ → ℤ = number_at (by_choices false b.base b.truths choices) in
    let highs : ℕ → ℤ = number_at (by_choices true b.base b.truths choices) in
    let low_lies : (c : ℕ) → (lows c ≤ℤ number_left false b c) × (number_left false b c ≤ℤ highs c) = λ c. let inside = left.inside c in let order = ordered b c proper.from_one in (inside.0, omega (arith, ints, inside.1, order)) in
    let high_lies : (c : ℕ) → (lows c ≤ℤ number_left true b c) × (number_left true b c ≤ℤ highs c) = λ c. let inside = left.inside c in let order = ordered b c proper.from_one in (omega (arith, ints, inside.0, order), inside.1) in
    list_all-from_AllPass (spans_none lows highs) b.system.relations
    (λ n d below.
    let r : Relation = get_or b.system.relations n d in
    let there : slice_get b.system.relations n ≡ Some r = slice_get-get_or b.system.relations n d below in
    let named : NamesCells b.system.cells r = named_at b.system.cells b.system.relations n r b.system.named there in
    let both = spans_both (extreme_of_form (number_left false b) (number_left true b) r) (extreme_of_form (number_left true b) (number_left false b) r) (hold n r there) in
    let least = least_is b.system.cells r lows highs (extreme_numbers r (number_left false b) (number_left true b)) named (λ c. picked_lies (int_lt (pos 0) (count_of r c)) (lows c) (highs c) (number_left false b c) (number_left true b c) (low_lies c) (high_lies c)) in
    let greatest = greatest_is b.system.cells r lows highs (extreme_numbers r (number_left true b) (number_left false b)) named (λ c. picked_lies (int_lt (pos 0) (count_of r c)) (lows c) (highs c) (number_left true b c) (number_left false b c) (high_lies c) (low_lies c)) in
    spans (extreme_of_form lows highs r) (extreme_of_form highs lows r) (omega (arith, ints, least, both.0)) (omega (arith, ints, greatest, both.1)))
  where
    picked_lies : (p : Bool) (low high x y : ℤ) → (low ≤ℤ x) × (x ≤ℤ high) → (low ≤ℤ y) × (y ≤ℤ high) → (low ≤ℤ (if p then x else y)) × ((if p then x else y) ≤ℤ high)
    picked_lies true low high x y first second = first
    picked_lies false low high x y first second = second

-- a whole list leaves the values that it makes
pub whole_left : (b : FixedCells) (choices : Choices) → IsProper b.system b.truths b.base → AreLeft b choices → length choices ≡ unrounded_count b.truths b.base → by_fixes false b.base b.truths b.fixes ≡ by_choices false b.base b.truths choices
whole_left b choices proper left whole =
    let one = whole_leaves_one b.base 0 b.truths choices (omega (arith, whole)) in
    ext_get_or (pos 0) (by_fixes false b.base b.truths b.fixes) (by_choices false b.base b.truths choices) (length-by_fixes false b.base b.truths b.fixes ∙ sym (length-by_choices false b.base b.truths choices))
    (λ c _. let inside = left.inside c in let order = ordered b c proper.from_one in omega (arith, ints, inside.0, inside.1, order, ap (λ (xs : List ℤ). number_at xs c) one))

-- where no rounding is left, none extends the list
pub none_extends : (b : FixedCells) (choices : Choices) → AreLeft b choices → NoneWithin b → NoneExtends b.system b.truths b.base choices
none_extends b choices left none rest rounds = none (by_choices false b.base b.truths (choices ++ rest)) rounds.rounding (left.sound rest rounds)

-- nor the list with a choice that what is left doesn't allow
pub barred_extends : (b : FixedCells) (choices : Choices) (cell : ℕ) (side : Bool) → IsProper b.system b.truths b.base → AreLeft b choices → length choices < length (unrounded_cells b.base 0 b.truths) → cell ≡ next_cell b.base b.truths (length choices) → allows b cell side ≡ false → NoneExtends b.system b.truths b.base (choices ++ side ∷ [])
barred_extends b choices cell side proper left short is barred rest rounds =
    let inside : cell < length b.truths = omega (arith, is, next_inside b.base b.truths (length choices) short) in
    let off : is_multiple b.base (number_at b.truths cell) ≡ false = ap (λ (c : ℕ). is_multiple b.base (number_at b.truths c)) is ∙ next_off b.base b.truths (length choices) short in
    let truth = between b.base (number_at b.truths cell) proper.from_one (proper.within cell (pos 0) inside).from_zero off in
    let here = made_here side b.base b.truths choices rest cell proper.from_one short is in
    let same : (choices ++ side ∷ []) ++ rest ≡ choices ++ (side ∷ rest) = append_assoc choices (side ∷ []) rest in
    let within = subst (λ (list : Choices). IsWithin b (by_choices false b.base b.truths list)) (sym same) (left.sound (side ∷ rest) (subst (λ (list : Choices). IsRoundingList b.system b.truths b.base list) same rounds)) cell in
    excluded side (number_at b.truths cell) (number_left false b cell) (number_left true b cell) (number_at (by_choices false b.base b.truths ((choices ++ side ∷ []) ++ rest)) cell) truth here within barred
  where
    excluded : (up : Bool) (t low high value : ℤ) → (neighbour b.base t false <ℤ t) × (t <ℤ neighbour b.base t true) → value ≡ neighbour b.base t up → (low ≤ℤ value) × (value ≤ℤ high) → (if up then int_lt t high else int_lt low t) ≡ false → ⊥
    excluded true t low high value truth at_side within not_less = let from : high ≤ℤ t = grind (arith, ints, not_less) in omega (arith, ints, from, within.1, at_side, truth.1)
    excluded false t low high value truth at_side within not_less = let from : t ≤ℤ low = grind (arith, ints, not_less) in omega (arith, ints, from, within.0, at_side, truth.0)

-- where down isn't allowed, up is
pub up_allowed : (b : FixedCells) (cell : ℕ) → IsProper b.system b.truths b.base → cell < length b.truths → is_multiple b.base (number_at b.truths cell) ≡ false → allows b cell false ≡ false → allows b cell true ≡ true
up_allowed b cell proper inside off barred =
    let truth = between b.base (number_at b.truths cell) proper.from_one (proper.within cell (pos 0) inside).from_zero off in
    let from : number_at b.truths cell ≤ℤ number_left false b cell = grind (arith, ints, barred) in
    let high : number_at b.truths cell <ℤ number_left true b cell = elim (left_spot false b cell inside off) as (λ _. number_at b.truths cell <ℤ number_left true b cell) [
      | inl down ↦ absurd (omega (arith, ints, from, down, truth.0))
      | inr up ↦ omega (arith, ints, up, truth.1, ordered b cell proper.from_one)
    ] in
    grind (arith, ints, high)

-- ---- one more choice

alone_at : (base : ℤ) (truths xs : List ℤ) (more : List Fix) (cell c : ℕ) → All (λ fix. fix.0 ≡ cell) more → c ≢ cell → number_at (fold (with_fix base truths) xs more) c ≡ number_at xs c
alone_at base truths xs [] cell c alone apart = refl
alone_at base truths xs (fix ∷ more) cell c alone apart =
    let z : ℤ = neighbour base (number_at truths fix.0) fix.1 in
    let here : fix.0 ≡ cell = All-head (λ (f : Fix). f.0 ≡ cell) fix more alone in
    alone_at base truths (set xs fix.0 z) more cell c (All-tail (λ (f : Fix). f.0 ≡ cell) fix more alone) apart ∙ get_or-set_other xs fix.0 c z (pos 0) (λ same. apart (same ∙ here))

taken_other : (side : Bool) (b after : FixedCells) (cell c : ℕ) (up : Bool) → IsTaken cell up b after → c ≢ cell → number_left side after c ≡ number_left side b c
taken_other side b after cell c up taken apart =
    ap (λ (a : FixedCells). number_left side a c) taken.grown
    ∙ ap (λ (xs : List ℤ). number_at xs c) (fold-append (with_fix b.base b.truths) (by_choices side b.base b.truths []) b.fixes taken.more)
    ∙ alone_at b.base b.truths (by_fixes side b.base b.truths b.fixes) taken.more cell c taken.alone apart

pub left_taken : (b after : FixedCells) (choices : Choices) (cell : ℕ) (up : Bool) → IsProper b.system b.truths b.base → AreLeft b choices → length choices < length (unrounded_cells b.base 0 b.truths) → cell ≡ next_cell b.base b.truths (length choices) → IsTaken cell up b after → AreLeft after (choices ++ up ∷ [])
left_taken b after choices cell up proper left short is taken =
    let same : (side : Bool) (list : Choices) → by_choices side after.base after.truths list ≡ by_choices side b.base b.truths list = λ side list. ap (λ (a : FixedCells). by_choices side a.base a.truths list) taken.grown in
    let at_cell : (c : ℕ) → (c ≡ cell) ⊎ (c ≢ cell) = λ c. elim (c == cell) as (λ t. (c == cell) ≡ t → (c ≡ cell) ⊎ (c ≢ cell)) [ true ↦ λ test. inl ((Decides-eqb c cell).0 test) | false ↦ λ test. inr (grind (arith, nat_tests, test)) ] refl in
    record {
      inside = λ c. subst (λ (xs : List ℤ). (number_at xs c ≤ℤ number_left false after c) × (number_left true after c ≤ℤ number_at (by_choices true after.base after.truths (choices ++ up ∷ [])) c)) (sym (same false (choices ++ up ∷ [])))
          (subst (λ (ys : List ℤ). (number_at (by_choices false b.base b.truths (choices ++ up ∷ [])) c ≤ℤ number_left false after c) × (number_left true after c ≤ℤ number_at ys c)) (sym (same true (choices ++ up ∷ [])))
          (elim (at_cell c) as (λ _. (number_at (by_choices false b.base b.truths (choices ++ up ∷ [])) c ≤ℤ number_left false after c) × (number_left true after c ≤ℤ number_at (by_choices true b.base b.truths (choices ++ up ∷ [])) c)) [
            | inl here ↦
                let low = chosen_here false up b.base b.truths choices cell short is in
                let high = chosen_here true up b.base b.truths choices cell short is in
                subst (λ (j : ℕ). (number_at (by_choices false b.base b.truths (choices ++ up ∷ [])) j ≤ℤ number_left false after j) × (number_left true after j ≤ℤ number_at (by_choices true b.base b.truths (choices ++ up ∷ [])) j)) (sym here)
                (omega (arith, ints, low, taken.here false), omega (arith, ints, high, taken.here true))
            | inr apart ↦
                let inside = left.inside c in
                let low = chosen_other false up b.base b.truths choices cell c short is apart in
                let high = chosen_other true up b.base b.truths choices cell c short is apart in
                (omega (arith, ints, low, taken_other false b after cell c up taken apart, inside.0), omega (arith, ints, high, taken_other true b after cell c up taken apart, inside.1))
          ]));
      sound = λ rest rounds c.
          let list : Choices = (choices ++ up ∷ []) ++ rest in
          let longer : list ≡ choices ++ (up ∷ rest) = append_assoc choices (up ∷ []) rest in
          let before : IsRoundingList b.system b.truths b.base list = subst (λ (a : FixedCells). IsRoundingList a.system a.truths a.base list) taken.grown rounds in
          let within = subst (λ (one : Choices). IsWithin b (by_choices false b.base b.truths one)) (sym longer) (left.sound (up ∷ rest) (subst (λ (one : Choices). IsRoundingList b.system b.truths b.base one) longer before)) in
          subst (λ (xs : List ℤ). (number_left false after c ≤ℤ number_at xs c) × (number_at xs c ≤ℤ number_left true after c)) (sym (same false list))
          (elim (at_cell c) as (λ _. (number_left false after c ≤ℤ number_at (by_choices false b.base b.truths list) c) × (number_at (by_choices false b.base b.truths list) c ≤ℤ number_left true after c)) [
            | inl here ↦
                let made = made_here up b.base b.truths choices rest cell proper.from_one short is in
                subst (λ (j : ℕ). (number_left false after j ≤ℤ number_at (by_choices false b.base b.truths list) j) × (number_at (by_choices false b.base b.truths list) j ≤ℤ number_left true after j)) (sym here)
                (omega (arith, ints, made, taken.here false), omega (arith, ints, made, taken.here true))
            | inr apart ↦ (omega (arith, ints, (within c).0, taken_other false b after cell c up taken apart), omega (arith, ints, (within c).1, taken_other true b after cell c up taken apart))
          ]);
    }

-- and what it forces
pub left_forced : (b after : FixedCells) (choices : Choices) → AreLeft b choices → IsForced b after → AreLeft after choices
left_forced b after choices left forced =
    let same : (side : Bool) (list : Choices) (c : ℕ) → number_at (by_choices side after.base after.truths list) c ≡ number_at (by_choices side b.base b.truths list) c = λ side list c. ap (λ (a : FixedCells). number_at (by_choices side a.base a.truths list) c) forced.grown in
    record {
      inside = λ c. let inside = left.inside c in let narrower = forced.narrower c in (omega (arith, ints, inside.0, narrower.0, same false choices c), omega (arith, ints, inside.1, narrower.1, same true choices c));
      sound = λ rest rounds.
          let list : Choices = choices ++ rest in
          let before : IsRoundingList b.system b.truths b.base list = subst (λ (a : FixedCells). IsRoundingList a.system a.truths a.base list) forced.grown rounds in
          let within = forced.keeps (by_choices false b.base b.truths list) before.rounding (left.sound rest before) in
          subst (λ (a : FixedCells). IsWithin after (by_choices false a.base a.truths list)) (sym forced.grown) within;
    }

-- with nothing fixed, what is left is what no choices leave
pub left_none : (b : FixedCells) → IsProper b.system b.truths b.base → b.fixes ≡ [] → AreLeft b []
left_none b proper none =
    let same : (side : Bool) (c : ℕ) → number_left side b c ≡ number_at (by_choices side b.base b.truths []) c = λ side c. ap (λ (fs : List Fix). number_at (by_fixes side b.base b.truths fs) c) none in
    record {
      inside = λ c. (omega (arith, ints, same false c), omega (arith, ints, same true c));
      sound = λ rest rounds c. let lies = longer_lies false b.base b.truths [] rest proper.from_one c in (omega (arith, ints, lies.0, same false c), omega (arith, ints, lies.1, same true c));
    }
