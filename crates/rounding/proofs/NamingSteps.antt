-- Relations noted at the cells that they name.
use Rattle.std.proofs.Common.{◌≡◌, ◌≢◌, ℕ, suc, ◌+◌, ◌<◌, ◌≤◌, ◌==◌, true, false, List, [], ◌∷◌, length, get_or, Some, slice_get, pos, arith, refl, ap, sym, subst, ◌∙◌, inl, inr, get_or-set_other, get_or-set_same, length-set}
use Rattle.std.proofs.Math.ListN.{set}
use Rattle.std.specs.List.{count_by}
use Rattle.std.proofs.lemmas.Int.{ints}
use Rattle.std.proofs.lemmas.Bool.{cases_lt}
use Rattle.std.proofs.lemmas.Bool.Decides.{Decides-eqb, nat_tests}
use Rattle.std.proofs.lemmas.Option.{same_Some, slice_get_within}
use Rattle.sdc_base.specs.declared.relation.Relation.{Relation}
use Rattle.sdc_base.specs.declared.system.System.{System}
use Rattle.sdc_base.specs.Forms.{count_of}
use Rattle.rounding.specs.Namings.{IsNotIn, Ascends, IsNamingOf, IsNaming, AreNoted, IsNotedMore, IsNotedWhole}
use Rattle.rounding.proofs.Counting.{counted_other}
use Rattle.rounding.proofs.SumSteps.{get_or_any}

pub read_list : (lists : List (List ℕ)) (k : ℕ) (one : List ℕ) → k < length lists → one ≡ get_or lists k one → one ≡ get_or lists k []
read_list lists k one inside is = is ∙ get_or_any lists k one [] inside

-- a list is put in the place of one with fewer numbers
pub noted_set : (number : ℕ) (naming : List (List ℕ)) (cell : ℕ) (before after : List ℕ) → cell < length naming → before ≡ get_or naming cell [] → AreNoted (number + 1) naming → Ascends (number + 1) after → ((other : ℕ) → IsNotIn after other → IsNotIn before other) → IsNotedMore number naming (set naming cell after)
noted_set number naming cell before after inside is noted ascends stays = record {
  each = length-set naming cell after;
  ascends = λ c.
      elim (c == cell) as (λ b. (c == cell) ≡ b → Ascends (number + 1) (get_or (set naming cell after) c [])) [
        | true ↦ λ test.
            let same : c ≡ cell = (Decides-eqb c cell).0 test in
            subst (λ (i : ℕ). Ascends (number + 1) (get_or (set naming cell after) i [])) (sym same) (subst (λ (xs : List ℕ). Ascends (number + 1) xs) (sym (get_or-set_same naming cell after [] inside)) ascends)
        | false ↦ λ test.
            let apart : c ≢ cell = grind (arith, nat_tests, test) in
            subst (λ (xs : List ℕ). Ascends (number + 1) xs) (sym (get_or-set_other naming cell c after [] apart)) (noted c)
      ] refl;
  stays = λ c other lacks.
      elim (c == cell) as (λ b. (c == cell) ≡ b → IsNotIn (get_or naming c []) other) [
        | true ↦ λ test.
            let same : c ≡ cell = (Decides-eqb c cell).0 test in
            let here : IsNotIn after other = subst (λ (xs : List ℕ). IsNotIn xs other) (ap (λ (i : ℕ). get_or (set naming cell after) i []) same ∙ get_or-set_same naming cell after [] inside) lacks in
            subst (λ (xs : List ℕ). IsNotIn xs other) (is ∙ ap (λ (i : ℕ). get_or naming i []) (sym same)) (stays other here)
        | false ↦ λ test.
            let apart : c ≢ cell = grind (arith, nat_tests, test) in
            subst (λ (xs : List ℕ). IsNotIn xs other) (get_or-set_other naming cell c after [] apart) lacks
      ] refl;
}

pub noted_here : (number : ℕ) (naming : List (List ℕ)) (cell : ℕ) (after : List ℕ) → cell < length naming → (IsNotIn after number → ⊥) → IsNotIn (get_or (set naming cell after) cell []) number → ⊥
noted_here number naming cell after inside here lacks = here (subst (λ (xs : List ℕ). IsNotIn xs number) (get_or-set_same naming cell after [] inside) lacks)

pub noted_then : (number : ℕ) (first second third : List (List ℕ)) → IsNotedMore number first second → IsNotedMore number second third → IsNotedMore number first third
noted_then number first second third one two = record {
  each = two.each ∙ one.each;
  ascends = two.ascends;
  stays = λ cell other lacks. one.stays cell other (two.stays cell other lacks);
}

none_counted : (cell : ℕ) (parts : List ℕ) → ((k : ℕ) → k < length parts → get_or parts k 0 ≢ cell) → 0 ≡ count_by (λ part. part == cell) parts
none_counted cell [] apart = refl
none_counted cell (part ∷ parts) apart =
    let test : (part == cell) ≡ false = let first = apart 0 (omega arith) in grind (arith, nat_tests, first) in
    let rest = none_counted cell parts (λ k below. apart (suc k) (omega arith)) in
    rest ∙ sym (count_none part parts test)
  where
    count_none : (part : ℕ) (parts : List ℕ) → (part == cell) ≡ false → count_by (λ one. one == cell) (part ∷ parts) ≡ count_by (λ one. one == cell) parts
    count_none part parts test = rw test refl

-- a relation whose number is noted at its total and its parts counts no other cell
pub whole_noted : (number : ℕ) (r : Relation) (parts : List ℕ) (naming : List (List ℕ)) (k : ℕ) → parts ≡ r.parts → length parts ≤ k → (IsNotIn (get_or naming r.total []) number → ⊥) → ((j : ℕ) → j < k → IsNotIn (get_or naming (get_or r.parts j 0) []) number → ⊥) → IsNotedWhole number r naming
whole_noted number r parts naming k same past total each cell lacks =
    let not_total : r.total ≡ cell → ⊥ = λ is. total (subst (λ (c : ℕ). IsNotIn (get_or naming c []) number) (sym is) lacks) in
    let long = ap (λ (ps : List ℕ). length ps) same in
    let apart : (j : ℕ) → j < length r.parts → get_or r.parts j 0 ≢ cell = λ j below is. each j (omega (arith, long)) (subst (λ (c : ℕ). IsNotIn (get_or naming c []) number) (sym is) lacks) in
    counted_other r cell 0 not_total (none_counted cell r.parts apart) ∙ omega (arith, ints)

-- what is known of all relations so far
abbrev pub AreNotedWhole : List Relation → ℕ → List (List ℕ) → Type 0
AreNotedWhole relations passed naming = (cell n : ℕ) (r : Relation) → n < passed → slice_get relations n ≡ Some r → IsNotIn (get_or naming cell []) n → count_of r cell ≡ pos 0

pub one_more_noted : (relations : List Relation) (number : ℕ) (item : Relation) (before after : List (List ℕ)) → slice_get relations number ≡ Some item → AreNotedWhole relations number before → IsNotedMore number before after → IsNotedWhole number item after → AreNotedWhole relations (number + 1) after
one_more_noted relations number item before after found are more whole cell n r below there lacks =
    elim (cases_lt n number) as (λ _. count_of r cell ≡ pos 0) [
      | inl less ↦ are cell n r less there (more.stays cell n lacks)
      | inr not_less ↦
          let same : n ≡ number = omega arith in
          let one_item : item ≡ r = same_Some item r (sym found ∙ ap (λ (j : ℕ). slice_get relations j) (sym same) ∙ there) in
          subst (λ (q : Relation). count_of q cell ≡ pos 0) one_item (whole cell (subst (λ (j : ℕ). IsNotIn (get_or after cell []) j) same lacks))
    ]

ascends_below : (one other : ℕ) (numbers : List ℕ) → one ≤ other → Ascends one numbers → Ascends other numbers
ascends_below one other numbers under ascends = record { ascending = ascends.ascending; within = λ place below. omega (arith, ascends.within place below) }

pub all_noted : (system : System) (relations : List Relation) (naming : List (List ℕ)) (number : ℕ) → relations ≡ system.relations → length relations ≤ number → number ≤ length relations → length naming ≡ system.cells → AreNoted number naming → AreNotedWhole relations number naming → IsNaming system naming
all_noted system relations naming number same past inside each noted whole =
    let long = ap (λ (rs : List Relation). length rs) same in
    record {
      each = each;
      listed = λ cell below. record {
        ascends = ascends_below number (length system.relations) (get_or naming cell []) (omega (arith, long)) (noted cell);
        each_counting = λ n r there lacks.
            let found : slice_get relations n ≡ Some r = ap (λ (rs : List Relation). slice_get rs n) same ∙ there in
            whole cell n r (omega (arith, slice_get_within relations n r found)) found lacks;
      };
    }

-- the list of a cell, as code reads it
pub listed_at : (system : System) (naming : List (List ℕ)) (cell : ℕ) (item named : List ℕ) → IsNaming system naming → cell < system.cells → item ≡ get_or naming cell item → named ≡ item → IsNamingOf system.relations cell named
listed_at system naming cell item named is below read same =
    subst (λ (xs : List ℕ). IsNamingOf system.relations cell xs) (sym (same ∙ read_list naming cell item (omega (arith, is.each, below)) read)) (is.listed cell below)
