-- The ends of cells, as they are found relation by relation.
use Rattle.std.proofs.Common.{◌≡◌, ◌≢◌, ◌⊎◌, inl, inr, ℕ, zero, suc, ◌+◌, ◌<◌, ◌≤◌, ◌==◌, ◌&&◌, not, nat_lt, Bool, true, false, List, [], ◌∷◌, length, take, get_or, slice_get, slice_set, slice_index_or, None, Some, replicate, ℤ, pos, negsuc, neg_ℤ, ◌+ℤ◌, ◌≤ℤ◌, arith, refl, ap, sym, ◌∙◌, subst, if◌then◌else◌}
use Rattle.std.specs.List.{count_by}
use Rattle.std.specs.Option.{option_map_or}
use Rattle.std.proofs.lemmas.Bool.{eq-eqb, ne_eqb, eqb-true, eqb-false}
use Rattle.std.proofs.lemmas.Bool.Decides.{nat_tests}
use Rattle.std.proofs.lemmas.Int.{ints}
use Rattle.std.proofs.lemmas.Option.{slice_get_past}
use Rattle.std.proofs.lemmas.List.Sums.{count_by_more_yes, count_by_more_no}
use Rattle.sdc_base.specs.declared.relation.Relation.{Relation}
use Rattle.sdc_base.specs.declared.ends.End.{End}
use Rattle.sdc_base.specs.declared.ends.Ends.{Ends}
use Rattle.sdc_base.specs.declared.ends.Ends.TheVariants.{Free, One, Two}
use Rattle.sdc_base.specs.Forms.{count_of}
use Rattle.sdc_base.specs.Signs.{HasNone, times_counted, number_with_sign}
use Rattle.sdc_base.specs.Ends.{AreApart, AreEnds, IsCounting, by_end, by_ends, ends_at, with_end}
use Rattle.sdc_base.proofs.Counted.{count-front, counted_is}
use Rattle.sdc_base.proofs.SignLemmas.{no-three, no-twice}

-- ---- reads of lists

pub index-here : {X : Type 0} (xs : List X) (k : ℕ) (y d : X) → k < length xs → slice_index_or (slice_set xs k y) k d ≡ y
index-here [] k y d h = absurd (omega (arith, h))
index-here (x ∷ xs) zero y d h = refl
index-here (x ∷ xs) (suc k) y d h = index-here xs k y d (omega (arith, h))

pub index-there : {X : Type 0} (xs : List X) (k n : ℕ) (y d : X) → k ≢ n → slice_index_or (slice_set xs k y) n d ≡ slice_index_or xs n d
index-there [] k n y d h = refl
index-there (x ∷ xs) zero zero y d h = absurd (h refl)
index-there (x ∷ xs) zero (suc n) y d h = refl
index-there (x ∷ xs) (suc k) zero y d h = refl
index-there (x ∷ xs) (suc k) (suc n) y d h = index-there xs k n y d (λ same. h (ap suc same))

pub all-free : (cells cell : ℕ) → ends_at (replicate cells Free) cell ≡ Free
all-free zero cell = refl
all-free (suc cells) zero = refl
all-free (suc cells) (suc cell) = all-free cells cell

-- ---- one end

pub end-this : (end : End) (number : ℕ) → end.relation ≡ number → by_end end number ≡ number_with_sign end.plus (pos 1)
end-this end number same = let test : (end.relation == number) ≡ true = eq-eqb end.relation number same in rw test refl

pub end-other : (end : End) (number : ℕ) → end.relation ≢ number → by_end end number ≡ pos 0
end-other end number other = let test : (end.relation == number) ≡ false = ne_eqb end.relation number other in rw test refl

pub signed-some : (plus : Bool) → number_with_sign plus (pos 1) ≢ pos 0
signed-some true h = absurd (omega (arith, ints, h))
signed-some false h = absurd (omega (arith, ints, h))

-- ---- an end more

pub joined-counts : (e : Ends) (end : End) (new : Ends) (number : ℕ) → with_end e end ≡ Some new → by_ends new number ≡ by_ends e number +ℤ by_end end number
joined-counts Free end new number h = let same : new ≡ One end = cc in rw same (omega (arith, ints))
joined-counts (One one) end new number h =
    elim (one.relation == end.relation) as (λ b. (if b then None else Some (Two one end)) ≡ Some new → by_ends new number ≡ by_end one number +ℤ by_end end number) [
      | true ↦ λ none. absurd cc
      | false ↦ λ some. let same : new ≡ Two one end = cc in rw same refl
    ] h
joined-counts (Two one other) end new number h = absurd cc

pub joined-apart : (e : Ends) (end : End) (new : Ends) → with_end e end ≡ Some new → AreApart e → AreApart new
joined-apart Free end new h apart = let same : new ≡ One end = cc in rw same tt
joined-apart (One one) end new h apart =
    elim (one.relation == end.relation) as (λ b. (one.relation == end.relation) ≡ b → (if b then None else Some (Two one end)) ≡ Some new → AreApart new) [
      | true ↦ λ _ none. absurd cc
      | false ↦ λ test some. let same : new ≡ Two one end = cc in rw same (eqb-false one.relation end.relation test)
    ] refl h
joined-apart (Two one other) end new h apart = absurd cc

-- an end of the relation that is read is added
pub counting-joined : (relations : List Relation) (number : ℕ) (own more : ℕ → ℤ) (ends : List Ends) (cell : ℕ) (end : End) (new : Ends) → IsCounting relations number own ends → end.relation ≡ number → cell < length ends → with_end (ends_at ends cell) end ≡ Some new → ((other : ℕ) → cell ≢ other → own other ≡ more other) → own cell +ℤ number_with_sign end.plus (pos 1) ≡ more cell → IsCounting relations number more (slice_set ends cell new)
counting-joined relations number own more ends cell end new are of_this known some others here =
    let read : ends_at (slice_set ends cell new) cell ≡ new = index-here ends cell new Free known in
    record {
      apart = λ at. elim (cell == at) as (λ b. (cell == at) ≡ b → AreApart (ends_at (slice_set ends cell new) at)) [
        | true ↦ λ test. subst (λ n. AreApart (ends_at (slice_set ends cell new) n)) (eqb-true cell at test) (rw read (joined-apart (ends_at ends cell) end new some (are.apart cell)))
        | false ↦ λ test. rw (index-there ends cell at new Free (eqb-false cell at test)) (are.apart at)
      ] refl;
      before = λ at other low. elim (cell == at) as (λ b. (cell == at) ≡ b → by_ends (ends_at (slice_set ends cell new) at) other ≡ times_counted relations other at) [
        | true ↦ λ test. subst (λ n. by_ends (ends_at (slice_set ends cell new) n) other ≡ times_counted relations other n) (eqb-true cell at test) (rw read (unchanged other (λ same. absurd (omega (arith, low, same))) ∙ are.before cell other low))
        | false ↦ λ test. rw (index-there ends cell at new Free (eqb-false cell at test)) (are.before at other low)
      ] refl;
      this = λ at. elim (cell == at) as (λ b. (cell == at) ≡ b → by_ends (ends_at (slice_set ends cell new) at) number ≡ more at) [
        | true ↦ λ test. subst (λ n. by_ends (ends_at (slice_set ends cell new) n) number ≡ more n) (eqb-true cell at test) (rw read (joined-counts (ends_at ends cell) end new number some ∙ omega (arith, ints, are.this cell, end-this end number of_this, here)))
        | false ↦ λ test. rw (index-there ends cell at new Free (eqb-false cell at test)) (are.this at ∙ others at (eqb-false cell at test))
      ] refl;
      after = λ at other high. elim (cell == at) as (λ b. (cell == at) ≡ b → by_ends (ends_at (slice_set ends cell new) at) other ≡ pos 0) [
        | true ↦ λ test. subst (λ n. by_ends (ends_at (slice_set ends cell new) n) other ≡ pos 0) (eqb-true cell at test) (rw read (unchanged other (λ same. absurd (omega (arith, high, same))) ∙ are.after cell other high))
        | false ↦ λ test. rw (index-there ends cell at new Free (eqb-false cell at test)) (are.after at other high)
      ] refl;
    }
  where
    unchanged : (other : ℕ) → number ≢ other → by_ends new other ≡ by_ends (ends_at ends cell) other
    unchanged other apart = joined-counts (ends_at ends cell) end new other some ∙ omega (arith, ints, end-other end other (λ same. apart (sym of_this ∙ same)))

pub counting-same : (relations : List Relation) (number : ℕ) (own more : ℕ → ℤ) (ends : List Ends) → IsCounting relations number own ends → ((cell : ℕ) → own cell ≡ more cell) → IsCounting relations number more ends
counting-same relations number own more ends are same = record { apart = are.apart; before = are.before; this = λ cell. are.this cell ∙ same cell; after = are.after }

-- ---- where there is no room for an end, there are no signs

apart_cases : (a b : ℕ) → a ≢ b → (a < b) ⊎ (b < a)
apart_cases a b apart = grind (arith, apart)

pub refused : (relations : List Relation) (number cell : ℕ) (e : Ends) (end : End) → end.relation ≡ number → with_end e end ≡ None → AreApart e → ((other : ℕ) → other < number → by_ends e other ≡ times_counted relations other cell) → ((other : ℕ) → number < other → by_ends e other ≡ pos 0) → times_counted relations number cell ≢ pos 0 → (by_ends e number ≢ pos 0 → times_counted relations number cell ≤ℤ negsuc 1) → HasNone relations
refused relations number cell Free end of_this none apart before after some twice = absurd cc
refused relations number cell (One one) end of_this none apart before after some twice =
    elim (one.relation == end.relation) as (λ b. (one.relation == end.relation) ≡ b → (if b then None else Some (Two one end)) ≡ None → HasNone relations) [
      | true ↦ λ test _. no-twice relations number cell (twice (λ zero_count. signed-some one.plus (sym (end-this one number (eqb-true one.relation end.relation test ∙ of_this)) ∙ zero_count)))
      | false ↦ λ _ some_new. absurd cc
    ] refl none
refused relations number cell (Two one other) end of_this none apart before after some twice =
    elim (one.relation == number) as (λ b. (one.relation == number) ≡ b → HasNone relations) [
      | true ↦ λ test.
          let same : one.relation ≡ number = eqb-true one.relation number test in
          no-twice relations number cell (twice (λ zero_count. signed-some one.plus (omega (arith, ints, zero_count, end-this one number same, end-other other number (λ too. apart (same ∙ sym too))))))
      | false ↦ λ one_test.
          elim (other.relation == number) as (λ b. (other.relation == number) ≡ b → HasNone relations) [
            | true ↦ λ test.
                let same : other.relation ≡ number = eqb-true other.relation number test in
                no-twice relations number cell (twice (λ zero_count. signed-some other.plus (omega (arith, ints, zero_count, end-this other number same, end-other one number (λ too. apart (too ∙ sym same))))))
            | false ↦ λ other_test.
                no-three relations one.relation other.relation number cell apart (eqb-false other.relation number other_test) (eqb-false one.relation number one_test)
                (counts one.relation (λ zero_count. signed-some one.plus (omega (arith, ints, zero_count, end-this one one.relation refl, end-other other one.relation (λ too. apart (sym too))))) (eqb-false one.relation number one_test))
                (counts other.relation (λ zero_count. signed-some other.plus (omega (arith, ints, zero_count, end-this other other.relation refl, end-other one other.relation apart))) (eqb-false other.relation number other_test))
                some
          ] refl
    ] refl
  where
    counts : (n : ℕ) → by_end one n +ℤ by_end other n ≢ pos 0 → n ≢ number → times_counted relations n cell ≢ pos 0
    counts n here not_this zero_count =
        elim (apart_cases n number not_this) as (λ _. ⊥) [
          | inl low ↦ here (before n low ∙ zero_count)
          | inr high ↦ here (after n high)
        ]

-- ---- the parts of one relation

-- how often the total is counted so far
abbrev pub seen : Bool → ℕ → ℕ → ℤ
seen true total cell = if total == cell then pos 1 else pos 0
seen false total cell = pos 0

-- how often a relation counts a cell so far: the total once where it was met among the parts, less the parts so far
abbrev pub own : Bool → ℕ → List ℕ → ℕ → ℤ
own met total parts cell = seen met total cell +ℤ neg_ℤ (pos (count_by (λ part. part == cell) parts))

-- of the total among the parts so far
pub record IsMet (met : Bool) (total : ℕ) (parts : List ℕ) : Type 0 where
  pub some : met ≡ true → 1 ≤ count_by (λ part. part == total) parts
  pub none : met ≡ false → count_by (λ part. part == total) parts ≡ 0

more_here : (parts : List ℕ) (k cell : ℕ) → k < length parts → get_or parts k 0 ≡ cell → count_by (λ part. part == cell) (take (k + 1) parts) ≡ count_by (λ part. part == cell) (take k parts) + 1
more_here parts k cell inside is = count_by_more_yes (λ part. part == cell) parts k 0 inside (eq-eqb (get_or parts k 0) cell is)

more_there : (parts : List ℕ) (k cell : ℕ) → k < length parts → get_or parts k 0 ≢ cell → count_by (λ part. part == cell) (take (k + 1) parts) ≡ count_by (λ part. part == cell) (take k parts)
more_there parts k cell inside is = count_by_more_no (λ part. part == cell) parts k 0 inside (ne_eqb (get_or parts k 0) cell is)

-- the total is met for the first time
pub own-met : (total : ℕ) (parts : List ℕ) (k cell : ℕ) → k < length parts → get_or parts k 0 ≡ total → own false total (take k parts) cell ≡ own true total (take (k + 1) parts) cell
own-met total parts k cell inside is =
    elim (total == cell) as (λ b. (total == cell) ≡ b → own false total (take k parts) cell ≡ (if b then pos 1 else pos 0) +ℤ neg_ℤ (pos (count_by (λ part. part == cell) (take (k + 1) parts)))) [
      | true ↦ λ test. omega (arith, ints, more_here parts k cell inside (is ∙ eqb-true total cell test))
      | false ↦ λ test. omega (arith, ints, more_there parts k cell inside (λ same. eqb-false total cell test (sym is ∙ same)))
    ] refl

pub met-now : (total : ℕ) (parts : List ℕ) (k : ℕ) → k < length parts → get_or parts k 0 ≡ total → IsMet true total (take (k + 1) parts)
met-now total parts k inside is = record { some = λ _. omega (arith, more_here parts k total inside is); none = λ clash. absurd cc }

pub met-on : (met : Bool) (total : ℕ) (parts : List ℕ) (k : ℕ) → k < length parts → (not met && (get_or parts k 0 == total)) ≡ false → IsMet met total (take k parts) → IsMet met total (take (k + 1) parts)
met-on true total parts k inside test is =
    elim (get_or parts k 0 == total) as (λ b. (get_or parts k 0 == total) ≡ b → IsMet true total (take (k + 1) parts)) [
      | true ↦ λ here. record { some = λ _. omega (arith, more_here parts k total inside (eqb-true (get_or parts k 0) total here)); none = λ clash. absurd cc }
      | false ↦ λ here. record { some = λ _. omega (arith, is.some refl, more_there parts k total inside (eqb-false (get_or parts k 0) total here)); none = λ clash. absurd cc }
    ] refl
met-on false total parts k inside test is = record { some = λ clash. absurd cc; none = λ _. more_there parts k total inside (eqb-false (get_or parts k 0) total test) ∙ is.none refl }

pub own-there : (met : Bool) (total : ℕ) (parts : List ℕ) (k cell : ℕ) → k < length parts → get_or parts k 0 ≢ cell → own met total (take k parts) cell ≡ own met total (take (k + 1) parts) cell
own-there met total parts k cell inside is = omega (arith, ints, more_there parts k cell inside is)

pub own-here : (met : Bool) (total : ℕ) (parts : List ℕ) (k : ℕ) → k < length parts → own met total (take k parts) (get_or parts k 0) +ℤ negsuc 0 ≡ own met total (take (k + 1) parts) (get_or parts k 0)
own-here met total parts k inside = omega (arith, ints, more_here parts k (get_or parts k 0) inside refl)

-- a part that isn't the total, met for the first time, is counted less often in the end than so far
pub counts-less : (met : Bool) (r : Relation) (k : ℕ) → k < length r.parts → (not met && (get_or r.parts k 0 == r.total)) ≡ false → IsMet met r.total (take k r.parts) → (count_of r (get_or r.parts k 0) ≤ℤ (own met r.total (take k r.parts) (get_or r.parts k 0) +ℤ negsuc 0)) × (own met r.total (take k r.parts) (get_or r.parts k 0) ≤ℤ pos 0)
counts-less true r k inside test is =
    let cell = get_or r.parts k 0 in
    let all = count-front (λ part. part == cell) r.parts (k + 1) in
    let more = more_here r.parts k cell inside refl in
    let whole = counted_is r cell in
    elim (r.total == cell) as (λ b. (r.total == cell) ≡ b → count_of r cell ≡ (if b then pos 1 else pos 0) +ℤ neg_ℤ (pos (count_by (λ part. part == cell) r.parts)) → (count_of r cell ≤ℤ (((if b then pos 1 else pos 0) +ℤ neg_ℤ (pos (count_by (λ part. part == cell) (take k r.parts)))) +ℤ negsuc 0)) × (((if b then pos 1 else pos 0) +ℤ neg_ℤ (pos (count_by (λ part. part == cell) (take k r.parts)))) ≤ℤ pos 0)) [
      | true ↦ λ same w.
          let some : 1 ≤ count_by (λ part. part == cell) (take k r.parts) = subst (λ n. 1 ≤ count_by (λ part. part == n) (take k r.parts)) (eqb-true r.total cell same) (is.some refl) in
          (omega (arith, ints, w, all, more), omega (arith, ints, some))
      | false ↦ λ _ w. (omega (arith, ints, w, all, more), omega (arith, ints))
    ] refl whole
counts-less false r k inside test is =
    let cell = get_or r.parts k 0 in
    let all = count-front (λ part. part == cell) r.parts (k + 1) in
    let more = more_here r.parts k cell inside refl in
    let other : (r.total == cell) ≡ false = ne_eqb r.total cell (λ same. eqb-false cell r.total test (sym same)) in
    let w : count_of r cell ≡ pos 0 +ℤ neg_ℤ (pos (count_by (λ part. part == cell) r.parts)) = counted_is r cell ∙ rw other refl in
    (omega (arith, ints, w, all, more), omega (arith, ints))

-- ---- the steps of reading one relation

pub step-met : (relations : List Relation) (number total k : ℕ) (parts : List ℕ) (ends : List Ends) (met : Bool) → k < length parts → (not met && (get_or parts k 0 == total)) ≡ true → IsCounting relations number (own met total (take k parts)) ends → IsCounting relations number (own true total (take (k + 1) parts)) ends
step-met relations number total k parts ends true inside test are = absurd cc
step-met relations number total k parts ends false inside test are =
    counting-same relations number (own false total (take k parts)) (own true total (take (k + 1) parts)) ends are (λ cell. own-met total parts k cell inside (eqb-true (get_or parts k 0) total test))

pub met-first : (met : Bool) (total k : ℕ) (parts : List ℕ) → k < length parts → (not met && (get_or parts k 0 == total)) ≡ true → IsMet true total (take (k + 1) parts)
met-first true total k parts inside test = absurd cc
met-first false total k parts inside test = met-now total parts k inside (eqb-true (get_or parts k 0) total test)

pub step-part : (relations : List Relation) (number total k : ℕ) (parts : List ℕ) (ends : List Ends) (met : Bool) (new : Ends) → k < length parts → get_or parts k 0 < length ends → with_end (ends_at ends (get_or parts k 0)) (record { relation = number; plus = false }) ≡ Some new → IsCounting relations number (own met total (take k parts)) ends → IsCounting relations number (own met total (take (k + 1) parts)) (slice_set ends (get_or parts k 0) new)
step-part relations number total k parts ends met new inside known some are =
    counting-joined relations number (own met total (take k parts)) (own met total (take (k + 1) parts)) ends (get_or parts k 0) (record { relation = number; plus = false }) new are refl known some
    (λ other apart. own-there met total parts k other inside apart) (own-here met total parts k inside)

counted-at : (relations : List Relation) (number cell : ℕ) (r : Relation) → slice_get relations number ≡ Some r → times_counted relations number cell ≡ count_of r cell
counted-at relations number cell r at = ap (λ found. option_map_or (λ (one : Relation). count_of one cell) found (pos 0)) at

pub part-refused : (relations : List Relation) (number k : ℕ) (r : Relation) (ends : List Ends) (met : Bool) → slice_get relations number ≡ Some r → k < length r.parts → (not met && (get_or r.parts k 0 == r.total)) ≡ false → with_end (ends_at ends (get_or r.parts k 0)) (record { relation = number; plus = false }) ≡ None → IsCounting relations number (own met r.total (take k r.parts)) ends → IsMet met r.total (take k r.parts) → HasNone relations
part-refused relations number k r ends met at inside test none are is_met =
    let cell = get_or r.parts k 0 in
    let less = counts-less met r k inside test is_met in
    let here = counted-at relations number cell r at in
    let so_far = are.this cell in
    refused relations number cell (ends_at ends cell) (record { relation = number; plus = false }) refl none (are.apart cell) (are.before cell) (are.after cell)
    (λ zero_count. absurd (omega (arith, ints, zero_count, here, less.0, less.1)))
    (λ some. below (own met r.total (take k r.parts) cell) (times_counted relations number cell) less.1 (omega (arith, ints, here, less.0)) (λ zero_count. some (so_far ∙ zero_count)))
  where
    below : (z w : ℤ) → z ≤ℤ pos 0 → w ≤ℤ (z +ℤ negsuc 0) → z ≢ pos 0 → w ≤ℤ negsuc 1
    below (pos zero) w low less some = absurd (some refl)
    below (pos (suc n)) w low less some = absurd (omega (arith, ints, low))
    below (negsuc n) w low less some = omega (arith, ints, less)

pub last-met : (relations : List Relation) (number : ℕ) (r : Relation) (ends : List Ends) → IsCounting relations number (own true r.total r.parts) ends → IsCounting relations number (count_of r) ends
last-met relations number r ends are = counting-same relations number (own true r.total r.parts) (count_of r) ends are (λ cell. sym (counted_is r cell))

pub last-total : (relations : List Relation) (number : ℕ) (r : Relation) (ends : List Ends) (new : Ends) → r.total < length ends → with_end (ends_at ends r.total) (record { relation = number; plus = true }) ≡ Some new → IsCounting relations number (own false r.total r.parts) ends → IsCounting relations number (count_of r) (slice_set ends r.total new)
last-total relations number r ends new known some are =
    counting-joined relations number (own false r.total r.parts) (count_of r) ends r.total (record { relation = number; plus = true }) new are refl known some
    (λ other apart. let test : (r.total == other) ≡ false = ne_eqb r.total other apart in sym (counted_is r other ∙ rw test refl))
    (let test : (r.total == r.total) ≡ true = eq-eqb r.total r.total refl in let whole : count_of r r.total ≡ pos 1 +ℤ neg_ℤ (pos (count_by (λ part. part == r.total) r.parts)) = counted_is r r.total ∙ rw test refl in omega (arith, ints, whole))

pub total-refused : (relations : List Relation) (number : ℕ) (r : Relation) (ends : List Ends) → slice_get relations number ≡ Some r → with_end (ends_at ends r.total) (record { relation = number; plus = true }) ≡ None → IsCounting relations number (own false r.total r.parts) ends → IsMet false r.total r.parts → HasNone relations
total-refused relations number r ends at none are is_met =
    let test : (r.total == r.total) ≡ true = eq-eqb r.total r.total refl in
    let whole : count_of r r.total ≡ pos 1 +ℤ neg_ℤ (pos (count_by (λ part. part == r.total) r.parts)) = counted_is r r.total ∙ rw test refl in
    let here = counted-at relations number r.total r at in
    let no_parts = is_met.none refl in
    let so_far = are.this r.total in
    refused relations number r.total (ends_at ends r.total) (record { relation = number; plus = true }) refl none (are.apart r.total) (are.before r.total) (are.after r.total)
    (λ zero_count. absurd (omega (arith, ints, zero_count, here, whole, no_parts)))
    (λ some. absurd (some (omega (arith, ints, so_far, no_parts))))

-- ---- from relation to relation

pub counting-next : (relations : List Relation) (number : ℕ) (r : Relation) (ends : List Ends) → slice_get relations number ≡ Some r → IsCounting relations number (count_of r) ends → IsCounting relations (number + 1) (λ _. pos 0) ends
counting-next relations number r ends at are =
    record {
      apart = are.apart;
      before = λ cell other low. elim (other == number) as (λ b. (other == number) ≡ b → by_ends (ends_at ends cell) other ≡ times_counted relations other cell) [
        | true ↦ λ test. subst (λ n. by_ends (ends_at ends cell) n ≡ times_counted relations n cell) (sym (eqb-true other number test)) (are.this cell ∙ sym (counted-at relations number cell r at))
        | false ↦ λ test. are.before cell other (lower other (eqb-false other number test) low)
      ] refl;
      this = λ cell. are.after cell (number + 1) (omega arith);
      after = λ cell other high. are.after cell other (omega (arith, high));
    }
  where
    lower : (other : ℕ) → other ≢ number → other < number + 1 → other < number
    lower other apart low = grind (arith, apart, low)

pub counting-first : (relations : List Relation) (cells : ℕ) → IsCounting relations 0 (λ _. pos 0) (replicate cells Free)
counting-first relations cells =
    record {
      apart = λ cell. rw (all-free cells cell) tt;
      before = λ cell other low. absurd (omega (arith, low));
      this = λ cell. rw (all-free cells cell) refl;
      after = λ cell other high. rw (all-free cells cell) refl;
    }

pub counting-all : (relations : List Relation) (ends : List Ends) → IsCounting relations (length relations) (λ _. pos 0) ends → AreEnds relations ends
counting-all relations ends are =
    record {
      apart = are.apart;
      all = λ cell number. elim (nat_lt number (length relations)) as (λ b. nat_lt number (length relations) ≡ b → by_ends (ends_at ends cell) number ≡ times_counted relations number cell) [
        | true ↦ λ test. are.before cell number (grind (arith, nat_tests, test))
        | false ↦ λ test. let high : length relations ≤ number = grind (arith, nat_tests, test) in beyond cell number high ∙ sym (ap (λ found. option_map_or (λ (one : Relation). count_of one cell) found (pos 0)) (slice_get_past relations number high))
      ] refl;
    }
  where
    beyond : (cell number : ℕ) → length relations ≤ number → by_ends (ends_at ends cell) number ≡ pos 0
    beyond cell number high = elim (number == length relations) as (λ b. (number == length relations) ≡ b → by_ends (ends_at ends cell) number ≡ pos 0) [
      | true ↦ λ test. subst (λ n. by_ends (ends_at ends cell) n ≡ pos 0) (sym (eqb-true number (length relations) test)) (are.this cell)
      | false ↦ λ test. are.after cell number (grind (arith, eqb-false number (length relations) test, high))
    ] refl
