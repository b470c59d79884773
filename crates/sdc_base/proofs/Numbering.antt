-- The numbers of components, cell after cell.
use Rattle.std.proofs.Common.{◌≡◌, ◌≢◌, ℕ, suc, ◌+◌, ◌<◌, ◌≤◌, ◌==◌, Bool, true, false, List, [], ◌∷◌, ◌++◌, length, slice_index, slice_set, if◌then◌else◌, Option, None, Some, ◌⊎◌, inl, inr, arith, refl, ap, sym, ◌∙◌, subst, length-append}
use Rattle.std.proofs.lemmas.Bool.Decides.{Decides-eqb, nat_tests}
use Rattle.std.proofs.lemmas.List.{get_or_append_left, get_or_past, get_or_push, get_or-set_other, get_or-set_same, length-set}
use Rattle.sdc_base.specs.Places.{count}
use Rattle.sdc_base.specs.HiddenSets.{is_hidden}
use Rattle.sdc_base.specs.Components.{component, is_of}
use Rattle.sdc_base.specs.Forests.{AreNumbered}

same-of : {X : Type 0} {a b : X} → Some a ≡ Some b → a ≡ b
same-of h = cc

differ : {b : Bool} → b ≡ false → b ≡ true → ⊥
differ one other = absurd cc

where_is : (a b : ℕ) → (a < b) ⊎ ((a ≡ b) ⊎ (b < a))
where_is a b = grind arith

longer : {X : Type 0} (xs : List X) (x : X) → length (xs ++ x ∷ []) ≡ length xs + 1
longer xs x = length-append xs (x ∷ [])

-- ---- one cell more

push-old : (of : List (Option ℕ)) (x : Option ℕ) (cell : ℕ) → cell < length of → component (of ++ x ∷ []) cell ≡ component of cell
push-old of x cell inside = get_or_append_left of (x ∷ []) None cell inside

push-new : (of : List (Option ℕ)) (x : Option ℕ) → component (of ++ x ∷ []) (length of) ≡ x
push-new of x = get_or_push of x None (length of) refl

push-past : (of : List (Option ℕ)) (x : Option ℕ) (cell : ℕ) → length of < cell → component (of ++ x ∷ []) cell ≡ None
push-past of x cell past = get_or_past (of ++ x ∷ []) cell None (omega (arith, past, longer of x))

pub some-inside : (of : List (Option ℕ)) (cell number : ℕ) → component of cell ≡ Some number → cell < length of
some-inside of cell number h = by (where_is cell (length of))
  where
    none : length of ≤ cell → ⊥
    none past = let nothing : None ≡ Some number = sym (get_or_past of cell None past) ∙ h in absurd cc

    by : (cell < length of) ⊎ ((cell ≡ length of) ⊎ (length of < cell)) → cell < length of
    by (inl inside) = inside
    by (inr (inl same)) = absurd (none (omega (arith, same)))
    by (inr (inr past)) = absurd (none (omega (arith, past)))

-- one that was there stays
some-push : (of : List (Option ℕ)) (x : Option ℕ) (cell number : ℕ) → component of cell ≡ Some number → component (of ++ x ∷ []) cell ≡ Some number
some-push of x cell number h = push-old of x cell (some-inside of cell number h) ∙ h

-- and one that is there was, or is the new one
push-some : (of : List (Option ℕ)) (x : Option ℕ) (cell number : ℕ) → component (of ++ x ∷ []) cell ≡ Some number → (component of cell ≡ Some number) ⊎ ((cell ≡ length of) × (x ≡ Some number))
push-some of x cell number h = by (where_is cell (length of))
  where
    by : (cell < length of) ⊎ ((cell ≡ length of) ⊎ (length of < cell)) → (component of cell ≡ Some number) ⊎ ((cell ≡ length of) × (x ≡ Some number))
    by (inl inside) = inl (sym (push-old of x cell inside) ∙ h)
    by (inr (inl same)) = inr (same, sym (push-new of x) ∙ ap (component (of ++ x ∷ [])) (sym same) ∙ h)
    by (inr (inr past)) = let nothing : None ≡ Some number = sym (push-past of x cell past) ∙ h in absurd cc

count-push : {X : Type 0} (test : X → Bool) (xs : List X) (x : X) → count test (xs ++ x ∷ []) ≡ count test xs + (if test x then 1 else 0)
count-push test [] x = omega arith
count-push test (y ∷ xs) x = let rest = count-push test xs x in omega (arith, rest)

pub count-most : {X : Type 0} (test : X → Bool) (xs : List X) → count test xs ≤ length xs
count-most test [] = omega arith
count-most test (x ∷ xs) = let rest = count-most test xs in elim (test x) as (λ b. (if b then 1 else 0) + count test xs ≤ suc (length xs)) [ true ↦ omega (arith, rest) | false ↦ omega (arith, rest) ]

-- ---- no cell yet

pub numbered-none : (flags : List Bool) (lower : List ℕ) → AreNumbered flags lower [] []
numbered-none flags lower = record {
  no_more_than_cells = omega arith;
  shown = λ cell h. refl;
  hidden = λ cell inside h. absurd (omega (arith, inside));
  below = λ cell number h. absurd cc;
  same = λ cell inside h. absurd (omega (arith, inside));
  apart = λ one other number end end_other h h_other. absurd cc;
  all = λ number inside. absurd (omega (arith, inside));
  first = λ cell number before h less. absurd cc;
  counted = λ number. refl;
}

-- ---- a shown cell

pub numbered-shown : (flags : List Bool) (lower : List ℕ) (of : List (Option ℕ)) (sizes : List ℕ) → AreNumbered flags lower of sizes → ((cell : ℕ) → slice_index lower cell ≤ cell) → is_hidden flags (length of) ≡ false
    → AreNumbered flags lower (of ++ None ∷ []) sizes
numbered-shown flags lower of sizes is falls shown = record {
  no_more_than_cells = omega (arith, is.no_more_than_cells, longer of None);
  shown = λ cell h. none-same cell ∙ is.shown cell h;
  hidden = λ cell inside h. let one = is.hidden cell (old cell inside h) h in (one.0, none-same cell ∙ one.1);
  below = λ cell number h. is.below cell number (sym (none-same cell) ∙ h);
  same = λ cell inside h. none-same cell ∙ is.same cell (old cell inside h) h ∙ sym (none-same (slice_index lower cell));
  apart = λ one other number end end_other h h_other. is.apart one other number end end_other (sym (none-same one) ∙ h) (sym (none-same other) ∙ h_other);
  all = λ number inside. let one = is.all number inside in (one.0, none-same one.0 ∙ one.1);
  first = λ cell number before h less. let one = is.first cell number before (sym (none-same cell) ∙ h) less in (one.0, one.1, none-same one.0 ∙ one.2);
  counted = λ number. let here = is.counted number in let more = count-push (is_of number) of None in omega (arith, here, more);
}
  where
    none-same : (cell : ℕ) → component (of ++ None ∷ []) cell ≡ component of cell
    none-same cell = by (where_is cell (length of))
      where
        by : (cell < length of) ⊎ ((cell ≡ length of) ⊎ (length of < cell)) → component (of ++ None ∷ []) cell ≡ component of cell
        by (inl inside) = push-old of None cell inside
        by (inr (inl same)) = ap (component (of ++ None ∷ [])) same ∙ push-new of None ∙ sym (get_or_past of cell None (omega (arith, same)))
        by (inr (inr past)) = push-past of None cell past ∙ sym (get_or_past of cell None (omega (arith, past)))

    old : (cell : ℕ) → cell < length (of ++ None ∷ []) → is_hidden flags cell ≡ true → cell < length of
    old cell inside h = by (where_is cell (length of))
      where
        by : (cell < length of) ⊎ ((cell ≡ length of) ⊎ (length of < cell)) → cell < length of
        by (inl inside) = inside
        by (inr (inl same)) = absurd (differ shown (ap (is_hidden flags) (sym same) ∙ h))
        by (inr (inr past)) = absurd (omega (arith, past, inside, longer of None))

-- ---- a hidden cell

-- what a hidden cell with this number keeps, whether it begins a component or not
record Kept (flags : List Bool) (lower : List ℕ) (of : List (Option ℕ)) (here : ℕ) : Type 0 where
  shown : (cell : ℕ) → is_hidden flags cell ≡ false → component (of ++ Some here ∷ []) cell ≡ None
  hidden : (cell : ℕ) → cell < length (of ++ Some here ∷ []) → is_hidden flags cell ≡ true → (number : ℕ) × (component (of ++ Some here ∷ []) cell ≡ Some number)
  same : (cell : ℕ) → cell < length of → is_hidden flags cell ≡ true → component (of ++ Some here ∷ []) cell ≡ component (of ++ Some here ∷ []) (slice_index lower cell)

kept : (flags : List Bool) (lower : List ℕ) (of : List (Option ℕ)) (sizes : List ℕ) (here : ℕ) → AreNumbered flags lower of sizes → ((cell : ℕ) → slice_index lower cell ≤ cell) → is_hidden flags (length of) ≡ true → Kept flags lower of here
kept flags lower of sizes here is falls hidden = record {
  shown = λ cell h. to_none cell h (where_is cell (length of));
  hidden = λ cell inside h. to_some cell inside h (where_is cell (length of));
  same = λ cell inside h.
      let under = falls cell in
      push-old of (Some here) cell inside ∙ is.same cell inside h ∙ sym (push-old of (Some here) (slice_index lower cell) (omega (arith, under, inside)));
}
  where
    to_none : (cell : ℕ) → is_hidden flags cell ≡ false → (cell < length of) ⊎ ((cell ≡ length of) ⊎ (length of < cell)) → component (of ++ Some here ∷ []) cell ≡ None
    to_none cell h (inl inside) = push-old of (Some here) cell inside ∙ is.shown cell h
    to_none cell h (inr (inl same)) = absurd (differ h (ap (is_hidden flags) same ∙ hidden))
    to_none cell h (inr (inr past)) = push-past of (Some here) cell past

    to_some : (cell : ℕ) → cell < length (of ++ Some here ∷ []) → is_hidden flags cell ≡ true → (cell < length of) ⊎ ((cell ≡ length of) ⊎ (length of < cell)) → (number : ℕ) × (component (of ++ Some here ∷ []) cell ≡ Some number)
    to_some cell within h (inl inside) = let one = is.hidden cell inside h in (one.0, push-old of (Some here) cell inside ∙ one.1)
    to_some cell within h (inr (inl same)) = (here, ap (component (of ++ Some here ∷ [])) same ∙ push-new of (Some here))
    to_some cell within h (inr (inr past)) = absurd (omega (arith, past, within, longer of (Some here)))

-- the old cells, and the new one at the end
each-cell : {X : Type 0} (of : List X) (x : X) (P : ℕ → Type 0) → ((cell : ℕ) → cell < length of → P cell) → P (length of) → (cell : ℕ) → cell < length (of ++ x ∷ []) → P cell
each-cell of x P old new cell within = by (where_is cell (length of))
  where
    by : (cell < length of) ⊎ ((cell ≡ length of) ⊎ (length of < cell)) → P cell
    by (inl inside) = old cell inside
    by (inr (inl same)) = subst P (sym same) new
    by (inr (inr past)) = absurd (omega (arith, past, within, longer of x))

-- a hidden cell that points to one without a number points to itself
pub points-itself : (flags : List Bool) (lower : List ℕ) (of : List (Option ℕ)) (sizes : List ℕ) → AreNumbered flags lower of sizes → ((cell : ℕ) → slice_index lower cell ≤ cell) → is_hidden flags (slice_index lower (length of)) ≡ true
    → component of (slice_index lower (length of)) ≡ None → slice_index lower (length of) ≡ length of
points-itself flags lower of sizes is falls hidden none = by (where_is (slice_index lower (length of)) (length of))
  where
    some : slice_index lower (length of) < length of → ⊥
    some under = let one = is.hidden (slice_index lower (length of)) under hidden in let both : None ≡ Some one.0 = sym none ∙ one.1 in absurd cc

    by : (slice_index lower (length of) < length of) ⊎ ((slice_index lower (length of) ≡ length of) ⊎ (length of < slice_index lower (length of))) → slice_index lower (length of) ≡ length of
    by (inl under) = absurd (some under)
    by (inr (inl same)) = same
    by (inr (inr past)) = let low = falls (length of) in absurd (omega (arith, past, low))

-- a cell that begins a component
pub numbered-begun : (flags : List Bool) (lower : List ℕ) (of : List (Option ℕ)) (sizes : List ℕ) → AreNumbered flags lower of sizes → ((cell : ℕ) → slice_index lower cell ≤ cell) → is_hidden flags (length of) ≡ true → slice_index lower (length of) ≡ length of
    → AreNumbered flags lower (of ++ Some (length sizes) ∷ []) (sizes ++ 1 ∷ [])
numbered-begun flags lower of sizes is falls hidden end = record {
  no_more_than_cells = omega (arith, is.no_more_than_cells, longer of (Some (length sizes)), longer sizes 1);
  shown = keeps.shown;
  hidden = keeps.hidden;
  below = λ cell number h. below cell number (push-some of (Some here) cell number h);
  same = λ cell within h.
      each-cell of (Some here) (λ one. is_hidden flags one ≡ true → component all-of one ≡ component all-of (slice_index lower one)) keeps.same (λ hid. ap (component all-of) (sym end)) cell within h;
  apart = λ one other number end_one end_other h h_other. apart one other number end_one end_other (push-some of (Some here) one number h) (push-some of (Some here) other number h_other);
  all = λ number within. all number within (where_is number (length sizes));
  first = λ cell number before h less. first cell number before less (push-some of (Some here) cell number h);
  counted = λ number. counted number (where_is number (length sizes));
}
  where
    here : ℕ
    here = length sizes

    all-of : List (Option ℕ)
    all-of = of ++ Some (length sizes) ∷ []

    keeps : Kept flags lower of (length sizes)
    keeps = kept flags lower of sizes (length sizes) is falls hidden

    below : (cell number : ℕ) → (component of cell ≡ Some number) ⊎ ((cell ≡ length of) × (Some (length sizes) ≡ Some number)) → number < length (sizes ++ 1 ∷ [])
    below cell number (inl h) = omega (arith, is.below cell number h, longer sizes 1)
    below cell number (inr h) = let same : length sizes ≡ number = same-of h.1 in omega (arith, same, longer sizes 1)

    apart : (one other number : ℕ) → slice_index lower one ≡ one → slice_index lower other ≡ other → (component of one ≡ Some number) ⊎ ((one ≡ length of) × (Some (length sizes) ≡ Some number)) → (component of other ≡ Some number) ⊎ ((other ≡ length of) × (Some (length sizes) ≡ Some number)) → one ≡ other
    apart one other number end_one end_other (inl h) (inl k) = is.apart one other number end_one end_other h k
    apart one other number end_one end_other (inl h) (inr k) = let same : length sizes ≡ number = same-of k.1 in absurd (omega (arith, same, is.below one number h))
    apart one other number end_one end_other (inr h) (inl k) = let same : length sizes ≡ number = same-of h.1 in absurd (omega (arith, same, is.below other number k))
    apart one other number end_one end_other (inr h) (inr k) = h.0 ∙ sym k.0

    all : (number : ℕ) → number < length (sizes ++ 1 ∷ []) → (number < length sizes) ⊎ ((number ≡ length sizes) ⊎ (length sizes < number)) → (cell : ℕ) × (component (of ++ Some (length sizes) ∷ []) cell ≡ Some number)
    all number within (inl inside) = let one = is.all number inside in (one.0, some-push of (Some (length sizes)) one.0 number one.1)
    all number within (inr (inl same)) = (length of, push-new of (Some (length sizes)) ∙ ap Some (sym same))
    all number within (inr (inr past)) = absurd (omega (arith, past, within, longer sizes 1))

    first : (cell number before : ℕ) → before < number → (component of cell ≡ Some number) ⊎ ((cell ≡ length of) × (Some (length sizes) ≡ Some number)) → (lowest : ℕ) × (lowest < cell) × (component (of ++ Some (length sizes) ∷ []) lowest ≡ Some before)
    first cell number before less (inl h) = let one = is.first cell number before h less in (one.0, one.1, some-push of (Some (length sizes)) one.0 before one.2)
    first cell number before less (inr h) =
        let same : length sizes ≡ number = same-of h.1 in
        let one = is.all before (omega (arith, same, less)) in
        let at : cell ≡ length of = h.0 in
        let inside = some-inside of one.0 before one.1 in
        (one.0, omega (arith, at, inside), some-push of (Some (length sizes)) one.0 before one.1)

    counted : (number : ℕ) → (number < length sizes) ⊎ ((number ≡ length sizes) ⊎ (length sizes < number)) → slice_index (sizes ++ 1 ∷ []) number ≡ count (is_of number) (of ++ Some (length sizes) ∷ [])
    counted number (inl inside) =
        let test : (length sizes == number) ≡ false = grind (arith, nat_tests) in
        get_or_append_left sizes (1 ∷ []) 0 number inside ∙ is.counted number ∙ sym (count-push (is_of number) of (Some (length sizes)) ∙ ap (λ b. count (is_of number) of + (if b then 1 else 0)) test ∙ omega arith)
    counted number (inr (inl same)) =
        let test : (length sizes == number) ≡ true = grind (arith, nat_tests) in
        let none : slice_index sizes number ≡ 0 = get_or_past sizes number 0 (omega (arith, same)) in
        let one : slice_index (sizes ++ 1 ∷ []) number ≡ 1 = get_or_push sizes 1 0 number (sym same) in
        one ∙ sym (count-push (is_of number) of (Some (length sizes)) ∙ ap (λ b. count (is_of number) of + (if b then 1 else 0)) test ∙ omega (arith, none, is.counted number))
    counted number (inr (inr past)) =
        let test : (length sizes == number) ≡ false = grind (arith, nat_tests) in
        let none : slice_index sizes number ≡ 0 = get_or_past sizes number 0 (omega (arith, past)) in
        let beyond : slice_index (sizes ++ 1 ∷ []) number ≡ 0 = get_or_past (sizes ++ 1 ∷ []) number 0 (omega (arith, past, longer sizes 1)) in
        beyond ∙ sym (count-push (is_of number) of (Some (length sizes)) ∙ ap (λ b. count (is_of number) of + (if b then 1 else 0)) test ∙ omega (arith, none, is.counted number))

-- a cell that points to a lower one is in the component of that one
pub numbered-joined : (flags : List Bool) (lower : List ℕ) (of : List (Option ℕ)) (sizes : List ℕ) (here : ℕ) → AreNumbered flags lower of sizes → ((cell : ℕ) → slice_index lower cell ≤ cell) → is_hidden flags (length of) ≡ true
    → slice_index lower (length of) < length of → component of (slice_index lower (length of)) ≡ Some here → AreNumbered flags lower (of ++ Some here ∷ []) (slice_set sizes here (slice_index sizes here + 1))
numbered-joined flags lower of sizes here is falls hidden under at = record {
  no_more_than_cells = omega (arith, is.no_more_than_cells, longer of (Some here), long);
  shown = keeps.shown;
  hidden = keeps.hidden;
  below = λ cell number h. below cell number (push-some of (Some here) cell number h);
  same = λ cell within h.
      each-cell of (Some here) (λ one. is_hidden flags one ≡ true → component all-of one ≡ component all-of (slice_index lower one)) keeps.same
      (λ hid. push-new of (Some here) ∙ sym at ∙ sym (push-old of (Some here) (slice_index lower (length of)) under)) cell within h;
  apart = λ one other number end_one end_other h h_other. apart one other number end_one end_other (push-some of (Some here) one number h) (push-some of (Some here) other number h_other);
  all = λ number within. let one = is.all number (omega (arith, within, long)) in (one.0, some-push of (Some here) one.0 number one.1);
  first = λ cell number before h less. first cell number before less (push-some of (Some here) cell number h);
  counted = counted;
}
  where
    all-of : List (Option ℕ)
    all-of = of ++ Some here ∷ []

    keeps : Kept flags lower of here
    keeps = kept flags lower of sizes here is falls hidden

    long : length (slice_set sizes here (slice_index sizes here + 1)) ≡ length sizes
    long = length-set sizes here (slice_index sizes here + 1)

    within-sizes : here < length sizes
    within-sizes = is.below (slice_index lower (length of)) here at

    below : (cell number : ℕ) → (component of cell ≡ Some number) ⊎ ((cell ≡ length of) × (Some here ≡ Some number)) → number < length (slice_set sizes here (slice_index sizes here + 1))
    below cell number (inl h) = omega (arith, is.below cell number h, long)
    below cell number (inr h) = let same : here ≡ number = same-of h.1 in omega (arith, same, within-sizes, long)

    never : (cell : ℕ) → slice_index lower cell ≡ cell → cell ≡ length of → ⊥
    never cell end same = let there : slice_index lower cell ≡ slice_index lower (length of) = ap (slice_index lower) same in omega (arith, end, same, there, under)

    apart : (one other number : ℕ) → slice_index lower one ≡ one → slice_index lower other ≡ other → (component of one ≡ Some number) ⊎ ((one ≡ length of) × (Some here ≡ Some number)) → (component of other ≡ Some number) ⊎ ((other ≡ length of) × (Some here ≡ Some number)) → one ≡ other
    apart one other number end_one end_other (inl h) (inl k) = is.apart one other number end_one end_other h k
    apart one other number end_one end_other (inl h) (inr k) = absurd (never other end_other k.0)
    apart one other number end_one end_other (inr h) k = absurd (never one end_one h.0)

    first : (cell number before : ℕ) → before < number → (component of cell ≡ Some number) ⊎ ((cell ≡ length of) × (Some here ≡ Some number)) → (lowest : ℕ) × (lowest < cell) × (component (of ++ Some here ∷ []) lowest ≡ Some before)
    first cell number before less (inl h) = let one = is.first cell number before h less in (one.0, one.1, some-push of (Some here) one.0 before one.2)
    first cell number before less (inr h) =
        let same : here ≡ number = same-of h.1 in
        let one = is.first (slice_index lower (length of)) number before (at ∙ ap Some same) less in
        let place : cell ≡ length of = h.0 in
        let nearer : one.0 < slice_index lower (length of) = one.1 in
        (one.0, omega (arith, place, nearer, under), some-push of (Some here) one.0 before one.2)

    counted : (number : ℕ) → slice_index (slice_set sizes here (slice_index sizes here + 1)) number ≡ count (is_of number) (of ++ Some here ∷ [])
    counted number =
        elim (number == here) as (λ b. (number == here) ≡ b → slice_index (slice_set sizes here (slice_index sizes here + 1)) number ≡ count (is_of number) (of ++ Some here ∷ [])) [
          | true ↦ λ is_it.
              let same : number ≡ here = (Decides-eqb number here).0 is_it in
              let test : (here == number) ≡ true = grind (arith, nat_tests) in
              let new : slice_index (slice_set sizes here (slice_index sizes here + 1)) here ≡ slice_index sizes here + 1 = get_or-set_same sizes here (slice_index sizes here + 1) 0 within-sizes in
              let old : slice_index sizes here ≡ slice_index sizes number = ap (slice_index sizes) (sym same) in
              ap (slice_index (slice_set sizes here (slice_index sizes here + 1))) same ∙ new
              ∙ sym (count-push (is_of number) of (Some here) ∙ ap (λ b. count (is_of number) of + (if b then 1 else 0)) test ∙ omega (arith, old, is.counted number))
          | false ↦ λ other.
              let apart_from : number ≢ here = λ same. absurd (differ other ((Decides-eqb number here).1 same)) in
              let test : (here == number) ≡ false = grind (arith, nat_tests) in
              get_or-set_other sizes here number (slice_index sizes here + 1) 0 apart_from ∙ is.counted number
              ∙ sym (count-push (is_of number) of (Some here) ∙ ap (λ b. count (is_of number) of + (if b then 1 else 0)) test ∙ omega arith)
        ] refl
