-- Tables that a job has fit behind one another.
use Rattle.std.proofs.Common.{◌≡◌, ℕ, suc, ◌+◌, ◌<◌, ◌≤◌, Bool, true, false, cond, ◌||◌, List, [], ◌∷◌, ◌++◌, length, refl, ap, sym, ◌∙◌, subst, arith, append_assoc, length-append, nat_lt, nat_le}
use Rattle.std.specs.List.{AllByRecursion, list_any}
use Rattle.std.specs.Set.{distinct_count}
use Rattle.std.specs.Str.{bytes_eq}
use Rattle.std.specs.Cmp.Lexicographic.{nat_list_eq_equiv}
use Rattle.std.proofs.lemmas.List.{append-nil}
use Rattle.std.proofs.lemmas.List.Folds.{list_any-append}
use Rattle.std.proofs.lemmas.Slice.Eq.{bytes_eq-Decides}
use Rattle.job_lang.specs.declared.job.TableLine.{TableLine}
use Rattle.job_lang.specs.Statements.{names_in, is_past_room, is_other_response}
use Rattle.job_lang.proofs.Known.{all_and_last}
use Rattle.job_lang.proofs.DraftHolds.{names_more}

-- ---- counts of distinct names

or_false : (b : Bool) → (b || false) ≡ b
or_false true = refl
or_false false = refl

member_last : (x y : List ℕ) (xs : List (List ℕ)) → list_any (bytes_eq x) (xs ++ y ∷ []) ≡ (list_any (bytes_eq x) xs || bytes_eq x y)
member_last x y xs = list_any-append (bytes_eq x) xs (y ∷ []) ∙ ap (λ (b : Bool). list_any (bytes_eq x) xs || b) (or_false (bytes_eq x y))

-- the count of a list with one more in front
counted : (x : List ℕ) (xs : List (List ℕ)) (t : Bool) → list_any (bytes_eq x) xs ≡ t → distinct_count bytes_eq (x ∷ xs) ≡ cond t (distinct_count bytes_eq xs) (suc (distinct_count bytes_eq xs))
counted x xs true h = rw h refl
counted x xs false h = rw h refl

one_more : (y : List ℕ) (xs : List (List ℕ)) → list_any (bytes_eq y) xs ≡ false → distinct_count bytes_eq (xs ++ y ∷ []) ≡ suc (distinct_count bytes_eq xs)
one_more y [] h = refl
one_more y (x ∷ xs) h =
    let apart : bytes_eq x y ≡ false = nat_list_eq_equiv.symm x y ∙ first (bytes_eq y x) (list_any (bytes_eq y) xs) h in
    let rest = one_more y xs (second (bytes_eq y x) (list_any (bytes_eq y) xs) h) in
    let same : list_any (bytes_eq x) (xs ++ y ∷ []) ≡ list_any (bytes_eq x) xs = member_last x y xs ∙ rw apart (or_false (list_any (bytes_eq x) xs)) in
    elim (list_any (bytes_eq x) xs) as (λ t. list_any (bytes_eq x) xs ≡ t → distinct_count bytes_eq (x ∷ (xs ++ y ∷ [])) ≡ suc (distinct_count bytes_eq (x ∷ xs))) [
      | true ↦ λ is. counted x (xs ++ y ∷ []) true (same ∙ is) ∙ rest ∙ ap suc (sym (counted x xs true is))
      | false ↦ λ is. counted x (xs ++ y ∷ []) false (same ∙ is) ∙ ap suc rest ∙ ap suc (sym (counted x xs false is))
    ] refl
  where
    first : (a b : Bool) → (a || b) ≡ false → a ≡ false
    first true b h = h
    first false b h = refl

    second : (a b : Bool) → (a || b) ≡ false → b ≡ false
    second true b h = absurd cc
    second false b h = h

not_fewer : (y : List ℕ) (xs : List (List ℕ)) → distinct_count bytes_eq xs ≤ distinct_count bytes_eq (xs ++ y ∷ [])
not_fewer y [] = omega arith
not_fewer y (x ∷ xs) =
    let rest = not_fewer y xs in
    elim (list_any (bytes_eq x) xs) as (λ t. list_any (bytes_eq x) xs ≡ t → distinct_count bytes_eq (x ∷ xs) ≤ distinct_count bytes_eq (x ∷ (xs ++ y ∷ []))) [
      | true ↦ λ is.
          let a = counted x xs true is in
          let b = counted x (xs ++ y ∷ []) true (member_last x y xs ∙ ap (λ (t : Bool). t || bytes_eq x y) is) in
          omega (arith, rest, a, b)
      | false ↦ λ is.
          let a = counted x xs false is in
          elim (bytes_eq x y) as (λ t. bytes_eq x y ≡ t → distinct_count bytes_eq (x ∷ xs) ≤ distinct_count bytes_eq (x ∷ (xs ++ y ∷ []))) [
            | true ↦ λ same.
                let equal : x ≡ y = (bytes_eq-Decides x y).0 same in
                let absent : list_any (bytes_eq y) xs ≡ false = subst (λ (z : List ℕ). list_any (bytes_eq z) xs ≡ false) equal is in
                let more = one_more y xs absent in
                let b = counted x (xs ++ y ∷ []) true (member_last x y xs ∙ ap (λ (t : Bool). list_any (bytes_eq x) xs || t) same ∙ ap (λ (t : Bool). t || true) is) in
                omega (arith, a, b, more)
            | false ↦ λ apart.
                let b = counted x (xs ++ y ∷ []) false (member_last x y xs ∙ ap (λ (t : Bool). list_any (bytes_eq x) xs || t) apart ∙ ap (λ (t : Bool). t || false) is) in
                omega (arith, rest, a, b)
          ] refl
    ] refl

-- a list has no more distinct names than one that begins with it
distinct_more : (xs ys : List (List ℕ)) → distinct_count bytes_eq xs ≤ distinct_count bytes_eq (xs ++ ys)
distinct_more xs [] = let same = ap (λ (zs : List (List ℕ)). distinct_count bytes_eq zs) (append-nil xs) in omega (arith, same)
distinct_more xs (y ∷ ys) =
    let one = not_fewer y xs in
    let rest = distinct_more (xs ++ y ∷ []) ys in
    let same = ap (λ (zs : List (List ℕ)). distinct_count bytes_eq zs) (append_assoc xs (y ∷ []) ys) in
    omega (arith, one, rest, same)

-- ---- tables behind others

-- each table has room behind those before it, and their response
abbrev pub Fit : List TableLine → List TableLine → Type 0
Fit front [] = Unit {0}
Fit front (table ∷ tables) =
    (is_past_room table.variables front ≡ false) × (is_other_response table.response front ≡ false) × ((line : ℕ) → Fit (front ++ record { line = line; variables = table.variables; response = table.response } ∷ []) tables)

room : (n m : ℕ) → n < 8 → m ≤ 8 → (nat_le 8 n || nat_lt 8 m) ≡ false
room n m few names = grind arith

same_response : (response : List ℕ) (front : List TableLine) (table : TableLine) → AllByRecursion (λ t. t.response ≡ response) front → table.response ≡ response → is_other_response table.response front ≡ false
same_response response [] table all h = refl
same_response response (first ∷ front) table all h = rw (all.0, h, nat_list_eq_equiv.refl response) refl

pub fit : (response : List ℕ) (front tables : List TableLine) → length front + length tables ≤ 8 → distinct_count bytes_eq (names_in front ++ names_in tables) ≤ 8
    → AllByRecursion (λ t. t.response ≡ response) front → AllByRecursion (λ t. t.response ≡ response) tables → Fit front tables
fit response front [] few names before all = tt
fit response front (table ∷ tables) few names before all =
    let regrouped : names_in front ++ names_in (table ∷ tables) ≡ (names_in front ++ table.variables) ++ names_in tables = sym (append_assoc (names_in front) table.variables (names_in tables)) in
    let counts = ap (λ (zs : List (List ℕ)). distinct_count bytes_eq zs) regrouped in
    let less = distinct_more (names_in front ++ table.variables) (names_in tables) in (
      room (length front) (distinct_count bytes_eq (names_in front ++ table.variables)) (omega (arith, few)) (omega (arith, names, counts, less)),
      same_response response front table before all.0,
      λ line.
          let again : TableLine = record { line = line; variables = table.variables; response = table.response } in
          let more = ap (λ (zs : List (List ℕ)). distinct_count bytes_eq (zs ++ names_in tables)) (names_more front again) in
          fit response (front ++ again ∷ []) tables (omega (arith, few, length-append front (again ∷ []))) (omega (arith, names, counts, more)) (all_and_last (λ t. t.response ≡ response) front again before all.0) all.1,
    )
