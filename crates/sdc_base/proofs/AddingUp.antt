-- A total is the sum of its children.
use Rattle.std.proofs.Common.{◌≡◌, ◌≢◌, ℕ, zero, suc, ◌+◌, ◌<◌, ◌≤◌, ◌==◌, ◌&&◌, ◌||◌, Bool, true, false, cond, List, [], ◌∷◌, length, fold, filter, slice_index, slice_index_or, slice_set, if◌then◌else◌, Option, None, Some, All, refl, ap, sym, ◌∙◌, subst, arith, ℤ, pos, ◌+ℤ◌}
use Rattle.std.specs.List.{list_any, range_with_len}
use Rattle.std.specs.Option.{ForSome, option_map_or}
use Rattle.std.proofs.lemmas.Bool.Decides.{nat_tests, Decides-eqb}
use Rattle.std.proofs.lemmas.Int.{ints}
use Rattle.std.proofs.lemmas.List.{set-get_or}
use Rattle.std.proofs.lemmas.List.Elements.{All-head, All-tail}
use Rattle.sdc_base.specs.Trees.{Tree, IsCodeTree, children, is_child, is_under, met_in, parent_at}
use Rattle.sdc_base.specs.Records.{Name, falls_in, row_falls}
use Rattle.sdc_base.specs.Sums.{truth, weighted_value}
use Rattle.sdc_base.specs.declared.rows.Row.{Row}
use Rattle.sdc_base.proofs.Walks.{count-none, met-none, parent_is_earlier}
use Rattle.sdc_base.specs.Places.{count}
use Rattle.sdc_base.specs.Totals.{sum_of}
use Rattle.sdc_base.specs.AddingUp.{IsCoded, TablesAddUp}
use Rattle.sdc_base.proofs.TotalLemmas.{sum_of-cons}
use Rattle.sdc_base.proofs.Truths.{share_of_record}

-- numbers for places, added up from the last
abbrev sum_over : (ℕ → ℤ) → List ℕ → ℤ
sum_over numbers [] = pos 0
sum_over numbers (place ∷ places) = numbers place +ℤ sum_over numbers places

over-is-sum : (numbers : ℕ → ℤ) (places : List ℕ) → sum_over numbers places ≡ sum_of numbers places
over-is-sum numbers [] = refl
over-is-sum numbers (place ∷ places) = omega (arith, ints, over-is-sum numbers places, sum_of-cons numbers place places)

-- ---- a walk that passes a place has come through one of its children

count-filter : {X : Type 0} (test keep : X → Bool) (xs : List X) → count test (filter keep xs) ≡ count (λ x. keep x && test x) xs
count-filter test keep [] = refl
count-filter test keep (x ∷ xs) =
    elim (keep x) as (λ b. count test (cond b (x ∷ filter keep xs) (filter keep xs)) ≡ (if b && test x then 1 else 0) + count (λ x. keep x && test x) xs) [
      | true ↦ ap (λ n. (if test x then 1 else 0) + n) (count-filter test keep xs)
      | false ↦ count-filter test keep xs ∙ omega arith
    ]

count-or : {X : Type 0} (keep one other : X → Bool) (xs : List X) → ((x : X) → (one x && other x) ≡ false) → count (λ x. keep x && (one x || other x)) xs ≡ count (λ x. keep x && one x) xs + count (λ x. keep x && other x) xs
count-or keep one other [] apart = omega arith
count-or keep one other (x ∷ xs) apart =
    let rest = count-or keep one other xs apart in
    let here = by (keep x) (one x) (other x) (apart x) in
    omega (arith, rest, here)
  where
    by : (k a b : Bool) → (a && b) ≡ false → (if k && (a || b) then 1 else 0) ≡ (if k && a then 1 else 0) + (if k && b then 1 else 0)
    by true true true h = cc
    by true true false h = refl
    by true false true h = refl
    by true false false h = refl
    by false a b h = refl

abbrev one_if : Bool → ℕ
one_if b = if b then 1 else 0

count-before : (keep : ℕ → Bool) (start n place : ℕ) → place < start → count (λ x. keep x && (place == x)) (range_with_len start n) ≡ 0
count-before keep start zero place h = refl
count-before keep start (suc n) place h =
    let test : (place == start) ≡ false = grind (arith, nat_tests) in
    let rest = count-before keep (start + 1) n place (omega (arith, h)) in
    ap (λ b. (if keep start && b then 1 else 0) + count (λ x. keep x && (place == x)) (range_with_len (start + 1) n)) test ∙ ap (λ b. (if b then 1 else 0) + count (λ x. keep x && (place == x)) (range_with_len (start + 1) n)) (never (keep start)) ∙ omega (arith, rest)
  where
    never : (b : Bool) → (b && false) ≡ false
    never true = refl
    never false = refl

count-point : (keep : ℕ → Bool) (start n place : ℕ) → start ≤ place → place < start + n → count (λ x. keep x && (place == x)) (range_with_len start n) ≡ (if keep place then 1 else 0)
count-point keep start zero place low high = absurd (omega (arith, low, high))
count-point keep start (suc n) place low high =
    elim (place == start) as (λ b. (place == start) ≡ b → (if keep start && b then 1 else 0) + count (λ x. keep x && (place == x)) (range_with_len (start + 1) n) ≡ (if keep place then 1 else 0)) [
      | true ↦ λ is.
          let same : place ≡ start = (Decides-eqb place start).0 is in
          let rest = count-before keep (start + 1) n place (omega (arith, same)) in
          let here : one_if (keep start && true) ≡ one_if (keep place) = ap one_if (always (keep start)) ∙ ap (λ p. one_if (keep p)) (sym same) in
          omega (arith, rest, here)
      | false ↦ λ is.
          let apart : place ≢ start = λ same. absurd (differ is ((Decides-eqb place start).1 same)) in
          let rest = count-point keep (start + 1) n place (omega (arith, low, apart)) (omega (arith, high)) in
          let here : one_if (keep start && false) ≡ 0 = ap one_if (never (keep start)) in
          omega (arith, rest, here)
    ] refl
  where
    never : (b : Bool) → (b && false) ≡ false
    never true = refl
    never false = refl

    always : (b : Bool) → (b && true) ≡ b
    always true = refl
    always false = refl

    differ : {b : Bool} → b ≡ false → b ≡ true → ⊥
    differ one other = absurd cc

-- a walk from below a place doesn't meet it
not-met : (tree : Tree) → ((place parent : ℕ) → parent_at tree place ≡ Some parent → parent < place) → (steps : ℕ) (met : Option ℕ) (above : ℕ) → ForSome met (λ place. place < above) → list_any (λ one. one == above) (met_in steps tree met) ≡ false
not-met tree earlier zero None above below = refl
not-met tree earlier (suc steps) None above below = refl
not-met tree earlier zero (Some place) above below = refl
not-met tree earlier (suc steps) (Some place) above below =
    let under : place < above = below place refl in
    let test : (place == above) ≡ false = grind (arith, nat_tests) in
    let rest = not-met tree earlier steps (parent_at tree place) above (λ parent is. let up = earlier place parent is in omega (arith, up, under)) in
    rw (test, rest) refl

through-child : (tree : Tree) → IsCodeTree tree → (above steps place : ℕ) → place < steps → place < length tree → (place == above) ≡ false
    → count (λ child. is_child tree above child && list_any (λ met. met == child) (met_in steps tree (Some place))) (range_with_len 0 (length tree)) ≡ (if list_any (λ met. met == above) (met_in steps tree (Some place)) then 1 else 0)
through-child tree is above zero place enough within other = absurd (omega (arith, enough))
through-child tree is above (suc steps) place enough within other =
    count-or (is_child tree above) (λ child. place == child) (λ child. list_any (λ met. met == child) rest) (range_with_len 0 (length tree)) once
    ∙ ap (λ n. n + count (λ child. is_child tree above child && list_any (λ met. met == child) rest) (range_with_len 0 (length tree))) (count-point (is_child tree above) 0 (length tree) place (omega arith) (omega (arith, within)))
    ∙ by (parent_at tree place) refl (λ q below inside apart. through-child tree is above steps q below inside apart)
    ∙ ap (λ b. if b || list_any (λ met. met == above) rest then 1 else 0) (sym other)
  where
    earlier : (place parent : ℕ) → parent_at tree place ≡ Some parent → parent < place
    earlier = parent_is_earlier tree is

    rest : List ℕ
    rest = met_in steps tree (parent_at tree place)

    once : (child : ℕ) → ((place == child) && list_any (λ met. met == child) rest) ≡ false
    once child =
        elim (place == child) as (λ b. (place == child) ≡ b → (b && list_any (λ met. met == child) rest) ≡ false) [
          | true ↦ λ same. not-met tree earlier steps (parent_at tree place) child (λ parent up. let less = earlier place parent up in let eq = (Decides-eqb place child).0 same in omega (arith, less, eq))
          | false ↦ λ same. refl
        ] refl

    below-all : (child : ℕ) → (is_child tree above child && list_any (λ met. met == child) (met_in steps tree (Some above))) ≡ false
    below-all child = split (parent_at tree child) refl
      where
        split : (found : Option ℕ) → parent_at tree child ≡ found → (option_map_or (λ parent. parent == above) found false && list_any (λ met. met == child) (met_in steps tree (Some above))) ≡ false
        split None up = refl
        split (Some parent) up =
            elim (parent == above) as (λ b. (parent == above) ≡ b → (b && list_any (λ met. met == child) (met_in steps tree (Some above))) ≡ false) [
              | true ↦ λ same. not-met tree earlier steps (Some above) child (λ one eq. let less = earlier child parent up in let here = (Decides-eqb parent above).0 same in let at : above ≡ one = cc in omega (arith, less, here, at))
              | false ↦ λ same. refl
            ] refl

    head-met : (steps : ℕ) → 0 < steps → list_any (λ met. met == above) (met_in steps tree (Some above)) ≡ true
    head-met zero h = absurd (omega (arith, h))
    head-met (suc steps) h = let test : (above == above) ≡ true = (Decides-eqb above above).1 refl in rw test refl

    by : (found : Option ℕ) → parent_at tree place ≡ found
        → ((q : ℕ) → q < steps → q < length tree → (q == above) ≡ false → count (λ child. is_child tree above child && list_any (λ met. met == child) (met_in steps tree (Some q))) (range_with_len 0 (length tree)) ≡ (if list_any (λ met. met == above) (met_in steps tree (Some q)) then 1 else 0))
        → (if option_map_or (λ parent. parent == above) (parent_at tree place) false then 1 else 0) + count (λ child. is_child tree above child && list_any (λ met. met == child) rest) (range_with_len 0 (length tree)) ≡ (if false || list_any (λ met. met == above) rest then 1 else 0)
    by None up more =
        ap (λ o. (if option_map_or (λ parent. parent == above) o false then 1 else 0) + count (λ child. is_child tree above child && list_any (λ met. met == child) (met_in steps tree o)) (range_with_len 0 (length tree))) up
        ∙ ap (λ line. 0 + count (λ child. is_child tree above child && list_any (λ met. met == child) line) (range_with_len 0 (length tree))) (met-none steps tree)
        ∙ ap (λ n. 0 + n) (count-none (λ child. is_child tree above child && false) (range_with_len 0 (length tree)) (λ child. never (is_child tree above child)))
        ∙ sym (ap (λ line. if false || list_any (λ met. met == above) line then 1 else 0) (ap (λ o. met_in steps tree o) up ∙ met-none steps tree))
      where
        never : (b : Bool) → (b && false) ≡ false
        never true = refl
        never false = refl
    by (Some q) up more =
        let less : q < place = earlier place q up in
        ap (λ o. (if option_map_or (λ parent. parent == above) o false then 1 else 0) + count (λ child. is_child tree above child && list_any (λ met. met == child) (met_in steps tree o)) (range_with_len 0 (length tree))) up
        ∙ elim (q == above) as (λ b. (q == above) ≡ b → (if b then 1 else 0) + count (λ child. is_child tree above child && list_any (λ met. met == child) (met_in steps tree (Some q))) (range_with_len 0 (length tree)) ≡ (if false || list_any (λ met. met == above) (met_in steps tree (Some q)) then 1 else 0)) [
          | true ↦ λ same.
              let eq : q ≡ above = (Decides-eqb q above).0 same in
              let none : count (λ child. is_child tree above child && list_any (λ met. met == child) (met_in steps tree (Some q))) (range_with_len 0 (length tree)) ≡ 0 =
              ap (λ p. count (λ child. is_child tree above child && list_any (λ met. met == child) (met_in steps tree (Some p))) (range_with_len 0 (length tree))) eq
              ∙ count-none (λ child. is_child tree above child && list_any (λ met. met == child) (met_in steps tree (Some above))) (range_with_len 0 (length tree)) below-all
              in
              let met : list_any (λ met. met == above) (met_in steps tree (Some q)) ≡ true = ap (λ p. list_any (λ met. met == above) (met_in steps tree (Some p))) eq ∙ head-met steps (omega (arith, less, enough)) in
              ap (λ n. 1 + n) none ∙ sym (ap (λ b. if false || b then 1 else 0) met)
          | false ↦ λ apart. ap (λ n. 0 + n) (more q (omega (arith, less, enough)) (omega (arith, less, within)) apart) ∙ plain (list_any (λ met. met == above) (met_in steps tree (Some q)))
        ] refl
        ∙ sym (ap (λ o. if false || list_any (λ met. met == above) (met_in steps tree o) then 1 else 0) up)
      where
        plain : (b : Bool) → 0 + (if b then 1 else 0) ≡ (if false || b then 1 else 0)
        plain true = refl
        plain false = refl

-- ---- falling in a cell, but for one variable

abbrev others : List Tree → Name → Name → ℕ → Bool
others [] name codes variable = true
others (tree ∷ trees) [] codes variable = false
others (tree ∷ trees) (above ∷ name) [] variable = false
others (tree ∷ trees) (above ∷ name) (code ∷ codes) zero = falls_in trees name codes
others (tree ∷ trees) (above ∷ name) (code ∷ codes) (suc variable) = is_under tree code above && others trees name codes variable

falls-set : (trees : List Tree) (name codes : Name) (variable child : ℕ) → variable < length trees → length name ≡ length trees → length codes ≡ length trees
    → falls_in trees (slice_set name variable child) codes ≡ (others trees name codes variable && is_under (slice_index_or trees variable []) (slice_index codes variable) child)
falls-set [] name codes variable child within long coded = absurd (omega (arith, within))
falls-set (tree ∷ trees) [] codes variable child within long coded = cc
falls-set (tree ∷ trees) (above ∷ name) [] variable child within long coded = cc
falls-set (tree ∷ trees) (above ∷ name) (code ∷ codes) zero child within long coded = swap (is_under tree code child) (falls_in trees name codes)
  where
    swap : (a b : Bool) → (a && b) ≡ (b && a)
    swap true true = refl
    swap true false = refl
    swap false true = refl
    swap false false = refl
falls-set (tree ∷ trees) (above ∷ name) (code ∷ codes) (suc variable) child within long coded =
    ap (λ b. is_under tree code above && b) (falls-set trees name codes variable child (omega (arith, within)) (omega (arith, long)) (omega (arith, coded)))
    ∙ group (is_under tree code above) (others trees name codes variable) (is_under (slice_index_or trees variable []) (slice_index codes variable) child)
  where
    group : (a b c : Bool) → (a && (b && c)) ≡ ((a && b) && c)
    group true b c = refl
    group false b c = refl

-- ---- sums

shift : (sum : ℤ) (rows : List Row) → fold (λ sum row. sum +ℤ weighted_value row) sum rows ≡ sum +ℤ fold (λ sum row. sum +ℤ weighted_value row) (pos 0) rows
shift sum [] = omega (arith, ints)
shift sum (row ∷ rows) =
    let one = shift (sum +ℤ weighted_value row) rows in
    let none = shift (pos 0 +ℤ weighted_value row) rows in
    omega (arith, ints, one, none)

truth-cons : (trees : List Tree) (name : Name) (row : Row) (rows : List Row) → truth trees name (row ∷ rows) ≡ share_of_record trees name row +ℤ truth trees name rows
truth-cons trees name row rows =
    elim (row_falls trees name row) as (λ b. fold (λ sum row. sum +ℤ weighted_value row) (pos 0) (cond b (row ∷ filter (row_falls trees name) rows) (filter (row_falls trees name) rows)) ≡ (if b then weighted_value row else pos 0) +ℤ truth trees name rows) [
      | true ↦ let one = shift (pos 0 +ℤ weighted_value row) (filter (row_falls trees name) rows) in omega (arith, ints, one)
      | false ↦ omega (arith, ints)
    ]

sum-both : (f g : ℕ → ℤ) (places : List ℕ) → sum_over (λ place. f place +ℤ g place) places ≡ sum_over f places +ℤ sum_over g places
sum-both f g [] = omega (arith, ints)
sum-both f g (place ∷ places) = let rest = sum-both f g places in omega (arith, ints, rest)

sum-same : (f g : ℕ → ℤ) (places : List ℕ) → ((place : ℕ) → f place ≡ g place) → sum_over f places ≡ sum_over g places
sum-same f g [] same = refl
sum-same f g (place ∷ places) same = ap (λ v. v +ℤ sum_over f places) (same place) ∙ ap (λ s. g place +ℤ s) (sum-same f g places same)

picks : (fits : Bool) (under : ℕ → Bool) (value : ℤ) (places : List ℕ) (all : Bool) → count under places ≡ (if all then 1 else 0) → sum_over (λ place. if fits && under place then value else pos 0) places ≡ (if fits && all then value else pos 0)
picks fits under value [] true h = absurd (omega (arith, h))
picks true under value [] false h = refl
picks false under value [] false h = refl
picks fits under value (place ∷ places) all h =
    elim (under place) as (λ b. (if b then 1 else 0) + count under places ≡ (if all then 1 else 0) → (if fits && b then value else pos 0) +ℤ sum_over (λ place. if fits && under place then value else pos 0) places ≡ (if fits && all then value else pos 0)) [
      | true ↦ λ h. one (λ few. picks fits under value places false few) all h
      | false ↦ λ h. let rest = picks fits under value places all (same all h) in ap (λ v. v +ℤ sum_over (λ place. if fits && under place then value else pos 0) places) (none fits) ∙ ap (λ s. pos 0 +ℤ s) rest ∙ plain (if fits && all then value else pos 0)
    ] h
  where
    none : (b : Bool) → (if b && false then value else pos 0) ≡ pos 0
    none true = refl
    none false = refl

    plain : (v : ℤ) → (pos 0 +ℤ v) ≡ v
    plain v = omega (arith, ints)

    back : (v : ℤ) → (v +ℤ pos 0) ≡ v
    back v = omega (arith, ints)

    same : (all : Bool) → 0 + count under places ≡ (if all then 1 else 0) → count under places ≡ (if all then 1 else 0)
    same all h = omega (arith, h)

    one-or-more : 1 + count under places ≡ 0 → ⊥
    one-or-more h = omega (arith, h)

    one : (count under places ≡ 0 → sum_over (λ place. if fits && under place then value else pos 0) places ≡ (if fits && false then value else pos 0)) → (all : Bool) → 1 + count under places ≡ (if all then 1 else 0) → (if fits && true then value else pos 0) +ℤ sum_over (λ place. if fits && under place then value else pos 0) places ≡ (if fits && all then value else pos 0)
    one more true h =
        let rest : sum_over (λ place. if fits && under place then value else pos 0) places ≡ (if fits && false then value else pos 0) = more (omega (arith, h)) in
        ap (λ s. (if fits && true then value else pos 0) +ℤ s) (rest ∙ none fits) ∙ back (if fits && true then value else pos 0)
    one more false h = absurd (one-or-more h)

-- ---- the law

add-up : (trees : List Tree) (rows : List Row) (name : Name) (variable : ℕ) → All IsCodeTree trees → All (IsCoded trees) rows → length name ≡ length trees → variable < length trees
    → All (λ row. children (slice_index_or trees variable []) (slice_index row.codes variable) ≡ []) rows → children (slice_index_or trees variable []) (slice_index name variable) ≢ []
    → truth trees name rows ≡ sum_over (λ child. truth trees (slice_set name variable child) rows) (children (slice_index_or trees variable []) (slice_index name variable))
add-up trees [] name variable each coded long within bare some = empty (children (slice_index_or trees variable []) (slice_index name variable))
  where
    empty : (places : List ℕ) → pos 0 ≡ sum_over (λ child. pos 0) places
    empty [] = refl
    empty (place ∷ places) = let rest = empty places in omega (arith, ints, rest)
add-up trees (row ∷ rows) name variable each coded long within bare some =
    let tree = slice_index_or trees variable [] in
    let above = slice_index name variable in
    let code = slice_index row.codes variable in
    let kids = children tree above in
    let good = All-head (IsCoded trees) row rows coded in
    let leaf : children tree code ≡ [] = All-head (λ (r : Row). children tree (slice_index r.codes variable) ≡ []) row rows bare in
    let rest = add-up trees rows name variable each (All-tail (IsCoded trees) row rows coded) long within (All-tail (λ (r : Row). children tree (slice_index r.codes variable) ≡ []) row rows bare) some in
    let fits = others trees name row.codes variable in
    let apart : (code == above) ≡ false = other (code == above) refl (λ same. some (subst (λ p. children tree p ≡ []) same leaf)) in
    let here = good.inside variable within in
    let once : count (λ child. is_under tree code child) kids ≡ (if is_under tree code above then 1 else 0) =
    count-filter (λ child. is_under tree code child) (is_child tree above) (range_with_len 0 (length tree)) ∙ through-child tree (each variable [] within) above (length tree) code here here apart
    in
    let part : (child : ℕ) → share_of_record trees (slice_set name variable child) row ≡ (if fits && is_under tree code child then weighted_value row else pos 0) =
    λ child. ap (λ b. if b then weighted_value row else pos 0) (falls-set trees name row.codes variable child within long good.coded)
    in
    let whole : share_of_record trees name row ≡ (if fits && is_under tree code above then weighted_value row else pos 0) =
    ap (λ n. share_of_record trees n row) (sym (set-get_or name variable 0)) ∙ part above
    in
    truth-cons trees name row rows
    ∙ ap (λ v. v +ℤ truth trees name rows) (whole ∙ sym (picks fits (λ child. is_under tree code child) (weighted_value row) kids (is_under tree code above) once) ∙ sym (sum-same (λ child. share_of_record trees (slice_set name variable child) row) (λ child. if fits && is_under tree code child then weighted_value row else pos 0) kids part))
    ∙ ap (λ v. sum_over (λ child. share_of_record trees (slice_set name variable child) row) kids +ℤ v) rest
    ∙ sym (sum-both (λ child. share_of_record trees (slice_set name variable child) row) (λ child. truth trees (slice_set name variable child) rows) kids)
    ∙ sum-same (λ child. share_of_record trees (slice_set name variable child) row +ℤ truth trees (slice_set name variable child) rows) (λ child. truth trees (slice_set name variable child) (row ∷ rows)) kids (λ child. sym (truth-cons trees (slice_set name variable child) row rows))
  where
    other : (b : Bool) → (slice_index row.codes variable == slice_index name variable) ≡ b → (slice_index row.codes variable ≡ slice_index name variable → ⊥) → (slice_index row.codes variable == slice_index name variable) ≡ false
    other true is differ = absurd (differ ((Decides-eqb (slice_index row.codes variable) (slice_index name variable)).0 is))
    other false is differ = is

pub tables_add_up : TablesAddUp
tables_add_up trees rows name variable each coded long within bare some =
    add-up trees rows name variable each coded long within bare some
    ∙ over-is-sum (λ child. truth trees (slice_set name variable child) rows) (children (slice_index_or trees variable []) (slice_index name variable))
