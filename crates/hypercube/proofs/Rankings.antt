-- Edges by their prices: the same cubes, but for some that don't serve.
use Rattle.std.proofs.Common.{◌≡◌, ◌⊎◌, inl, inr, ℕ, zero, suc, ◌+◌, ◌<◌, ◌≤◌, Bool, true, false, cond, ◌==◌, ◌&&◌, if◌then◌else◌, List, [], ◌∷◌, ◌++◌, length, map, filter, drop, take, get_or, None, refl, ap, sym, ◌∙◌, subst, append_assoc, length-append, arith}
use Rattle.std.specs.List.{AllByRecursion, list_all}
use Rattle.std.specs.List.Sorted.{IsPermutation}
use Rattle.std.proofs.lemmas.List.{map-append}
use Rattle.std.proofs.lemmas.List.Sorted.{Contains-permutation, IsPermutation-map, IsPermutation-sym}
use Rattle.sdc_base.specs.Trees.{Tree}
use Rattle.sdc_base.specs.Records.{Name}
use Rattle.sdc_base.specs.Cubes.{choices, cubes_at, edges_at, serve}
use Rattle.sdc_base.specs.CubeOrder.{comes_before, first_by}
use Rattle.sdc_base.specs.declared.cube.Edge.{Edge}
use Rattle.hypercube.specs.declared.ranking.PricedEdge.{PricedEdge}
use Rattle.sdc_base.specs.declared.dimension.Dimension.{Dimension}
use Rattle.linked_tables.specs.BookCells.{IsBook}
use Rattle.hypercube.specs.Branches.{Setting, begin_at, best_beyond, cell_in, codes_at, offers_of}
use Rattle.hypercube.specs.LeastCubes.{is_marked, price_in}
use Rattle.hypercube.specs.Ranks.{ArePriced, AreRanked, AreRankings, IsRanking, edge_lists, edges_in, price_over, priced_of, serves_over, with_price}
use Rattle.hypercube.proofs.AllOf.{all-more}
use Rattle.hypercube.proofs.Members.{Among, Picks, all-among, all-itself, among-contains, choices-pick, contains-among, picks-among}
use Rattle.hypercube.proofs.OwnCorners.{own-serves}
use Rattle.hypercube.proofs.Pruning.{corners_in}
use Rattle.hypercube.proofs.Reordered.{same-first}
use Rattle.hypercube.proofs.SharedCorners.{and-parts, choices-begin, codes_of}
use Rattle.hypercube.proofs.EdgeLists.{edges-begin}
use Rattle.hypercube.proofs.Searches.{search-all}
use Rattle.hypercube.proofs.Tied.{IsTied, cubes-tied, own-cells}

-- ---- making one

-- one edge on
pub priced-next : (setting : Setting) (k : ℕ) (edge : Edge) (edges : List Edge) (done : List PricedEdge)
    → (if serves_over setting k edge then done ++ with_price setting k edge ∷ [] else done) ++ priced_of setting k edges ≡ done ++ priced_of setting k (edge ∷ edges)
priced-next setting k edge edges done =
    elim (serves_over setting k edge) as (λ b. (if b then done ++ with_price setting k edge ∷ [] else done) ++ priced_of setting k edges ≡ done ++ map (with_price setting k) (cond b (edge ∷ filter (serves_over setting k) edges) (filter (serves_over setting k) edges))) [
      | true ↦ append_assoc done (with_price setting k edge ∷ []) (priced_of setting k edges)
      | false ↦ refl
    ]

-- the edges of those with prices
edges-again : (setting : Setting) (k : ℕ) (edges : List Edge) → map (λ (one : PricedEdge). one.edge) (map (with_price setting k) edges) ≡ edges
edges-again setting k [] = refl
edges-again setting k (edge ∷ edges) = ap (λ (rest : List Edge). edge ∷ rest) (edges-again setting k edges)

-- the price is that of the edge
prices-are : (setting : Setting) (k : ℕ) (edges : List Edge) → AllByRecursion (λ (one : PricedEdge). one.price ≡ price_over setting k one.edge) (map (with_price setting k) edges)
prices-are setting k [] = tt
prices-are setting k (edge ∷ edges) = (refl, prices-are setting k edges)

-- what has each member of one list among its own, where P holds of all of these
moved : {X : Type 0} (P : X → Type 0) (xs ys : List X) → IsPermutation xs ys → AllByRecursion P xs → AllByRecursion P ys
moved P xs ys same all =
    all-more (Among ys) P ys (λ y among. all-among P xs y all (contains-among xs y (Contains-permutation ys xs y (IsPermutation-sym xs ys same) (among-contains ys y among)))) (all-itself ys)

-- ---- as edges alone

-- list by list from variable k on: the edges whose own corner bears the levels, in another order
abbrev pub AreReordered : Setting → ℕ → List (List Edge) → List (List Edge) → Type 0
AreReordered setting k [] [] = Unit {0}
AreReordered setting k [] (one ∷ more) = ⊥
AreReordered setting k (edges ∷ lists) [] = ⊥
AreReordered setting k (edges ∷ lists) (one ∷ more) = IsPermutation (filter (serves_over setting k) edges) one × AreReordered setting (k + 1) lists more

pub reordered : (setting : Setting) (k : ℕ) (lists : List (List Edge)) (ranked : List (List PricedEdge)) → AreRankings setting k lists ranked → AreReordered setting k lists (edge_lists ranked)
reordered setting k [] [] are = tt
reordered setting k [] (one ∷ ranked) are = absurd are
reordered setting k (edges ∷ lists) [] are = absurd are
reordered setting k (edges ∷ lists) (one ∷ ranked) (are, rest) = (
  subst (λ (l : List Edge). IsPermutation l (edges_in one)) (edges-again setting k (filter (serves_over setting k) edges)) (IsPermutation-map (λ (p : PricedEdge). p.edge) (priced_of setting k edges) one are.same),
  reordered setting (k + 1) lists ranked rest,
)

-- ---- list by list

pub rankings-more : (setting : Setting) (k : ℕ) (lists : List (List Edge)) (all : List (List PricedEdge)) (edges : List Edge) (ranked : List PricedEdge) → AreRankings setting k lists all → IsRanking setting (k + length lists) edges ranked → AreRankings setting k (lists ++ edges ∷ []) (all ++ ranked ∷ [])
rankings-more setting k [] [] edges ranked are here = (subst (λ (n : ℕ). IsRanking setting n edges ranked) (omega arith) here, tt)
rankings-more setting k [] (first ∷ all) edges ranked are here = absurd are
rankings-more setting k (first ∷ lists) [] edges ranked are here = absurd are
rankings-more setting k (first ∷ lists) (one ∷ all) edges ranked (are, rest) here =
    let next : k + suc (length lists) ≡ (k + 1) + length lists = omega arith in
    (are, rankings-more setting (k + 1) lists all edges ranked rest (subst (λ (n : ℕ). IsRanking setting n edges ranked) next here))

pub rankings-long : (setting : Setting) (k : ℕ) (lists : List (List Edge)) (all : List (List PricedEdge)) → AreRankings setting k lists all → length all ≡ length lists
rankings-long setting k [] [] are = refl
rankings-long setting k [] (one ∷ all) are = absurd are
rankings-long setting k (first ∷ lists) [] are = absurd are
rankings-long setting k (first ∷ lists) (one ∷ all) (are, rest) = ap suc (rankings-long setting (k + 1) lists all rest)

-- a ranking has the prices of its edges, upwards
ranking-priced : (setting : Setting) (k : ℕ) (edges : List Edge) (ranked : List PricedEdge) → IsRanking setting k edges ranked → ArePriced setting k ranked
ranking-priced setting k edges ranked is = record {
  prices = moved (λ (one : PricedEdge). one.price ≡ price_over setting k one.edge) (priced_of setting k edges) ranked is.same (prices-are setting k (filter (serves_over setting k) edges));
  rising = is.rising;
}

rankings-rise : (setting : Setting) (k : ℕ) (lists : List (List Edge)) (all : List (List PricedEdge)) (j : ℕ) → AreRankings setting k lists all → j < length all → ArePriced setting (k + j) (get_or all j [])
rankings-rise setting k [] [] j are inside = absurd (omega (arith, inside))
rankings-rise setting k [] (one ∷ all) j are inside = absurd are
rankings-rise setting k (first ∷ lists) [] j are inside = absurd are
rankings-rise setting k (first ∷ lists) (one ∷ all) zero (are, rest) inside = let same : k ≡ k + zero = omega arith in subst (λ (n : ℕ). ArePriced setting n one) same (ranking-priced setting k first one are)
rankings-rise setting k (first ∷ lists) (one ∷ all) (suc j) (are, rest) inside =
    let same : (k + 1) + j ≡ k + suc j = omega arith in
    subst (λ (n : ℕ). ArePriced setting n (get_or all j [])) same (rankings-rise setting (k + 1) lists all j rest (omega (arith, inside)))

-- ---- members

filtered : {X : Type 0} (test : X → Bool) (xs : List X) (x : X) → Among (filter test xs) x → Among xs x
filtered test [] x among = absurd among
filtered test (y ∷ xs) x among =
    elim (test y) as (λ b. Among (cond b (y ∷ filter test xs) (filter test xs)) x → (x ≡ y) ⊎ Among xs x) [
      | true ↦ λ at. either at (filtered test xs x)
      | false ↦ λ at. inr (filtered test xs x at)
    ] among
  where
    either : (x ≡ y) ⊎ Among (filter test xs) x → (Among (filter test xs) x → Among xs x) → (x ≡ y) ⊎ Among xs x
    either (inl same) later = inl same
    either (inr at) later = inr (later at)

passing : {X : Type 0} (test : X → Bool) (xs : List X) (x : X) → Among xs x → test x ≡ true → Among (filter test xs) x
passing test [] x among passes = absurd among
passing test (y ∷ xs) x (inl same) passes =
    let is : test y ≡ true = subst (λ z. test z ≡ true) same passes in
    subst (λ b. Among (cond b (y ∷ filter test xs) (filter test xs)) x) (sym is) (inl same)
passing test (y ∷ xs) x (inr among) passes =
    let rest = passing test xs x among passes in
    elim (test y) as (λ b. Among (cond b (y ∷ filter test xs) (filter test xs)) x) [
      | true ↦ inr rest
      | false ↦ rest
    ]

-- a ranking has edges of the list alone
ranking-within : (setting : Setting) (k : ℕ) (edges ranked : List Edge) (edge : Edge) → IsPermutation (filter (serves_over setting k) edges) ranked → Among ranked edge → Among edges edge
ranking-within setting k edges ranked edge is among =
    let kept = filter (serves_over setting k) edges in
    filtered (serves_over setting k) edges edge (contains-among kept edge (Contains-permutation ranked kept edge (IsPermutation-sym kept ranked is) (among-contains ranked edge among)))

-- and each whose own corner bears the levels
ranking-kept : (setting : Setting) (k : ℕ) (edges ranked : List Edge) (edge : Edge) → IsPermutation (filter (serves_over setting k) edges) ranked → Among edges edge → serves_over setting k edge ≡ true → Among ranked edge
ranking-kept setting k edges ranked edge is among serves =
    let kept = filter (serves_over setting k) edges in
    contains-among ranked edge (Contains-permutation kept ranked edge is (among-contains kept edge (passing (serves_over setting k) edges edge among serves)))

tested : {X : Type 0} (test : X → Bool) (xs : List X) → list_all test xs ≡ true → AllByRecursion (λ x. test x ≡ true) xs
tested test [] h = tt
tested test (x ∷ xs) h = let two = and-parts (test x) (list_all test xs) h in (two.0, tested test xs two.1)

all-tested : {X : Type 0} (test : X → Bool) (xs : List X) → AllByRecursion (λ x. test x ≡ true) xs → list_all test xs ≡ true
all-tested test [] all = refl
all-tested test (x ∷ xs) (here, all) = ap (λ b. b && list_all test xs) here ∙ all-tested test xs all

-- so they begin at the same codes
pub reordered-begin : (setting : Setting) (k : ℕ) (codes : List ℕ) (lists all : List (List Edge)) → AreReordered setting k lists all → begin_at codes lists ≡ true → begin_at codes all ≡ true
reordered-begin setting k codes [] [] are h = h
reordered-begin setting k codes [] (one ∷ all) are h = absurd are
reordered-begin setting k codes (first ∷ lists) [] are h = absurd are
reordered-begin setting k [] (first ∷ lists) (one ∷ all) are h = absurd cc
reordered-begin setting k (code ∷ codes) (first ∷ lists) (one ∷ all) (are, rest) h =
    let two = and-parts (list_all (λ edge. edge.code == code) first) (begin_at codes lists) h in
    let here = all-tested (λ edge. edge.code == code) one (all-more (Among one) (λ edge. (edge.code == code) ≡ true) one (λ edge among. all-among (λ e. (e.code == code) ≡ true) first edge (tested (λ e. e.code == code) first two.0) (ranking-within setting k first one edge are among)) (all-itself one)) in
    ap (λ b. b && begin_at codes all) here ∙ reordered-begin setting (k + 1) codes lists all rest two.1

-- ---- cubes

picks-within : (setting : Setting) (k : ℕ) (lists all : List (List Edge)) (cube : List Edge) → AreReordered setting k lists all → Picks all cube → Picks lists cube
picks-within setting k [] [] cube are picked = picked
picks-within setting k [] (one ∷ all) cube are picked = absurd are
picks-within setting k (first ∷ lists) [] cube are picked = absurd are
picks-within setting k (first ∷ lists) (one ∷ all) [] are picked = absurd picked
picks-within setting k (first ∷ lists) (one ∷ all) (edge ∷ cube) (are, rest) (here, picked) = (ranking-within setting k first one edge are here, picks-within setting (k + 1) lists all cube rest picked)

pub front-codes : (before : List Edge) (codes : List ℕ) → take (length before) (codes_of before ++ codes) ≡ codes_of before
front-codes [] codes = refl
front-codes (edge ∷ before) codes = ap (λ (rest : List ℕ). edge.code ∷ rest) (front-codes before codes)

pub back-codes : (before : List Edge) (codes : List ℕ) → drop (length before) (codes_of before ++ codes) ≡ codes
back-codes [] codes = refl
back-codes (edge ∷ before) codes = back-codes before codes

-- a cube that serves has in each list an edge that is kept
picks-kept : (setting : Setting) (lists all : List (List Edge)) (before cube : List Edge) → AreReordered setting (length before) lists all → Picks lists cube → codes_of (before ++ cube) ≡ setting.codes
    → serve setting.cells setting.levels (corners_in setting (before ++ cube)) ≡ true → Picks all cube
picks-kept setting [] [] before cube are picked whole served = picked
picks-kept setting [] (one ∷ all) before cube are picked whole served = absurd are
picks-kept setting (first ∷ lists) [] before cube are picked whole served = absurd are
picks-kept setting (first ∷ lists) (one ∷ all) before [] are picked whole served = absurd picked
picks-kept setting (first ∷ lists) (one ∷ all) before (edge ∷ cube) (are, rest) (here, picked) whole served =
    let codes : codes_of before ++ codes_of (edge ∷ cube) ≡ setting.codes = sym (map-append (λ (e : Edge). e.code) before (edge ∷ cube)) ∙ whole in
    let front : codes_of before ≡ take (length before) setting.codes = sym (front-codes before (codes_of (edge ∷ cube))) ∙ ap (λ (l : List ℕ). take (length before) l) codes in
    let back : codes_of (edge ∷ cube) ≡ drop (length before) setting.codes = sym (back-codes before (codes_of (edge ∷ cube))) ∙ ap (λ (l : List ℕ). drop (length before) l) codes in
    let along : (before ++ edge ∷ []) ++ cube ≡ before ++ edge ∷ cube = append_assoc before (edge ∷ []) cube in (
      ranking-kept setting (length before) first one edge are here (own-serves setting before edge cube front back served),
      picks-kept setting lists all (before ++ edge ∷ []) cube (subst (λ (n : ℕ). AreReordered setting n lists all) (sym (length-append before (edge ∷ []))) rest) picked
          (ap (λ (l : List Edge). codes_of l) along ∙ whole) (subst (λ (l : List Edge). serve setting.cells setting.levels (corners_in setting l) ≡ true) (sym along) served),
    )

all-two : {X : Type 0} (P Q R : X → Type 0) (xs : List X) → ((x : X) → P x → Q x → R x) → AllByRecursion P xs → AllByRecursion Q xs → AllByRecursion R xs
all-two P Q R [] f a b = tt
all-two P Q R (x ∷ xs) f (here, a) (there, b) = (f x here there, all-two P Q R xs f a b)

-- the first offer is the same
pub same-best : (setting : Setting) (lists all : List (List Edge)) → AreReordered setting 0 lists all → begin_at setting.codes lists ≡ true
    → AllByRecursion (λ one. AllByRecursion (IsTied (cell_in setting) (is_marked setting.book) (price_in setting.book setting.cells setting.cost) one) (choices lists)) (choices lists)
    → first_by comes_before (offers_of setting (choices all)) ≡ first_by comes_before (offers_of setting (choices lists))
same-best setting lists all are begun tied =
    same-first (cell_in setting) (is_marked setting.book) (price_in setting.book setting.cells setting.cost) setting.cells setting.levels (choices lists) (choices all) tied
    (all-more (Picks all) (Among (choices lists)) (choices all) (λ cube picked. picks-among lists cube (picks-within setting 0 lists all cube are picked)) (choices-pick all))
    (all-two (Picks lists) (λ cube. codes_of cube ≡ setting.codes) (λ cube. serve setting.cells setting.levels (corners_in setting cube) ≡ true → Among (choices all) cube) (choices lists)
    (λ cube picked whole served. picks-among all cube (picks-kept setting lists all [] cube are picked whole served)) (choices-pick lists) (choices-begin setting.codes lists begun))

-- so a search may go through them
pub are-ranked : (setting : Setting) (lists : List (List Edge)) (all : List (List PricedEdge)) → AreRankings setting 0 lists all → length lists ≤ 8 → begin_at setting.codes lists ≡ true → AreRanked setting all
are-ranked setting lists all are few begun =
    let long = rankings-long setting 0 lists all are in
    record {
      at_most_8_lists = omega (arith, few, long);
      begun = reordered-begin setting 0 setting.codes lists (edge_lists all) (reordered setting 0 lists all are) begun;
      priced = λ k inside. let same : 0 + k ≡ k = omega arith in subst (λ (n : ℕ). ArePriced setting n (get_or all k [])) same (rankings-rise setting 0 lists all k are inside);
    }

-- and it finds the first of all cubes
pub search-ranked : (setting : Setting) (trees : List Tree) (name : Name) (table : List Dimension) (parents : List ℕ) (all : List (List PricedEdge)) → IsBook setting.book → setting.codes ≡ codes_at name table parents
    → AreRankings setting 0 (edges_at trees name table parents) all → best_beyond setting None [] (edge_lists all) ≡ first_by comes_before (offers_of setting (cubes_at trees name table parents))
search-ranked setting trees name table parents all is_book codes are =
    search-all setting (edge_lists all)
    ∙ same-best setting (edges_at trees name table parents) (edge_lists all) (reordered setting 0 (edges_at trees name table parents) all are) (ap (λ (c : List ℕ). begin_at c (edges_at trees name table parents)) codes ∙ edges-begin trees name table parents)
    (cubes-tied (cell_in setting) (is_marked setting.book) (price_in setting.book setting.cells setting.cost) trees name table parents (own-cells setting.book setting.table is_book))
