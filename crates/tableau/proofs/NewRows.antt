-- Lists of rows that are made anew or kept, row by row.
use Rattle.std.proofs.Common.{◌≡◌, ℕ, ◌+◌, ◌<◌, ◌≤◌, List, [], ◌∷◌, ◌++◌, length, map, take, slice_index_or, Option, Some, None, true, false, zero, suc, arith, refl, ap, sym, subst, ◌∙◌, length-append, length-set, length-take, set, ext_get_or}
use Rattle.std.specs.List.{range_with_len}
use Rattle.std.proofs.lemmas.List.{get_or_append_left, get_or_at, get_or-set_other, get_or-set_same, get_or-take, take-take, take_at}
use Rattle.std.proofs.lemmas.List.FromFn.{length-map-range_with_len, get_or-map-range_with_len}
use Rattle.sdc_base.specs.Forms.{Term}
use Rattle.tableau.specs.NewRows.{placed_list, placed_lists, IsNewRow, AreNewRows}
use Rattle.tableau.specs.declared.sparse_table.SparseTable.{SparseTable}
use Rattle.tableau.proofs.Independent.{by_less}

module _ (f : List Term → Option (List Term) → List Term) where
  -- a list for each row
  abbrev pub lists : List (List Term) → List (Option (List Term)) → List (List Term)
  lists olds news = map (λ k. f (slice_index_or olds k []) (slice_index_or news k None)) (range_with_len 0 (length news))

  pub length-lists : (olds : List (List Term)) (news : List (Option (List Term))) → length (lists olds news) ≡ length news
  length-lists olds news = length-map-range_with_len (λ k. f (slice_index_or olds k []) (slice_index_or news k None)) 0 (length news)

  pub lists_at : (olds : List (List Term)) (news : List (Option (List Term))) (k : ℕ) → k < length news → slice_index_or (lists olds news) k [] ≡ f (slice_index_or olds k []) (slice_index_or news k None)
  lists_at olds news k within =
      get_or-map-range_with_len (λ i. f (slice_index_or olds i []) (slice_index_or news i None)) 0 (length news) k k [] within (omega arith)

  -- one row more
  pub lists_more : (olds : List (List Term)) (news now : List (Option (List Term))) (new : Option (List Term)) → now ≡ news ++ new ∷ [] →
      lists olds now ≡ lists olds news ++ f (slice_index_or olds (length news) []) new ∷ []
  lists_more olds news now new put =
      let long : length now ≡ length news + 1 = ap length put ∙ length-append news (new ∷ []) in
      let last : List Term = f (slice_index_or olds (length news) []) new in
      ext_get_or [] (lists olds now) (lists olds news ++ last ∷ []) (length-lists olds now ∙ long ∙ sym (length-append (lists olds news) (last ∷ []) ∙ ap (λ n. n + 1) (length-lists olds news)))
      (λ i below.
      let inside : i < length now = omega (arith, length-lists olds now) in
      lists_at olds now i inside
      ∙ ap (λ (t : List (Option (List Term))). f (slice_index_or olds i []) (slice_index_or t i None)) put
      ∙ by_less i (length news)
      (λ less.
      ap (f (slice_index_or olds i [])) (get_or_append_left news (new ∷ []) None i less)
      ∙ sym (lists_at olds news i less)
      ∙ sym (get_or_append_left (lists olds news) (last ∷ []) [] i (omega (arith, length-lists olds news))))
      (λ more.
      let same : i ≡ length news = omega arith in
      ap (f (slice_index_or olds i [])) (get_or_at news new [] None i (sym same))
      ∙ ap (λ n. f (slice_index_or olds n []) new) same
      ∙ sym (get_or_at (lists olds news) last [] [] i (omega (arith, length-lists olds news)))))

pub length-placed : (olds : List (List Term)) (news : List (Option (List Term))) → length (placed_lists olds news) ≡ length news
length-placed olds news = length-lists placed_list olds news

pub placed_at : (olds : List (List Term)) (news : List (Option (List Term))) (k : ℕ) → k < length news → slice_index_or (placed_lists olds news) k [] ≡ placed_list (slice_index_or olds k []) (slice_index_or news k None)
placed_at olds news k within = lists_at placed_list olds news k within

pub no_rows : (s : SparseTable) (row column : ℕ) (news : List (Option (List Term))) → news ≡ [] → AreNewRows s row column (placed_lists s.rows.items news)
no_rows s row column news is k below = absurd (omega (arith, length-placed s.rows.items news, ap length is))

pub new_rows_more : (s : SparseTable) (row column k : ℕ) (news now : List (Option (List Term))) (new : Option (List Term)) → length news ≡ k → AreNewRows s row column (placed_lists s.rows.items news) → IsNewRow s row column k (placed_list (slice_index_or s.rows.items k []) new) → now ≡ news ++ new ∷ [] →
    AreNewRows s row column (placed_lists s.rows.items now)
new_rows_more s row column k news now new long are is put i below =
    let olds : List (List Term) = s.rows.items in
    let last : List Term = placed_list (slice_index_or olds (length news) []) new in
    let lists_are : placed_lists olds now ≡ placed_lists olds news ++ last ∷ [] = lists_more placed_list olds news now new put in
    let size : length (placed_lists olds now) ≡ k + 1 = ap length lists_are ∙ length-append (placed_lists olds news) (last ∷ []) ∙ ap (λ n. n + 1) (length-placed olds news ∙ long) in
    subst (λ (t : List (List Term)). IsNewRow s row column i (slice_index_or t i [])) (sym lists_are)
    (by_less i k
    (λ less. subst (λ (t : List Term). IsNewRow s row column i t) (sym (get_or_append_left (placed_lists olds news) (last ∷ []) [] i (omega (arith, length-placed olds news, long)))) (are i (omega (arith, length-placed olds news, long))))
    (λ more.
    let same : i ≡ k = omega (arith, size) in
    let here : last ≡ placed_list (slice_index_or olds k []) new = ap (λ n. placed_list (slice_index_or olds n []) new) long in
    subst (λ (t : List Term). IsNewRow s row column i t) (sym (get_or_at (placed_lists olds news) last [] [] i (omega (arith, length-placed olds news, long, same))))
    (subst (λ n. IsNewRow s row column n last) (sym same) (subst (λ (t : List Term). IsNewRow s row column k t) (sym here) is))))

-- ---- rows put in place

-- rows from the n-th on are placed, and those before it are the old ones
pub record ArePlaced (olds rows : List (List Term)) (news : List (Option (List Term))) (n : ℕ) : Type 0 where
  pub long : length rows ≡ length olds
  pub before : (k : ℕ) → k < n → slice_index_or rows k [] ≡ slice_index_or olds k []
  pub from : (k : ℕ) → n ≤ k → k < length olds → slice_index_or rows k [] ≡ placed_list (slice_index_or olds k []) (slice_index_or news k None)

pub no_place : (olds : List (List Term)) (news : List (Option (List Term))) (n : ℕ) → n ≡ length olds → ArePlaced olds olds news n
no_place olds news n is = record { long = refl; before = λ k below. refl; from = λ k up below. absurd (omega (arith, is)) }

pub none_left : (n : ℕ) → (0 < n → false ≡ true) → n ≡ 0
none_left zero some = refl
none_left (suc n) some = let clash : false ≡ true = some (omega arith) in absurd (cc)

pub left_less : (all left : List (Option (List Term))) → left ≡ take (length left) all → length left ≤ length all
left_less all left is = omega (arith, ap length is, length-take (length left) all)

-- what is left when the last one is taken off
pub pop_left : (all left popped : List (Option (List Term))) (new : Option (List Term)) → left ≡ take (length left) all → left ≡ popped ++ new ∷ [] → (popped ≡ take (length popped) all) × (slice_index_or all (length popped) None ≡ new)
pop_left all left popped new is put =
    let k : ℕ = length popped in
    let size : length left ≡ k + 1 = ap length put ∙ length-append popped (new ∷ []) in (
      sym (take_at popped (new ∷ []) k refl) ∙ ap (take k) (sym put ∙ is) ∙ take-take k (length left) all (omega (arith, size)),
      sym (get_or-take (length left) all k None (omega (arith, size))) ∙ ap (λ (t : List (Option (List Term))). slice_index_or t k None) (sym is ∙ put) ∙ get_or_at popped new [] None k refl,
    )

pub placed_made : (olds rows now : List (List Term)) (news : List (Option (List Term))) (n k : ℕ) (made : List Term) → n ≡ k + 1 → k < length olds → slice_index_or news k None ≡ Some made → now ≡ set rows k made → ArePlaced olds rows news n → ArePlaced olds now news k
placed_made olds rows now news n k made n_is within made_is put are =
    subst (λ (t : List (List Term)). ArePlaced olds t news k) (sym put) (record {
      long = length-set rows k made ∙ are.long;
      before = λ i below. get_or-set_other rows k i made [] (omega arith) ∙ are.before i (omega (arith, n_is));
      from = λ i up below.
          by_less i (k + 1)
          (λ less.
          let same : i ≡ k = omega arith in
          ap (λ j. slice_index_or (set rows k made) j []) same ∙ get_or-set_same rows k made [] (omega (arith, are.long)) ∙ sym (ap (λ j. placed_list (slice_index_or olds j []) (slice_index_or news j None)) same ∙ ap (placed_list (slice_index_or olds k [])) made_is))
          (λ more. get_or-set_other rows k i made [] (omega arith) ∙ are.from i (omega (arith, n_is)) below);
    })

pub placed_kept : (olds rows : List (List Term)) (news : List (Option (List Term))) (n k : ℕ) → n ≡ k + 1 → slice_index_or news k None ≡ None → ArePlaced olds rows news n → ArePlaced olds rows news k
placed_kept olds rows news n k n_is none are = record {
  long = are.long;
  before = λ i below. are.before i (omega (arith, n_is));
  from = λ i up below.
      by_less i (k + 1)
      (λ less.
      let same : i ≡ k = omega arith in
      are.before i (omega (arith, n_is)) ∙ sym (ap (λ j. placed_list (slice_index_or olds i []) (slice_index_or news j None)) same ∙ ap (placed_list (slice_index_or olds i [])) none))
      (λ more. are.from i (omega (arith, n_is)) below);
}

pub placed_all : (olds rows : List (List Term)) (news : List (Option (List Term))) (n : ℕ) → length news ≡ length olds → n ≡ 0 → ArePlaced olds rows news n → rows ≡ placed_lists olds news
placed_all olds rows news n long none are =
    ext_get_or [] rows (placed_lists olds news) (are.long ∙ sym (length-lists placed_list olds news ∙ long))
    (λ k below. are.from k (omega (arith, none)) (omega (arith, are.long)) ∙ sym (lists_at placed_list olds news k (omega (arith, are.long, long))))
