-- What the marks of a book of a job's inputs tell.
use Rattle.std.proofs.Common.{◌≡◌, ℕ, suc, ◌≤◌, Bool, true, false, cond, List, [], ◌∷◌, filter, length, Some, refl, ap, sym, subst, ◌∙◌, arith, ℤ}
use Rattle.std.proofs.lemmas.List.Elements.{All-nil, All-cons, All-head, All-tail}
use Rattle.sdc_base.specs.Truths.{IsTruth}
use Rattle.job_inputs.specs.declared.described.DescribedJob.{DescribedJob}
use Rattle.std.specs.Prelude.{All, map, slice_get}
use Rattle.sdc_base.specs.Records.{Name, row_falls}
use Rattle.cost_rule.specs.Costs.{AreCosted}
use Rattle.sdc_base.specs.RuleLevels.{keep_of}
use Rattle.sdc_base.specs.Trees.{Tree}
use Rattle.sdc_base.specs.declared.dimension.Dimension.{Dimension}
use Rattle.sdc_base.specs.declared.rows.Row.{Row}
use Rattle.linked_tables.specs.BookViews.{BookView}
use Rattle.linked_tables.specs.BookCells.{cells as cells_in}
use Rattle.linked_tables.specs.declared.mark.Mark.{Mark}
use Rattle.primary_rules.specs.EnoughForRules.{AreFactsOf}
use Rattle.tabulate.proofs.Finish.{read-within}
use Rattle.sdc_base.specs.Cells.{cells_of}
use Rattle.apriori.specs.KnownCells.{KnownCell, known_of, Basis, basis_of}
use Rattle.apriori.specs.Settling.{AreFactsIn, IsReadyFor as IsReadyMark}
use Rattle.sdc_base.specs.Sums.{truth, freq}
use Rattle.job_inputs.specs.Cells.{cells, truth_in}
use Rattle.job_inputs.specs.PriorStatements.{known_in, basis_in}
use Rattle.sdc_base.specs.declared.rule.Rules.{Rules}
use Rattle.job_inputs.specs.TabulatedBooks.{IsBookOf, IsReadyFor}
use Rattle.job_inputs.specs.declared.inputs.Inputs.{Inputs}
use Rattle.job_inputs.proofs.Placing.{get-within}
use Rattle.tabulate.specs.TabulatedMarks.{AreTabulated, TellsOf}

-- ---- the facts of cells

-- two lists, of names and of marks, that are alike place by place
same-maps : {X : Type 0} (f : Mark → X) (g : Name → X) (ns : List Name) (ms : List Mark) → length ns ≡ length ms
    → ((k : ℕ) (name : Name) (mark : Mark) → slice_get ns k ≡ Some name → slice_get ms k ≡ Some mark → f mark ≡ g name) → map f ms ≡ map g ns
same-maps f g [] [] many same = refl
same-maps f g [] (m ∷ ms) many same = absurd (omega (arith, many))
same-maps f g (n ∷ ns) [] many same = absurd (omega (arith, many))
same-maps f g (n ∷ ns) (m ∷ ms) many same =
    let rest = same-maps f g ns ms (omega (arith, many)) (λ k name mark is at. same (suc k) name mark is at) in
    rw (same 0 n m refl refl, rest) refl

facts-of : (trees : List Tree) (rows : List Row) (keep scale : ℕ) (name : Name) (mark : Mark) → TellsOf trees rows keep scale name mark → AreFactsOf mark.facts trees name rows
facts-of trees rows keep scale name mark h = record { truth = h.truth_is; freq = h.freq_is; tops = h.largest }

-- ---- a book of the inputs

-- the book has as many cells as the inputs
pub cells-are : (inputs : Inputs) (book : BookView) → IsBookOf inputs book → cells_in book ≡ cells_of inputs.records.trees inputs.described.bound.tables
cells-are inputs book is = ap (λ (trees : List Tree). cells_of trees book.tables) is.trees ∙ ap (λ (tables : List (List Dimension)). cells_of inputs.records.trees tables) is.tables

-- the marks have the facts of the records in their cells
pub facts-in : (inputs : Inputs) (book : BookView) → IsBookOf inputs book → AreFactsIn book.marks inputs.records.trees (cells inputs) inputs.records.rows inputs.described.bound.scale
facts-in inputs book is = record {
  one_each = sym (is.one_each ∙ ap length (cells-are inputs book is));
  each = λ cell name mark at holds.
      let there = ap (λ (names : List Name). slice_get names cell) (cells-are inputs book is) ∙ at in
      let tells = is.told cell name mark there holds in (
        subst (λ (trees : List Tree). AreFactsOf mark.facts trees name inputs.records.rows) is.trees
            (facts-of book.trees inputs.records.rows (keep_of inputs.described.job.rules.list) inputs.described.bound.scale name mark tells),
        tells.scaled,
      );
}

known-same : (one : KnownCell) (truth : ℤ) (freq : ℕ) → one.truth ≡ truth → one.freq ≡ freq → one ≡ (record { truth = truth; freq = freq })
known-same one truth freq a b = rw (← a, ← b) refl

-- what the marks tell is what is known of the cells
known-is : (inputs : Inputs) (book : BookView) → IsBookOf inputs book → map (λ (mark : Mark). known_of mark.facts) book.marks ≡ known_in inputs
known-is inputs book is =
    let facts = facts-in inputs book is in
    same-maps (λ (mark : Mark). known_of mark.facts) (λ name. record { truth = truth_in inputs name; freq = freq inputs.records.trees name inputs.records.rows }) (cells inputs) book.marks facts.one_each
    (λ k name mark at holds. known-same (known_of mark.facts) (truth_in inputs name) (freq inputs.records.trees name inputs.records.rows) (facts.each k name mark at holds).0.truth (facts.each k name mark at holds).0.freq)

basis-same : (one : Basis) (trees : List Tree) (tables : List (List Dimension)) (known : List KnownCell) → one.trees ≡ trees → one.tables ≡ tables → one.known ≡ known → one ≡ (record { trees = trees; tables = tables; known = known })
basis-same one trees tables known a b c = rw (← a, ← b, ← c) refl

-- so is what statements are held against
pub basis-is : (inputs : Inputs) (book : BookView) → IsBookOf inputs book → basis_of book ≡ basis_in inputs
basis-is inputs book is = basis-same (basis_of book) inputs.records.trees inputs.described.bound.tables (known_in inputs) is.trees is.tables (known-is inputs book is)

-- ---- what holds of each mark

all-at : {X : Type 0} (P : X → Type 0) (xs : List X) → ((k : ℕ) (x : X) → slice_get xs k ≡ Some x → P x) → All P xs
all-at P [] h = All-nil P
all-at P (x ∷ xs) h = All-cons P x xs (h 0 x refl) (all-at P xs (λ k y is. h (suc k) y is))

-- each mark of a tabulated book tells of a cell
told-of : (book : BookView) (rows : List Row) (keep scale k : ℕ) (mark : Mark) → AreTabulated book rows keep scale → length book.marks ≡ length (cells_in book) → slice_get book.marks k ≡ Some mark → (name : Name) × TellsOf book.trees rows keep scale name mark
told-of book rows keep scale k mark told many at =
    let name = read-within (cells_in book) k (omega (arith, many, get-within book.marks k mark at)) in
    (name.0, told k name.0 mark name.1 at)

-- no more pass than there are
no-more : {X : Type 0} (test : X → Bool) (xs : List X) → length (filter test xs) ≤ length xs
no-more test [] = omega arith
no-more test (x ∷ xs) = elim (test x) as (λ b. length (cond b (x ∷ filter test xs) (filter test xs)) ≤ length (x ∷ xs)) [
  | true ↦ let less = no-more test xs in omega (arith, less)
  | false ↦ let less = no-more test xs in omega (arith, less)
]

-- a tabulated book of a job is ready for its rules and texts
pub is-ready : (described : DescribedJob) (book : BookView) (rows : List Row) → AreTabulated book rows (keep_of described.job.rules.list) described.bound.scale → length rows ≤ 1000000 → length book.marks ≡ length (cells_in book) → book.tables ≡ described.bound.tables
    → IsReadyFor described book
is-ready described book rows told few many tables =
    let keep = keep_of described.job.rules.list in
    record {
      tables = tables;
      truths = all-at (λ (mark : Mark). IsTruth mark.facts.truth) book.marks (λ k mark at. let one = told-of book rows keep described.bound.scale k mark told many at in one.1.within);
      costed = all-at (λ (mark : Mark). AreCosted mark.facts) book.marks
          (λ k mark at.
          let one = told-of book rows keep described.bound.scale k mark told many at in
          let less = no-more (row_falls book.trees one.0) rows in
          record { truth = one.1.within.from_zero; freq = omega (arith, one.1.freq_is, less, few) });
      keeps = all-at (λ (mark : Mark). keep ≤ mark.facts.tops.keep) book.marks (λ k mark at. let one = told-of book rows keep described.bound.scale k mark told many at in omega (arith, one.1.keeps));
    }

-- its marks have what the rules look at
pub are-ready : (rules : Rules) (marks : List Mark) → All (λ (mark : Mark). IsTruth mark.facts.truth) marks → All (λ (mark : Mark). keep_of rules.list ≤ mark.facts.tops.keep) marks → All (IsReadyMark rules) marks
are-ready rules [] truths keeps = All-nil (IsReadyMark rules)
are-ready rules (mark ∷ marks) truths keeps =
    All-cons (IsReadyMark rules) mark marks
    (record { truth = All-head (λ (m : Mark). IsTruth m.facts.truth) mark marks truths; kept = All-head (λ (m : Mark). keep_of rules.list ≤ m.facts.tops.keep) mark marks keeps })
    (are-ready rules marks (All-tail (λ (m : Mark). IsTruth m.facts.truth) mark marks truths) (All-tail (λ (m : Mark). keep_of rules.list ≤ m.facts.tops.keep) mark marks keeps))
