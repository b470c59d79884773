-- A book in which other cells are hidden is still that of its inputs.
use Rattle.std.proofs.Common.{◌≡◌, ℕ, ◌≤◌, zero, suc, arith, List, [], ◌∷◌, length, map, All, Option, None, Some, option_map, slice_get, refl, ap, sym, subst, ◌∙◌}
use Rattle.std.specs.List.{AllByRecursion}
use Rattle.std.proofs.lemmas.Option.{slice_get-map}
use Rattle.sdc_base.specs.RuleLevels.{keep_of}
use Rattle.sdc_base.specs.Records.{Name}
use Rattle.sdc_base.specs.Trees.{Tree}
use Rattle.sdc_base.specs.declared.facts.CellFacts.{CellFacts}
use Rattle.sdc_base.specs.declared.rows.Row.{Row}
use Rattle.cell_protection.specs.Protections.{AreNarrow}
use Rattle.cost_rule.specs.Costs.{AreCosted}
use Rattle.sdc_base.specs.Truths.{IsTruth}
use Rattle.linked_tables.specs.BookViews.{BookView}
use Rattle.linked_tables.specs.BookCells.{cells as cells_in}
use Rattle.linked_tables.specs.declared.mark.Mark.{Mark}
use Rattle.modular_plan.specs.Plans.{IsSameButHidden}
use Rattle.tabulate.specs.TabulatedMarks.{AreTabulated, TellsOf}
use Rattle.attackers.specs.Alone.{TellFrequencies}
use Rattle.sdc_base.specs.Sums.{freq}
use Rattle.sdc_base.specs.declared.dimension.Dimension.{Dimension}
use Rattle.job_lang.specs.declared.job.TableLine.{TableLine}
use Rattle.job_lang.specs.JobLimits.{HasVariables}
use Rattle.job_inputs.specs.SoundJobs.{IsSoundJob}
use Rattle.job_inputs.specs.TabulatedBooks.{IsBookOf, IsReadyFor}
use Rattle.job_inputs.specs.declared.described.DescribedJob.{DescribedJob}
use Rattle.job_inputs.specs.declared.inputs.Inputs.{Inputs}
use Rattle.job_run.proofs.TableSteps.{as-many}

-- what holds of the facts of the one holds of those of the other
over-facts : (P : CellFacts → Type 0) (old new : List Mark) → map (λ mark. mark.facts) new ≡ map (λ mark. mark.facts) old → All (λ mark. P mark.facts) old → All (λ mark. P mark.facts) new
over-facts P [] [] same all = all
over-facts P [] (mark ∷ new) same all = absurd cc
over-facts P (mark ∷ old) [] same all = absurd cc
over-facts P (mark ∷ old) (other ∷ new) same all =
    let here : other.facts ≡ mark.facts = cc in
    let rest : map (λ one. one.facts) new ≡ map (λ one. one.facts) old = cc in
    front here (over-facts P old new rest (λ k d within. all (suc k) d (omega (arith, within))))
  where
    front : other.facts ≡ mark.facts → All (λ one. P one.facts) new → All (λ one. P one.facts) (other ∷ new)
    front here more zero d within = subst P (sym here) (all zero mark (omega arith))
    front here more (suc k) d within = more k d (omega (arith, within))

some-facts : (o : Option Mark) (facts : CellFacts) → Some facts ≡ option_map (λ mark. mark.facts) o → (mark : Mark) × (o ≡ Some mark) × (facts ≡ mark.facts)
some-facts None facts h = absurd cc
some-facts (Some mark) facts h = (mark, refl, let same : facts ≡ mark.facts = cc in same)

-- the mark at a place of the one has the facts of that of the other
old-mark : (old new : List Mark) (cell : ℕ) (mark : Mark) → map (λ one. one.facts) new ≡ map (λ one. one.facts) old → slice_get new cell ≡ Some mark → (other : Mark) × (slice_get old cell ≡ Some other) × (mark.facts ≡ other.facts)
old-mark old new cell mark same at =
    some-facts (slice_get old cell) mark.facts
    (sym (ap (option_map (λ (one : Mark). one.facts)) at) ∙ sym (slice_get-map (λ (one : Mark). one.facts) new cell) ∙ ap (λ (all : List CellFacts). slice_get all cell) same ∙ slice_get-map (λ (one : Mark). one.facts) old cell)

tells-same : (trees : List Tree) (rows : List Row) (keep scale : ℕ) (name : Name) (mark other : Mark) → mark.facts ≡ other.facts → TellsOf trees rows keep scale name other → TellsOf trees rows keep scale name mark
tells-same trees rows keep scale name mark other same tells = subst (λ (facts : CellFacts). TellsOf trees rows keep scale name (record { facts = facts; hidden = mark.hidden })) (sym same) (record {
  truth_is = tells.truth_is;
  within = tells.within;
  freq_is = tells.freq_is;
  keeps = tells.keeps;
  scaled = tells.scaled;
  largest = tells.largest;
})

tabulated-trees : (trees others : List Tree) (rows : List Row) (keep scale : ℕ) (name : Name) (mark : Mark) → others ≡ trees → TellsOf trees rows keep scale name mark → TellsOf others rows keep scale name mark
tabulated-trees trees others rows keep scale name mark same = subst (λ (all : List Tree). TellsOf all rows keep scale name mark) (sym same)

pub same-cells : (old new : BookView) → IsSameButHidden old new → cells_in new ≡ cells_in old
same-cells old new same = rw (same.trees, same.tables) refl

same-length : {X Y : Type 0} (f : X → Y) (xs ys : List X) → map f xs ≡ map f ys → length xs ≡ length ys
same-length f [] [] h = refl
same-length f [] (y ∷ ys) h = absurd cc
same-length f (x ∷ xs) [] h = absurd cc
same-length f (x ∷ xs) (y ∷ ys) h = let rest : map f xs ≡ map f ys = cc in ap suc (same-length f xs ys rest)

-- it has as many marks
pub as-many-marks : (old new : BookView) → IsSameButHidden old new → length new.marks ≡ length old.marks
as-many-marks old new same = same-length (λ (one : Mark). one.facts) new.marks old.marks same.facts

-- the book is still that of its inputs
pub still-book : (inputs : Inputs) (old new : BookView) → IsSameButHidden old new → IsBookOf inputs old → IsBookOf inputs new
still-book inputs old new same is = record {
  trees = same.trees ∙ is.trees;
  tables = same.tables ∙ is.tables;
  told = λ cell name mark named at.
      let before = old-mark old.marks new.marks cell mark same.facts at in
      let tells = is.told cell name before.0 (ap (λ (names : List Name). slice_get names cell) (sym (same-cells old new same)) ∙ named) before.1 in
      tabulated-trees old.trees new.trees inputs.records.rows (keep_of inputs.described.job.rules.list) inputs.described.bound.scale name mark same.trees
      (tells-same old.trees inputs.records.rows (keep_of inputs.described.job.rules.list) inputs.described.bound.scale name mark before.0 before.2 tells);
  one_each = as-many-marks old new same ∙ is.one_each ∙ ap (λ (names : List Name). length names) (sym (same-cells old new same));
}

-- and still ready for a job
pub still-ready : (described : DescribedJob) (old new : BookView) → IsSameButHidden old new → IsReadyFor described old → IsReadyFor described new
still-ready described old new same ready = record {
  tables = same.tables ∙ ready.tables;
  truths = over-facts (λ facts. IsTruth facts.truth) old.marks new.marks same.facts ready.truths;
  costed = over-facts AreCosted old.marks new.marks same.facts ready.costed;
  keeps = over-facts (λ facts. keep_of described.job.rules.list ≤ facts.tops.keep) old.marks new.marks same.facts ready.keeps;
}

-- and its marks still tell how many records fall in each cell
pub still-told : (old new : BookView) (rows : List Row) (keep scale : ℕ) → IsSameButHidden old new → AreTabulated old rows keep scale → TellFrequencies new rows
still-told old new rows keep scale same told = λ cell name mark named at.
    let before = old-mark old.marks new.marks cell mark same.facts at in
    let tells = told cell name before.0 (ap (λ (names : List Name). slice_get names cell) (sym (same-cells old new same)) ∙ named) before.1 in
    ap (λ (facts : CellFacts). facts.freq) before.2 ∙ tells.freq_is ∙ ap (λ (trees : List Tree). freq trees name rows) (sym same.trees)

-- ---- the tables of a job are narrow

by-place : {X : Type 0} (P : X → Type 0) (xs : List X) → AllByRecursion P xs → All P xs
by-place P [] all k d within = absurd (omega (arith, within))
by-place P (x ∷ xs) all zero d within = all.0
by-place P (x ∷ xs) all (suc k) d within = by-place P xs all.1 k d (omega (arith, within))

each-narrow : (tables : List (List Dimension)) (lines : List TableLine) → map (λ (places : List Dimension). length places) tables ≡ map (λ (t : TableLine). length t.variables) lines → AllByRecursion HasVariables lines
    → AllByRecursion (λ (table : List Dimension). (1 ≤ length table) × (length table ≤ 8)) tables
each-narrow [] lines same all = tt
each-narrow (table ∷ tables) [] same all = absurd cc
each-narrow (table ∷ tables) (line ∷ lines) same all =
    let here : length table ≡ length line.variables = cc in
    let rest : map (λ (places : List Dimension). length places) tables ≡ map (λ (t : TableLine). length t.variables) lines = cc in
    ((omega (arith, here, all.0.0), omega (arith, here, all.0.1)), each-narrow tables lines rest all.1)

pub narrow : (described : DescribedJob) (book : BookView) → IsSoundJob described → IsReadyFor described book → AreNarrow book.tables
narrow described book sound ready =
    subst AreNarrow (sym ready.tables) (record {
      at_most_8_tables = (let many = as-many described.bound.tables described.job.tables sound.bound.tables in omega (arith, many, sound.job.at_most_8_tables));
      each = by-place _ described.bound.tables (each-narrow described.bound.tables described.job.tables sound.bound.tables sound.job.variables);
    })
