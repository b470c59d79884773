-- Two listings of figures that agree as far as the rules look are one.
use Rattle.std.proofs.Common.{◌≡◌, ℕ, suc, ◌+◌, ◌≤◌, max, min, fold, ℤ, ◌+ℤ◌, neg_ℤ, unsigned_abs, decimal, Bool, true, false, cond, List, [], ◌∷◌, ◌++◌, length, map, flat_map, filter, slice_get, Option, None, Some, arith, refl, ap, ap₂, subst, ◌∙◌}
use Rattle.std.proofs.lemmas.List.Elements.{All-cons, All-nil}
use Rattle.std.specs.Prelude.{All}
use Rattle.sdc_base.specs.Cells.{cells_of}
use Rattle.sdc_base.specs.Records.{Name}
use Rattle.sdc_base.specs.TableText.{line_text}
use Rattle.sdc_base.specs.RuleLevels.{Figures, is_sensitive_by, keep_of, looks_at, figures_of_facts, figures_in}
use Rattle.sdc_base.specs.Trees.{Tree}
use Rattle.sdc_base.specs.declared.dimension.Dimension.{Dimension}
use Rattle.sdc_base.specs.declared.rows.Row.{Row}
use Rattle.sdc_base.specs.declared.rule.Rule.{Rule}
use Rattle.sdc_base.specs.declared.rule.Rule.TheVariants as rule
use Rattle.primary_rules.specs.EnoughForRules.{AgreeUpTo, AreFactsOf}
use Rattle.primary_rules.proofs.KeptFigures.{facts_agree}
use Rattle.linked_tables.specs.declared.mark.Mark.{Mark}
use Rattle.linked_tables.specs.BookCells.{cells as cells_in}
use Rattle.apriori.specs.Settling.{SettledCell, told_of, figures_of, view_of_cell}
use Rattle.cost_rule.specs.Costs.{most_value}
use Rattle.cost_rule.specs.declared.kind.CostKind.{CostKind}
use Rattle.cost_rule.specs.declared.kind.CostKind.TheVariants as cost
use Rattle.job_inputs.specs.ClassifiedJobs.{SettledInputs, IsReadyJob, IsSettledOf}
use Rattle.job_inputs.specs.declared.described.DescribedJob.{DescribedJob}
use Rattle.job_inputs.specs.declared.settled.ClassifiedJob.{ClassifiedJob}
use Rattle.cell_listing.specs.ListedCells.{ListedCell, listed_cells, numbered_from, told_cells}
use Rattle.cell_listing.specs.Reasons.{kind_word, naming_words, rule_word, with_stated}
use Rattle.cell_listing.specs.Columns.{amount_text, bound_text, cell_fields, codes_of_name, column_names, figure_fields, having_from, price_by, spaced}
use Rattle.cell_listing.specs.Listings.{cell_line, listing_text, listing_of}
use Rattle.cell_listing.specs.Outcomes.{outcome_of}
use Rattle.cell_listing.specs.ReleasedListings.{outcome_at, outcome_fields, outcome_names, released_line, released_text}
use Rattle.certificate.specs.declared.certificate.Certificate.{Certificate}
use Rattle.certificate.specs.declared.extra.Extra.{Extra}

from_start : (most : ℕ) (rules : List Rule) → most ≤ fold (λ most one. max most (looks_at one)) most rules
from_start most [] = omega arith
from_start most (one ∷ rules) = omega (arith, from_start (max most (looks_at one)) rules)

-- the rules look at two contributions at least
pub two_kept : (rules : List Rule) → 2 ≤ keep_of rules
two_kept rules = from_start 2 rules

-- one rule says the same of both
same_names : (kept : ℕ) (one : Rule) (cell other : Figures) → 2 ≤ kept → looks_at one ≤ kept → AgreeUpTo kept cell other → is_sensitive_by one cell ≡ is_sensitive_by one other
same_names kept (rule.Freq n r) cell other two looks same = ap (λ f. is_sensitive_by (rule.Freq n r) (record cell { freq = f })) same.freq
same_names kept (rule.Nk n k) cell other two looks same = rw (same.truth, same.largest n looks) refl
same_names kept (rule.Percent p) cell other two looks same = rw (same.truth, same.largest 1 (omega arith), same.largest 2 two) refl
same_names kept (rule.Pq p q) cell other two looks same = rw (same.truth, same.largest 1 (omega arith), same.largest 2 two) refl
same_names kept (rule.Zero r) cell other two looks same = rw (same.truth, same.freq) refl

naming-step : (one : Rule) (s t : Bool) (xs ys : List Rule) → s ≡ t → map rule_word xs ≡ map rule_word ys → map rule_word (cond s (one ∷ xs) xs) ≡ map rule_word (cond t (one ∷ ys) ys)
naming-step one true true xs ys same rest = ap (λ (words : List (List ℕ)). rule_word one ∷ words) rest
naming-step one false false xs ys same rest = rest
naming-step one true false xs ys same rest = absurd cc
naming-step one false true xs ys same rest = absurd cc

-- the same rules name both
same_naming : (kept most : ℕ) (rules : List Rule) (cell other : Figures) → 2 ≤ most → fold (λ most one. max most (looks_at one)) most rules ≤ kept → AgreeUpTo kept cell other → naming_words rules cell ≡ naming_words rules other
same_naming kept most [] cell other two enough same = refl
same_naming kept most (one ∷ rules) cell other two enough same =
    let next : ℕ = max most (looks_at one) in
    let start : next ≤ fold (λ most one. max most (looks_at one)) next rules = from_start next rules in
    let naming : is_sensitive_by one cell ≡ is_sensitive_by one other = same_names kept one cell other (omega arith) (omega arith) same in
    let rest : naming_words rules cell ≡ naming_words rules other = same_naming kept next rules cell other (omega arith) enough same in
    naming-step one (is_sensitive_by one cell) (is_sensitive_by one other) (filter (λ r. is_sensitive_by r cell) rules) (filter (λ r. is_sensitive_by r other) rules) naming rest

same_price : (kind : CostKind) (own : Option ℕ) (cell other : Figures) → cell.truth ≡ other.truth → cell.freq ≡ other.freq → price_by kind own cell ≡ price_by kind own other
same_price kind (Some price) cell other truth freq = refl
same_price cost.Value None cell other truth freq = ap (λ (t : ℤ). 1 + min (unsigned_abs t) most_value) truth
same_price cost.Freq None cell other truth freq = ap (λ (n : ℕ). 1 + n) freq
same_price cost.One None cell other truth freq = refl

fields_by : ℕ → ℤ → ℕ → ℤ → ℤ → List (List ℕ)
fields_by decimals truth freq one two = amount_text decimals truth ∷ decimal freq ∷ amount_text decimals one ∷ amount_text decimals (two +ℤ neg_ℤ one) ∷ []

same_figures : (decimals : ℕ) (cell other : Figures) → AgreeUpTo 2 cell other → figure_fields decimals cell ≡ figure_fields decimals other
unfolding fields_by
same_figures decimals cell other same =
    ap (λ (truth : ℤ). fields_by decimals truth cell.freq (cell.largest 1) (cell.largest 2)) same.truth
    ∙ ap (λ (freq : ℕ). fields_by decimals other.truth freq (cell.largest 1) (cell.largest 2)) same.freq
    ∙ ap (λ (one : ℤ). fields_by decimals other.truth other.freq one (cell.largest 2)) (same.largest 1 (omega arith))
    ∙ ap (λ (two : ℤ). fields_by decimals other.truth other.freq (other.largest 1) two) (same.largest 2 (omega arith))

fields_with : DescribedJob → List Tree → ℕ → Name → SettledCell → List (List ℕ) → List (List ℕ) → ℕ → List (List ℕ)
fields_with described trees number name settled figures words price =
    (decimal number ∷ spaced (having_from trees 1 described.bound.tables name) ∷ []) ++ codes_of_name trees name ++ figures
    ++ (kind_word settled.kind ∷ spaced (with_stated settled.kind words) ∷ amount_text described.bound.decimals settled.up ∷ amount_text described.bound.decimals settled.down ∷ decimal price
    ∷ amount_text described.bound.decimals settled.low ∷ bound_text described.bound.decimals settled.high ∷ [])

-- the fields of a cell are the same of both
pub same_fields : (described : DescribedJob) (trees : List Tree) (number : ℕ) (name : Name) (settled : SettledCell) (cell other : Figures)
    → AgreeUpTo (keep_of described.job.rules.list) cell other
    → cell_fields described trees (record { number = number; name = name; figures = cell; settled = settled }) ≡ cell_fields described trees (record { number = number; name = name; figures = other; settled = settled })
unfolding fields_with
same_fields described trees number name settled cell other same =
    let rules : List Rule = described.job.rules.list in
    let decimals : ℕ = described.bound.decimals in
    let kind : CostKind = described.job.cost in
    let two = two_kept rules in
    let few : AgreeUpTo 2 cell other = record { truth = same.truth; freq = same.freq; largest = λ n h. same.largest n (omega (arith, two, h)) } in
    ap (λ (figures : List (List ℕ)). fields_with described trees number name settled figures (naming_words rules cell) (price_by kind settled.price cell)) (same_figures decimals cell other few)
    ∙ ap (λ (words : List (List ℕ)). fields_with described trees number name settled (figure_fields decimals other) words (price_by kind settled.price cell)) (same_naming (keep_of rules) 2 rules cell other (omega arith) (omega arith) same)
    ∙ ap (λ (price : ℕ). fields_with described trees number name settled (figure_fields decimals other) (naming_words rules other) price) (same_price kind settled.price cell other same.truth same.freq)

-- a line says the same of figures that agree up to so many contributions
abbrev pub SaysSame : ℕ → (ListedCell → List ℕ) → Type 0
SaysSame keep line =
    (number : ℕ) (name : Name) (settled : SettledCell) (cell other : Figures) → AgreeUpTo keep cell other
    → line (record { number = number; name = name; figures = cell; settled = settled }) ≡ line (record { number = number; name = name; figures = other; settled = settled })

-- all lines are the same of both
same_lines : (line : ListedCell → List ℕ) (keep : ℕ) → SaysSame keep line → (trees : List Tree) (rows : List Row) (scale first : ℕ) (called : List Name) (marks : List Mark) (settled : List SettledCell)
    → length marks ≡ length called
    → ((i : ℕ) (name : Name) (mark : Mark) → slice_get called i ≡ Some name → slice_get marks i ≡ Some mark → AgreeUpTo keep (figures_of_facts mark.facts) (figures_in trees name rows scale))
    → flat_map line (numbered_from first called (told_of marks) settled) ≡ flat_map line (numbered_from first called (figures_of trees called rows scale) settled)
same_lines line keep says trees rows scale first [] marks settled each agree = refl
same_lines line keep says trees rows scale first (name ∷ called) [] settled each agree = absurd (omega (arith, each))
same_lines line keep says trees rows scale first (name ∷ called) (mark ∷ marks) [] each agree = refl
same_lines line keep says trees rows scale first (name ∷ called) (mark ∷ marks) (cell ∷ settled) each agree =
    ap₂ (λ (one rest : List ℕ). one ++ rest)
    (says first name cell (figures_of_facts mark.facts) (figures_in trees name rows scale) (agree 0 name mark refl refl))
    (same_lines line keep says trees rows scale (first + 1) called marks settled (omega (arith, each)) (λ i n m here there. agree (suc i) n m here there))

-- lines of the cells of a job are those of its settled inputs
pub lines_alike : (names : DescribedJob → List ℕ) (line : DescribedJob → List Tree → ListedCell → List ℕ) → ((described : DescribedJob) (trees : List Tree) → SaysSame (keep_of described.job.rules.list) (line described trees)) → (job : ClassifiedJob) (settled : SettledInputs)
    → IsReadyJob job → IsSettledOf settled job
    → names job.described ++ flat_map (line job.described job.book.trees) (told_cells job) ≡ names settled.inputs.described ++ flat_map (line settled.inputs.described settled.inputs.records.trees) (listed_cells settled)
lines_alike names line says job settled ready is =
    let rows : List Row = settled.inputs.records.rows in
    let scale : ℕ = settled.inputs.described.bound.scale in
    let agree : (i : ℕ) (name : Name) (mark : Mark) → slice_get (cells_in job.book) i ≡ Some name → slice_get job.book.marks i ≡ Some mark → AgreeUpTo (keep_of settled.inputs.described.job.rules.list) (figures_of_facts mark.facts) (figures_in job.book.trees name rows scale) =
    λ i name mark here there.
    let tells = is.book.told i name mark here there in
    let facts : AreFactsOf mark.facts job.book.trees name rows = record { truth = tells.truth_is; freq = tells.freq_is; tops = tells.largest } in
    subst (λ (s : ℕ). AgreeUpTo (keep_of settled.inputs.described.job.rules.list) (figures_of_facts mark.facts) (figures_in job.book.trees name rows s)) tells.scaled
    (subst (λ (k : ℕ). AgreeUpTo k (figures_of_facts mark.facts) (figures_in job.book.trees name rows mark.facts.tops.scale)) tells.keeps (facts_agree mark.facts job.book.trees name rows facts)) in
    let described : DescribedJob = settled.inputs.described in
    let text : DescribedJob → List Tree → List (List Dimension) → List SettledCell → List ℕ =
    λ one trees tables cells. names one ++ flat_map (line one trees) (numbered_from 0 (cells_of trees tables) (told_of job.book.marks) cells) in
    ap (λ (one : DescribedJob). text one job.book.trees job.book.tables (map view_of_cell job.cells)) is.described
    ∙ ap (λ (cells : List SettledCell). text described job.book.trees job.book.tables cells) is.cells
    ∙ ap (λ (lines : List ℕ). names described ++ lines) (same_lines (line described job.book.trees) (keep_of described.job.rules.list) (says described job.book.trees) job.book.trees rows scale 0 (cells_in job.book) job.book.marks settled.cells ready.one_each agree)
    ∙ ap₂ (λ (trees : List Tree) (tables : List (List Dimension)). names described ++ flat_map (line described trees) (numbered_from 0 (cells_of trees tables) (figures_of trees (cells_of trees tables) rows scale) settled.cells)) is.book.trees is.book.tables

-- the listing of a job is that of its settled inputs
pub listed_alike : (job : ClassifiedJob) (settled : SettledInputs) → IsReadyJob job → IsSettledOf settled job → listing_text job.described job.book.trees (told_cells job) ≡ listing_of settled
unfolding listing_of
listed_alike job settled ready is =
    lines_alike (λ described. line_text (column_names described)) cell_line
    (λ described trees number name one cell other same. ap line_text (same_fields described trees number name one cell other same)) job settled ready is

-- the listing of a release is that of its settled inputs
pub released_alike : (c : Certificate) (extra : Option Extra) (amounts : List ℤ) (job : ClassifiedJob) (settled : SettledInputs) → IsReadyJob job → IsSettledOf settled job
    → released_text job.described job.book.trees (outcome_at c extra amounts) (told_cells job) ≡ released_text settled.inputs.described settled.inputs.records.trees (outcome_at c extra amounts) (listed_cells settled)
released_alike c extra amounts job settled ready is =
    lines_alike (λ described. line_text (column_names described ++ outcome_names)) (λ described trees. released_line described trees (outcome_at c extra amounts))
    (λ described trees number name one cell other same.
    ap (λ (fields : List (List ℕ)). line_text (fields ++ outcome_fields described.bound.decimals (outcome_of c extra amounts number one.kind))) (same_fields described trees number name one cell other same)) job settled ready is

-- each rule looks at no more than all of them
each-kept : (kept most : ℕ) (rules : List Rule) → 2 ≤ most → fold (λ most one. max most (looks_at one)) most rules ≤ kept → All (λ one. keep_of (one ∷ []) ≤ kept) rules
each-kept kept most [] two enough = All-nil (λ one. keep_of (one ∷ []) ≤ kept)
each-kept kept most (one ∷ rules) two enough =
    let next : ℕ = max most (looks_at one) in
    let start : next ≤ fold (λ most one. max most (looks_at one)) next rules = from_start next rules in
    All-cons (λ one. keep_of (one ∷ []) ≤ kept) one rules (omega (arith, start, two, enough)) (each-kept kept next rules (omega (arith, two)) enough)

pub each_kept : (rules : List Rule) (kept : ℕ) → keep_of rules ≤ kept → All (λ one. keep_of (one ∷ []) ≤ kept) rules
each_kept rules kept enough = each-kept kept 2 rules (omega arith) enough
