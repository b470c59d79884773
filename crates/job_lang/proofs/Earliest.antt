-- The fault that binding gives is the earliest.
use Rattle.std.proofs.Common.{◌≡◌, ◌⊎◌, inl, inr, ℕ, ◌<◌, ◌≤◌, Bool, true, false, cond, List, [], ◌∷◌, ◌++◌, map, Option, None, Some, Result, Ok, Err, refl, ap, sym, ◌∙◌, arith, nat_lt}
use Rattle.std.specs.Prelude.{fold, not}
use Rattle.std.specs.List.{AllByRecursion}
use Rattle.std.proofs.lemmas.List.Folds.{fold-map}
use Rattle.rda_meta.specs.declared.meta.Variable.{Variable}
use Rattle.sdc_base.specs.Steps.{◌>>=◌}
use Rattle.job_lang.specs.declared.faults.JobWhy.{JobWhy}
use Rattle.job_lang.specs.declared.faults.JobWhy.TheVariants.{NoSuchVariable, NotSpanning, NotNumeric}
use Rattle.job_lang.specs.declared.bound.Bound.{Bound}
use Rattle.job_lang.specs.declared.job.Job.{Job}
use Rattle.job_lang.specs.declared.job.OutputLine.{OutputLine}
use Rattle.job_lang.specs.declared.job.TableLine.{TableLine}
use Rattle.job_lang.specs.Binding.{unless_fault, bound_of}
use Rattle.job_lang.specs.BindingFaults.{is_numeric, table_fault, weight_fault, file_fault, earlier_fault, contributors_fault, earliest_fault}
use Rattle.job_lang.specs.BindingOrder.{contributors_at, looked_at, IsBehind, IsNotBefore, IsEarliest, GivesEarliest, lacks_variable, has_numeric, IsFirstKind, GivesFirstKind}

-- a line with the fault that it has
abbrev Looked : Type 0
Looked = ℕ × Option JobWhy

-- the earliest of the faults of lines, and of one from before
abbrev earliest : Option (ℕ × JobWhy) → List Looked → Option (ℕ × JobWhy)
earliest first lines = fold (λ first l. earlier_fault first l.0 l.1) first lines

-- there was no fault before, or it was behind this line
abbrev IsAbove : ℕ → Option (ℕ × JobWhy) → Type 0
IsAbove line None = Unit {0}
IsAbove line (Some first) = line < first.0

less : (a b : ℕ) → nat_lt a b ≡ true → a < b
less a b h = grind arith

not_less : (a b : ℕ) → nat_lt a b ≡ false → b ≤ a
not_less a b h = grind arith

above_both : (line : ℕ) (first : Option (ℕ × JobWhy)) (other : ℕ) (why : Option JobWhy) → IsAbove line (earlier_fault first other why) → IsAbove line first × IsBehind line other why
above_both line first other None h = (h, tt)
above_both line None other (Some why) h = (tt, h)
above_both line (Some first) other (Some why) h =
    elim (nat_lt other first.0) as (λ t. nat_lt other first.0 ≡ t → IsAbove line (cond t (Some (other, why)) (Some first)) → (line < first.0) × (line < other)) [
      | true ↦ λ is g. let below = less other first.0 is in (omega (arith, g, below), g)
      | false ↦ λ is g. let above = not_less other first.0 is in (g, omega (arith, g, above))
    ] refl h

pair_is : (a b : ℕ) (x y : JobWhy) → ◌≡◌ {A = Option (ℕ × JobWhy)} (Some (a, x)) (Some (b, y)) → (a ≡ b) × (x ≡ y)
pair_is a b x y h =
    let same : ◌≡◌ {A = ℕ × JobWhy} (a, x) (b, y) = cc in
    (ap (λ (p : ℕ × JobWhy). p.0) same, ap (λ (p : ℕ × JobWhy). p.1) same)

line_is : (first : ℕ × JobWhy) (line : ℕ) (why : JobWhy) → Some first ≡ Some (line, why) → first.0 ≡ line
line_is first line why h = let same : ◌≡◌ {A = ℕ × JobWhy} first (line, why) = cc in ap (λ (p : ℕ × JobWhy). p.0) same

-- the fault was there before, or it is this line's
abbrev IsOneOf : ℕ → JobWhy → Option (ℕ × JobWhy) → ℕ → Option JobWhy → Type 0
IsOneOf line why first other cause = ((first ≡ Some (line, why)) × IsNotBefore line other cause) ⊎ (IsAbove line first × (other ≡ line) × (cause ≡ Some why))

one_of : (line : ℕ) (why : JobWhy) (first : Option (ℕ × JobWhy)) (other : ℕ) (cause : Option JobWhy) → earlier_fault first other cause ≡ Some (line, why) → IsOneOf line why first other cause
one_of line why first other None h = inl (h, tt)
one_of line why None other (Some cause) h = let same = pair_is other line cause why h in inr (tt, same.0, ap (λ (x : JobWhy). Some x) same.1)
one_of line why (Some first) other (Some cause) h =
    elim (nat_lt other first.0) as (λ t. nat_lt other first.0 ≡ t → ◌≡◌ {A = Option (ℕ × JobWhy)} (cond t (Some (other, cause)) (Some first)) (Some (line, why)) → IsOneOf line why (Some first) other (Some cause)) [
      | true ↦ λ is g.
          let same = pair_is other line cause why g in
          let below = less other first.0 is in
          inr (omega (arith, below, same.0), same.0, ap (λ (x : JobWhy). Some x) same.1)
      | false ↦ λ is g.
          let above = not_less other first.0 is in
          let at = line_is first line why g in
          inl (g, omega (arith, above, at))
    ] refl h

-- the earliest is from before, or one of the lines
abbrev IsFound : ℕ → JobWhy → Option (ℕ × JobWhy) → List Looked → Type 0
IsFound line why first lines = ((first ≡ Some (line, why)) × AllByRecursion (λ other. IsNotBefore line other.0 other.1) lines) ⊎ (IsAbove line first × IsEarliest lines line why)

found_more : (line : ℕ) (why : JobWhy) (first : Option (ℕ × JobWhy)) (l : Looked) (lines : List Looked) → IsFound line why (earlier_fault first l.0 l.1) lines → IsFound line why first (l ∷ lines)
found_more line why first l lines (inl h) =
    elim (one_of line why first l.0 l.1 h.0) [
      | inl was ↦ inl (was.0, (was.1, h.1))
      | inr is ↦ inr (
        is.0,
        record {
          before = [];
          after = lines;
          cut = ap (λ (o : Looked). o ∷ lines) (ap (λ (n : ℕ). (n, l.1)) is.1 ∙ ap (λ (o : Option JobWhy). (line, o)) is.2);
          behind = tt;
          not_before = h.1;
        },
      )
    ]
found_more line why first l lines (inr h) =
    let both = above_both line first l.0 l.1 h.0 in
    inr (
      both.0,
      record {
        before = l ∷ h.1.before;
        after = h.1.after;
        cut = ap (λ (ls : List Looked). l ∷ ls) h.1.cut;
        behind = (both.1, h.1.behind);
        not_before = h.1.not_before;
      },
    )

found : (line : ℕ) (why : JobWhy) (first : Option (ℕ × JobWhy)) (lines : List Looked) → earliest first lines ≡ Some (line, why) → IsFound line why first lines
found line why first [] h = inl (h, tt)
found line why first (l ∷ lines) h = found_more line why first l lines (found line why (earlier_fault first l.0 l.1) lines h)

both_lists : (first : Option (ℕ × JobWhy)) (xs ys : List Looked) → earliest first (xs ++ ys) ≡ earliest (earliest first xs) ys
both_lists first [] ys = refl
both_lists first (x ∷ xs) ys = both_lists (earlier_fault first x.0 x.1) xs ys

of_contributors : (job : Job) (variables : List Variable) (first : Option (ℕ × JobWhy)) (contributors : Option OutputLine) → earliest first (contributors_at job variables contributors) ≡ contributors_fault job.tables variables first contributors
of_contributors job variables first None = refl
of_contributors job variables first (Some o) = refl

by_lines : (job : Job) (variables : List Variable) → earliest_fault job variables ≡ earliest None (looked_at job variables)
by_lines job variables =
    let tables : List Looked = map (λ t. (t.line, table_fault variables t)) job.tables in
    let outputs : List Looked = map (λ o. (o.line, file_fault job.tables variables o.file)) job.outputs in
    let last : List Looked = (job.certificate_line, file_fault job.tables variables job.certificate) ∷ contributors_at job variables job.contributors in
    let rules : Looked = (job.rules_line, weight_fault variables job.rules) in
    let step : Option (ℕ × JobWhy) → Looked → Option (ℕ × JobWhy) = λ first l. earlier_fault first l.0 l.1 in
    let of_tables : earliest None tables ≡ fold (λ first t. earlier_fault first t.line (table_fault variables t)) None job.tables = fold-map step (λ (t : TableLine). (t.line, table_fault variables t)) None job.tables in
    let of_outputs : (first : Option (ℕ × JobWhy)) → earliest first outputs ≡ fold (λ first o. earlier_fault first o.line (file_fault job.tables variables o.file)) first job.outputs =
    λ first. fold-map step (λ (o : OutputLine). (o.line, file_fault job.tables variables o.file)) first job.outputs in
    sym (
    both_lists None tables (rules ∷ outputs ++ last)
    ∙ ap (λ (first : Option (ℕ × JobWhy)). earliest first (rules ∷ outputs ++ last)) of_tables
    ∙ both_lists _ (rules ∷ outputs) last
    ∙ ap (λ (first : Option (ℕ × JobWhy)). earliest first last) (of_outputs _)
    ∙ of_contributors job variables _ job.contributors
    )

refused : (fault : Option (ℕ × JobWhy)) (bound : Bound) (line : ℕ) (why : JobWhy) → ◌≡◌ {A = Result Bound (ℕ × JobWhy)} (unless_fault fault >>= λ fine. Ok bound) (Err (line, why)) → fault ≡ Some (line, why)
refused None bound line why h = absurd cc
refused (Some fault) bound line why h = let same : fault ≡ (line, why) = cc in ap (λ (f : ℕ × JobWhy). Some f) same

pub gives_earliest : GivesEarliest
unfolding bound_of
gives_earliest job meta line why h =
    elim (found line why None (looked_at job meta.variables) (sym (by_lines job meta.variables) ∙ refused (earliest_fault job meta.variables) _ line why h)) as (λ _. IsEarliest (looked_at job meta.variables) line why) [
      | inl never ↦ absurd (no never.0)
      | inr is ↦ is.1
    ]
  where
    no : ◌≡◌ {A = Option (ℕ × JobWhy)} None (Some (line, why)) → ⊥
    no g = cc

-- ---- kinds of fault of a table's line

kind_of : (variables : List Variable) (table : TableLine) (why : JobWhy) (a b c : Bool) → lacks_variable variables table ≡ a → has_numeric variables table ≡ b → is_numeric variables table.response ≡ c
    → ◌≡◌ {A = Option JobWhy} (cond a (Some NoSuchVariable) (cond b (Some NotSpanning) (cond (not c) (Some NotNumeric) None))) (Some why) → IsFirstKind variables table why
kind_of variables table why true b c lacks numeric response h = let same : why ≡ NoSuchVariable = cc in inl (same, lacks)
kind_of variables table why false true c lacks numeric response h = let same : why ≡ NotSpanning = cc in inr (inl (same, lacks, numeric))
kind_of variables table why false false false lacks numeric response h = let same : why ≡ NotNumeric = cc in inr (inr (same, lacks, numeric, response))
kind_of variables table why false false true lacks numeric response h = absurd cc

pub gives_first_kind : GivesFirstKind
gives_first_kind variables table why h = kind_of variables table why (lacks_variable variables table) (has_numeric variables table) (is_numeric variables table.response) refl refl refl h
