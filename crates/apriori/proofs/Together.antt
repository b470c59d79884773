-- Statements noted one after another, and together.
use Rattle.std.proofs.Common.{◌≡◌, ℕ, zero, suc, ◌+◌, ◌<◌, ◌==◌, Bool, true, false, cond, eq-eqb, ne_eqb, List, [], ◌∷◌, ◌++◌, Option, None, Some, ℤ, Result, Ok, Err, refl, ap, sym, ◌∙◌, arith}
use Rattle.std.specs.Prelude.{slice_index_or, slice_set, length}
use Rattle.std.specs.Option.{option_or}
use Rattle.std.proofs.lemmas.List.{append-nil}
use Rattle.std.proofs.lemmas.List.Elements.{filter-append}
use Rattle.sdc_base.specs.Steps.{◌>>=◌, refuse, map_ok}
use Rattle.sdc_base.specs.Blanks.{trim}
use Rattle.sdc_base.specs.Lines.{lines}
use Rattle.sdc_base.specs.declared.facts.Levels.{Levels}
use Rattle.apriori.specs.declared.prior.Status.{Status}
use Rattle.apriori.specs.declared.prior.Prior.{Prior}
use Rattle.apriori.specs.declared.statement.Statement.{Statement}
use Rattle.apriori.specs.declared.statement.Form.{Form}
use Rattle.apriori.specs.declared.faults.PriorWhy.{PriorWhy}
use Rattle.apriori.specs.declared.faults.PriorWhy.TheVariants.{Twice}
use Rattle.apriori.specs.Faults.{LineOf}
use Rattle.apriori.specs.Priors.{empty_prior}
use Rattle.apriori.specs.Statements.{statement_of}
use Rattle.apriori.specs.KnownCells.{Basis}
use Rattle.apriori.specs.CellStatements.{status_in, line_in, price_in, levels_in, bounds_in, first_said, statements_about, prior_with, priors_from, contradicts}
use Rattle.apriori.specs.Applying.{said_of, statement_behind, line_says, lines_say, at_line, apply_of}
use Rattle.apriori.specs.Noting.{with_statement, after_statement, line_noted, lines_noted}

or-none : {X : Type 0} (one : Option X) → option_or one None ≡ one
or-none None = refl
or-none (Some x) = refl

or-or : {X : Type 0} (one other last : Option X) → option_or (option_or one other) last ≡ option_or one (option_or other last)
or-or None other last = refl
or-or (Some x) other last = refl

first-more : {X : Type 0} (what : Statement → Option X) (statements : List Statement) (said : Statement) → first_said what (statements ++ said ∷ []) ≡ option_or (first_said what statements) (what said)
first-more what [] said = or-none (what said)
first-more what (one ∷ statements) said = ap (option_or (what one)) (first-more what statements said) ∙ sym (or-or (what one) (first_said what statements) (what said))

one-more : {X : Type 0} (what : Statement → Option X) (earlier : Option X) (statements : List Statement) (said : Statement)
    → option_or (option_or earlier (first_said what statements)) (what said) ≡ option_or earlier (first_said what (statements ++ said ∷ []))
one-more what earlier statements said = or-or earlier (first_said what statements) (what said) ∙ sym (ap (option_or earlier) (first-more what statements said))

abbrev made : Option Status → Option LineOf → Option ℕ → Option Levels → Option (ℤ × ℤ) → Prior
made status keep price levels bounds = record { status = status; keep = keep; price = price; levels = levels; bounds = bounds }

-- priors with the same in each field are the same
pub same-prior : (one other : Prior) → one.status ≡ other.status → one.keep ≡ other.keep → one.price ≡ other.price → one.levels ≡ other.levels → one.bounds ≡ other.bounds → one ≡ other
same-prior one other status keep price levels bounds =
    ap (λ (x : Option Status). made x one.keep one.price one.levels one.bounds) status
    ∙ ap (λ (x : Option LineOf). made other.status x one.price one.levels one.bounds) keep
    ∙ ap (λ (x : Option ℕ). made other.status other.keep x one.levels one.bounds) price
    ∙ ap (λ (x : Option Levels). made other.status other.keep other.price x one.bounds) levels
    ∙ ap (λ (x : Option (ℤ × ℤ)). made other.status other.keep other.price other.levels x) bounds

prior-more : (table : ℕ) (prior : Prior) (statements : List Statement) (said : Statement) → with_statement table (prior_with table prior statements) said ≡ prior_with table prior (statements ++ said ∷ [])
prior-more table prior statements said =
    same-prior (with_statement table (prior_with table prior statements) said) (prior_with table prior (statements ++ said ∷ []))
    (one-more (λ (s : Statement). status_in s.claim) prior.status statements said)
    (one-more (λ (s : Statement). line_in table s.line s.claim) prior.keep statements said)
    (one-more (λ (s : Statement). price_in s.claim) prior.price statements said)
    (one-more (λ (s : Statement). levels_in s.claim) prior.levels statements said)
    (one-more (λ (s : Statement). bounds_in s.claim) prior.bounds statements said)

prior-blank : (table : ℕ) (prior : Prior) → prior_with table prior [] ≡ prior
prior-blank table prior = same-prior (prior_with table prior []) prior (or-none prior.status) (or-none prior.keep) (or-none prior.price) (or-none prior.levels) (or-none prior.bounds)

pub priors-blank : (table cell : ℕ) (priors : List Prior) → ◌≡◌ {A = List Prior} (priors_from table cell priors []) priors
priors-blank table cell [] = refl
priors-blank table cell (prior ∷ priors) = ap (λ (p : Prior). p ∷ priors_from table (cell + 1) priors []) (prior-blank table prior) ∙ ap (λ (ps : List Prior). prior ∷ ps) (priors-blank table (cell + 1) priors)

about-own : (cell : ℕ) (statements : List Statement) (said : Statement) → said.cell ≡ cell → statements_about cell (statements ++ said ∷ []) ≡ statements_about cell statements ++ said ∷ []
about-own cell statements said is =
    filter-append (λ (s : Statement). s.cell == cell) statements (said ∷ [])
    ∙ ap (λ (t : Bool). statements_about cell statements ++ cond t (said ∷ []) []) (eq-eqb said.cell cell is)

about-other : (cell : ℕ) (statements : List Statement) (said : Statement) → (said.cell ≡ cell → ⊥) → statements_about cell (statements ++ said ∷ []) ≡ statements_about cell statements
about-other cell statements said other =
    filter-append (λ (s : Statement). s.cell == cell) statements (said ∷ [])
    ∙ ap (λ (t : Bool). statements_about cell statements ++ cond t (said ∷ []) []) (ne_eqb said.cell cell other)
    ∙ append-nil (statements_about cell statements)

-- a statement about an earlier cell changes nothing
later-stay : (table cell : ℕ) (priors : List Prior) (statements : List Statement) (said : Statement) → said.cell < cell → ◌≡◌ {A = List Prior} (priors_from table cell priors statements) (priors_from table cell priors (statements ++ said ∷ []))
later-stay table cell [] statements said past = refl
later-stay table cell (prior ∷ priors) statements said past =
    ap (λ (xs : List Statement). prior_with table prior xs ∷ priors_from table (cell + 1) priors statements) (sym (about-other cell statements said (λ is. omega (arith, past, is))))
    ∙ ap (λ (ps : List Prior). prior_with table prior (statements_about cell (statements ++ said ∷ [])) ∷ ps) (later-stay table (cell + 1) priors statements said (omega (arith, past)))

-- the priors with a statement more are those in which it is noted
noted-at : (table cell at : ℕ) (priors : List Prior) (statements : List Statement) (said : Statement) → said.cell ≡ cell + at
    → ◌≡◌ {A = List Prior} (slice_set (priors_from table cell priors statements) at (with_statement table (slice_index_or (priors_from table cell priors statements) at empty_prior) said)) (priors_from table cell priors (statements ++ said ∷ []))
noted-at table cell at [] statements said is = refl
noted-at table cell zero (prior ∷ priors) statements said is =
    let own : said.cell ≡ cell = omega (arith, is) in
    ap (λ (p : Prior). p ∷ priors_from table (cell + 1) priors statements) (prior-more table prior (statements_about cell statements) said ∙ ap (prior_with table prior) (sym (about-own cell statements said own)))
    ∙ ap (λ (ps : List Prior). prior_with table prior (statements_about cell (statements ++ said ∷ [])) ∷ ps) (later-stay table (cell + 1) priors statements said (omega (arith, own)))
noted-at table cell (suc at) (prior ∷ priors) statements said is =
    ap (λ (xs : List Statement). prior_with table prior xs ∷ slice_set (priors_from table (cell + 1) priors statements) at (with_statement table (slice_index_or (priors_from table (cell + 1) priors statements) at empty_prior) said)) (sym (about-other cell statements said (λ own. omega (arith, is, own))))
    ∙ ap (λ (ps : List Prior). prior_with table prior (statements_about cell (statements ++ said ∷ [])) ∷ ps) (noted-at table (cell + 1) at priors statements said (omega (arith, is)))

-- what a line says is noted
said-noted : (basis : Basis) (form : Form) (priors : List Prior) (so_far : List Statement) (line : ℕ) (text : List ℕ) (read : Result Statement PriorWhy)
    → (read >>= after_statement form.table (priors_from form.table 0 priors so_far))
    ≡ map_ok (priors_from form.table 0 priors) ((read >>= λ said. refuse Twice (contradicts (said_of form.table priors so_far said.cell) said.claim) >>= λ fresh. Ok said) >>= λ said. Ok (so_far ++ said ∷ []))
unfolding after_statement
said-noted basis form priors so_far line text (Err why) = refl
said-noted basis form priors so_far line text (Ok said) =
    elim (contradicts (said_of form.table priors so_far said.cell) said.claim)
    as (λ t. (cond t (Err Twice) (Ok (tt {0})) >>= λ fresh. Ok (slice_set (priors_from form.table 0 priors so_far) said.cell (with_statement form.table (said_of form.table priors so_far said.cell) said)))
    ≡ map_ok (priors_from form.table 0 priors) ((cond t (Err Twice) (Ok (tt {0})) >>= λ fresh. Ok said) >>= λ said. Ok (so_far ++ said ∷ []))) [
      | true ↦ refl
      | false ↦ ap Ok (noted-at form.table 0 said.cell priors so_far said (omega arith))
    ]

line-noted : (basis : Basis) (form : Form) (priors : List Prior) (so_far : List Statement) (line : ℕ) (text : List ℕ)
    → line_noted basis form line text (priors_from form.table 0 priors so_far) ≡ map_ok (priors_from form.table 0 priors) (line_says basis form priors so_far line text)
unfolding line_noted line_says statement_behind
line-noted basis form priors so_far line text =
    elim (length (trim text) == 0)
    as (λ t. cond t (Ok (priors_from form.table 0 priors so_far)) (statement_of basis form line text >>= after_statement form.table (priors_from form.table 0 priors so_far))
    ≡ map_ok (priors_from form.table 0 priors) (cond t (Ok so_far) ((statement_of basis form line text >>= λ said. refuse Twice (contradicts (said_of form.table priors so_far said.cell) said.claim) >>= λ fresh. Ok said) >>= λ said. Ok (so_far ++ said ∷ [])))) [
      | true ↦ refl
      | false ↦ said-noted basis form priors so_far line text (statement_of basis form line text)
    ]

lines-noted : (basis : Basis) (form : Form) (priors : List Prior) (so_far : List Statement) (before : ℕ) (texts : List (List ℕ))
    → (lines_say basis form priors so_far before texts >>= λ statements. Ok (priors_from form.table 0 priors statements)) ≡ lines_noted basis form before texts (priors_from form.table 0 priors so_far)
unfolding lines_say lines_noted
lines-noted basis form priors so_far before [] = refl
lines-noted basis form priors so_far before (text ∷ texts) =
    (elim (line_says basis form priors so_far (before + 1) text)
    as (λ read. ((at_line form.table (before + 1) read >>= λ next. lines_say basis form priors next (before + 1) texts) >>= λ statements. Ok (priors_from form.table 0 priors statements))
    ≡ (at_line form.table (before + 1) (map_ok (priors_from form.table 0 priors) read) >>= lines_noted basis form (before + 1) texts)) [
      | Ok next ↦ lines-noted basis form priors next (before + 1) texts
      | Err why ↦ refl
    ])
    ∙ ap (λ (read : Result (List Prior) PriorWhy). at_line form.table (before + 1) read >>= lines_noted basis form (before + 1) texts) (sym (line-noted basis form priors so_far (before + 1) text))

-- what a file says is what its lines say one after another
pub noted_together : (basis : Basis) (form : Form) (priors : List Prior) (bytes : List ℕ) → apply_of basis form priors bytes ≡ lines_noted basis form 0 (lines bytes) priors
unfolding apply_of
noted_together basis form priors bytes = lines-noted basis form priors [] 0 (lines bytes) ∙ ap (lines_noted basis form 0 (lines bytes)) (priors-blank form.table 0 priors)
