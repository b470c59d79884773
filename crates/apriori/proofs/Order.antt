-- The order of lines changes nothing but which line a fault names.
use Rattle.std.proofs.Common.{◌≡◌, ℕ, zero, suc, ◌+◌, ◌==◌, Bool, true, false, cond, List, [], ◌∷◌, ◌++◌, length, map, Option, None, Some, Result, Ok, Err, refl, ap, sym, ◌∙◌}
use Rattle.std.specs.Prelude.{option_map, slice_get, slice_index_or, slice_set}
use Rattle.std.specs.Option.{option_or, option_and_then}
use Rattle.std.proofs.lemmas.List.{map-set}
use Rattle.sdc_base.specs.Steps.{◌>>=◌, or_fault, map_ok}
use Rattle.sdc_base.specs.Blanks.{trim}
use Rattle.sdc_base.specs.Lines.{lines}
use Rattle.sdc_base.proofs.StepLemmas.{bind_same, map_bind}
use Rattle.apriori.specs.declared.prior.Prior.{Prior}
use Rattle.apriori.specs.declared.statement.Claim.{Claim}
use Rattle.apriori.specs.declared.statement.Claim.TheVariants as claim
use Rattle.apriori.specs.declared.statement.Statement.{Statement}
use Rattle.apriori.specs.declared.statement.Form.{Form}
use Rattle.apriori.specs.declared.faults.PriorWhy.{PriorWhy}
use Rattle.apriori.specs.declared.faults.PriorWhy.TheVariants.{Twice}
use Rattle.apriori.specs.Faults.{LineOf}
use Rattle.apriori.specs.Priors.{empty_prior}
use Rattle.apriori.specs.Fields.{fields}
use Rattle.apriori.specs.Statements.{keyword_at, claim_of, fit_of_claim, behind_codes, statement_of}
use Rattle.apriori.specs.KnownCells.{Basis, cell_of}
use Rattle.apriori.specs.CellStatements.{line_in, contradicts}
use Rattle.apriori.specs.Applying.{at_line}
use Rattle.apriori.specs.Noting.{with_statement, after_statement, line_noted, lines_noted}
use Rattle.apriori.specs.Laws.{AreReordered, same, exchanged, but_for_line, priors_if_accepted, OrderChangesNothing}
use Rattle.apriori.proofs.Together.{same-prior, noted_together}
use Rattle.apriori.proofs.Exchange.{plainly, noted_plainly, commute}

-- a statement with another line
abbrev relined : ℕ → Statement → Statement
relined line said = record { line = line; cell = said.cell; claim = said.claim }

-- the number of a line enters what it states as its line alone
lineless : (basis : Basis) (form : Form) (line : ℕ) (text : List ℕ) → statement_of basis form line text ≡ map_ok (relined line) (statement_of basis form 0 text)
unfolding statement_of
lineless basis form line text =
    sym (map_bind (relined line) (keyword_at (behind_codes basis form.table (fields form.separator text))) _
    ∙ bind_same (keyword_at (behind_codes basis form.table (fields form.separator text))) _ _ (λ spoken.
    map_bind (relined line) (or_fault _ (cell_of basis form.table (fields form.separator text))) _
    ∙ bind_same (or_fault _ (cell_of basis form.table (fields form.separator text))) _ _ (λ cell.
    map_bind (relined line) (or_fault _ (slice_get basis.known cell)) _
    ∙ bind_same (or_fault _ (slice_get basis.known cell)) _ _ (λ known.
    map_bind (relined line) (claim_of form.decimals spoken.0 spoken.1) _
    ∙ bind_same (claim_of form.decimals spoken.0 spoken.1) _ _ (λ what. map_bind (relined line) (fit_of_claim known what) _)))))

same-test : (prior : Prior) (what : Claim) → contradicts (but_for_line prior) what ≡ contradicts prior what
same-test prior (claim.Declared status) = refl
same-test prior claim.Shown = refl
same-test prior (claim.Price price) = refl
same-test prior (claim.Open levels) = refl
same-test prior (claim.Between bounds) = refl

-- what stands at a place, whatever the lines
bare-at : (priors : List Prior) (cell : ℕ) → slice_index_or (map but_for_line priors) cell empty_prior ≡ but_for_line (slice_index_or priors cell empty_prior)
bare-at [] cell = refl
bare-at (prior ∷ priors) zero = refl
bare-at (prior ∷ priors) (suc cell) = bare-at priors cell

bare-line : (table line : ℕ) (keep : Option LineOf) (what : Claim) → ◌≡◌ {A = Option LineOf} (option_map (λ (at : LineOf). (at.0, 0)) (option_or keep (line_in table line what))) (option_or (option_map (λ (at : LineOf). (at.0, 0)) keep) (line_in table 0 what))
bare-line table line (Some at) what = refl
bare-line table line None (claim.Declared status) = refl
bare-line table line None claim.Shown = refl
bare-line table line None (claim.Price price) = refl
bare-line table line None (claim.Open levels) = refl
bare-line table line None (claim.Between bounds) = refl

bare-with : (table line : ℕ) (prior : Prior) (said : Statement) → but_for_line (with_statement table prior (relined line said)) ≡ plainly table (but_for_line prior) said.claim
bare-with table line prior said =
    same-prior (but_for_line (with_statement table prior (relined line said))) (plainly table (but_for_line prior) said.claim) refl (bare-line table line prior.keep said.claim) refl refl refl

-- the priors, whatever the lines, where a line is accepted
abbrev plain : Result (List Prior) PriorWhy → Option (List Prior)
plain (Ok priors) = Some (map but_for_line priors)
plain (Err why) = None

noted-plain : (table line : ℕ) (priors : List Prior) (said : Statement) → plain (after_statement table priors (relined line said)) ≡ noted_plainly table said.cell said.claim (map but_for_line priors)
unfolding after_statement
noted-plain table line priors said =
    let here = slice_index_or priors said.cell empty_prior in
    (elim (contradicts here said.claim)
    as (λ t. plain (cond t (Err Twice) (Ok (tt {0})) >>= λ fresh. Ok (slice_set priors said.cell (with_statement table here (relined line said))))
    ≡ cond t None (Some (slice_set (map but_for_line priors) said.cell (plainly table (but_for_line here) said.claim)))) [
      | true ↦ refl
      | false ↦ ap (λ (ps : List Prior). Some ps) (map-set but_for_line priors said.cell (with_statement table here (relined line said)) ∙ ap (slice_set (map but_for_line priors) said.cell) (bare-with table line here said))
    ])
    ∙ ap (λ (t : Bool). cond t None (Some (slice_set (map but_for_line priors) said.cell (plainly table (but_for_line here) said.claim)))) (sym (same-test here said.claim))
    ∙ ap (λ (p : Prior). cond (contradicts p said.claim) None (Some (slice_set (map but_for_line priors) said.cell (plainly table p said.claim)))) (sym (bare-at priors said.cell))

-- what is read of a line, noted without its number
abbrev taken : ℕ → Bool → Result Statement PriorWhy → List Prior → Option (List Prior)
taken table true read priors = Some priors
taken table false (Err why) priors = None
taken table false (Ok said) priors = noted_plainly table said.cell said.claim priors

-- what a line states, noted without its number
abbrev took : Basis → Form → List ℕ → List Prior → Option (List Prior)
took basis form text priors = taken form.table (length (trim text) == 0) (statement_of basis form 0 text) priors

read-plain : (table line : ℕ) (priors : List Prior) (read : Result Statement PriorWhy) → plain (map_ok (relined line) read >>= after_statement table priors) ≡ taken table false read (map but_for_line priors)
read-plain table line priors (Err why) = refl
read-plain table line priors (Ok said) = noted-plain table line priors said

line-plain : (basis : Basis) (form : Form) (line : ℕ) (text : List ℕ) (priors : List Prior) → plain (line_noted basis form line text priors) ≡ took basis form text (map but_for_line priors)
unfolding line_noted
line-plain basis form line text priors =
    elim (length (trim text) == 0)
    as (λ t. plain (cond t (Ok priors) (statement_of basis form line text >>= after_statement form.table priors)) ≡ taken form.table t (statement_of basis form 0 text) (map but_for_line priors)) [
      | true ↦ refl
      | false ↦
          ap (λ (read : Result Statement PriorWhy). plain (read >>= after_statement form.table priors)) (lineless basis form line text)
          ∙ read-plain form.table line priors (statement_of basis form 0 text)
    ]

-- lines one after another, without their numbers
takes : Basis → Form → List (List ℕ) → List Prior → Option (List Prior)
takes basis form [] priors = Some priors
takes basis form (text ∷ texts) priors = option_and_then (takes basis form texts) (took basis form text priors)

lines-plain : (basis : Basis) (form : Form) (before : ℕ) (texts : List (List ℕ)) (priors : List Prior) → priors_if_accepted (lines_noted basis form before texts priors) ≡ takes basis form texts (map but_for_line priors)
unfolding lines_noted takes
lines-plain basis form before [] priors = refl
lines-plain basis form before (text ∷ texts) priors =
    (elim (line_noted basis form (before + 1) text priors)
    as (λ read. priors_if_accepted (at_line form.table (before + 1) read >>= λ next. lines_noted basis form (before + 1) texts next) ≡ option_and_then (takes basis form texts) (plain read)) [
      | Ok next ↦ lines-plain basis form (before + 1) texts next
      | Err why ↦ refl
    ])
    ∙ ap (option_and_then (takes basis form texts)) (line-plain basis form (before + 1) text priors)

then-some : (priors : Option (List Prior)) → option_and_then (λ (ps : List Prior). Some ps) priors ≡ priors
then-some None = refl
then-some (Some priors) = refl

abbrev no-priors : List Prior → Option (List Prior)
no-priors priors = None

then-none : (priors : Option (List Prior)) → option_and_then no-priors priors ≡ None
then-none None = refl
then-none (Some priors) = refl

then-then : (f g : List Prior → Option (List Prior)) (priors : Option (List Prior)) → option_and_then (λ (ps : List Prior). option_and_then f (g ps)) priors ≡ option_and_then f (option_and_then g priors)
then-then f g None = refl
then-then f g (Some priors) = refl

either-way : (table : ℕ) (blank-one blank-other : Bool) (one other : Result Statement PriorWhy) (priors : List Prior)
    → option_and_then (taken table blank-other other) (taken table blank-one one priors) ≡ option_and_then (taken table blank-one one) (taken table blank-other other priors)
either-way table true true one other priors = refl
either-way table true false one other priors = sym (then-some (taken table false other priors))
either-way table false true one other priors = then-some (taken table false one priors)
either-way table false false (Err why) (Err because) priors = refl
either-way table false false (Err why) (Ok other) priors = sym (then-none (taken table false (Ok other) priors))
either-way table false false (Ok one) (Err because) priors = then-none (taken table false (Ok one) priors)
either-way table false false (Ok one) (Ok other) priors = commute table one.cell other.cell one.claim other.claim priors

neighbours : (basis : Basis) (form : Form) (one other : List ℕ) (rest : List (List ℕ)) (front : List (List ℕ)) (priors : List Prior)
    → takes basis form (front ++ one ∷ other ∷ rest) priors ≡ takes basis form (front ++ other ∷ one ∷ rest) priors
unfolding takes
neighbours basis form one other rest [] priors =
    then-then (takes basis form rest) (took basis form other) (took basis form one priors)
    ∙ ap (option_and_then (takes basis form rest)) (either-way form.table (length (trim one) == 0) (length (trim other) == 0) (statement_of basis form 0 one) (statement_of basis form 0 other) priors)
    ∙ sym (then-then (takes basis form rest) (took basis form one) (took basis form other priors))
neighbours basis form one other rest (text ∷ front) priors =
    elim (took basis form text priors)
    as (λ next. option_and_then (takes basis form (front ++ one ∷ other ∷ rest)) next ≡ option_and_then (takes basis form (front ++ other ∷ one ∷ rest)) next) [
      | None ↦ refl
      | Some next ↦ neighbours basis form one other rest front next
    ]

reordered-takes : (basis : Basis) (form : Form) (priors : List Prior) (texts others : List (List ℕ)) → AreReordered texts others → takes basis form texts priors ≡ takes basis form others priors
reordered-takes basis form priors _ _ (same texts) = refl
reordered-takes basis form priors _ _ (exchanged front one other rest texts more) =
    neighbours basis form one other rest front priors ∙ reordered-takes basis form priors (front ++ other ∷ one ∷ rest) texts more

pub order_changes_nothing : OrderChangesNothing
order_changes_nothing basis form priors one other more =
    ap priors_if_accepted (noted_together basis form priors one)
    ∙ lines-plain basis form 0 (lines one) priors
    ∙ reordered-takes basis form (map but_for_line priors) (lines one) (lines other) more
    ∙ sym (lines-plain basis form 0 (lines other) priors)
    ∙ sym (ap priors_if_accepted (noted_together basis form priors other))
