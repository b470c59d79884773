-- Priors with statements more are priors still.
use Rattle.std.proofs.Common.{◌≡◌, ◌≢◌, ℕ, ◌<◌, ◌≤◌, true, false, eqb, eq-eqb, List, length, get_or, Option, None, Some, refl, ap, sym, subst, ◌∙◌, arith}
use Rattle.std.specs.Prelude.{slice_get, slice_set}
use Rattle.std.specs.Option.{ForSome, option_or}
use Rattle.std.proofs.lemmas.Bool.Decides.{Decides-eqb}
use Rattle.std.proofs.lemmas.List.{get_or-set_same, get_or-set_other, length-set}
use Rattle.std.proofs.lemmas.Option.{slice_get-get_or, slice_get_within, get_or_from_slice_get}
use Rattle.sdc_base.specs.declared.facts.CellFacts.{CellFacts}
use Rattle.linked_tables.specs.declared.mark.Mark.{Mark}
use Rattle.apriori.specs.declared.prior.Status.{Status}
use Rattle.apriori.specs.declared.prior.Status.TheVariants.{Unsafe, Safe}
use Rattle.apriori.specs.declared.prior.Prior.{Prior}
use Rattle.apriori.specs.declared.statement.Claim.{Claim}
use Rattle.apriori.specs.declared.statement.Claim.TheVariants as claim
use Rattle.apriori.specs.declared.statement.Statement.{Statement}
use Rattle.apriori.specs.Priors.{IsPrice, CanBeLevels, AreBounds, IsPriorOf, ArePriors}
use Rattle.apriori.specs.Holding.{IsClaimOf, IsStatementOf}
use Rattle.apriori.specs.CellStatements.{status_in, price_in, levels_in, bounds_in}
use Rattle.apriori.specs.Noting.{with_statement}

for-or : {X : Type 0} (P : X → Type 0) (one other : Option X) → ForSome one P → ForSome other P → ForSome (option_or one other) P
for-or P None other p q = q
for-or P (Some x) other p q = p

unsafe-or : (facts : CellFacts) (one other : Option Status) → (one ≡ Some Unsafe → 1 ≤ facts.freq) → (other ≡ Some Unsafe → 1 ≤ facts.freq) → option_or one other ≡ Some Unsafe → 1 ≤ facts.freq
unsafe-or facts None other p q = q
unsafe-or facts (Some status) other p q = p

unsafe-in : (facts : CellFacts) (what : Claim) → IsClaimOf facts what → status_in what ≡ Some Unsafe → 1 ≤ facts.freq
unsafe-in facts (claim.Declared Unsafe) h is = h
unsafe-in facts (claim.Declared Safe) h is = absurd cc
unsafe-in facts claim.Shown h is = absurd cc
unsafe-in facts (claim.Price price) h is = absurd cc
unsafe-in facts (claim.Open levels) h is = absurd cc
unsafe-in facts (claim.Between bounds) h is = absurd cc

price-in : (facts : CellFacts) (what : Claim) → IsClaimOf facts what → ForSome (price_in what) IsPrice
price-in facts (claim.Declared status) h = λ x is. absurd cc
price-in facts claim.Shown h = λ x is. absurd cc
price-in facts (claim.Price price) h = λ x is. let same : price ≡ x = cc in subst IsPrice same h
price-in facts (claim.Open levels) h = λ x is. absurd cc
price-in facts (claim.Between bounds) h = λ x is. absurd cc

levels-in : (facts : CellFacts) (what : Claim) → IsClaimOf facts what → ForSome (levels_in what) CanBeLevels
levels-in facts (claim.Declared status) h = λ x is. absurd cc
levels-in facts claim.Shown h = λ x is. absurd cc
levels-in facts (claim.Price price) h = λ x is. absurd cc
levels-in facts (claim.Open levels) h = λ x is. let same : levels ≡ x = cc in subst CanBeLevels same h
levels-in facts (claim.Between bounds) h = λ x is. absurd cc

bounds-in : (facts : CellFacts) (what : Claim) → IsClaimOf facts what → ForSome (bounds_in what) (AreBounds facts.truth)
bounds-in facts (claim.Declared status) h = λ x is. absurd cc
bounds-in facts claim.Shown h = λ x is. absurd cc
bounds-in facts (claim.Price price) h = λ x is. absurd cc
bounds-in facts (claim.Open levels) h = λ x is. absurd cc
bounds-in facts (claim.Between bounds) h = λ x is. let same : (bounds.low, bounds.high) ≡ x = cc in subst (AreBounds facts.truth) same h

with-fits : (table : ℕ) (facts : CellFacts) (prior : Prior) (said : Statement) → IsPriorOf facts prior → IsClaimOf facts said.claim → IsPriorOf facts (with_statement table prior said)
with-fits table facts prior said is fits = record {
  unsafe = unsafe-or facts prior.status (status_in said.claim) is.unsafe (unsafe-in facts said.claim fits);
  price = for-or IsPrice prior.price (price_in said.claim) is.price (price-in facts said.claim fits);
  levels = for-or CanBeLevels prior.levels (levels_in said.claim) is.levels (levels-in facts said.claim fits);
  bounds = for-or (AreBounds facts.truth) prior.bounds (bounds_in said.claim) is.bounds (bounds-in facts said.claim fits);
}

-- a prior that fits its cell in the place of another
pub priors_set : (marks : List Mark) (priors : List Prior) (table : ℕ) (said : Statement) (d : Prior) → ArePriors marks priors → said.cell < length priors → IsStatementOf marks said
    → ArePriors marks (slice_set priors said.cell (with_statement table (get_or priors said.cell d) said))
priors_set marks priors table said d are inside fits =
    let new = with_statement table (get_or priors said.cell d) said in
    record {
      one_each = length-set priors said.cell new ∙ are.one_each;
      each = λ cell mark prior at written.
          let read : get_or (slice_set priors said.cell new) cell d ≡ prior = get_or_from_slice_get (slice_set priors said.cell new) cell prior d written in
          elim (eqb cell said.cell) as (λ t. eqb cell said.cell ≡ t → IsPriorOf mark.facts prior) [
            | true ↦ λ e.
                let same : cell ≡ said.cell = (Decides-eqb _ _).0 e in
                let here : slice_get marks said.cell ≡ Some mark = ap (slice_get marks) (sym same) ∙ at in
                let old = are.each said.cell mark (get_or priors said.cell d) here (slice_get-get_or priors said.cell d inside) in
                let new-is : new ≡ prior = sym (get_or-set_same priors said.cell new d inside) ∙ ap (λ (k : ℕ). get_or (slice_set priors said.cell new) k d) (sym same) ∙ read in
                subst (λ (p : Prior). IsPriorOf mark.facts p) new-is (with-fits table mark.facts (get_or priors said.cell d) said old (fits mark here))
            | false ↦ λ e.
                let other : cell ≢ said.cell = λ same. let yes = eq-eqb cell said.cell same in cc (yes, e) in
                let stays : get_or priors cell d ≡ prior = sym (get_or-set_other priors said.cell cell new d other) ∙ read in
                let still : cell < length priors = let k = slice_get_within (slice_set priors said.cell new) cell prior written in let n = length-set priors said.cell new in omega (arith, k, n) in
                are.each cell mark prior at (slice_get-get_or priors cell d still ∙ ap (λ (p : Prior). Some p) stays)
          ] refl;
    }
