-- Needs that are written are read again, and those that are read are written so.
use Rattle.std.proofs.Common.{◌≡◌, ℕ, ◌+◌, ◌-◌, ◌<◌, not, true, false, List, ◌∷◌, map, Ok, Err, ℤ, refl, ap, sym, ◌∙◌, subst, arith, decimal}
use Rattle.std.specs.Prelude.{codes}
use Rattle.std.specs.Fmt.{signed_decimal}
use Rattle.std.specs.List.{AllByRecursion, list_all}
use Rattle.sdc_base.specs.Forms.{Term}
use Rattle.sdc_base.specs.Steps.{refuse}
use Rattle.sdc_base.specs.Sides.{side_word}
use Rattle.sdc_base.specs.declared.side.Side.{Side}
use Rattle.certificate.specs.declared.extra.ExtraNeed.{ExtraNeed}
use Rattle.certificate.specs.declared.faults.CertWhy.TheVariants.{Shape, Order}
use Rattle.certificate.specs.Numerals.{natural_of, denominator_of, ascends}
use Rattle.certificate.specs.TokenLists.{first_of, is_pair, terms_of}
use Rattle.certificate.specs.LineReadings.{side_of}
use Rattle.certificate.specs.Texts.{pair_token}
use Rattle.certificate.specs.ExtraReadings.{need_by, need_of}
use Rattle.certificate.specs.ExtraTexts.{need_arguments, IsNeedSpellable, IsNeedWithinTypes}
use Rattle.certificate.proofs.ClearLaws.{clear_word, clear_decimal, clear_pairs, clear_signed, clear_side}
use Rattle.certificate.proofs.EntryLaws.{side_again, side_text}
use Rattle.certificate.proofs.NumeralLaws.{natural_again, natural_text, denominator_again, denominator_text}
use Rattle.certificate.proofs.PieceLaws.{Avoids}
use Rattle.certificate.proofs.TokenLaws.{bind_ok, ok_same, not_refused, terms_again, pairs_again, terms_text}
use Rattle.certificate.proofs.LineLaws.{first_text, not-false}

pub need_reads : (subject row cell side den : List ℕ) (pairs : List (List ℕ)) (at : Side) (hidden number primary : ℕ) (divisor : ℤ) (terms : List Term)
    → side_of side ≡ Ok at → list_all is_pair pairs ≡ true → natural_of 0 subject ≡ Ok hidden → natural_of 1 row ≡ Ok number → natural_of 0 cell ≡ Ok primary → denominator_of den ≡ Ok divisor → terms_of pairs ≡ Ok terms
    → ascends (map (λ term. term.0) terms) ≡ true
    → need_by subject row cell side den pairs ≡ Ok (record { subject = hidden; row = number - 1; cell = primary; side = at; multipliers = record { den = divisor; by_relation = terms } })
unfolding need_by
need_reads subject row cell side den pairs at hidden number primary divisor terms is-side shape is-hidden is-row is-primary is-den is-terms order =
    rw (is-side, shape, is-hidden, is-row, is-primary, is-den, is-terms, order) refl

pub need_disordered : (subject row cell side den : List ℕ) (pairs : List (List ℕ)) (at : Side) (hidden number primary : ℕ) (divisor : ℤ) (terms : List Term)
    → side_of side ≡ Ok at → list_all is_pair pairs ≡ true → natural_of 0 subject ≡ Ok hidden → natural_of 1 row ≡ Ok number → natural_of 0 cell ≡ Ok primary → denominator_of den ≡ Ok divisor → terms_of pairs ≡ Ok terms
    → ascends (map (λ term. term.0) terms) ≡ false
    → need_by subject row cell side den pairs ≡ Err Order
unfolding need_by
need_disordered subject row cell side den pairs at hidden number primary divisor terms is-side shape is-hidden is-row is-primary is-den is-terms order =
    rw (is-side, shape, is-hidden, is-row, is-primary, is-den, is-terms, order) refl

pub need_again : (need : ExtraNeed) → IsNeedSpellable need → IsNeedWithinTypes need → need_of (need_arguments need) ≡ Ok need
unfolding need_of
need_again r fine wide =
    let back : r.row + 1 - 1 ≡ r.row = omega arith in
    need_reads (decimal r.subject) (decimal (r.row + 1)) (decimal r.cell) (side_word r.side) (signed_decimal r.multipliers.den) (map pair_token r.multipliers.by_relation) r.side r.subject (r.row + 1) r.cell r.multipliers.den r.multipliers.by_relation
    (side_again r.side) (pairs_again r.multipliers.by_relation) (natural_again 0 r.subject (omega arith) wide.subject) (natural_again 1 (r.row + 1) (omega arith) (omega (arith, fine.row))) (natural_again 0 r.cell (omega arith) wide.cell)
    (denominator_again r.multipliers.den wide.den fine.den) (terms_again r.multipliers.by_relation wide.terms fine.counting) fine.ascending
    ∙ ap (λ (n : ℕ). Ok (record r { row = n })) back

pub record IsNeedRead (tokens : List (List ℕ)) (need : ExtraNeed) : Type 0 where
  pub text : tokens ≡ need_arguments need
  pub fine : IsNeedSpellable need
  pub wide : IsNeedWithinTypes need

five-same : (subject row cell side den : List ℕ) (rest : List (List ℕ)) (subject2 row2 cell2 side2 den2 : List ℕ) (rest2 : List (List ℕ))
    → subject ≡ subject2 → row ≡ row2 → cell ≡ cell2 → side ≡ side2 → den ≡ den2 → rest ≡ rest2 → ◌≡◌ {A = List (List ℕ)} (subject ∷ row ∷ cell ∷ side ∷ den ∷ rest) (subject2 ∷ row2 ∷ cell2 ∷ side2 ∷ den2 ∷ rest2)
five-same subject row cell side den rest subject2 row2 cell2 side2 den2 rest2 a n b c d e = rw (a, n, b, c, d, e) refl

need-by-text : (subject row cell side den : List ℕ) (pairs : List (List ℕ)) (need : ExtraNeed) → need_by subject row cell side den pairs ≡ Ok need → IsNeedRead (subject ∷ row ∷ cell ∷ side ∷ den ∷ pairs) need
unfolding need_by
need-by-text subject row cell side den pairs need h =
    let a = bind_ok (side_of side) _ need h in
    let b = bind_ok (refuse Shape (not (list_all is_pair pairs))) _ need a.2 in
    let c = bind_ok (natural_of 0 subject) _ need b.2 in
    let n = bind_ok (natural_of 1 row) _ need c.2 in
    let d = bind_ok (natural_of 0 cell) _ need n.2 in
    let e = bind_ok (denominator_of den) _ need d.2 in
    let f = bind_ok (terms_of pairs) _ need e.2 in
    let g = bind_ok (refuse Order (not (ascends (map (λ term. term.0) f.0)))) _ need f.2 in
    let hidden = natural_text 0 subject c.0 c.1 in
    let number = natural_text 1 row n.0 n.1 in
    let primary = natural_text 0 cell d.0 d.1 in
    let divisor = denominator_text den e.0 e.1 in
    let back : n.0 - 1 + 1 ≡ n.0 = omega (arith, number.1) in
    let shape = not-false (list_all is_pair pairs) (not_refused Shape (not (list_all is_pair pairs)) b.0 b.1) in
    let terms = terms_text pairs f.0 shape f.1 in
    let made : ExtraNeed = record { subject = c.0; row = n.0 - 1; cell = d.0; side = a.0; multipliers = record { den = e.0; by_relation = f.0 } } in
    subst (λ (r : ExtraNeed). IsNeedRead (subject ∷ row ∷ cell ∷ side ∷ den ∷ pairs) r) (ok_same made need g.2) (record {
      text = five-same subject row cell side den pairs (decimal c.0) (decimal (n.0 - 1 + 1)) (decimal d.0) (side_word a.0) (signed_decimal e.0) (map pair_token f.0) hidden.0 (number.0 ∙ ap decimal (sym back)) primary.0 (side_text side a.0 a.1) divisor.0 terms.0;
      fine = record {
        row = omega (arith, number.1, number.2);
        den = divisor.2;
        ascending = not-false (ascends (map (λ term. term.0) f.0)) (not_refused Order (not (ascends (map (λ term. term.0) f.0))) g.0 g.1);
        counting = terms.2;
      };
      wide = record { subject = hidden.2; cell = primary.2; den = divisor.1; terms = terms.1 };
    })

five-shape : (tokens : List (List ℕ)) (a b c d e : List ℕ × List (List ℕ)) → first_of tokens ≡ Ok a → first_of a.1 ≡ Ok b → first_of b.1 ≡ Ok c → first_of c.1 ≡ Ok d → first_of d.1 ≡ Ok e → tokens ≡ a.0 ∷ b.0 ∷ c.0 ∷ d.0 ∷ e.0 ∷ e.1
five-shape tokens a b c d e h i j k l =
    first_text tokens a h ∙ ap (λ (ts : List (List ℕ)). a.0 ∷ ts) (first_text a.1 b i ∙ ap (λ (ts : List (List ℕ)). b.0 ∷ ts) (first_text b.1 c j ∙ ap (λ (ts : List (List ℕ)). c.0 ∷ ts) (first_text c.1 d k ∙ ap (λ (ts : List (List ℕ)). d.0 ∷ ts) (first_text d.1 e l))))

pub need_text : (tokens : List (List ℕ)) (need : ExtraNeed) → need_of tokens ≡ Ok need → IsNeedRead tokens need
unfolding need_of
need_text tokens need h =
    let a = bind_ok (first_of tokens) _ need h in
    let b = bind_ok (first_of a.0.1) _ need a.2 in
    let c = bind_ok (first_of b.0.1) _ need b.2 in
    let d = bind_ok (first_of c.0.1) _ need c.2 in
    let e = bind_ok (first_of d.0.1) _ need d.2 in
    subst (λ (ts : List (List ℕ)). IsNeedRead ts need) (sym (five-shape tokens a.0 b.0 c.0 d.0 e.0 a.1 b.1 c.1 d.1 e.1)) (need-by-text a.0.0 b.0.0 c.0.0 d.0.0 e.0.0 e.0.1 need e.2)

pub clear_need : (mark : ℕ) (need : ExtraNeed) → mark < 44 → IsNeedSpellable need → IsNeedWithinTypes need → AllByRecursion (Avoids mark) (codes "need" ∷ need_arguments need)
clear_need mark need low fine wide = (
  clear_word mark (codes "need") low refl,
  (
    clear_decimal mark need.subject low wide.subject,
    (
      clear_decimal mark (need.row + 1) low (omega (arith, fine.row)),
      (
        clear_decimal mark need.cell low wide.cell,
        (
          clear_side mark need.side low,
          (clear_signed mark need.multipliers.den low wide.den, clear_pairs mark need.multipliers.by_relation low wide.terms),
        ),
      ),
    ),
  ),
)
