-- Steps, refutations and complete tables that are written are read again, and those that are read are written so.
use Rattle.std.proofs.Common.{◌≡◌, inl, ℕ, ◌+◌, ◌-◌, ◌<◌, ◌≤◌, ◌==◌, not, true, false, cond, nat_lt, List, [], ◌∷◌, length, map, Ok, Err, ℤ, refl, ap, sym, ◌∙◌, subst, arith, decimal}
use Rattle.std.specs.Fmt.{signed_decimal}
use Rattle.std.specs.List.{AllByRecursion, list_all, join_with_byte}
use Rattle.std.specs.Str.{bytes_eq}
use Rattle.std.proofs.lemmas.List.{length-map}
use Rattle.std.proofs.lemmas.Fmt.{decimal_is_IsNumeral_wide}
use Rattle.sdc_base.specs.Steps.{refuse}
use Rattle.sdc_base.specs.declared.trail.PlanStep.{PlanStep}
use Rattle.sdc_base.specs.declared.side.Side.{Side}
use Rattle.sdc_base.specs.declared.side.Side.TheVariants as side
use Rattle.worlds.specs.declared.refuted.Refuted.{Refuted}
use Rattle.worlds.specs.declared.world.Move.{Move}
use Rattle.certificate.specs.declared.certificate.WorldLine.{WorldLine}
use Rattle.certificate.specs.declared.faults.CertWhy.TheVariants.{Shape, Order}
use Rattle.certificate.specs.Pieces.{pieces}
use Rattle.certificate.specs.Numerals.{natural_of, denominator_of, ascends}
use Rattle.certificate.specs.declared.version.Version.{Version}
use Rattle.certificate.specs.declared.version.Version.TheVariants.{One, Two}
use Rattle.certificate.specs.TokenLists.{first_of, only_of, token_numbers, is_pair, terms_of, have_form, moves_by}
use Rattle.sdc_base.specs.Sides.{side_word}
use Rattle.certificate.specs.LineReadings.{step_by, step_of, side_of, refutation_by, refutation_of, world_by, world_of}
use Rattle.certificate.specs.Texts.{comma_list, step_arguments, pair_token, refutation_arguments, move_tokens, world_arguments}
use Rattle.certificate.specs.Spelling.{FitsIn32Bits, IsStepSpellable, IsRefutationSpellable, IsWorldSpellable, IsSayable, IsStepWithinTypes, IsRefutationWithinTypes, IsWorldWithinTypes}
use Rattle.certificate.proofs.LineReads.{refutation_reads}
use Rattle.certificate.proofs.LineSteps.{pieces-some}
use Rattle.certificate.proofs.NumeralLaws.{natural_again, natural_text, denominator_again, denominator_text, decimal_apart}
use Rattle.certificate.proofs.PieceLaws.{Avoids, equal_bytes, pieces_joined, joined_again}
use Rattle.certificate.proofs.TokenLaws.{bind_ok, ok_same, not_refused, numbers_again, numbers_text, terms_again, pairs_again, terms_text}
use Rattle.certificate.proofs.MoveLaws.{AreSayable, form_again, moves_by_again, moves_by_text}
use Rattle.certificate.proofs.LineLaws.{first_text, only_text, not-false}

-- ---- lists with commas

no-comma : (numbers : List ℕ) → AllByRecursion FitsIn32Bits numbers → AllByRecursion (Avoids 44) (map decimal numbers)
no-comma [] h = tt
no-comma (n ∷ numbers) h = (decimal_apart 44 n (omega (arith, h.0)) (inl (omega arith)), no-comma numbers h.1)

listed_cut : (numbers : List ℕ) → 0 < length numbers → AllByRecursion FitsIn32Bits numbers → pieces 44 (comma_list numbers) ≡ map decimal numbers
listed_cut [] some h = absurd (omega (arith, some))
listed_cut (n ∷ numbers) some h = pieces_joined 44 (decimal n) (map decimal numbers) (no-comma (n ∷ numbers) h)

not-none : (n : ℕ) → 0 < n → (n == 0) ≡ false
not-none n h = grind arith

joined-some : (mark : ℕ) (first : List ℕ) (others : List (List ℕ)) → 0 < length first → 0 < length (join_with_byte mark (first ∷ others))
joined-some mark first [] h = h
joined-some mark [] (second ∷ others) h = absurd (omega (arith, h))
joined-some mark (b ∷ first) (second ∷ others) h = omega arith

listed_some : (numbers : List ℕ) → 0 < length numbers → AllByRecursion FitsIn32Bits numbers → (length (comma_list numbers) == 0) ≡ false
listed_some [] some h = absurd (omega (arith, some))
listed_some (n ∷ numbers) some h = not-none (length (comma_list (n ∷ numbers))) (joined-some 44 (decimal n) (map decimal numbers) (decimal_is_IsNumeral_wide n (omega (arith, h.0))).0.0)

not-past : (n : ℕ) → n ≤ 8 → nat_lt 8 n ≡ false
not-past n h = grind arith

not-past-of : (n : ℕ) → nat_lt 8 n ≡ false → n ≤ 8
not-past-of n h = grind arith

-- ---- steps

step_reads : (table parents cell corners : List ℕ) (number centre : ℕ) (places others : List ℕ)
    → (length parents == 0) ≡ false → nat_lt 8 (length (pieces 44 parents)) ≡ false → (length corners == 0) ≡ false → natural_of 1 table ≡ Ok number → token_numbers (pieces 44 parents) ≡ Ok places
    → natural_of 0 cell ≡ Ok centre → token_numbers (pieces 44 corners) ≡ Ok others → ascends others ≡ true
    → step_by table parents cell corners ≡ Ok (record { table = number - 1; parents = places; cell = centre; corners = others })
unfolding step_by
step_reads table parents cell corners number centre places others some few any is-table is-places is-cell is-others up = rw (some, few, any, is-table, is-places, is-cell, is-others, up) refl

pub step_again : (step : PlanStep) → IsStepSpellable step → IsStepWithinTypes step → step_of (step_arguments step) ≡ Ok step
unfolding step_of only_of
step_again step fine wide =
    let cut = listed_cut step.parents fine.has_parent wide.parents in
    let others = listed_cut step.corners fine.has_corner wide.corners in
    let few : nat_lt 8 (length (pieces 44 (comma_list step.parents))) ≡ false = rw cut (not-past (length (map decimal step.parents)) (omega (arith, length-map step.parents decimal, fine.at_most_8_parents))) in
    let back : step.table + 1 - 1 ≡ step.table = omega arith in
    step_reads (decimal (step.table + 1)) (comma_list step.parents) (decimal step.cell) (comma_list step.corners) (step.table + 1) step.cell step.parents step.corners
    (listed_some step.parents fine.has_parent wide.parents) few (listed_some step.corners fine.has_corner wide.corners)
    (natural_again 1 (step.table + 1) (omega arith) (omega (arith, fine.table))) (rw cut (numbers_again step.parents wide.parents)) (natural_again 0 step.cell (omega arith) wide.cell)
    (rw others (numbers_again step.corners wide.corners)) fine.ascending
    ∙ ap (λ (n : ℕ). Ok (record step { table = n })) back

pub record IsStepRead (tokens : List (List ℕ)) (step : PlanStep) : Type 0 where
  pub text : tokens ≡ step_arguments step
  pub fine : IsStepSpellable step
  pub wide : IsStepWithinTypes step

step-by-text : (table parents cell corners : List ℕ) (step : PlanStep) → step_by table parents cell corners ≡ Ok step → IsStepRead (table ∷ parents ∷ cell ∷ corners ∷ []) step
unfolding step_by
step-by-text table parents cell corners step h =
    let a = bind_ok (refuse Shape (length parents == 0)) _ step h in
    let b = bind_ok (refuse Shape (nat_lt 8 (length (pieces 44 parents)))) _ step a.2 in
    let c = bind_ok (refuse Shape (length corners == 0)) _ step b.2 in
    let d = bind_ok (natural_of 1 table) _ step c.2 in
    let e = bind_ok (token_numbers (pieces 44 parents)) _ step d.2 in
    let f = bind_ok (natural_of 0 cell) _ step e.2 in
    let g = bind_ok (token_numbers (pieces 44 corners)) _ step f.2 in
    let k = bind_ok (refuse Order (not (ascends g.0))) _ step g.2 in
    let number = natural_text 1 table d.0 d.1 in
    let places = numbers_text (pieces 44 parents) e.0 e.1 in
    let centre = natural_text 0 cell f.0 f.1 in
    let others = numbers_text (pieces 44 corners) g.0 g.1 in
    let back : d.0 - 1 + 1 ≡ d.0 = omega (arith, number.1) in
    let few = not-past-of (length (pieces 44 parents)) (not_refused Shape (nat_lt 8 (length (pieces 44 parents))) b.0 b.1) in
    let made : PlanStep = record { table = d.0 - 1; parents = e.0; cell = f.0; corners = g.0 } in
    subst (λ (s : PlanStep). IsStepRead (table ∷ parents ∷ cell ∷ corners ∷ []) s) (ok_same made step k.2) (record {
      text =
          ap (λ (t : List ℕ). t ∷ parents ∷ cell ∷ corners ∷ []) (number.0 ∙ ap decimal (sym back))
          ∙ ap (λ (t : List ℕ). decimal (d.0 - 1 + 1) ∷ t ∷ cell ∷ corners ∷ []) (joined_again 44 parents (map decimal e.0) places.0)
          ∙ ap (λ (t : List ℕ). decimal (d.0 - 1 + 1) ∷ comma_list e.0 ∷ t ∷ corners ∷ []) centre.0
          ∙ ap (λ (t : List ℕ). decimal (d.0 - 1 + 1) ∷ comma_list e.0 ∷ decimal f.0 ∷ t ∷ []) (joined_again 44 corners (map decimal g.0) others.0);
      fine = record {
        table = omega (arith, number.1, number.2);
        has_parent = omega (arith, pieces-some 44 parents, ap length places.0, length-map e.0 decimal);
        at_most_8_parents = omega (arith, few, ap length places.0, length-map e.0 decimal);
        has_corner = omega (arith, pieces-some 44 corners, ap length others.0, length-map g.0 decimal);
        ascending = not-false (ascends g.0) (not_refused Order (not (ascends g.0)) k.0 k.1);
      };
      wide = record { parents = places.1; cell = centre.2; corners = others.1 };
    })

pub step_text : (tokens : List (List ℕ)) (step : PlanStep) → step_of tokens ≡ Ok step → IsStepRead tokens step
unfolding step_of
step_text tokens step h =
    let a = bind_ok (first_of tokens) _ step h in
    let b = bind_ok (first_of a.0.1) _ step a.2 in
    let c = bind_ok (first_of b.0.1) _ step b.2 in
    let d = bind_ok (only_of c.0.1) _ step c.2 in
    let shape : tokens ≡ a.0.0 ∷ b.0.0 ∷ c.0.0 ∷ d.0 ∷ [] =
    first_text tokens a.0 a.1 ∙ ap (λ (ts : List (List ℕ)). a.0.0 ∷ ts) (first_text a.0.1 b.0 b.1 ∙ ap (λ (ts : List (List ℕ)). b.0.0 ∷ ts) (first_text b.0.1 c.0 c.1 ∙ ap (λ (ts : List (List ℕ)). c.0.0 ∷ ts) (only_text c.0.1 d.0 d.1))) in
    subst (λ (ts : List (List ℕ)). IsStepRead ts step) (sym shape) (step-by-text a.0.0 b.0.0 c.0.0 d.0 step d.2)

-- ---- sides

pub side_again : (s : Side) → side_of (side_word s) ≡ Ok s
side_again side.Above = refl
side_again side.Below = refl

pub side_text : (word : List ℕ) (s : Side) → side_of word ≡ Ok s → word ≡ side_word s
side_text word s h =
    elim (bytes_eq word (side_word side.Above)) as (λ t. bytes_eq word (side_word side.Above) ≡ t → cond t (Ok side.Above) (cond (bytes_eq word (side_word side.Below)) (Ok side.Below) (Err Shape)) ≡ Ok s → word ≡ side_word s) [
      | true ↦ λ is g. equal_bytes word (side_word side.Above) is ∙ ap side_word (ok_same side.Above s g)
      | false ↦ λ no g.
          elim (bytes_eq word (side_word side.Below)) as (λ t. bytes_eq word (side_word side.Below) ≡ t → cond t (Ok side.Below) (Err Shape) ≡ Ok s → word ≡ side_word s) [
            | true ↦ λ is k. equal_bytes word (side_word side.Below) is ∙ ap side_word (ok_same side.Below s k)
            | false ↦ λ other k. absurd cc
          ] refl g
    ] refl h

-- ---- refutations

pub refuted_again : (refuted : Refuted) → IsRefutationSpellable refuted → IsRefutationWithinTypes refuted → refutation_of (refutation_arguments refuted) ≡ Ok refuted
unfolding refutation_of
refuted_again r fine wide =
    refutation_reads (decimal r.subject) (decimal r.cell) (side_word r.side) (signed_decimal r.multipliers.den) (map pair_token r.multipliers.by_relation) r.side r.subject r.cell r.multipliers.den r.multipliers.by_relation
    (side_again r.side) (pairs_again r.multipliers.by_relation) (natural_again 0 r.subject (omega arith) wide.subject) (natural_again 0 r.cell (omega arith) wide.cell)
    (denominator_again r.multipliers.den wide.den fine.den) (terms_again r.multipliers.by_relation wide.terms fine.counting) fine.ascending

pub record IsRefutedRead (tokens : List (List ℕ)) (refuted : Refuted) : Type 0 where
  pub text : tokens ≡ refutation_arguments refuted
  pub fine : IsRefutationSpellable refuted
  pub wide : IsRefutationWithinTypes refuted

-- four tokens and those behind them
four-same : (subject cell side den : List ℕ) (rest : List (List ℕ)) (subject2 cell2 side2 den2 : List ℕ) (rest2 : List (List ℕ))
    → subject ≡ subject2 → cell ≡ cell2 → side ≡ side2 → den ≡ den2 → rest ≡ rest2 → ◌≡◌ {A = List (List ℕ)} (subject ∷ cell ∷ side ∷ den ∷ rest) (subject2 ∷ cell2 ∷ side2 ∷ den2 ∷ rest2)
four-same subject cell side den rest subject2 cell2 side2 den2 rest2 a b c d e = rw (a, b, c, d, e) refl

refuted-by-text : (subject cell side den : List ℕ) (pairs : List (List ℕ)) (refuted : Refuted) → refutation_by subject cell side den pairs ≡ Ok refuted → IsRefutedRead (subject ∷ cell ∷ side ∷ den ∷ pairs) refuted
unfolding refutation_by
refuted-by-text subject cell side den pairs refuted h =
    let a = bind_ok (side_of side) _ refuted h in
    let b = bind_ok (refuse Shape (not (list_all is_pair pairs))) _ refuted a.2 in
    let c = bind_ok (natural_of 0 subject) _ refuted b.2 in
    let d = bind_ok (natural_of 0 cell) _ refuted c.2 in
    let e = bind_ok (denominator_of den) _ refuted d.2 in
    let f = bind_ok (terms_of pairs) _ refuted e.2 in
    let g = bind_ok (refuse Order (not (ascends (map (λ term. term.0) f.0)))) _ refuted f.2 in
    let hidden = natural_text 0 subject c.0 c.1 in
    let primary = natural_text 0 cell d.0 d.1 in
    let divisor = denominator_text den e.0 e.1 in
    let shape = not-false (list_all is_pair pairs) (not_refused Shape (not (list_all is_pair pairs)) b.0 b.1) in
    let terms = terms_text pairs f.0 shape f.1 in
    let made : Refuted = record { subject = c.0; cell = d.0; side = a.0; multipliers = record { den = e.0; by_relation = f.0 } } in
    subst (λ (r : Refuted). IsRefutedRead (subject ∷ cell ∷ side ∷ den ∷ pairs) r) (ok_same made refuted g.2) (record {
      text = four-same subject cell side den pairs (decimal c.0) (decimal d.0) (side_word a.0) (signed_decimal e.0) (map pair_token f.0) hidden.0 primary.0 (side_text side a.0 a.1) divisor.0 terms.0;
      fine = record {
        den = divisor.2;
        ascending = not-false (ascends (map (λ term. term.0) f.0)) (not_refused Order (not (ascends (map (λ term. term.0) f.0))) g.0 g.1);
        counting = terms.2;
      };
      wide = record { subject = hidden.2; cell = primary.2; den = divisor.1; terms = terms.1 };
    })

four-shape : (tokens : List (List ℕ)) (a b c d : List ℕ × List (List ℕ)) → first_of tokens ≡ Ok a → first_of a.1 ≡ Ok b → first_of b.1 ≡ Ok c → first_of c.1 ≡ Ok d → tokens ≡ a.0 ∷ b.0 ∷ c.0 ∷ d.0 ∷ d.1
four-shape tokens a b c d h i j k =
    first_text tokens a h ∙ ap (λ (ts : List (List ℕ)). a.0 ∷ ts) (first_text a.1 b i ∙ ap (λ (ts : List (List ℕ)). b.0 ∷ ts) (first_text b.1 c j ∙ ap (λ (ts : List (List ℕ)). c.0 ∷ ts) (first_text c.1 d k)))

pub refuted_text : (tokens : List (List ℕ)) (refuted : Refuted) → refutation_of tokens ≡ Ok refuted → IsRefutedRead tokens refuted
unfolding refutation_of
refuted_text tokens refuted h =
    let a = bind_ok (first_of tokens) _ refuted h in
    let b = bind_ok (first_of a.0.1) _ refuted a.2 in
    let c = bind_ok (first_of b.0.1) _ refuted b.2 in
    let d = bind_ok (first_of c.0.1) _ refuted c.2 in
    subst (λ (ts : List (List ℕ)). IsRefutedRead ts refuted) (sym (four-shape tokens a.0 b.0 c.0 d.0 a.1 b.1 c.1 d.1)) (refuted-by-text a.0.0 b.0.0 c.0.0 d.0.0 d.0.1 refuted d.2)

-- ---- complete tables

world_reads : (version : Version) (hidden : List ℕ) (cell side den : List ℕ) (tokens : List (List ℕ)) (at : Side) (primary : ℕ) (divisor : ℤ) (moves : List Move)
    → side_of side ≡ Ok at → have_form version hidden tokens ≡ true → natural_of 0 cell ≡ Ok primary → denominator_of den ≡ Ok divisor → moves_by version hidden tokens ≡ Ok moves
    → world_by version hidden cell side den tokens ≡ Ok (record { cell = primary; side = at; world = record { den = divisor; moves = moves } })
unfolding world_by
world_reads version hidden cell side den tokens at primary divisor moves is-side form is-cell is-den is-moves = rw (is-side, form, is-cell, is-den, is-moves) refl

sayable-moves : (version : Version) (hidden : List ℕ) (line : WorldLine) → IsSayable version hidden line → AreSayable version hidden line.world.moves
sayable-moves One hidden line sayable = sayable
sayable-moves Two hidden line sayable = tt

pub world_again : (version : Version) (hidden : List ℕ) (line : WorldLine) → ascends hidden ≡ true → IsWorldSpellable line → IsSayable version hidden line → IsWorldWithinTypes line
    → world_of version hidden (world_arguments version hidden line) ≡ Ok line
unfolding world_of
world_again version hidden line up fine sayable wide =
    world_reads version hidden (decimal line.cell) (side_word line.side) (signed_decimal line.world.den) (move_tokens version hidden line.world.moves) line.side line.cell line.world.den line.world.moves
    (side_again line.side) (form_again version hidden line.world.moves) (natural_again 0 line.cell (omega arith) wide.cell) (denominator_again line.world.den wide.den fine.den)
    (moves_by_again version hidden line.world.moves up fine.ascending (sayable-moves version hidden line sayable) fine.moving wide.moves)

pub record IsWorldRead (version : Version) (hidden : List ℕ) (tokens : List (List ℕ)) (line : WorldLine) : Type 0 where
  pub text : tokens ≡ world_arguments version hidden line
  pub fine : IsWorldSpellable line
  pub sayable : IsSayable version hidden line
  pub wide : IsWorldWithinTypes line

sayable-line : (version : Version) (hidden : List ℕ) (line : WorldLine) → AreSayable version hidden line.world.moves → IsSayable version hidden line
sayable-line One hidden line sayable = sayable
sayable-line Two hidden line sayable = tt

world-by-text : (version : Version) (hidden : List ℕ) (cell side den : List ℕ) (tokens : List (List ℕ)) (line : WorldLine) → ascends hidden ≡ true → AllByRecursion FitsIn32Bits hidden
    → world_by version hidden cell side den tokens ≡ Ok line → IsWorldRead version hidden (cell ∷ side ∷ den ∷ tokens) line
unfolding world_by
world-by-text version hidden cell side den tokens line up short h =
    let a = bind_ok (side_of side) _ line h in
    let b = bind_ok (refuse Shape (not (have_form version hidden tokens))) _ line a.2 in
    let c = bind_ok (natural_of 0 cell) _ line b.2 in
    let d = bind_ok (denominator_of den) _ line c.2 in
    let e = bind_ok (moves_by version hidden tokens) _ line d.2 in
    let primary = natural_text 0 cell c.0 c.1 in
    let divisor = denominator_text den d.0 d.1 in
    let form = not-false (have_form version hidden tokens) (not_refused Shape (not (have_form version hidden tokens)) b.0 b.1) in
    let moves = moves_by_text version hidden tokens e.0 up short form e.1 in
    let made : WorldLine = record { cell = c.0; side = a.0; world = record { den = d.0; moves = e.0 } } in
    subst (λ (w : WorldLine). IsWorldRead version hidden (cell ∷ side ∷ den ∷ tokens) w) (ok_same made line e.2) (record {
      text = ap (λ (ts : List (List ℕ)). ts) (three cell side den tokens (decimal c.0) (side_word a.0) (signed_decimal d.0) (move_tokens version hidden e.0) primary.0 (side_text side a.0 a.1) divisor.0 moves.text);
      fine = record { den = divisor.2; ascending = moves.ascending; moving = moves.moving };
      sayable = sayable-line version hidden made moves.sayable;
      wide = record { cell = primary.2; den = divisor.1; moves = moves.wide };
    })
  where
    three : (cell side den : List ℕ) (rest : List (List ℕ)) (cell2 side2 den2 : List ℕ) (rest2 : List (List ℕ)) → cell ≡ cell2 → side ≡ side2 → den ≡ den2 → rest ≡ rest2
        → ◌≡◌ {A = List (List ℕ)} (cell ∷ side ∷ den ∷ rest) (cell2 ∷ side2 ∷ den2 ∷ rest2)
    three cell side den rest cell2 side2 den2 rest2 a b c d = rw (a, b, c, d) refl

pub world_text : (version : Version) (hidden : List ℕ) (tokens : List (List ℕ)) (line : WorldLine) → ascends hidden ≡ true → AllByRecursion FitsIn32Bits hidden → world_of version hidden tokens ≡ Ok line
    → IsWorldRead version hidden tokens line
unfolding world_of
world_text version hidden tokens line up short h =
    let a = bind_ok (first_of tokens) _ line h in
    let b = bind_ok (first_of a.0.1) _ line a.2 in
    let c = bind_ok (first_of b.0.1) _ line b.2 in
    let shape : tokens ≡ a.0.0 ∷ b.0.0 ∷ c.0.0 ∷ c.0.1 = first_text tokens a.0 a.1 ∙ ap (λ (ts : List (List ℕ)). a.0.0 ∷ ts) (first_text a.0.1 b.0 b.1 ∙ ap (λ (ts : List (List ℕ)). b.0.0 ∷ ts) (first_text b.0.1 c.0 c.1)) in
    subst (λ (ts : List (List ℕ)). IsWorldRead version hidden ts line) (sym shape) (world-by-text version hidden a.0.0 b.0.0 c.0.0 c.0.1 line up short c.2)
