-- Bytes that are read as a certificate are its text.
use Rattle.std.proofs.Common.{◌≡◌, ℕ, ◌+◌, ◌<◌, true, false, cond, List, [], ◌∷◌, ◌++◌, length, map, Result, Ok, Err, refl, ap, ◌∙◌, subst, arith, decimal}
use Rattle.std.specs.Prelude.{codes}
use Rattle.std.specs.List.{AllByRecursion}
use Rattle.sdc_base.specs.Steps.{◌>>=◌}
use Rattle.std.specs.Str.{bytes_eq}
use Rattle.sdc_base.specs.declared.method.Method.{Method}
use Rattle.sdc_base.specs.declared.trail.PlanStep.{PlanStep}
use Rattle.worlds.specs.declared.refuted.Refuted.{Refuted}
use Rattle.certificate.specs.declared.certificate.Certificate.{Certificate}
use Rattle.certificate.specs.declared.certificate.WorldLine.{WorldLine}
use Rattle.certificate.specs.declared.faults.CertWhy.TheVariants as why
use Rattle.certificate.specs.declared.version.Version.{Version}
use Rattle.certificate.specs.declared.version.Version.TheVariants.{One, Two}
use Rattle.certificate.specs.Faults.{at_line}
use Rattle.certificate.specs.Remainder.{Remainder}
use Rattle.certificate.specs.Pieces.{pieces}
use Rattle.certificate.specs.Numerals.{ascends}
use Rattle.certificate.specs.TokenLists.{end_of}
use Rattle.certificate.specs.LineReadings.{hidden_of, step_of, refutation_of, world_of}
use Rattle.certificate.specs.MethodReadings.{method_of, count_of}
use Rattle.certificate.specs.Certificates.{first_line, version_of, first_version, next_line, is_next, item_at, items_from, version_at, hidden_at, end_at, certificate_of}
use Rattle.certificate.specs.Texts.{method_arguments, step_arguments, refutation_arguments, world_arguments}
use Rattle.certificate.specs.Spelling.{FitsIn32Bits, IsTextOf, IsWithinTypes, IsStepSpellable, IsStepWithinTypes, IsRefutationSpellable, IsRefutationWithinTypes, IsWorldSpellable, IsWorldWithinTypes, IsSayable}
use Rattle.certificate.specs.Laws.{HasOneSpelling}
use Rattle.certificate.proofs.EntryLaws.{step_text, refuted_text, world_text}
use Rattle.certificate.proofs.ItemLaws.{line_by, item_at_text, items_text, at-line-ok, AreLinesRead}
use Rattle.certificate.proofs.LineLaws.{method_text, count_text, hidden_text, ended_text}
use Rattle.certificate.proofs.PieceLaws.{equal_bytes}
use Rattle.certificate.proofs.TextLines.{each_holds, end_lines, hidden_line, hidden_lines, all_lines, text_again}
use Rattle.certificate.proofs.TokenLaws.{bind_ok, ok_same}

version-of-text : (line : List ℕ) (version : Version) → version_of line ≡ Ok version → line ≡ first_line version
version-of-text line version h =
    elim (bytes_eq line (first_line One)) as (λ t. bytes_eq line (first_line One) ≡ t → cond t (Ok One) (cond (bytes_eq line (first_line Two)) (Ok Two) (Err why.Version)) ≡ Ok version → line ≡ first_line version) [
      | true ↦ λ is g. equal_bytes line (first_line One) is ∙ ap first_line (ok_same One version g)
      | false ↦ λ no g.
          elim (bytes_eq line (first_line Two)) as (λ t. bytes_eq line (first_line Two) ≡ t → cond t (Ok Two) (Err why.Version) ≡ Ok version → line ≡ first_line version) [
            | true ↦ λ is k. equal_bytes line (first_line Two) is ∙ ap first_line (ok_same Two version k)
            | false ↦ λ other k. absurd cc
          ] refl g
    ] refl h

version-text : (lines : List (List ℕ)) (start : Version × Remainder) → version_at lines ≡ Ok start → lines ≡ first_line start.0 ∷ start.1.lines
unfolding version_at
version-text lines start h =
    let a = bind_ok (at_line 1 (first_version lines)) _ start h in
    let b = bind_ok (next_line 0 lines) _ start a.2 in
    let same : ◌≡◌ {A = Version × Remainder} (a.0, b.0.1) start = ok_same (a.0, b.0.1) start b.2 in
    first-and-rest lines a.0 b.0 (at-line-ok 1 (first_version lines) a.0 a.1) b.1 ∙ ap (λ (p : Version × Remainder). first_line p.0 ∷ p.1.lines) same
  where
    first-and-rest : (lines : List (List ℕ)) (version : Version) (p : List ℕ × Remainder) → first_version lines ≡ Ok version → next_line 0 lines ≡ Ok p → lines ≡ first_line version ∷ p.1.lines
    first-and-rest [] version p first next = absurd cc
    first-and-rest (line ∷ []) version p first next = absurd cc
    first-and-rest ([] ∷ second ∷ lines) version p first next = absurd cc
    first-and-rest ((b ∷ line) ∷ second ∷ lines) version p first next =
        let same : ◌≡◌ {A = List ℕ × Remainder} (b ∷ line, record { given = 0 + 1; lines = second ∷ lines }) p = ok_same (b ∷ line, record { given = 0 + 1; lines = second ∷ lines }) p next in
        ap (λ (l : List ℕ). l ∷ second ∷ lines) (version-of-text (b ∷ line) version first) ∙ ap (λ (q : List ℕ × Remainder). first_line version ∷ q.1.lines) same

pub over-text : (given : ℕ) (lines : List (List ℕ)) (x : Unit {0}) → end_at given lines ≡ Ok x → 0 < length lines → lines ≡ [] ∷ []
over-text given [] x h some = absurd (omega (arith, some))
over-text given ([] ∷ []) x h some = refl
over-text given ([] ∷ line ∷ lines) x h some = absurd cc
over-text given ((b ∷ line) ∷ lines) x h some = absurd cc

-- what is known of the hidden cells that were read
abbrev IsHiddenRead : List (List ℕ) → List ℕ × Remainder → Type 0
IsHiddenRead lines read = (lines ≡ hidden_line read.0 ++ read.1.lines) × (ascends read.0 ≡ true) × AllByRecursion FitsIn32Bits read.0

one-line : (cells : List ℕ) (rest : List (List ℕ)) → 0 < length cells → line_by (codes "hidden") (map decimal cells) ∷ rest ≡ hidden_line cells ++ rest
one-line [] rest some = absurd (omega (arith, some))
one-line (cell ∷ cells) rest some = refl

hidden-at-text : (left : Remainder) (result : List ℕ × Remainder) → hidden_at left ≡ Ok result → IsHiddenRead left.lines result
unfolding hidden_at
hidden-at-text left result h =
    elim (is_next (codes "hidden") left.lines) as (λ t. cond t (item_at (codes "hidden") hidden_of left) (Ok ([], left)) ≡ Ok result → IsHiddenRead left.lines result) [
      | true ↦ λ g.
          let line = item_at_text (codes "hidden") hidden_of left.given left.lines result.0 result.1 g in
          let cells = hidden_text line.tokens result.0 line.is in
          (line.text ∙ ap (λ (ts : List (List ℕ)). line_by (codes "hidden") ts ∷ result.1.lines) cells.0 ∙ one-line result.0 result.1.lines cells.1, cells.2, cells.3)
      | false ↦ λ g. subst (λ (p : List ℕ × Remainder). IsHiddenRead left.lines p) (ok_same ([], left) result g) (refl, refl, tt)
    ] h

abbrev IsStepBoth : PlanStep → Type 0
IsStepBoth s = IsStepSpellable s × IsStepWithinTypes s

abbrev IsRefutedBoth : Refuted → Type 0
IsRefutedBoth r = IsRefutationSpellable r × IsRefutationWithinTypes r

abbrev IsWorldAll : Version → List ℕ → WorldLine → Type 0
IsWorldAll version hidden l = IsWorldSpellable l × IsSayable version hidden l × IsWorldWithinTypes l

refuted-lines : (word : List ℕ) (given : ℕ) (lines : List (List ℕ)) (result : List Refuted × Remainder) → items_from word refutation_of given lines ≡ Ok result → AreLinesRead word refutation_arguments IsRefutedBoth lines result
refuted-lines word given lines result h = items_text word refutation_of refutation_arguments IsRefutedBoth (λ tokens r is. let read = refuted_text tokens r is in (read.text, (read.fine, read.wide))) given lines result h

-- the certificate of parts that were read
abbrev made_of : Method × Remainder → ℕ × Remainder → ℕ × Remainder → List ℕ × Remainder → List PlanStep × Remainder → List Refuted × Remainder → List Refuted × Remainder → List WorldLine × Remainder → Certificate
made_of method cells relations hidden steps repairs needs worlds =
    record { method = method.0; cells = cells.0; relations = relations.0; hidden = hidden.0; steps = steps.0; repairs = repairs.0; needs = needs.0; worlds = worlds.0 }

-- the lines from those of the steps on
lines-behind : (version : Version) (hidden : List ℕ × Remainder) (steps : List PlanStep × Remainder) (repairs needs : List Refuted × Remainder) (worlds : List WorldLine × Remainder)
    → hidden.1.lines ≡ map (λ s. line_by (codes "step") (step_arguments s)) steps.0 ++ steps.1.lines
    → steps.1.lines ≡ map (λ r. line_by (codes "repair") (refutation_arguments r)) repairs.0 ++ repairs.1.lines
    → repairs.1.lines ≡ map (λ r. line_by (codes "need") (refutation_arguments r)) needs.0 ++ needs.1.lines
    → needs.1.lines ≡ map (λ l. line_by (codes "world") (world_arguments version hidden.0 l)) worlds.0 ++ worlds.1.lines
    → worlds.1.lines ≡ end_lines
    → hidden.1.lines ≡ map (λ s. line_by (codes "step") (step_arguments s)) steps.0 ++ (map (λ r. line_by (codes "repair") (refutation_arguments r)) repairs.0 ++ (map (λ r. line_by (codes "need") (refutation_arguments r)) needs.0
    ++ (map (λ l. line_by (codes "world") (world_arguments version hidden.0 l)) worlds.0 ++ end_lines)))
lines-behind version hidden steps repairs needs worlds a b d e f =
    a ∙ ap (λ (ls : List (List ℕ)). map (λ s. line_by (codes "step") (step_arguments s)) steps.0 ++ ls) (
    b ∙ ap (λ (ls : List (List ℕ)). map (λ r. line_by (codes "repair") (refutation_arguments r)) repairs.0 ++ ls) (
    d ∙ ap (λ (ls : List (List ℕ)). map (λ r. line_by (codes "need") (refutation_arguments r)) needs.0 ++ ls) (
    e ∙ ap (λ (ls : List (List ℕ)). map (λ l. line_by (codes "world") (world_arguments version hidden.0 l)) worlds.0 ++ ls) f)))

said-line : (word : List ℕ) (lines tokens said rest behind : List (List ℕ)) → lines ≡ line_by word tokens ∷ rest → tokens ≡ said → rest ≡ behind → lines ≡ line_by word said ∷ behind
said-line word lines tokens said rest behind a b d = a ∙ ap (λ (ts : List (List ℕ)). line_by word ts ∷ rest) b ∙ ap (λ (ls : List (List ℕ)). line_by word said ∷ ls) d

assembled : (bytes : List ℕ) (start : Version × Remainder) (method : Method × Remainder) (cells relations : ℕ × Remainder) (hidden : List ℕ × Remainder) (steps : List PlanStep × Remainder) (repairs needs : List Refuted × Remainder) (worlds : List WorldLine × Remainder)
    (last : Unit {0} × Remainder) (nothing : Unit {0})
    → version_at (pieces 10 bytes) ≡ Ok start → item_at (codes "method") method_of start.1 ≡ Ok method → item_at (codes "cells") count_of method.1 ≡ Ok cells → item_at (codes "relations") count_of cells.1 ≡ Ok relations
    → hidden_at relations.1 ≡ Ok hidden → items_from (codes "step") step_of hidden.1.given hidden.1.lines ≡ Ok steps → items_from (codes "repair") refutation_of steps.1.given steps.1.lines ≡ Ok repairs
    → items_from (codes "need") refutation_of repairs.1.given repairs.1.lines ≡ Ok needs → items_from (codes "world") (world_of start.0 hidden.0) needs.1.given needs.1.lines ≡ Ok worlds
    → item_at (codes "end") end_of worlds.1 ≡ Ok last → end_at last.1.given last.1.lines ≡ Ok nothing
    → IsTextOf bytes (made_of method cells relations hidden steps repairs needs worlds) × IsWithinTypes (made_of method cells relations hidden steps repairs needs worlds)
assembled bytes start method cells relations hidden steps repairs needs worlds last nothing is-start is-method is-cells is-relations is-hidden is-steps is-repairs is-needs is-worlds is-last is-nothing =
    let method-line = item_at_text (codes "method") method_of start.1.given start.1.lines method.0 method.1 is-method in
    let cells-line = item_at_text (codes "cells") count_of method.1.given method.1.lines cells.0 cells.1 is-cells in
    let relations-line = item_at_text (codes "relations") count_of cells.1.given cells.1.lines relations.0 relations.1 is-relations in
    let hidden-line = hidden-at-text relations.1 hidden is-hidden in
    let step-lines = items_text (codes "step") step_of step_arguments IsStepBoth (λ tokens s is. let read = step_text tokens s is in (read.text, (read.fine, read.wide))) hidden.1.given hidden.1.lines steps is-steps in
    let repair-lines = refuted-lines (codes "repair") steps.1.given steps.1.lines repairs is-repairs in
    let need-lines = refuted-lines (codes "need") repairs.1.given repairs.1.lines needs is-needs in
    let world-lines = items_text (codes "world") (world_of start.0 hidden.0) (world_arguments start.0 hidden.0) (IsWorldAll start.0 hidden.0) (λ tokens l is. let read = world_text start.0 hidden.0 tokens l hidden-line.1 hidden-line.2 is in (read.text, (read.fine, read.sayable, read.wide)))
    needs.1.given needs.1.lines worlds is-worlds in
    let end-line = item_at_text (codes "end") end_of worlds.1.given worlds.1.lines last.0 last.1 is-last in
    let method-said = method_text method-line.tokens method.0 method-line.is in
    let cells-said = count_text cells-line.tokens cells.0 cells-line.is in
    let relations-said = count_text relations-line.tokens relations.0 relations-line.is in
    let ends : worlds.1.lines ≡ end_lines =
    end-line.text ∙ ap (λ (ts : List (List ℕ)). line_by (codes "end") ts ∷ last.1.lines) (ended_text end-line.tokens last.0 end-line.is)
    ∙ ap (λ (ls : List (List ℕ)). line_by (codes "end") [] ∷ ls) (over-text last.1.given last.1.lines nothing is-nothing end-line.some) in
    let from-steps = lines-behind start.0 hidden steps repairs needs worlds step-lines.0 repair-lines.0 need-lines.0 world-lines.0 ends in
    let from-hidden = hidden-line.0 ∙ ap (λ (ls : List (List ℕ)). hidden_line hidden.0 ++ ls) from-steps in
    let made = made_of method cells relations hidden steps repairs needs worlds in
    let from-relations = said-line (codes "relations") cells.1.lines relations-line.tokens (decimal relations.0 ∷ []) relations.1.lines (hidden_lines start.0 made) relations-line.text relations-said.0 from-hidden in
    let from-cells = said-line (codes "cells") method.1.lines cells-line.tokens (decimal cells.0 ∷ []) cells.1.lines (line_by (codes "relations") (decimal relations.0 ∷ []) ∷ hidden_lines start.0 made) cells-line.text cells-said.0 from-relations in
    let from-method = said-line (codes "method") start.1.lines method-line.tokens (method_arguments method.0) method.1.lines (line_by (codes "cells") (decimal cells.0 ∷ []) ∷ line_by (codes "relations") (decimal relations.0 ∷ []) ∷ hidden_lines start.0 made) method-line.text method-said.0 from-cells in
    let all : pieces 10 bytes ≡ all_lines start.0 made = version-text (pieces 10 bytes) start is-start ∙ ap (λ (ls : List (List ℕ)). first_line start.0 ∷ ls) from-method in (
      record {
        version = start.0;
        has_text = record {
          spellable = record {
            hidden = hidden-line.1;
            steps = each_holds IsStepBoth IsStepSpellable steps.0 (λ s both. both.0) step-lines.1;
            repairs = each_holds IsRefutedBoth IsRefutationSpellable repairs.0 (λ r both. both.0) repair-lines.1;
            needs = each_holds IsRefutedBoth IsRefutationSpellable needs.0 (λ r both. both.0) need-lines.1;
            worlds = each_holds (IsWorldAll start.0 hidden.0) IsWorldSpellable worlds.0 (λ l all. all.0) world-lines.1;
          };
          sayable = each_holds (IsWorldAll start.0 hidden.0) (IsSayable start.0 hidden.0) worlds.0 (λ l all. all.1) world-lines.1;
        };
        text = text_again start.0 bytes made all;
      },
      record {
        method = method-said.1;
        cells = cells-said.1;
        relations = relations-said.1;
        hidden = hidden-line.2;
        steps = each_holds IsStepBoth IsStepWithinTypes steps.0 (λ s both. both.1) step-lines.1;
        repairs = each_holds IsRefutedBoth IsRefutationWithinTypes repairs.0 (λ r both. both.1) repair-lines.1;
        needs = each_holds IsRefutedBoth IsRefutationWithinTypes needs.0 (λ r both. both.1) need-lines.1;
        worlds = each_holds (IsWorldAll start.0 hidden.0) IsWorldWithinTypes worlds.0 (λ l all. all.2) world-lines.1;
      },
    )

-- with a value that a step gave
pub with_value : {A B F G : Type 0} (r : Result A F) (next : A → Result B F) (y : B) → (r >>= next) ≡ Ok y → ((x : A) → r ≡ Ok x → next x ≡ Ok y → G) → G
with_value (Ok x) next y h go_on = go_on x refl h
with_value (Err why) next y h go_on = absurd cc

abbrev IsSpelt : List ℕ → Certificate → Type 0
IsSpelt bytes m = IsTextOf bytes m × IsWithinTypes m

pub one_spelling : HasOneSpelling
unfolding certificate_of
one_spelling bytes c h =
    with_value {G = IsSpelt bytes c} (version_at (pieces 10 bytes)) _ c h (λ start a h1.
    with_value {G = IsSpelt bytes c} (item_at (codes "method") method_of start.1) _ c h1 (λ method b h2.
    with_value {G = IsSpelt bytes c} (item_at (codes "cells") count_of method.1) _ c h2 (λ cells d h3.
    with_value {G = IsSpelt bytes c} (item_at (codes "relations") count_of cells.1) _ c h3 (λ relations e h4.
    with_value {G = IsSpelt bytes c} (hidden_at relations.1) _ c h4 (λ hidden f h5.
    with_value {G = IsSpelt bytes c} (items_from (codes "step") step_of hidden.1.given hidden.1.lines) _ c h5 (λ steps g h6.
    with_value {G = IsSpelt bytes c} (items_from (codes "repair") refutation_of steps.1.given steps.1.lines) _ c h6 (λ repairs i h7.
    with_value {G = IsSpelt bytes c} (items_from (codes "need") refutation_of repairs.1.given repairs.1.lines) _ c h7 (λ needs j h8.
    with_value {G = IsSpelt bytes c} (items_from (codes "world") (world_of start.0 hidden.0) needs.1.given needs.1.lines) _ c h8 (λ worlds k h9.
    with_value {G = IsSpelt bytes c} (item_at (codes "end") end_of worlds.1) _ c h9 (λ last l h10.
    with_value {G = IsSpelt bytes c} (end_at last.1.given last.1.lines) _ c h10 (λ nothing m same.
    subst (λ (x : Certificate). IsSpelt bytes x) (ok_same (made_of method cells relations hidden steps repairs needs worlds) c same)
    (assembled bytes start method cells relations hidden steps repairs needs worlds last nothing a b d e f g i j k l m))))))))))))
