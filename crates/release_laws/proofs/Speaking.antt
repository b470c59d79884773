-- The certificate of a protection speaks of its hidden set, and so is accepted.
use Rattle.std.proofs.Common.{◌≡◌, ℕ, zero, suc, ◌+◌, ◌<◌, ◌≤◌, Bool, true, false, cond, List, [], ◌∷◌, filter, length, map, All, refl, ap, sym, ◌∙◌, subst, arith}
use Rattle.std.specs.List.{range_with_len}
use Rattle.std.proofs.lemmas.List.Elements.{All-nil, All-cons}
use Rattle.sdc_base.specs.HiddenSets.{is_hidden}
use Rattle.sdc_base.specs.declared.side.Side.{Side}
use Rattle.worlds.specs.ProtectFaults.{asked_of}
use Rattle.worlds.specs.Protection.{Protection as HiddenSet}
use Rattle.worlds.specs.declared.world.World.{World}
use Rattle.certificate.specs.declared.certificate.Certificate.{Certificate}
use Rattle.repair.specs.HidingOrder.{Case as HidingCase, protected_case}
use Rattle.repair.specs.KeptWorlds.{AreServed}
use Rattle.cell_protection.specs.Certifying.{certificate_made, hidden_numbers, world_lines}
use Rattle.cell_protection.specs.Protections.{IsProtectedWith}
use Rattle.cert_check.specs.Cases.{IsCase}
use Rattle.cert_check.specs.HiddenSet.{hidden_set}
use Rattle.cert_check.specs.WrittenLaws.{SpeaksOf}
use Rattle.cert_check.specs.declared.case.Case.{Case}
use Rattle.cert_check.proofs.Written.{numbers_give_the_set}
use Rattle.cert_check.proofs.WrittenWhole.{protected_is_accepted}
use Rattle.release_laws.specs.Laws.{ProtectionIsAccepted}

-- numbers of a range that pass a test are below its end
passing-below : (test : ℕ → Bool) (end a n : ℕ) → a + n ≤ end → All (λ number. number < end) (filter test (range_with_len a n))
passing-below test end a zero within = All-nil (λ number. number < end)
passing-below test end a (suc n) within =
    let P : ℕ → Type 0 = λ number. number < end in
    let rest : List ℕ = filter test (range_with_len (a + 1) n) in
    let later : All P rest = passing-below test end (a + 1) n (omega (arith, within)) in
    elim (test a) as (λ b. All P (cond b (a ∷ rest) rest)) [
      | true ↦ All-cons P a rest (omega (arith, within)) later
      | false ↦ later
    ]

-- the numbers of a set's cells give the set
numbers-hide : (flags : List Bool) (count : ℕ) → length flags ≡ count → hidden_set count (hidden_numbers count flags) ≡ flags
numbers-hide flags count each = subst (λ n. hidden_set n (hidden_numbers n flags) ≡ flags) each (numbers_give_the_set flags)

-- each line stands with its question, and has its world
lines-ask : (c : HidingCase) (flags : List Bool) (asked : List (ℕ × Side)) (worlds : List World) → AreServed c flags asked worlds → map (λ line. (line.cell, line.side)) (world_lines asked worlds) ≡ asked
lines-ask c flags [] [] are = refl
lines-ask c flags [] (world ∷ worlds) are = absurd are
lines-ask c flags (one ∷ asked) [] are = absurd are
lines-ask c flags (one ∷ asked) (world ∷ worlds) are = ap (λ (rest : List (ℕ × Side)). one ∷ rest) (lines-ask c flags asked worlds are.1)

lines-show : (c : HidingCase) (flags : List Bool) (asked : List (ℕ × Side)) (worlds : List World) → AreServed c flags asked worlds → map (λ line. line.world) (world_lines asked worlds) ≡ worlds
lines-show c flags [] [] are = refl
lines-show c flags [] (world ∷ worlds) are = absurd are
lines-show c flags (one ∷ asked) [] are = absurd are
lines-show c flags (one ∷ asked) (world ∷ worlds) are = ap (λ (rest : List World). world ∷ rest) (lines-show c flags asked worlds are.1)

-- the certificate of a protection speaks of its hidden set
pub speaks : (case : Case) (tables : List (List ℕ)) (prices : List ℕ) (protected : HiddenSet) (certificate : Certificate) → IsCase case tables
    → IsProtectedWith (protected_case case.system.now case.cells.now) prices case.method case.trail.now.steps protected certificate → SpeaksOf case protected certificate
speaks case tables prices protected certificate fits is =
    let made : Certificate = certificate_made case.method case.system.now case.cells.now protected case.trail.now.steps certificate.repairs certificate.needs in
    let same : certificate ≡ made = is.certificate_is in
    let count : ℕ = case.system.now.cells in
    let each : length protected.hidden.flags ≡ count = is.verdict.0.each_flag ∙ fits.each_cell in
    let hiding : HidingCase = protected_case case.system.now case.cells.now in
    let flags : List Bool = protected.hidden.flags in
    let asked : List (ℕ × Side) = asked_of 0 case.cells.now in
    record {
      of_case = record {
        same_method = ap (λ (c : Certificate). c.method) same;
        same_cells = ap (λ (c : Certificate). c.cells) same;
        same_relations = ap (λ (c : Certificate). c.relations) same;
      };
      hidden_cells = subst (λ (c : Certificate). All (λ number. number < count) c.hidden) (sym same) (passing-below (is_hidden flags) count 0 count (omega arith));
      hidden = ap (λ (c : Certificate). hidden_set count c.hidden) same ∙ numbers-hide flags count each;
      steps = ap (λ (c : Certificate). c.steps) same;
      questions = ap (λ (c : Certificate). map (λ line. (line.cell, line.side)) c.worlds) same ∙ lines-ask hiding flags asked protected.worlds is.verdict.0.served;
      worlds = ap (λ (c : Certificate). map (λ line. line.world) c.worlds) same ∙ lines-show hiding flags asked protected.worlds is.verdict.0.served;
    }

pub protection-is-accepted : ProtectionIsAccepted
protection-is-accepted case tables prices protected certificate fits hides is texts =
    protected_is_accepted case tables prices protected certificate fits hides is.verdict (speaks case tables prices protected certificate fits is) texts
