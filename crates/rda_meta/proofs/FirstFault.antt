-- The first fault.
use Rattle.std.proofs.Common.{◌≡◌, ℕ, zero, suc, ◌+◌, ◌⊎◌, inl, inr, true, false, cond, List, [], ◌∷◌, take, Some, Ok, Err, refl, ap, sym, ◌∙◌, arith}
use Rattle.std.specs.Prelude.{slice_get, find}
use Rattle.sdc_base.specs.Blanks.{trim}
use Rattle.sdc_base.specs.Lines.{lines}
use Rattle.sdc_base.specs.Steps.{◌>>=◌}
use Rattle.rda_meta.specs.Faults.{at_line}
use Rattle.rda_meta.specs.Metadata.{text_says, lines_say, no_clash, no_lines, meta_of}
use Rattle.sdc_base.proofs.StepLemmas.{bind_err}
use Rattle.rda_meta.specs.declared.faults.MetaWhy.{MetaWhy}
use Rattle.rda_meta.specs.declared.faults.MetaWhy.TheVariants.{Clash}
use Rattle.rda_meta.specs.declared.entry.Entry.{Entry}
use Rattle.rda_meta.specs.declared.entry.ReaderProgress.{ReaderProgress}
use Rattle.rda_meta.specs.LineSettings.{is_clashing}
use Rattle.rda_meta.specs.Laws.{IsLineFault, IsClash}

abbrev Faulty : ℕ → ReaderProgress → List (List ℕ) → ℕ → MetaWhy → Type 0
Faulty behind s texts line why =
    (before : ℕ) × (so_far : ReaderProgress) × (text : List ℕ) × (line ≡ behind + before + 1) × (slice_get texts before ≡ Some text)
    × (lines_say behind s (take before texts) ≡ Ok so_far) × (text_says line so_far (trim text) ≡ Err why)

first-fault : (behind : ℕ) (s : ReaderProgress) (texts : List (List ℕ)) (line : ℕ) (why : MetaWhy) → lines_say behind s texts ≡ Err (line, why) → Faulty behind s texts line why
unfolding lines_say
first-fault behind s [] line why h = absurd cc
first-fault behind s (text ∷ texts) line why h =
    elim (text_says (behind + 1) s (trim text)) as (λ r. text_says (behind + 1) s (trim text) ≡ r → (at_line (behind + 1) r >>= λ next. lines_say (behind + 1) next texts) ≡ Err (line, why) → Faulty behind s (text ∷ texts) line why) [
      | Ok next ↦ λ said h.
          let rest = first-fault (behind + 1) next texts line why h in
          (suc rest.0, rest.1, rest.2, omega (arith, rest.3), rest.4, rw said rest.5, rest.6)
      | Err fault ↦ λ said h.
          let pair : ◌≡◌ {A = ℕ × MetaWhy} (line, why) (behind + 1, fault) = cc in
          let at : line ≡ behind + 1 = ap (λ (p : ℕ × MetaWhy). p.0) pair in
          let same : fault ≡ why = sym (ap (λ (p : ℕ × MetaWhy). p.1) pair) in
          (zero, s, text, omega (arith, at), refl, refl, rw at (said ∙ ap Err same))
    ] refl h

first-clash : (es : List Entry) (line : ℕ) (why : MetaWhy) → no_clash es ≡ Err (line, why) → (entry : Entry) × (why ≡ Clash) × (find (λ e. is_clashing e.said) es ≡ Some entry) × (entry.line ≡ line)
unfolding no_clash
first-clash [] line why h = absurd cc
first-clash (e ∷ es) line why h =
    elim (is_clashing e.said) as (λ t. cond t (Err (e.line, Clash)) (no_clash es) ≡ Err (line, why) → (entry : Entry) × (why ≡ Clash) × (cond t (Some e) (find (λ e. is_clashing e.said) es) ≡ Some entry) × (entry.line ≡ line)) [
      | true ↦ λ h.
          let pair : ◌≡◌ {A = ℕ × MetaWhy} (e.line, Clash) (line, why) = cc in
          (e, sym (ap (λ (p : ℕ × MetaWhy). p.1) pair), refl, ap (λ (p : ℕ × MetaWhy). p.0) pair)
      | false ↦ λ h. first-clash es line why h
    ] h

pub in_order : (bytes : List ℕ) (line : ℕ) (why : MetaWhy) → meta_of bytes ≡ Err (line, why) → IsLineFault (lines bytes) line why ⊎ IsClash (lines bytes) line why
unfolding meta_of
in_order bytes line why h =
    elim (bind_err (lines_say 0 no_lines (lines bytes)) _ (line, why) h) [
      | inl failed ↦ inl (let f = first-fault 0 no_lines (lines bytes) line why failed in (f.0, f.1, f.2, omega (arith, f.3), f.4, f.5, f.6))
      | inr (all, said, rest) ↦
          elim (bind_err (no_clash all.entries) _ (line, why) rest) [
            | inl clash ↦ inr (let c = first-clash all.entries line why clash in (all, c.0, c.1, said, c.2, c.3))
            | inr (fine, free, made) ↦ absurd cc
          ]
    ]
