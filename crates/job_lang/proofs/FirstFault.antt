-- The first fault.
use Rattle.std.proofs.Common.{◌≡◌, ℕ, zero, suc, ◌+◌, ◌⊎◌, inl, inr, Bool, true, false, cond, List, [], ◌∷◌, length, take, Option, None, Some, Result, Ok, Err, refl, ap, sym, ◌∙◌, arith}
use Rattle.std.specs.Prelude.{slice_get, find, is_none, ◌==◌, ◌||◌}
use Rattle.std.specs.List.{list_any}
use Rattle.sdc_base.specs.Blanks.{trim}
use Rattle.sdc_base.specs.Lines.{lines}
use Rattle.sdc_base.specs.Steps.{◌>>=◌, refuse}
use Rattle.sdc_base.proofs.StepLemmas.{bind_err, bind_ok}
use Rattle.job_lang.specs.declared.faults.JobWhy.{JobWhy}
use Rattle.job_lang.specs.declared.faults.JobWhy.TheVariants.{BadValue, NoSuchTable, NotInTable, SameName, Missing}
use Rattle.job_lang.specs.declared.faults.Command.{Command}
use Rattle.job_lang.specs.declared.faults.Command.TheVariants as command
use Rattle.job_lang.specs.declared.job.OutputLine.{OutputLine}
use Rattle.job_lang.specs.declared.job.TableLine.{TableLine}
use Rattle.job_lang.specs.declared.statement.Keyword.TheVariants as keyword
use Rattle.job_lang.specs.declared.statement.Statement.{Statement}
use Rattle.job_lang.specs.declared.statement.Draft.{Draft}
use Rattle.job_lang.specs.Faults.{at_line}
use Rattle.job_lang.specs.Statements.{text_says, lines_say, empty_draft}
use Rattle.job_lang.specs.ClosingLooks.{statement_by, file_line, rules_line, method_of, output_said}
use Rattle.job_lang.specs.MissingCommands.{needed_value, output_of_table, outputs_from}
use Rattle.job_lang.specs.FilesApart.{is_astray, no_stray, puts_shared_file, no_same_name}
use Rattle.job_lang.specs.SpannedDepths.{is_outside, no_outside}
use Rattle.job_lang.specs.RoundedContributors.{unless_line, no_rounded_contributors}
use Rattle.job_lang.specs.Jobs.{job_made, closed_job, job_of}
use Rattle.job_lang.specs.Laws.{IsLineFault, lacks_output, lacks_command, must_have, rounds, has_unfit_line, IsUnfitLine, IsFirstStray, IsFirstOutside, IsFirstMeeting, IsFirstLack}
use Rattle.job_lang.proofs.Known.{not_refused}

-- ---- lines

abbrev Faulty : ℕ → Draft → List (List ℕ) → ℕ → JobWhy → Type 0
Faulty behind d texts line why =
    (before : ℕ) × (draft : Draft) × (text : List ℕ) × (line ≡ behind + before + 1) × (slice_get texts before ≡ Some text)
    × (lines_say behind d (take before texts) ≡ Ok draft) × (text_says line draft (trim text) ≡ Err why)

line_fault : (behind : ℕ) (d : Draft) (texts : List (List ℕ)) (line : ℕ) (why : JobWhy) → lines_say behind d texts ≡ Err (line, why) → Faulty behind d texts line why
unfolding lines_say
line_fault behind d [] line why h = absurd cc
line_fault behind d (text ∷ texts) line why h =
    elim (text_says (behind + 1) d (trim text)) as (λ r. text_says (behind + 1) d (trim text) ≡ r → (at_line (behind + 1) r >>= λ next. lines_say (behind + 1) next texts) ≡ Err (line, why) → Faulty behind d (text ∷ texts) line why) [
      | Ok next ↦ λ said h.
          let rest = line_fault (behind + 1) next texts line why h in
          (suc rest.0, rest.1, rest.2, omega (arith, rest.3), rest.4, rw said rest.5, rest.6)
      | Err fault ↦ λ said h.
          let pair : ◌≡◌ {A = ℕ × JobWhy} (line, why) (behind + 1, fault) = cc in
          let at : line ≡ behind + 1 = ap (λ (p : ℕ × JobWhy). p.0) pair in
          let same : fault ≡ why = sym (ap (λ (p : ℕ × JobWhy). p.1) pair) in
          (zero, d, text, omega (arith, at), refl, refl, rw at (said ∙ ap Err same))
    ] refl h

pair_of : (line at : ℕ) (why fault : JobWhy) → ◌≡◌ {A = Result (Unit {0}) (ℕ × JobWhy)} (Err (at, fault)) (Err (line, why)) → (line ≡ at) × (why ≡ fault)
pair_of line at why fault h =
    let pair : ◌≡◌ {A = ℕ × JobWhy} (line, why) (at, fault) = cc in
    (ap (λ (p : ℕ × JobWhy). p.0) pair, ap (λ (p : ℕ × JobWhy). p.1) pair)

-- ---- the contributors' file of a job that rounds

unfit_by : (draft : Draft) (r : Bool) (o : Option Statement) (line : ℕ) (why : JobWhy) → rounds draft ≡ r → statement_by keyword.Contributors draft.said ≡ o → unless_line r o ≡ Err (line, why) → IsUnfitLine draft line why
unfit_by draft true (Some s) line why rounding found h = let both = pair_of line s.line why BadValue h in (s, rounding, found, both.0, both.1)
unfit_by draft true None line why rounding found h = absurd cc
unfit_by draft false o line why rounding found h = absurd cc

unfit_fault : (draft : Draft) (line : ℕ) (why : JobWhy) → no_rounded_contributors draft.said ≡ Err (line, why) → IsUnfitLine draft line why
unfolding no_rounded_contributors
unfit_fault draft line why h = unfit_by draft (rounds draft) (statement_by keyword.Contributors draft.said) line why refl refl h

fit_by : (draft : Draft) (r : Bool) (o : Option Statement) (t : Unit {0}) → rounds draft ≡ r → statement_by keyword.Contributors draft.said ≡ o → unless_line r o ≡ Ok t → has_unfit_line draft ≡ false
fit_by draft true (Some s) t rounding found h = absurd cc
fit_by draft true None t rounding found h = rw (rounding, found) refl
fit_by draft false o t rounding found h = rw rounding refl

all_fit : (draft : Draft) (t : Unit {0}) → no_rounded_contributors draft.said ≡ Ok t → has_unfit_line draft ≡ false
unfolding no_rounded_contributors
all_fit draft t h = fit_by draft (rounds draft) (statement_by keyword.Contributors draft.said) t refl refl h

-- ---- numbers of tables and names

stray_fault : (count : ℕ) (said : List Statement) (line : ℕ) (why : JobWhy) → no_stray count said ≡ Err (line, why) → (s : Statement) × (find (λ s. is_astray count s.said) said ≡ Some s) × (line ≡ s.line) × (why ≡ NoSuchTable)
unfolding no_stray
stray_fault count [] line why h = absurd cc
stray_fault count (s ∷ rest) line why h =
    elim (is_astray count s.said) as (λ t. cond t (Err (s.line, NoSuchTable)) (no_stray count rest) ≡ Err (line, why) → (x : Statement) × (cond t (Some s) (find (λ s. is_astray count s.said) rest) ≡ Some x) × (line ≡ x.line) × (why ≡ NoSuchTable)) [
      | true ↦ λ g. let both = pair_of line s.line why NoSuchTable g in (s, refl, both.0, both.1)
      | false ↦ λ g. stray_fault count rest line why g
    ] h

pub no_strays : (count : ℕ) (said : List Statement) (t : Unit {0}) → no_stray count said ≡ Ok t → list_any (λ s. is_astray count s.said) said ≡ false
unfolding no_stray
no_strays count [] t h = refl
no_strays count (s ∷ rest) t h =
    elim (is_astray count s.said) as (λ b. cond b (Err (s.line, NoSuchTable)) (no_stray count rest) ≡ Ok t → (b || list_any (λ s. is_astray count s.said) rest) ≡ false) [
      | true ↦ λ g. absurd cc
      | false ↦ λ g. no_strays count rest t g
    ] h

outside_fault : (tables : List TableLine) (said : List Statement) (line : ℕ) (why : JobWhy) → no_outside tables said ≡ Err (line, why)
    → (s : Statement) × (find (λ s. is_outside tables s.said) said ≡ Some s) × (line ≡ s.line) × (why ≡ NotInTable)
unfolding no_outside
outside_fault tables [] line why h = absurd cc
outside_fault tables (s ∷ rest) line why h =
    elim (is_outside tables s.said) as (λ t. cond t (Err (s.line, NotInTable)) (no_outside tables rest) ≡ Err (line, why) → (x : Statement) × (cond t (Some s) (find (λ s. is_outside tables s.said) rest) ≡ Some x) × (line ≡ x.line) × (why ≡ NotInTable)) [
      | true ↦ λ g. let both = pair_of line s.line why NotInTable g in (s, refl, both.0, both.1)
      | false ↦ λ g. outside_fault tables rest line why g
    ] h

pub none_outside : (tables : List TableLine) (said : List Statement) (t : Unit {0}) → no_outside tables said ≡ Ok t → list_any (λ s. is_outside tables s.said) said ≡ false
unfolding no_outside
none_outside tables [] t h = refl
none_outside tables (s ∷ rest) t h =
    elim (is_outside tables s.said) as (λ b. cond b (Err (s.line, NotInTable)) (no_outside tables rest) ≡ Ok t → (b || list_any (λ s. is_outside tables s.said) rest) ≡ false) [
      | true ↦ λ g. absurd cc
      | false ↦ λ g. none_outside tables rest t g
    ] h

shared_fault : (all said : List Statement) (line : ℕ) (why : JobWhy) → no_same_name all said ≡ Err (line, why) → (s : Statement) × (find (λ s. puts_shared_file all s.said) said ≡ Some s) × (line ≡ s.line) × (why ≡ SameName)
unfolding no_same_name
shared_fault all [] line why h = absurd cc
shared_fault all (s ∷ rest) line why h =
    elim (puts_shared_file all s.said) as (λ t. cond t (Err (s.line, SameName)) (no_same_name all rest) ≡ Err (line, why) → (x : Statement) × (cond t (Some s) (find (λ s. puts_shared_file all s.said) rest) ≡ Some x) × (line ≡ x.line) × (why ≡ SameName)) [
      | true ↦ λ g. let both = pair_of line s.line why SameName g in (s, refl, both.0, both.1)
      | false ↦ λ g. shared_fault all rest line why g
    ] h

pub no_shared_file : (all said : List Statement) (t : Unit {0}) → no_same_name all said ≡ Ok t → list_any (λ s. puts_shared_file all s.said) said ≡ false
unfolding no_same_name
no_shared_file all [] t h = refl
no_shared_file all (s ∷ rest) t h =
    elim (puts_shared_file all s.said) as (λ b. cond b (Err (s.line, SameName)) (no_same_name all rest) ≡ Ok t → (b || list_any (λ s. puts_shared_file all s.said) rest) ≡ false) [
      | true ↦ λ g. absurd cc
      | false ↦ λ g. no_shared_file all rest t g
    ] h

-- ---- commands that lack

-- a command that must be there isn't
lack : {A : Type 0} (which : Command) (o : Option A) (line : ℕ) (why : JobWhy) → needed_value which o ≡ Err (line, why) → (is_none o ≡ true) × (line ≡ 0) × (why ≡ Missing which)
lack which None line why h =
    let pair : ◌≡◌ {A = ℕ × JobWhy} (line, why) (0, Missing which) = cc in
    (refl, ap (λ (p : ℕ × JobWhy). p.0) pair, ap (λ (p : ℕ × JobWhy). p.1) pair)
lack which (Some x) line why h = absurd cc

-- it is there
there : {A : Type 0} (which : Command) (o : Option A) (x : A) → needed_value which o ≡ Ok x → is_none o ≡ false
there which None x h = absurd cc
there which (Some y) x h = refl

refused : (which : Command) (wrong : Bool) (line : ℕ) (why : JobWhy) → refuse {F = ℕ × JobWhy} (0, Missing which) wrong ≡ Err (line, why) → (wrong ≡ true) × (line ≡ 0) × (why ≡ Missing which)
refused which true line why h =
    let pair : ◌≡◌ {A = ℕ × JobWhy} (line, why) (0, Missing which) = cc in
    (refl, ap (λ (p : ℕ × JobWhy). p.0) pair, ap (λ (p : ℕ × JobWhy). p.1) pair)
refused which false line why h = absurd cc

output_lack : (count place : ℕ) (said : List Statement) (line : ℕ) (why : JobWhy) → outputs_from count place said ≡ Err (line, why) → (lacks_output count place said ≡ true) × (line ≡ 0) × (why ≡ Missing command.WriteTable)
unfolding outputs_from
output_lack zero place said line why h = absurd cc
output_lack (suc more) place said line why h =
    elim (bind_err (output_of_table place said) _ (line, why) h) [
      | inl failed ↦ let l = lack command.WriteTable (file_line (output_said place said)) line why failed in (rw l.0 refl, l.1, l.2)
      | inr (output, found, rest) ↦
          let t = there command.WriteTable (file_line (output_said place said)) output found in
          elim (bind_err (outputs_from more (place + 1) said) _ (line, why) rest) [
            | inl failed ↦ let l = output_lack more (place + 1) said line why failed in (rw t l.0, l.1, l.2)
            | inr (outputs, all, made) ↦ absurd cc
          ]
    ]

outputs_there : (count place : ℕ) (said : List Statement) (outputs : List OutputLine) → outputs_from count place said ≡ Ok outputs → lacks_output count place said ≡ false
unfolding outputs_from
outputs_there zero place said outputs h = refl
outputs_there (suc more) place said outputs h =
    let one = bind_ok (output_of_table place said) _ outputs h in
    let rest = bind_ok (outputs_from more (place + 1) said) _ outputs one.2 in
    rw (there command.WriteTable (file_line (output_said place said)) one.0 one.1, outputs_there more (place + 1) said rest.0 rest.1) refl

abbrev FirstLack : Draft → ℕ → JobWhy → Type 0
FirstLack draft line why = (which : Command) × (find (lacks_command draft) must_have ≡ Some which) × (line ≡ 0) × (why ≡ Missing which)

first_lack : (draft : Draft) (line : ℕ) (why : JobWhy) → job_made draft ≡ Err (line, why) → FirstLack draft line why
unfolding job_made
first_lack draft line why h =
    elim (bind_err (needed_value command.OpenMicrodata (file_line (statement_by keyword.OpenMicrodata draft.said))) _ (line, why) h) [
      | inl failed ↦ let l = lack command.OpenMicrodata (file_line (statement_by keyword.OpenMicrodata draft.said)) line why failed in (command.OpenMicrodata, rw l.0 refl, l.1, l.2)
      | inr (micro, is_micro, h) ↦
          let a = there command.OpenMicrodata (file_line (statement_by keyword.OpenMicrodata draft.said)) micro is_micro in
          elim (bind_err (needed_value command.OpenMetadata (file_line (statement_by keyword.OpenMetadata draft.said))) _ (line, why) h) [
            | inl failed ↦ let l = lack command.OpenMetadata (file_line (statement_by keyword.OpenMetadata draft.said)) line why failed in (command.OpenMetadata, rw (a, l.0) refl, l.1, l.2)
            | inr (meta, is_meta, h) ↦
                let b = there command.OpenMetadata (file_line (statement_by keyword.OpenMetadata draft.said)) meta is_meta in
                elim (bind_err (refuse (0, Missing command.SpecifyTable) (length draft.tables == 0)) _ (line, why) h) [
                  | inl failed ↦ let l = refused command.SpecifyTable (length draft.tables == 0) line why failed in (command.SpecifyTable, rw (a, b, l.0) refl, l.1, l.2)
                  | inr (some, is_some, h) ↦
                      let d = not_refused (0, Missing command.SpecifyTable) (length draft.tables == 0) some is_some in
                      elim (bind_err (needed_value command.SafetyRule (rules_line (statement_by keyword.SafetyRule draft.said))) _ (line, why) h) [
                        | inl failed ↦ let l = lack command.SafetyRule (rules_line (statement_by keyword.SafetyRule draft.said)) line why failed in (command.SafetyRule, rw (a, b, d, l.0) refl, l.1, l.2)
                        | inr (rules, is_rules, h) ↦
                            let e = there command.SafetyRule (rules_line (statement_by keyword.SafetyRule draft.said)) rules is_rules in
                            elim (bind_err (needed_value command.Suppress (method_of (statement_by keyword.Suppress draft.said))) _ (line, why) h) [
                              | inl failed ↦ let l = lack command.Suppress (method_of (statement_by keyword.Suppress draft.said)) line why failed in (command.Suppress, rw (a, b, d, e, l.0) refl, l.1, l.2)
                              | inr (method, is_method, h) ↦
                                  let f = there command.Suppress (method_of (statement_by keyword.Suppress draft.said)) method is_method in
                                  elim (bind_err (outputs_from (length draft.tables) 0 draft.said) _ (line, why) h) [
                                    | inl failed ↦ let l = output_lack (length draft.tables) 0 draft.said line why failed in (command.WriteTable, rw (a, b, d, e, f, l.0) refl, l.1, l.2)
                                    | inr (outputs, are_outputs, h) ↦
                                        let g = outputs_there (length draft.tables) 0 draft.said outputs are_outputs in
                                        elim (bind_err (needed_value command.Certificate (file_line (statement_by keyword.Certificate draft.said))) _ (line, why) h) [
                                          | inl failed ↦ let l = lack command.Certificate (file_line (statement_by keyword.Certificate draft.said)) line why failed in (command.Certificate, rw (a, b, d, e, f, g, l.0) refl, l.1, l.2)
                                          | inr (certificate, is_certificate, h) ↦ absurd cc
                                        ]
                                  ]
                            ]
                      ]
                ]
          ]
    ]

-- the fault of the closing looks at what lines say
abbrev IsClosing : Draft → ℕ → JobWhy → Type 0
IsClosing draft line why = IsUnfitLine draft line why ⊎ IsFirstStray draft line why ⊎ IsFirstOutside draft line why ⊎ IsFirstMeeting draft line why ⊎ IsFirstLack draft line why

closing : (draft : Draft) (line : ℕ) (why : JobWhy) → closed_job draft ≡ Err (line, why) → IsClosing draft line why
unfolding closed_job
closing draft line why h =
    elim (bind_err (no_rounded_contributors draft.said) _ (line, why) h) as (λ _. IsClosing draft line why) [
      | inl failed ↦ inl (unfit_fault draft line why failed)
      | inr (fit, is_fit, h) ↦
          let f = all_fit draft fit is_fit in
          elim (bind_err (no_stray (length draft.tables) draft.said) _ (line, why) h) as (λ _. IsClosing draft line why) [
            | inl failed ↦ let s = stray_fault (length draft.tables) draft.said line why failed in inr (inl (s.0, f, s.1, s.2, s.3))
            | inr (placed, is_placed, h) ↦
                let a = no_strays (length draft.tables) draft.said placed is_placed in
                elim (bind_err (no_outside draft.tables draft.said) _ (line, why) h) as (λ _. IsClosing draft line why) [
                  | inl failed ↦ let o = outside_fault draft.tables draft.said line why failed in inr (inr (inl (o.0, f, a, o.1, o.2, o.3)))
                  | inr (spanned, is_spanned, h) ↦
                      let n = none_outside draft.tables draft.said spanned is_spanned in
                      elim (bind_err (no_same_name draft.said draft.said) _ (line, why) h) as (λ _. IsClosing draft line why) [
                        | inl failed ↦ let m = shared_fault draft.said draft.said line why failed in inr (inr (inr (inl (m.0, f, a, n, m.1, m.2, m.3))))
                        | inr (apart, is_apart, h) ↦
                            let b = no_shared_file draft.said draft.said apart is_apart in
                            let l = first_lack draft line why h in
                            inr (inr (inr (inr (l.0, f, a, n, b, l.1, l.2, l.3))))
                      ]
                ]
          ]
    ]

pub in_order : (bytes : List ℕ) (line : ℕ) (why : JobWhy) → job_of bytes ≡ Err (line, why)
    → IsLineFault (lines bytes) line why ⊎ ((draft : Draft) × (lines_say 0 empty_draft (lines bytes) ≡ Ok draft) × IsClosing draft line why)
unfolding job_of
in_order bytes line why h =
    elim (bind_err (lines_say 0 empty_draft (lines bytes)) _ (line, why) h) [
      | inl failed ↦ inl (let f = line_fault 0 empty_draft (lines bytes) line why failed in (f.0, f.1, f.2, omega (arith, f.3), f.4, f.5, f.6))
      | inr (draft, said, h) ↦ inr (draft, said, closing draft line why h)
    ]
