-- Steps of the reading line by line.
use Rattle.std.proofs.Common.{◌≡◌, ℕ, ◌+◌, List, [], ◌∷◌, ◌++◌, Result, Ok, refl, ap, ◌∙◌}
use Rattle.sdc_base.specs.Blanks.{trim}
use Rattle.sdc_base.specs.Answers.{Fails}
use Rattle.plain_text.specs.Stops.{why_of}
use Rattle.rda_meta.specs.Faults.{meta_fault_of, at_line, error_of}
use Rattle.rda_meta.specs.KeywordLines.{with_setting}
use Rattle.rda_meta.specs.Metadata.{text_says, lines_say}
use Rattle.rda_meta.specs.declared.faults.MetaWhy.{MetaWhy}
use Rattle.plain_text.specs.declared.stop.Stop.{Stop}
use Rattle.plain_text.specs.declared.stop.Stop.TheVariants as stop
use Rattle.rda_meta.specs.declared.setting.Setting.{Setting}
use Rattle.rda_meta.specs.declared.entry.Entry.{Entry}
use Rattle.rda_meta.specs.declared.faults.MetaError.{MetaError}
use Rattle.rda_meta.specs.declared.faults.MetaError.TheVariants as meta_error
use Rattle.rda_meta.specs.declared.entry.ReaderProgress.{ReaderProgress}

-- an error of a line keeps its fault when the line's number is put to it
pub fails_at : {Y : Type 0} (line : ℕ) (e : Stop MetaWhy) (read : Result Y MetaWhy) → Fails (why_of e) read → Fails (meta_fault_of (error_of line e)) (at_line line read)
fails_at line stop.Memory read h = tt
fails_at line (stop.Fault why) read h = rw h refl

pub with_none : (setting : Setting) (entries : List Entry) → entries ≡ [] → ◌≡◌ {A = List Entry} (with_setting setting entries) []
with_none setting entries is = rw is refl

next-entry : (setting : Setting) (entry : Entry) (front : List Entry) (last : Entry) → with_setting setting (entry ∷ (front ++ last ∷ [])) ≡ entry ∷ with_setting setting (front ++ last ∷ [])
next-entry setting entry [] last = refl
next-entry setting entry (e ∷ front) last = refl

with_last' : (setting : Setting) (front : List Entry) (last : Entry) → with_setting setting (front ++ last ∷ []) ≡ front ++ record last { said = last.said ++ setting ∷ [] } ∷ []
with_last' setting [] last = refl
with_last' setting (entry ∷ front) last = next-entry setting entry front last ∙ ap (λ (es : List Entry). entry ∷ es) (with_last' setting front last)

-- the last entry, taken off, changed and put back
pub with_last : (setting : Setting) (entries front : List Entry) (last : Entry) → entries ≡ front ++ last ∷ [] → with_setting setting entries ≡ front ++ record last { said = last.said ++ setting ∷ [] } ∷ []
with_last setting entries front last is = rw is (with_last' setting front last)

pub lines_next : (before line given : ℕ) (so_far next : ReaderProgress) (texts after : List (List ℕ)) (text : List ℕ) → texts ≡ text ∷ after → line ≡ before + 1 → given ≡ line
    → at_line line (text_says line so_far (trim text)) ≡ Ok next → lines_say given next after ≡ lines_say before so_far texts
unfolding lines_say
lines_next before line given so_far next texts after text is number same said = rw (same, is, ← number, said) refl

pub lines_stop : (e : MetaError) (before line : ℕ) (so_far : ReaderProgress) (texts after : List (List ℕ)) (text : List ℕ) → texts ≡ text ∷ after → line ≡ before + 1
    → Fails (meta_fault_of e) (at_line line (text_says line so_far (trim text))) → Fails (meta_fault_of e) (lines_say before so_far texts)
unfolding lines_say
lines_stop meta_error.Memory before line so_far texts after text is number said = tt
lines_stop (meta_error.At at why) before line so_far texts after text is number said = rw (is, ← number, said) refl

pub lines_end : (before : ℕ) (so_far : ReaderProgress) (texts : List (List ℕ)) → texts ≡ [] → lines_say before so_far texts ≡ Ok so_far
unfolding lines_say
lines_end before so_far texts is = rw is refl
