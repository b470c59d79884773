-- The lines that are passed over are counted.
use Rattle.std.proofs.Common.{◌≡◌, ℕ, ◌+◌, ◌==◌, true, false, cond, List, [], ◌∷◌, length, map, Result, Ok, Err, refl, ap, sym, ◌∙◌, arith}
use Rattle.std.specs.Prelude.{filter}
use Rattle.std.specs.List.{after_first}
use Rattle.sdc_base.specs.Blanks.{trim}
use Rattle.sdc_base.specs.Lines.{lines}
use Rattle.sdc_base.specs.Steps.{or_fault, refuse}
use Rattle.sdc_base.proofs.StepLemmas.{bind_ok}
use Rattle.rda_meta.specs.declared.faults.MetaWhy.{MetaWhy}
use Rattle.rda_meta.specs.declared.faults.MetaWhy.TheVariants.{BadName, Twice}
use Rattle.rda_meta.specs.declared.setting.Setting.{Setting}
use Rattle.rda_meta.specs.declared.entry.Entry.{Entry}
use Rattle.rda_meta.specs.declared.entry.ReaderProgress.{ReaderProgress}
use Rattle.rda_meta.specs.declared.meta.Meta.{Meta}
use Rattle.rda_meta.specs.Faults.{at_line}
use Rattle.rda_meta.specs.Words.{words}
use Rattle.rda_meta.specs.Keywords.{is_passed}
use Rattle.rda_meta.specs.Arguments.{argument_of}
use Rattle.rda_meta.specs.KeywordLines.{keyword_in, last_of, is_again, setting_in, with_setting}
use Rattle.sdc_base.specs.Tokens.{is_close}
use Rattle.rda_meta.specs.VariableLines.{variable_at}
use Rattle.rda_meta.specs.Metadata.{after_setting, after_variable, keyword_line, variable_line, text_says, lines_say, no_clash, variable_of, no_lines, meta_of}
use Rattle.rda_meta.specs.Meaning.{is_passed_keyword, is_passed_line}

-- one where the line is passed over, else none
abbrev count : List ℕ → ℕ
count text = cond (is_passed_line text) 1 0

-- the keyword of a setting that was read is that of the line
its-keyword : (es : List Entry) (text : List ℕ) (setting : Setting) → setting_in es text ≡ Ok setting → is_passed_keyword (keyword_in text) ≡ is_passed setting.keyword
unfolding setting_in
its-keyword es text setting h =
    let k = bind_ok (keyword_in text) _ setting h in
    let e = bind_ok (or_fault BadName (last_of es)) _ setting k.2 in
    let a = bind_ok (argument_of k.0 e.0.width (words (after_first is_close text))) _ setting e.2 in
    let o = bind_ok (refuse Twice (is_again k.0 e.0 es)) _ setting a.2 in
    let made : record { keyword = k.0; argument = a.0 } ≡ setting = cc in
    ap is_passed_keyword k.1 ∙ ap (λ (s : Setting). is_passed s.keyword) made

keyword-counts : (s next : ReaderProgress) (b : ℕ) (text : List ℕ) → (b == 60) ≡ true → keyword_line s text ≡ Ok next → next.passed_over ≡ s.passed_over + count (b ∷ text)
unfolding keyword_line
keyword-counts s next b text is said =
    let one = bind_ok (setting_in s.entries text) (λ setting. Ok (after_setting s setting)) next said in
    let setting = one.0 in
    let made : after_setting s setting ≡ next = cc in
    let here : (after_setting s setting).passed_over ≡ s.passed_over + cond (is_passed setting.keyword) 1 0 =
    elim (is_passed setting.keyword) as (λ p. (cond p (record s { passed_over = s.passed_over + 1 }) (record s { entries = with_setting setting s.entries })).passed_over ≡ s.passed_over + cond p 1 0) [
      | true ↦ refl
      | false ↦ omega arith
    ] in
    let line : is_passed_line (b ∷ text) ≡ is_passed setting.keyword = rw is (its-keyword s.entries text setting one.1) in
    ap (λ (x : ReaderProgress). x.passed_over) (sym made) ∙ here ∙ ap (λ t. s.passed_over + cond t 1 0) (sym line)

variable-counts : (line : ℕ) (s next : ReaderProgress) (b : ℕ) (text : List ℕ) → (b == 60) ≡ false → variable_line line s (b ∷ text) ≡ Ok next → next.passed_over ≡ s.passed_over + count (b ∷ text)
unfolding variable_line
variable-counts line s next b text is said =
    let one = bind_ok (variable_at line s.entries (words (b ∷ text))) (λ entry. Ok (after_variable s entry)) next said in
    let made : after_variable s one.0 ≡ next = cc in
    let same : next.passed_over ≡ s.passed_over = ap (λ (x : ReaderProgress). x.passed_over) (sym made) in
    rw is (omega (arith, same))

text-counts : (line : ℕ) (s next : ReaderProgress) (text : List ℕ) → text_says line s text ≡ Ok next → next.passed_over ≡ s.passed_over + count text
unfolding text_says
text-counts line s next [] said =
    let same : s ≡ next = cc in
    omega (arith, ap (λ (x : ReaderProgress). x.passed_over) same)
text-counts line s next (b ∷ text) said =
    elim (b == 60) as (λ p. (b == 60) ≡ p → cond p (keyword_line s text) (variable_line line s (b ∷ text)) ≡ Ok next → next.passed_over ≡ s.passed_over + count (b ∷ text)) [
      | true ↦ λ is h. keyword-counts s next b text is h
      | false ↦ λ is h. variable-counts line s next b text is h
    ] refl said

counted-first : (text : List ℕ) (texts : List (List ℕ)) → length (filter is_passed_line (text ∷ texts)) ≡ count text + length (filter is_passed_line texts)
counted-first text texts =
    elim (is_passed_line text) as (λ t. length (cond t (text ∷ filter is_passed_line texts) (filter is_passed_line texts)) ≡ cond t 1 0 + length (filter is_passed_line texts)) [
      | true ↦ omega arith
      | false ↦ omega arith
    ]

pub counts : (before : ℕ) (s all : ReaderProgress) (texts : List (List ℕ)) → lines_say before s texts ≡ Ok all → all.passed_over ≡ s.passed_over + length (filter is_passed_line (map trim texts))
unfolding lines_say
counts before s all [] h =
    let same : s ≡ all = cc in
    omega (arith, ap (λ (x : ReaderProgress). x.passed_over) same)
counts before s all (text ∷ texts) h =
    let one = bind_ok (at_line (before + 1) (text_says (before + 1) s (trim text))) (λ next. lines_say (before + 1) next texts) all h in
    let said : (r : Result ReaderProgress MetaWhy) → at_line (before + 1) r ≡ Ok one.0 → r ≡ Ok one.0 = λ r. elim r as (λ r. at_line (before + 1) r ≡ Ok one.0 → r ≡ Ok one.0) [ Ok x ↦ λ h. let same : x ≡ one.0 = cc in ap Ok same | Err w ↦ λ h. cc ] in
    let here = text-counts (before + 1) s one.0 (trim text) (said (text_says (before + 1) s (trim text)) one.1) in
    omega (arith, here, counts (before + 1) one.0 all texts one.2, counted-first (trim text) (map trim texts))

pub counted : (bytes : List ℕ) (meta : Meta) → meta_of bytes ≡ Ok meta → meta.passed_over ≡ length (filter is_passed_line (map trim (lines bytes)))
unfolding meta_of
counted bytes meta h =
    let a = bind_ok (lines_say 0 no_lines (lines bytes)) _ meta h in
    let c = bind_ok (no_clash a.0.entries) _ meta a.2 in
    let made : record { variables = map variable_of a.0.entries; passed_over = a.0.passed_over } ≡ meta = cc in
    omega (arith, ap (λ (m : Meta). m.passed_over) made, counts 0 no_lines a.0 (lines bytes) a.1)
