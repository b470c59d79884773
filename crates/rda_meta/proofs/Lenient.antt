-- The number of a line is kept, and nothing else rests on it.
use Rattle.std.proofs.Common.{◌≡◌, ℕ, zero, suc, ◌+◌, ◌-◌, ◌==◌, true, false, cond, ◌||◌, nat_lt, List, [], ◌∷◌, ◌++◌, length, map, Option, None, Some, Result, Ok, Err, refl, ap, sym, ◌∙◌}
use Rattle.std.specs.Prelude.{filter, option_map, slice_get}
use Rattle.std.specs.List.{list_any, after_first}
use Rattle.std.specs.Str.{bytes_eq}
use Rattle.sdc_base.specs.Blanks.{trim}
use Rattle.sdc_base.specs.Lines.{lines}
use Rattle.sdc_base.specs.Steps.{◌>>=◌, or_fault, refuse, map_ok}
use Rattle.rda_meta.specs.Faults.{at_line}
use Rattle.rda_meta.specs.VariableLines.{name_at, number_at, is_past, missing_of, is_named, variable_at}
use Rattle.rda_meta.specs.KeywordLines.{keyword_in, last_of, is_again, setting_in, with_setting}
use Rattle.sdc_base.specs.Tokens.{is_close}
use Rattle.rda_meta.specs.Metadata.{after_setting, after_variable, keyword_line, variable_line, text_says, lines_say, no_clash, variable_of, no_lines, meta_of}
use Rattle.sdc_base.proofs.StepLemmas.{bind_same, map_bind}
use Rattle.rda_meta.specs.declared.faults.MetaWhy.{MetaWhy}
use Rattle.rda_meta.specs.declared.faults.MetaWhy.TheVariants.{BadName, BadPlace, Twice, TooMany, Clash}
use Rattle.rda_meta.specs.declared.setting.Keyword.{Keyword}
use Rattle.rda_meta.specs.declared.setting.Keyword.TheVariants.{Weight}
use Rattle.rda_meta.specs.declared.setting.Setting.{Setting}
use Rattle.rda_meta.specs.declared.entry.Entry.{Entry}
use Rattle.rda_meta.specs.declared.entry.ReaderProgress.{ReaderProgress}
use Rattle.rda_meta.specs.declared.meta.Meta.{Meta}
use Rattle.rda_meta.specs.Words.{words}
use Rattle.rda_meta.specs.Keywords.{is_passed, same_keyword}
use Rattle.rda_meta.specs.Arguments.{argument_of}
use Rattle.rda_meta.specs.LineSettings.{has_keyword, is_clashing}
use Rattle.rda_meta.specs.Laws.{is_dark_line, dark_lines, but_for_line}

abbrev pub unnumbered : Entry → Entry
unnumbered entry = record entry { line = 0 }

abbrev pub all_unnumbered : List Entry → List Entry
all_unnumbered [] = []
all_unnumbered (entry ∷ entries) = unnumbered entry ∷ all_unnumbered entries

abbrev pub so_far_unnumbered : ReaderProgress → ReaderProgress
so_far_unnumbered s = record s { entries = all_unnumbered s.entries }

-- ---- the entries

length-unnumbered : (es : List Entry) → length (all_unnumbered es) ≡ length es
length-unnumbered [] = refl
length-unnumbered (e ∷ es) = ap suc (length-unnumbered es)

append-unnumbered : (es : List Entry) (e : Entry) → all_unnumbered (es ++ e ∷ []) ≡ all_unnumbered es ++ unnumbered e ∷ []
append-unnumbered [] e = refl
append-unnumbered (x ∷ es) e = ap (λ (xs : List Entry). unnumbered x ∷ xs) (append-unnumbered es e)

get-unnumbered : (es : List Entry) (k : ℕ) → slice_get (all_unnumbered es) k ≡ option_map unnumbered (slice_get es k)
get-unnumbered [] k = refl
get-unnumbered (e ∷ es) zero = refl
get-unnumbered (e ∷ es) (suc k) = get-unnumbered es k

last-unnumbered : (es : List Entry) → last_of (all_unnumbered es) ≡ option_map unnumbered (last_of es)
last-unnumbered es = ap (λ (n : ℕ). slice_get (all_unnumbered es) (n - 1)) (length-unnumbered es) ∙ get-unnumbered es (length es - 1)

named-unnumbered : (name : List ℕ) (es : List Entry) → is_named name (all_unnumbered es) ≡ is_named name es
named-unnumbered name [] = refl
named-unnumbered name (e ∷ es) = ap (λ t. bytes_eq e.name name || t) (named-unnumbered name es)

weight-unnumbered : (es : List Entry) → list_any (λ e. has_keyword Weight e.said) (all_unnumbered es) ≡ list_any (λ e. has_keyword Weight e.said) es
weight-unnumbered [] = refl
weight-unnumbered (e ∷ es) = ap (λ t. has_keyword Weight e.said || t) (weight-unnumbered es)

again-unnumbered : (keyword : Keyword) (e : Entry) (es : List Entry) → is_again keyword (unnumbered e) (all_unnumbered es) ≡ is_again keyword e es
again-unnumbered keyword e es = ap (λ t. cond (same_keyword keyword Weight) t (has_keyword keyword e.said)) (weight-unnumbered es)

setting-unnumbered : (setting : Setting) (es : List Entry) → all_unnumbered (with_setting setting es) ≡ with_setting setting (all_unnumbered es)
setting-unnumbered setting [] = refl
setting-unnumbered setting (e ∷ []) = refl
setting-unnumbered setting (e ∷ next ∷ es) = ap (λ (xs : List Entry). unnumbered e ∷ xs) (setting-unnumbered setting (next ∷ es))

after-unnumbered : (s : ReaderProgress) (setting : Setting) → so_far_unnumbered (after_setting s setting) ≡ after_setting (so_far_unnumbered s) setting
after-unnumbered s setting =
    elim (is_passed setting.keyword) as (λ t. so_far_unnumbered (cond t (record s { passed_over = s.passed_over + 1 }) (record s { entries = with_setting setting s.entries })) ≡ cond t (record s { entries = all_unnumbered s.entries; passed_over = s.passed_over + 1 }) (record s { entries = with_setting setting (all_unnumbered s.entries) })) [
      | true ↦ refl
      | false ↦ ap (λ (es : List Entry). record s { entries = es }) (setting-unnumbered setting s.entries)
    ]

-- ---- a line

setting_in-unnumbered : (es : List Entry) (text : List ℕ) → setting_in (all_unnumbered es) text ≡ setting_in es text
unfolding setting_in
setting_in-unnumbered es text =
    let rest : List Entry → Keyword → Entry → Result Setting MetaWhy = λ xs keyword entry. argument_of keyword entry.width (words (after_first is_close text)) >>= λ argument. refuse Twice (is_again keyword entry xs) >>= λ once. Ok (record { keyword = keyword; argument = argument }) in
    let same : (keyword : Keyword) (o : Option Entry) → (or_fault BadName (option_map unnumbered o) >>= rest (all_unnumbered es) keyword) ≡ (or_fault BadName o >>= rest es keyword) =
    λ keyword o. elim o as (λ o. (or_fault BadName (option_map unnumbered o) >>= rest (all_unnumbered es) keyword) ≡ (or_fault BadName o >>= rest es keyword)) [
      | None ↦ refl
      | Some e ↦ bind_same (argument_of keyword e.width (words (after_first is_close text))) _ _ (λ argument. ap (λ t. refuse Twice t >>= λ once. Ok (record { keyword = keyword; argument = argument })) (again-unnumbered keyword e es))
    ] in
    bind_same (keyword_in text) _ _ (λ keyword. ap (λ o. or_fault BadName o >>= rest (all_unnumbered es) keyword) (last-unnumbered es) ∙ same keyword (last_of es))

keyword_line-unnumbered : (s : ReaderProgress) (text : List ℕ) → map_ok so_far_unnumbered (keyword_line s text) ≡ keyword_line (so_far_unnumbered s) text
unfolding keyword_line
keyword_line-unnumbered s text =
    map_bind so_far_unnumbered (setting_in s.entries text) (λ setting. Ok (after_setting s setting))
    ∙ bind_same (setting_in s.entries text) _ _ (λ setting. ap (λ (x : ReaderProgress). Ok x) (after-unnumbered s setting))
    ∙ ap (λ r. r >>= λ setting. Ok (after_setting (so_far_unnumbered s) setting)) (sym (setting_in-unnumbered s.entries text))

variable_at-unnumbered : (line : ℕ) (es : List Entry) (ws : List (List ℕ)) → map_ok unnumbered (variable_at line es ws) ≡ variable_at 0 (all_unnumbered es) ws
unfolding variable_at
variable_at-unnumbered line es ws =
    map_bind unnumbered (name_at ws) _ ∙ bind_same (name_at ws) _ _ (λ name.
    map_bind unnumbered (number_at 1000 name.1) _ ∙ bind_same (number_at 1000 name.1) _ _ (λ first.
    map_bind unnumbered (number_at 255 first.1) _ ∙ bind_same (number_at 255 first.1) _ _ (λ width.
    map_bind unnumbered (refuse BadPlace (is_past first.0 width.0)) _ ∙ bind_same (refuse BadPlace (is_past first.0 width.0)) _ _ (λ within.
    map_bind unnumbered (missing_of width.1) _ ∙ bind_same (missing_of width.1) _ _ (λ missing.
    map_bind unnumbered (refuse Twice (is_named name.0 es)) _ ∙ bind_same (refuse Twice (is_named name.0 es)) _ _ (λ fresh.
    map_bind unnumbered (refuse TooMany (nat_lt 63 (length es))) _
    ∙ ap (λ n. refuse TooMany (nat_lt 63 n) >>= λ room. Ok (record { line = 0; name = name.0; first = first.0; width = width.0; missing = missing; said = [] })) (sym (length-unnumbered es)))
    ∙ ap (λ t. refuse Twice t >>= λ fresh. refuse TooMany (nat_lt 63 (length (all_unnumbered es))) >>= λ room. Ok (record { line = 0; name = name.0; first = first.0; width = width.0; missing = missing; said = [] })) (sym (named-unnumbered name.0 es)))))))

variable_line-unnumbered : (line : ℕ) (s : ReaderProgress) (text : List ℕ) → map_ok so_far_unnumbered (variable_line line s text) ≡ variable_line 0 (so_far_unnumbered s) text
unfolding variable_line
variable_line-unnumbered line s text =
    let moved : (r : Result Entry MetaWhy) → (r >>= λ entry. Ok (so_far_unnumbered (after_variable s entry))) ≡ (map_ok unnumbered r >>= λ entry. Ok (after_variable (so_far_unnumbered s) entry)) =
    λ r. elim r as (λ r. (r >>= λ entry. Ok (so_far_unnumbered (after_variable s entry))) ≡ (map_ok unnumbered r >>= λ entry. Ok (after_variable (so_far_unnumbered s) entry))) [
      | Ok e ↦ ap (λ (es : List Entry). Ok (record s { entries = es })) (append-unnumbered s.entries e)
      | Err why ↦ refl
    ] in
    map_bind so_far_unnumbered (variable_at line s.entries (words text)) (λ entry. Ok (after_variable s entry))
    ∙ moved (variable_at line s.entries (words text))
    ∙ ap (λ r. r >>= λ entry. Ok (after_variable (so_far_unnumbered s) entry)) (variable_at-unnumbered line s.entries (words text))

says-unnumbered : (line : ℕ) (s : ReaderProgress) (text : List ℕ) → map_ok so_far_unnumbered (text_says line s text) ≡ text_says 0 (so_far_unnumbered s) text
unfolding text_says
says-unnumbered line s [] = refl
says-unnumbered line s (b ∷ text) =
    elim (b == 60) as (λ t. map_ok so_far_unnumbered (cond t (keyword_line s text) (variable_line line s (b ∷ text))) ≡ cond t (keyword_line (so_far_unnumbered s) text) (variable_line 0 (so_far_unnumbered s) (b ∷ text))) [
      | true ↦ keyword_line-unnumbered s text
      | false ↦ variable_line-unnumbered line s (b ∷ text)
    ]

-- ---- the text

-- line by line, without numbers
unfoldable pub plainly : ReaderProgress → List (List ℕ) → Result ReaderProgress MetaWhy
plainly s [] = Ok s
plainly s (text ∷ texts) = text_says 0 s text >>= λ next. plainly next texts

abbrev outcome : Result ReaderProgress (ℕ × MetaWhy) → Result ReaderProgress MetaWhy
outcome r = map_ok so_far_unnumbered (but_for_line r)

blank-says : (line : ℕ) (s : ReaderProgress) (text : List ℕ) → is_dark_line text ≡ false → text_says line s text ≡ Ok s
unfolding text_says
blank-says line s [] h = refl
blank-says line s (b ∷ text) h = absurd cc

lines-plainly : (before : ℕ) (s : ReaderProgress) (texts : List (List ℕ)) → outcome (lines_say before s texts) ≡ plainly (so_far_unnumbered s) (filter is_dark_line (map trim texts))
unfolding lines_say plainly
lines-plainly before s [] = refl
lines-plainly before s (text ∷ texts) =
    let here : (r : Result ReaderProgress MetaWhy) → outcome (at_line (before + 1) r >>= λ next. lines_say (before + 1) next texts) ≡ (map_ok so_far_unnumbered r >>= λ next. plainly next (filter is_dark_line (map trim texts))) =
    λ r. elim r as (λ r. outcome (at_line (before + 1) r >>= λ next. lines_say (before + 1) next texts) ≡ (map_ok so_far_unnumbered r >>= λ next. plainly next (filter is_dark_line (map trim texts)))) [
      | Ok next ↦ lines-plainly (before + 1) next texts
      | Err why ↦ refl
    ] in
    let whole = here (text_says (before + 1) s (trim text)) ∙ ap (λ r. r >>= λ next. plainly next (filter is_dark_line (map trim texts))) (says-unnumbered (before + 1) s (trim text)) in
    elim (is_dark_line (trim text)) as (λ t. is_dark_line (trim text) ≡ t → outcome (lines_say before s (text ∷ texts)) ≡ plainly (so_far_unnumbered s) (cond t (trim text ∷ filter is_dark_line (map trim texts)) (filter is_dark_line (map trim texts)))) [
      | true ↦ λ dark. whole
      | false ↦ λ blank. whole ∙ ap (λ r. r >>= λ next. plainly next (filter is_dark_line (map trim texts))) (blank-says 0 (so_far_unnumbered s) (trim text) blank)
    ] refl

clash-unnumbered : (es : List Entry) → but_for_line (no_clash es) ≡ but_for_line (no_clash (all_unnumbered es))
unfolding no_clash
clash-unnumbered [] = refl
clash-unnumbered (e ∷ es) = elim (is_clashing e.said) as (λ t. but_for_line (cond t (Err (e.line, Clash)) (no_clash es)) ≡ but_for_line (cond t (Err (0, Clash)) (no_clash (all_unnumbered es)))) [ true ↦ refl | false ↦ clash-unnumbered es ]

variables-unnumbered : (es : List Entry) → map variable_of es ≡ map variable_of (all_unnumbered es)
unfolding variable_of
variables-unnumbered [] = refl
variables-unnumbered (e ∷ es) = ap (λ xs. variable_of e ∷ xs) (variables-unnumbered es)

-- what is made of the entries
abbrev pub made : ReaderProgress → Result Meta MetaWhy
made all = but_for_line (no_clash all.entries) >>= λ fine. Ok (record { variables = map variable_of all.entries; passed_over = all.passed_over })

but-bind : {A B : Type 0} (r : Result A (ℕ × MetaWhy)) (f : A → Result B (ℕ × MetaWhy)) → but_for_line (r >>= f) ≡ (but_for_line r >>= λ x. but_for_line (f x))
but-bind (Ok x) f = refl
but-bind (Err e) f = refl

made-unnumbered : (all : ReaderProgress) → made all ≡ made (so_far_unnumbered all)
made-unnumbered all =
    ap (λ r. r >>= λ fine. Ok (record { variables = map variable_of all.entries; passed_over = all.passed_over })) (clash-unnumbered all.entries)
    ∙ ap (λ vs. but_for_line (no_clash (all_unnumbered all.entries)) >>= λ fine. Ok (record { variables = vs; passed_over = all.passed_over })) (variables-unnumbered all.entries)

made-outcome : (r : Result ReaderProgress (ℕ × MetaWhy)) → (but_for_line r >>= made) ≡ (outcome r >>= made)
made-outcome (Ok all) = made-unnumbered all
made-outcome (Err fault) = refl

pub meta-plainly : (bytes : List ℕ) → but_for_line (meta_of bytes) ≡ (plainly no_lines (dark_lines bytes) >>= made)
unfolding meta_of
meta-plainly bytes =
    let all = lines_say 0 no_lines (lines bytes) in
    but-bind all _ ∙ bind_same (but_for_line all) _ _ (λ x. but-bind (no_clash x.entries) _) ∙ made-outcome all ∙ ap (λ r. r >>= made) (lines-plainly 0 no_lines (lines bytes))

pub lenient : (a b : List ℕ) → dark_lines a ≡ dark_lines b → but_for_line (meta_of a) ≡ but_for_line (meta_of b)
lenient a b same = meta-plainly a ∙ ap (λ (ts : List (List ℕ)). plainly no_lines ts >>= made) same ∙ sym (meta-plainly b)

-- ---- with the numbers

trimmed-say : (before : ℕ) (s : ReaderProgress) (a b : List (List ℕ)) → map trim a ≡ map trim b → lines_say before s a ≡ lines_say before s b
unfolding lines_say
trimmed-say before s [] [] same = refl
trimmed-say before s [] (y ∷ b) same = absurd cc
trimmed-say before s (x ∷ a) [] same = absurd cc
trimmed-say before s (x ∷ a) (y ∷ b) same =
    let heads : trim x ≡ trim y = cc in
    let rest : map trim a ≡ map trim b = cc in
    ap (λ (t : List ℕ). at_line (before + 1) (text_says (before + 1) s t) >>= λ next. lines_say (before + 1) next a) heads
    ∙ bind_same (at_line (before + 1) (text_says (before + 1) s (trim y))) _ _ (λ next. trimmed-say (before + 1) next a b rest)

pub lenient_to_ends : (a b : List ℕ) → map trim (lines a) ≡ map trim (lines b) → meta_of a ≡ meta_of b
unfolding meta_of
lenient_to_ends a b same = ap (λ r. r >>= λ all. no_clash all.entries >>= λ fine. Ok (record { variables = map variable_of all.entries; passed_over = all.passed_over })) (trimmed-say 0 no_lines (lines a) (lines b) same)
