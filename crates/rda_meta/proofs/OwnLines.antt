-- What is said of a variable stands between its line and the next variable line.
use Rattle.std.proofs.Common.{◌≡◌, ℕ, suc, ◌+◌, ◌-◌, ◌<◌, ◌==◌, true, false, cond, nat_lt, List, [], ◌∷◌, ◌++◌, length, map, drop, Option, None, Some, Result, Ok, Err, refl, ap, sym, subst, ◌∙◌, arith, append_assoc}
use Rattle.std.specs.Prelude.{slice_get}
use Rattle.std.specs.List.{AllByRecursion, after_first}
use Rattle.std.specs.Result.{IfOk}
use Rattle.std.proofs.lemmas.Result.{IfOk-at_ok}
use Rattle.std.proofs.lemmas.List.{append-nil}
use Rattle.sdc_base.specs.Blanks.{trim}
use Rattle.sdc_base.specs.Lines.{lines}
use Rattle.sdc_base.specs.Steps.{or_fault, refuse}
use Rattle.rda_meta.specs.Faults.{at_line}
use Rattle.rda_meta.specs.VariableLines.{name_at, number_at, is_past, missing_of, is_named, variable_at}
use Rattle.rda_meta.specs.KeywordLines.{keyword_in, last_of, is_again, setting_in, with_setting}
use Rattle.sdc_base.specs.Tokens.{is_close}
use Rattle.rda_meta.specs.Metadata.{after_setting, after_variable, keyword_line, variable_line, text_says, lines_say, no_clash, variable_of, no_lines, meta_of}
use Rattle.sdc_base.proofs.StepLemmas.{bind_ok, then_all}
use Rattle.rda_meta.specs.declared.faults.MetaWhy.{MetaWhy}
use Rattle.rda_meta.specs.declared.faults.MetaWhy.TheVariants.{BadName, BadPlace, Twice, TooMany}
use Rattle.rda_meta.specs.declared.setting.Keyword.{Keyword}
use Rattle.rda_meta.specs.declared.setting.Argument.{Argument}
use Rattle.rda_meta.specs.declared.setting.Setting.{Setting}
use Rattle.rda_meta.specs.declared.entry.Entry.{Entry}
use Rattle.rda_meta.specs.declared.entry.ReaderProgress.{ReaderProgress}
use Rattle.rda_meta.specs.declared.meta.Meta.{Meta}
use Rattle.rda_meta.specs.Words.{words}
use Rattle.rda_meta.specs.Keywords.{is_passed}
use Rattle.rda_meta.specs.Arguments.{argument_of}
use Rattle.rda_meta.specs.Meaning.{settings_kept, settings_of_line, stated_behind, variable_line_numbers, IsOfItsLines, AreOfTheirLines}

-- the last entry with what these lines add to it
abbrev extended : List Entry → List (List ℕ) → List Entry
extended [] texts = []
extended (e ∷ []) texts = record e { said = e.said ++ stated_behind e.width texts } ∷ []
extended (e ∷ next ∷ es) texts = e ∷ extended (next ∷ es) texts

last-next : (e next : Entry) (es : List Entry) → last_of (e ∷ next ∷ es) ≡ last_of (next ∷ es)
last-next e next es =
    let long : suc (suc (length es)) - 1 ≡ suc (length es) = omega arith in
    let short : suc (length es) - 1 ≡ length es = omega arith in
    ap (slice_get (e ∷ next ∷ es)) long ∙ ap (slice_get (next ∷ es)) (sym short)

some-is : (a b : Entry) → ◌≡◌ {A = Option Entry} (Some a) (Some b) → a ≡ b
some-is a b h = cc

-- lines that add nothing
adds-nothing : (es : List Entry) (a b : List (List ℕ)) → ((width : ℕ) → stated_behind width a ≡ stated_behind width b) → extended es a ≡ extended es b
adds-nothing [] a b h = refl
adds-nothing (e ∷ []) a b h = ap (λ (said : List Setting). record e { said = e.said ++ said } ∷ []) (h e.width)
adds-nothing (e ∷ next ∷ es) a b h = ap (λ (xs : List Entry). e ∷ xs) (adds-nothing (next ∷ es) a b h)

adds-none : (es : List Entry) (entry : Entry) (t : List ℕ) (ts : List (List ℕ)) → last_of es ≡ Some entry → stated_behind entry.width (t ∷ ts) ≡ stated_behind entry.width ts → extended es ts ≡ extended es (t ∷ ts)
adds-none [] entry t ts last h = refl
adds-none (e ∷ []) entry t ts last h =
    let same : e ≡ entry = some-is e entry last in
    ap (λ (said : List Setting). record e { said = e.said ++ said } ∷ []) (sym (subst (λ (x : Entry). stated_behind x.width (t ∷ ts) ≡ stated_behind x.width ts) (sym same) h))
adds-none (e ∷ next ∷ es) entry t ts last h = ap (λ (xs : List Entry). e ∷ xs) (adds-none (next ∷ es) entry t ts (sym (last-next e next es) ∙ last) h)

skips : (setting : Setting) (e next : Entry) (es : List Entry) (ts : List (List ℕ)) → extended (e ∷ with_setting setting (next ∷ es)) ts ≡ e ∷ extended (with_setting setting (next ∷ es)) ts
skips setting e next [] ts = refl
skips setting e next (x ∷ es) ts = refl

adds-one : (es : List Entry) (entry : Entry) (setting : Setting) (t : List ℕ) (ts : List (List ℕ)) → last_of es ≡ Some entry → stated_behind entry.width (t ∷ ts) ≡ setting ∷ stated_behind entry.width ts → extended (with_setting setting es) ts ≡ extended es (t ∷ ts)
adds-one [] entry setting t ts last h = refl
adds-one (e ∷ []) entry setting t ts last h =
    let same : e ≡ entry = some-is e entry last in
    let here : stated_behind e.width (t ∷ ts) ≡ setting ∷ stated_behind e.width ts = subst (λ (x : Entry). stated_behind x.width (t ∷ ts) ≡ setting ∷ stated_behind x.width ts) (sym same) h in
    ap (λ (said : List Setting). record e { said = said } ∷ []) (append_assoc e.said (setting ∷ []) (stated_behind e.width ts) ∙ ap (λ (said : List Setting). e.said ++ said) (sym here))
adds-one (e ∷ next ∷ es) entry setting t ts last h =
    skips setting e next es ts ∙ ap (λ (xs : List Entry). e ∷ xs) (adds-one (next ∷ es) entry setting t ts (sym (last-next e next es) ∙ last) h)

adds-end : (es : List Entry) → extended es [] ≡ es
adds-end [] = refl
adds-end (e ∷ []) = ap (λ (said : List Setting). record e { said = said } ∷ []) (append-nil e.said)
adds-end (e ∷ next ∷ es) = ap (λ (xs : List Entry). e ∷ xs) (adds-end (next ∷ es))

adds-to-new : (es : List Entry) (e : Entry) (ts : List (List ℕ)) → extended (es ++ e ∷ []) ts ≡ es ++ record e { said = e.said ++ stated_behind e.width ts } ∷ []
adds-to-new [] e ts = refl
adds-to-new (x ∷ []) e ts = refl
adds-to-new (x ∷ y ∷ es) e ts = ap (λ (xs : List Entry). x ∷ xs) (adds-to-new (y ∷ es) e ts)

-- ---- a new entry

abbrev IsNew : ℕ → Entry → Type 0
IsNew line e = (e.line ≡ line) × (e.said ≡ [])

is-new : (line : ℕ) (es : List Entry) (ws : List (List ℕ)) → IfOk (variable_at line es ws) (IsNew line)
unfolding variable_at
is-new line es ws =
    then_all (IsNew line) (name_at ws) _ (λ name. then_all (IsNew line) (number_at 1000 name.1) _ (λ first. then_all (IsNew line) (number_at 255 first.1) _ (λ width.
    then_all (IsNew line) (refuse BadPlace (is_past first.0 width.0)) _ (λ within. then_all (IsNew line) (missing_of width.1) _ (λ missing. then_all (IsNew line) (refuse Twice (is_named name.0 es)) _ (λ fresh.
    then_all (IsNew line) (refuse TooMany (nat_lt 63 (length es))) _ (λ room. (refl, refl))))))))

-- ---- line by line

abbrev Meant : ℕ → List (List ℕ) → Entry → Type 0
Meant before texts e =
    (before < e.line) × (e.said ≡ stated_behind e.width (drop (e.line - before) texts)) × (earlier : List Entry) × (text : List ℕ)
    × (slice_get texts (e.line - before - 1) ≡ Some text) × (variable_at e.line earlier (words text) ≡ Ok (record e { said = [] }))

abbrev Split : ℕ → List Entry → List (List ℕ) → List Entry → Type 0
Split before old texts all = (new : List Entry) × (all ≡ extended old texts ++ new) × (map (λ e. e.line) new ≡ variable_line_numbers before texts)
    × AllByRecursion (Meant before texts) new

one-more : (before : ℕ) (t : List ℕ) (ts : List (List ℕ)) (new : List Entry) → AllByRecursion (Meant (before + 1) ts) new → AllByRecursion (Meant before (t ∷ ts)) new
one-more before t ts [] h = tt
one-more before t ts (e ∷ new) h =
    let here : before + 1 < e.line = h.0.0 in
    let far : e.line - before ≡ suc (e.line - (before + 1)) = omega arith in
    let place : e.line - before - 1 ≡ suc (e.line - (before + 1) - 1) = omega arith in
    ((omega arith, rw far h.0.1, h.0.2, h.0.3, rw place h.0.4, h.0.5), one-more before t ts new h.1)

stated-is : (width b : ℕ) (text : List ℕ) (keyword : Keyword) (argument : Argument) → keyword_in text ≡ Ok keyword → argument_of keyword width (words (after_first is_close text)) ≡ Ok argument
    → settings_of_line width (b ∷ text) ≡ settings_kept (Ok (record { keyword = keyword; argument = argument }))
stated-is width b text keyword argument k a = rw (k, a) refl

-- the setting that was read is the one that the line states
states : (es : List Entry) (b : ℕ) (text : List ℕ) (setting : Setting) → setting_in es text ≡ Ok setting → (entry : Entry) × (last_of es ≡ Some entry) × (settings_of_line entry.width (b ∷ text) ≡ settings_kept (Ok setting))
unfolding setting_in
states es b text setting h =
    let k = bind_ok (keyword_in text) _ setting h in
    let e = bind_ok (or_fault BadName (last_of es)) _ setting k.2 in
    let a = bind_ok (argument_of k.0 e.0.width (words (after_first is_close text))) _ setting e.2 in
    let o = bind_ok (refuse Twice (is_again k.0 e.0 es)) _ setting a.2 in
    let there : (o : Option Entry) → or_fault BadName o ≡ Ok e.0 → o ≡ Some e.0 = λ o. elim o as (λ o. or_fault BadName o ≡ Ok e.0 → o ≡ Some e.0) [ None ↦ λ h. cc | Some x ↦ λ h. let same : x ≡ e.0 = cc in ap Some same ] in
    (e.0, there (last_of es) e.1, stated-is e.0.width b text k.0 a.0 k.1 a.1 ∙ ap settings_kept o.2)

keyword-step : (before : ℕ) (s next : ReaderProgress) (b : ℕ) (text : List ℕ) (ts : List (List ℕ)) (all : List Entry) → (b == 60) ≡ true → keyword_line s text ≡ Ok next → Split (before + 1) next.entries ts all → Split before s.entries ((b ∷ text) ∷ ts) all
unfolding keyword_line
keyword-step before s next b text ts all is said rest =
    let one = bind_ok (setting_in s.entries text) (λ setting. Ok (after_setting s setting)) next said in
    let setting = one.0 in
    let there = states s.entries b text setting one.1 in
    let entry = there.0 in
    let made : after_setting s setting ≡ next = cc in
    let behind : stated_behind entry.width ((b ∷ text) ∷ ts) ≡ settings_kept (Ok setting) ++ stated_behind entry.width ts = rw (is, there.2) refl in
    let same : extended (after_setting s setting).entries ts ≡ extended s.entries ((b ∷ text) ∷ ts) =
    elim (is_passed setting.keyword) as (λ p. stated_behind entry.width ((b ∷ text) ∷ ts) ≡ cond p [] (setting ∷ []) ++ stated_behind entry.width ts → extended (cond p (record s { passed_over = s.passed_over + 1 }) (record s { entries = with_setting setting s.entries })).entries ts ≡ extended s.entries ((b ∷ text) ∷ ts)) [
      | true ↦ λ h. adds-none s.entries entry (b ∷ text) ts there.1 h
      | false ↦ λ h. adds-one s.entries entry setting (b ∷ text) ts there.1 h
    ] behind in
    let new : List Entry = rest.0 in
    (new, rest.1 ∙ ap (λ (x : ReaderProgress). extended x.entries ts ++ new) (sym made) ∙ ap (λ (es : List Entry). es ++ new) same, rw is rest.2, one-more before (b ∷ text) ts new rest.3)

variable-step : (before : ℕ) (s next : ReaderProgress) (b : ℕ) (text : List ℕ) (ts : List (List ℕ)) (all : List Entry) → (b == 60) ≡ false → variable_line (before + 1) s (b ∷ text) ≡ Ok next → Split (before + 1) next.entries ts all → Split before s.entries ((b ∷ text) ∷ ts) all
unfolding variable_line
variable-step before s next b text ts all is said rest =
    let one = bind_ok (variable_at (before + 1) s.entries (words (b ∷ text))) (λ entry. Ok (after_variable s entry)) next said in
    let e = one.0 in
    let fresh = IfOk-at_ok (IsNew (before + 1)) one.1 (is-new (before + 1) s.entries (words (b ∷ text))) in
    let made : after_variable s e ≡ next = cc in
    let new : List Entry = rest.0 in
    let full : Entry = record e { said = e.said ++ stated_behind e.width ts } in
    let none : (width : ℕ) → stated_behind width ((b ∷ text) ∷ ts) ≡ stated_behind width [] = λ width. rw is refl in
    let far : e.line - before ≡ 1 = omega (arith, fresh.0) in
    let own : full.said ≡ stated_behind e.width (drop (e.line - before) ((b ∷ text) ∷ ts)) = rw (far, fresh.1) refl in
    let place : e.line - before - 1 ≡ 0 = omega (arith, fresh.0) in
    let here : slice_get ((b ∷ text) ∷ ts) (e.line - before - 1) ≡ Some (b ∷ text) = rw place refl in
    let line : variable_at e.line s.entries (words (b ∷ text)) ≡ Ok (record e { said = [] }) =
    ap (λ n. variable_at n s.entries (words (b ∷ text))) fresh.0 ∙ one.1 ∙ ap (λ (said : List Setting). Ok (record e { said = said })) fresh.1 in
    let old : extended s.entries ((b ∷ text) ∷ ts) ≡ s.entries = adds-nothing s.entries ((b ∷ text) ∷ ts) [] none ∙ adds-end s.entries in
    let numbers : map (λ (x : Entry). x.line) (full ∷ new) ≡ variable_line_numbers before ((b ∷ text) ∷ ts) =
    rw is (ap (λ (n : ℕ). n ∷ map (λ (x : Entry). x.line) new) fresh.0 ∙ ap (λ (ns : List ℕ). (before + 1) ∷ ns) rest.2) in
    (full ∷ new, rest.1 ∙ ap (λ (x : ReaderProgress). extended x.entries ts ++ new) (sym made) ∙ ap (λ (es : List Entry). es ++ new) (adds-to-new s.entries e ts) ∙ append_assoc s.entries (full ∷ []) new ∙ ap (λ (es : List Entry). es ++ full ∷ new) (sym old), numbers, ((omega (arith, fresh.0), own, s.entries, b ∷ text, here, line), one-more before (b ∷ text) ts new rest.3))

step : (before : ℕ) (s next : ReaderProgress) (t : List ℕ) (ts : List (List ℕ)) (all : List Entry) → text_says (before + 1) s t ≡ Ok next → Split (before + 1) next.entries ts all → Split before s.entries (t ∷ ts) all
unfolding text_says
step before s next [] ts all said rest =
    let same : s ≡ next = cc in
    let new : List Entry = rest.0 in
    (new, rest.1 ∙ ap (λ (x : ReaderProgress). extended x.entries ts ++ new) (sym same) ∙ ap (λ (es : List Entry). es ++ new) (adds-nothing s.entries ts ([] ∷ ts) (λ width. refl)), rest.2, one-more before [] ts new rest.3)
step before s next (b ∷ text) ts all said rest =
    elim (b == 60) as (λ p. (b == 60) ≡ p → cond p (keyword_line s text) (variable_line (before + 1) s (b ∷ text)) ≡ Ok next → Split before s.entries ((b ∷ text) ∷ ts) all) [
      | true ↦ λ is h. keyword-step before s next b text ts all is h rest
      | false ↦ λ is h. variable-step before s next b text ts all is h rest
    ] refl said

splits : (before : ℕ) (s all : ReaderProgress) (texts : List (List ℕ)) → lines_say before s texts ≡ Ok all → Split before s.entries (map trim texts) all.entries
unfolding lines_say
splits before s all [] h =
    let same : s ≡ all = cc in
    ([], ap (λ (x : ReaderProgress). x.entries) (sym same) ∙ sym (adds-end s.entries) ∙ sym (append-nil (extended s.entries [])), refl, tt)
splits before s all (text ∷ texts) h =
    let one = bind_ok (at_line (before + 1) (text_says (before + 1) s (trim text))) (λ next. lines_say (before + 1) next texts) all h in
    let said : (r : Result ReaderProgress MetaWhy) → at_line (before + 1) r ≡ Ok one.0 → r ≡ Ok one.0 = λ r. elim r as (λ r. at_line (before + 1) r ≡ Ok one.0 → r ≡ Ok one.0) [ Ok x ↦ λ h. let same : x ≡ one.0 = cc in ap Ok same | Err w ↦ λ h. cc ] in
    step before s one.0 (trim text) (map trim texts) all.entries (said (text_says (before + 1) s (trim text)) one.1) (splits (before + 1) one.0 all texts one.2)

all-of-their-lines : (texts : List (List ℕ)) (es : List Entry) → AllByRecursion (Meant 0 texts) es → AllByRecursion (IsOfItsLines texts) es
all-of-their-lines texts [] h = tt
all-of-their-lines texts (e ∷ es) h =
    let whole : e.line - 0 ≡ e.line = omega arith in (
      record {
        earlier = h.0.2;
        text = h.0.3;
        line = ap (λ n. slice_get texts (n - 1)) (sym whole) ∙ h.0.4;
        placed = h.0.5;
        said = h.0.1 ∙ ap (λ n. stated_behind e.width (drop n texts)) whole;
      },
      all-of-their-lines texts es h.1,
    )

pub meant : (bytes : List ℕ) (meta : Meta) → meta_of bytes ≡ Ok meta → AreOfTheirLines (map trim (lines bytes)) meta.variables
unfolding meta_of
meant bytes meta h =
    let a = bind_ok (lines_say 0 no_lines (lines bytes)) _ meta h in
    let c = bind_ok (no_clash a.0.entries) _ meta a.2 in
    let made : record { variables = map variable_of a.0.entries; passed_over = a.0.passed_over } ≡ meta = cc in
    let s = splits 0 no_lines a.0 (lines bytes) a.1 in
    let all : ◌≡◌ {A = List Entry} s.0 a.0.entries = sym s.1 in
    let given : meta.variables ≡ map variable_of s.0 = ap (λ (m : Meta). m.variables) (sym made) ∙ ap (λ (es : List Entry). map variable_of es) (sym all) in
    record { entries = s.0; given = given; lines = s.2; each = all-of-their-lines (map trim (lines bytes)) s.0 s.3 }
