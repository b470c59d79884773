-- A canonical text is read again.
use Rattle.std.proofs.Common.{zero, suc, codes, ◌≡◌, ℕ, ◌+◌, ◌-◌, ◌≤◌, ◌==◌, ◌||◌, nat_lt, true, false, cond, List, [], ◌∷◌, ◌++◌, length, map, Some, Result, Ok, Err, refl, ap, sym, ◌∙◌, arith, append_assoc, decimal}
use Rattle.std.specs.Prelude.{slice_get}
use Rattle.std.specs.List.{list_any}
use Rattle.std.proofs.lemmas.List.{append-nil, length-append}
use Rattle.std.specs.Prelude.{filter}
use Rattle.std.specs.List.{AllByRecursion}
use Rattle.sdc_base.specs.Lines.{IsLine}
use Rattle.plain_text.specs.Laws.{AreReadAgain}
use Rattle.sdc_base.specs.Blanks.{is_blank, trim}
use Rattle.sdc_base.specs.Steps.{◌>>=◌}
use Rattle.rda_meta.specs.VariableLines.{name_at, number_at, missing_of, variable_at}
use Rattle.rda_meta.specs.KeywordLines.{last_of}
use Rattle.rda_meta.specs.Metadata.{after_variable, keyword_line, variable_line, text_says, no_clash, variable_of, no_lines, meta_of}
use Rattle.rda_meta.specs.declared.faults.MetaWhy.{MetaWhy}
use Rattle.rda_meta.specs.declared.setting.Keyword.{Keyword}
use Rattle.rda_meta.specs.declared.setting.Keyword.TheVariants.{Recodeable, Recodable, Numeric, Decimals, Weight, CodeList, Hierarchical, HierLevels, HierCodeList, HierLeadString, TotCode, Request, Holding, Distance}
use Rattle.rda_meta.specs.declared.setting.Argument.TheVariants.{Nothing}
use Rattle.rda_meta.specs.declared.setting.Setting.{Setting}
use Rattle.rda_meta.specs.declared.entry.Entry.{Entry}
use Rattle.rda_meta.specs.declared.entry.ReaderProgress.{ReaderProgress}
use Rattle.sdc_base.proofs.StepLemmas.{bind_same}
use Rattle.rda_meta.specs.Keywords.{is_passed, same_keyword}
use Rattle.rda_meta.specs.LineSettings.{has_keyword}
use Rattle.rda_meta.specs.Arguments.{argument_of}
use Rattle.rda_meta.specs.Words.{words}
use Rattle.sdc_base.specs.Tokens.{is_quote, in_quotes}
use Rattle.rda_meta.specs.Spelling.{passed_lines, canonical_lines, name_of, argument_words, needs_quotes, spelling_of_word, words_behind_spaces, setting_text, setting_line, variable_text, all_lines}
use Rattle.rda_meta.specs.CanonicalMetadata.{IsSayable, AreSayable, IsPlaceable, AreCanonical}
use Rattle.rda_meta.specs.Laws.{is_dark_line, dark_lines, but_for_line, canonical_text}
use Rattle.rda_meta.proofs.LineSteps.{with_last}
use Rattle.rda_meta.proofs.Lenient.{plainly, made, meta-plainly}
use Rattle.rda_meta.proofs.Spelled.{or-left, or-right, EndsDark, ends-append, ends-spaced, trim_dark, words_spelled, words_spaced}
use Rattle.rda_meta.proofs.SpelledLines.{number_spelled, decimal_plain, setting_spelled}

last-of : (earlier : List Entry) (e : Entry) → last_of (earlier ++ e ∷ []) ≡ Some e
last-of earlier e = ap (slice_get (earlier ++ e ∷ [])) (let n : length (earlier ++ e ∷ []) - 1 ≡ length earlier = omega (arith, length-append earlier (e ∷ [])) in n) ∙ at earlier
  where
    at : (front : List Entry) → slice_get (front ++ e ∷ []) (length front) ≡ Some e
    at [] = refl
    at (x ∷ front) = at front

-- ---- keyword lines

says-setting : (earlier : List Entry) (e : Entry) (n : ℕ) (s : Setting) → IsSayable earlier e s
    → text_says 0 (record { entries = earlier ++ e ∷ []; passed_over = n }) (setting_line s) ≡ Ok (record { entries = earlier ++ record e { said = e.said ++ s ∷ [] } ∷ []; passed_over = n })
unfolding text_says keyword_line
says-setting earlier e n s h =
    rw (setting_spelled (earlier ++ e ∷ []) e s (last-of earlier e) h.first h.plain h.taken, h.kept, with_last s (earlier ++ e ∷ []) earlier e refl) refl

settings-say : (earlier : List Entry) (e : Entry) (n : ℕ) (said : List Setting) (rest : List (List ℕ)) → AreSayable earlier e said
    → plainly (record { entries = earlier ++ e ∷ []; passed_over = n }) (map setting_line said ++ rest) ≡ plainly (record { entries = earlier ++ record e { said = e.said ++ said } ∷ []; passed_over = n }) rest
unfolding plainly
settings-say earlier e n [] rest h = ap (λ (said : List Setting). plainly (record { entries = earlier ++ record e { said = said } ∷ []; passed_over = n }) rest) (sym (append-nil e.said))
settings-say earlier e n (s ∷ said) rest h =
    let more : Entry = record e { said = e.said ++ s ∷ [] } in
    ap (λ r. r >>= λ next. plainly next (map setting_line said ++ rest)) (says-setting earlier e n s h.0)
    ∙ settings-say earlier more n said rest h.1
    ∙ ap (λ (all : List Setting). plainly (record { entries = earlier ++ record e { said = all } ∷ []; passed_over = n }) rest) (append_assoc e.said (s ∷ []) said)

-- ---- variable lines

begins-variable : (line : ℕ) (s : ReaderProgress) (word tail : List ℕ) → text_says line s (spelling_of_word word ++ tail) ≡ variable_line line s (spelling_of_word word ++ tail)
unfolding text_says
begins-variable line s [] tail = refl
begins-variable line s (b ∷ word) tail =
    elim (needs_quotes (b ∷ word)) as (λ t. needs_quotes (b ∷ word) ≡ t → text_says line s (cond t (in_quotes (b ∷ word)) (b ∷ word) ++ tail) ≡ variable_line line s (cond t (in_quotes (b ∷ word)) (b ∷ word) ++ tail)) [
      | true ↦ λ _. refl
      | false ↦ λ bare. rw (or-right (is_quote b) (b == 60) (or-left (is_quote b || (b == 60)) (list_any is_blank (b ∷ word)) bare)) refl
    ] refl

not-above : (m n : ℕ) → n ≤ m → nat_lt m n ≡ false
not-above m n h = grind arith

variable-words : (earlier : List Entry) (e : Entry) → IsPlaceable earlier e → words (variable_text e) ≡ e.name ∷ decimal e.first ∷ decimal e.width ∷ e.missing
variable-words earlier e h =
    words_spelled e.name (decimal e.first ∷ decimal e.width ∷ e.missing) h.name_plain
    ∙ ap (λ (ws : List (List ℕ)). e.name ∷ ws) (words_spaced (decimal e.first ∷ decimal e.width ∷ e.missing) (decimal_plain e.first (omega (arith, h.first)), (decimal_plain e.width (omega (arith, h.width)), h.missing_plain)))

reads-variable : (earlier : List Entry) (e : Entry) → IsPlaceable earlier e → variable_at 0 earlier (e.name ∷ decimal e.first ∷ decimal e.width ∷ e.missing) ≡ Ok (record e { said = [] })
unfolding variable_at name_at number_at missing_of
reads-variable earlier e h =
    rw (
      h.name,
      number_spelled 1 1000 e.first (omega (arith, h.first)) h.first.1 (omega arith),
      number_spelled 1 255 e.width (omega (arith, h.width)) h.width.1 (omega arith),
      not-above 1000 (e.first + e.width - 1) h.within,
      not-above 2 (length e.missing) h.missing_few,
      h.missing_trimmed,
      h.fresh,
      not-above 63 (length earlier) (omega (arith, h.room)),
      h.line,
    ) refl

says-variable : (earlier : List Entry) (e : Entry) (n : ℕ) → IsPlaceable earlier e
    → text_says 0 (record { entries = earlier; passed_over = n }) (variable_text e) ≡ Ok (record { entries = earlier ++ record e { said = [] } ∷ []; passed_over = n })
unfolding variable_line
says-variable earlier e n h =
    begins-variable 0 (record { entries = earlier; passed_over = n }) e.name (words_behind_spaces (decimal e.first ∷ decimal e.width ∷ e.missing))
    ∙ ap (λ r. r >>= λ entry. Ok (after_variable (record { entries = earlier; passed_over = n }) entry)) (ap (variable_at 0 earlier) (variable-words earlier e h) ∙ reads-variable earlier e h)

-- ---- the text

entries-say : (earlier es : List Entry) (n : ℕ) → AreCanonical earlier es → plainly (record { entries = earlier; passed_over = n }) (all_lines es) ≡ Ok (record { entries = earlier ++ es; passed_over = n })
unfolding plainly
entries-say earlier [] n h = ap (λ (es : List Entry). Ok (record { entries = es; passed_over = n })) (sym (append-nil earlier))
entries-say earlier (e ∷ es) n h =
    ap (λ r. r >>= λ next. plainly next (map setting_line e.said ++ all_lines es)) (says-variable earlier e n h.0)
    ∙ settings-say earlier (record e { said = [] }) n e.said (all_lines es) h.1
    ∙ entries-say (earlier ++ e ∷ []) es n h.3
    ∙ ap (λ (xs : List Entry). Ok (record { entries = xs; passed_over = n })) (append_assoc earlier (e ∷ []) es)

-- ---- lines that are passed over

not-request : (k : Keyword) → is_passed k ≡ false → same_keyword k Request ≡ false
not-request Recodeable h = refl
not-request Recodable h = refl
not-request Numeric h = refl
not-request Decimals h = refl
not-request Weight h = refl
not-request CodeList h = refl
not-request Hierarchical h = refl
not-request HierLevels h = refl
not-request HierCodeList h = refl
not-request HierLeadString h = refl
not-request TotCode h = refl
not-request Request h = absurd cc
not-request Holding h = refl
not-request Distance h = refl

unrequested : (earlier : List Entry) (e : Entry) (said : List Setting) → AreSayable earlier e said → has_keyword Request said ≡ false
unrequested earlier e [] h = refl
unrequested earlier e (s ∷ said) h = rw (not-request s.keyword h.0.kept, unrequested earlier (record e { said = e.said ++ s ∷ [] }) said h.1) refl

-- the last of some entries, which says nothing that is passed over
last-unrequested : (earlier : List Entry) (e : Entry) (es : List Entry) → AreCanonical earlier (e ∷ es) → (entry : Entry) × (last_of (earlier ++ e ∷ es) ≡ Some entry) × (has_keyword Request entry.said ≡ false)
last-unrequested earlier e [] h = (e, last-of earlier e, unrequested earlier (record e { said = [] }) e.said h.1)
last-unrequested earlier e (next ∷ es) h =
    let rest = last-unrequested (earlier ++ e ∷ []) next es h.3 in
    (rest.0, ap last_of (sym (append_assoc earlier (e ∷ []) (next ∷ es))) ∙ rest.1, rest.2)

passed-says : (entries : List Entry) (e : Entry) (n : ℕ) → last_of entries ≡ Some e → has_keyword Request e.said ≡ false
    → text_says 0 (record { entries = entries; passed_over = n }) (codes "<REQUEST>") ≡ Ok (record { entries = entries; passed_over = n + 1 })
unfolding text_says keyword_line argument_of
passed-says entries e n last free = rw (setting_spelled entries e (record { keyword = Request; argument = Nothing }) last free tt refl) refl

passed-say : (entries : List Entry) (e : Entry) (n k : ℕ) → last_of entries ≡ Some e → has_keyword Request e.said ≡ false
    → plainly (record { entries = entries; passed_over = n }) (passed_lines k) ≡ Ok (record { entries = entries; passed_over = n + k })
unfolding plainly
passed-say entries e n zero last free = ap (λ (m : ℕ). Ok (record { entries = entries; passed_over = m })) (let same : n ≡ n + 0 = omega arith in same)
passed-say entries e n (suc k) last free =
    ap (λ r. r >>= λ next. plainly next (passed_lines k)) (passed-says entries e n last free)
    ∙ passed-say entries e (n + 1) k last free
    ∙ ap (λ (m : ℕ). Ok (record { entries = entries; passed_over = m })) (let same : n + 1 + k ≡ n + suc k = omega arith in same)

bind-assoc : {A B C F : Type 0} (r : Result A F) (f : A → Result B F) (g : B → Result C F) → ((r >>= f) >>= g) ≡ (r >>= λ x. f x >>= g)
bind-assoc (Ok x) f g = refl
bind-assoc (Err e) f g = refl

plainly-append : (s : ReaderProgress) (a b : List (List ℕ)) → plainly s (a ++ b) ≡ (plainly s a >>= λ next. plainly next b)
unfolding plainly
plainly-append s [] b = refl
plainly-append s (t ∷ a) b =
    bind_same (text_says 0 s t) _ _ (λ next. plainly-append next a b) ∙ sym (bind-assoc (text_says 0 s t) (λ next. plainly next a) (λ next. plainly next b))

none-say : (es : List Entry) → plainly (record { entries = es; passed_over = 0 }) (passed_lines 0) ≡ Ok (record { entries = es; passed_over = 0 })
unfolding plainly
none-say es = refl

all-say : (entries : List Entry) (passed : ℕ) → AreCanonical [] entries → (entries ≡ [] → passed ≡ 0) → plainly no_lines (canonical_lines entries passed) ≡ Ok (record { entries = entries; passed_over = passed })
all-say entries passed h place =
    plainly-append no_lines (all_lines entries) (passed_lines passed) ∙ ap (λ r. r >>= λ next. plainly next (passed_lines passed)) (entries-say [] entries 0 h) ∙ behind entries h place
  where
    behind : (es : List Entry) → AreCanonical [] es → (es ≡ [] → passed ≡ 0) → plainly (record { entries = es; passed_over = 0 }) (passed_lines passed) ≡ Ok (record { entries = es; passed_over = passed })
    behind [] h place = rw (place refl) (none-say [])
    behind (e ∷ es) h place =
        let last = last-unrequested [] e es h in
        passed-say (e ∷ es) last.0 0 passed last.1 last.2 ∙ ap (λ (m : ℕ). Ok (record { entries = e ∷ es; passed_over = m })) (let same : 0 + passed ≡ passed = omega arith in same)

no-clash : (earlier es : List Entry) → AreCanonical earlier es → but_for_line (no_clash es) ≡ Ok tt
unfolding no_clash
no-clash earlier [] h = refl
no-clash earlier (e ∷ es) h = rw h.2 (no-clash (earlier ++ e ∷ []) es h.3)

with-value : {A : Type 0} (r : Result A (ℕ × MetaWhy)) (x : A) → but_for_line r ≡ Ok x → r ≡ Ok x
with-value (Ok y) x h = let same : y ≡ x = cc in ap (λ z. Ok z) same
with-value (Err e) x h = absurd cc

pub spelled_again : (entries : List Entry) (passed : ℕ) (bytes : List ℕ) → AreCanonical [] entries → (entries ≡ [] → passed ≡ 0) → dark_lines bytes ≡ canonical_lines entries passed
    → meta_of bytes ≡ Ok (record { variables = map variable_of entries; passed_over = passed })
spelled_again entries passed bytes h place is =
    with-value (meta_of bytes) (record { variables = map variable_of entries; passed_over = passed })
    (meta-plainly bytes ∙ ap (λ (ts : List (List ℕ)). plainly no_lines ts >>= made) is ∙ ap (λ r. r >>= made) (all-say entries passed h place)
    ∙ ap (λ r. r >>= λ fine. Ok (record { variables = map variable_of entries; passed_over = passed })) (no-clash [] entries h))

-- ---- the bytes

-- a line that isn't blank, without blanks at its ends
abbrev IsClean : List ℕ → Type 0
IsClean line = (trim line ≡ line) × (is_dark_line line ≡ true)

clean-setting : (s : Setting) → IsClean (setting_line s)
clean-setting s =
    let ends : (ws : List (List ℕ)) → EndsDark (60 ∷ name_of s.keyword ++ 62 ∷ words_behind_spaces ws) =
    λ ws. elim ws as (λ ws. EndsDark (60 ∷ name_of s.keyword ++ 62 ∷ words_behind_spaces ws)) [
      | [] ↦ (60 ∷ name_of s.keyword, 62, refl, refl)
      | w ∷ ws ↦ ends-append (60 ∷ name_of s.keyword) (62 ∷ words_behind_spaces (w ∷ ws)) (ends-append (62 ∷ 32 ∷ []) (spelling_of_word w ++ words_behind_spaces ws) (ends-spaced w ws))
    ] in
    (trim_dark 60 (setting_text s) refl (ends (argument_words s.argument)), refl)

clean-spelled : (word : List ℕ) (ws : List (List ℕ)) → EndsDark (spelling_of_word word ++ words_behind_spaces ws) → IsClean (spelling_of_word word ++ words_behind_spaces ws)
clean-spelled [] ws ends = (trim_dark 34 (34 ∷ [] ++ words_behind_spaces ws) refl ends, refl)
clean-spelled (b ∷ word) ws ends =
    elim (needs_quotes (b ∷ word)) as (λ t. needs_quotes (b ∷ word) ≡ t → EndsDark (cond t (in_quotes (b ∷ word)) (b ∷ word) ++ words_behind_spaces ws) → IsClean (cond t (in_quotes (b ∷ word)) (b ∷ word) ++ words_behind_spaces ws)) [
      | true ↦ λ _ ends. (trim_dark 34 ((b ∷ word ++ 34 ∷ []) ++ words_behind_spaces ws) refl ends, refl)
      | false ↦ λ bare ends. (trim_dark b (word ++ words_behind_spaces ws) (or-left (is_blank b) (list_any is_blank word) (or-right (is_quote b || (b == 60)) (list_any is_blank (b ∷ word)) bare)) ends, refl)
    ] refl ends

clean-variable : (e : Entry) → IsClean (variable_text e)
clean-variable e = clean-spelled e.name (decimal e.first ∷ decimal e.width ∷ e.missing) (ends-spaced e.name (decimal e.first ∷ decimal e.width ∷ e.missing))

keeps-clean : (line : List ℕ) (rest : List (List ℕ)) → IsClean line → filter is_dark_line (map trim rest) ≡ rest → filter is_dark_line (map trim (line ∷ rest)) ≡ line ∷ rest
keeps-clean line rest clean h = rw (clean.0, clean.1, h) refl

settings-clean : (said : List Setting) (rest : List (List ℕ)) → filter is_dark_line (map trim rest) ≡ rest → filter is_dark_line (map trim (map setting_line said ++ rest)) ≡ map setting_line said ++ rest
settings-clean [] rest h = h
settings-clean (s ∷ said) rest h = keeps-clean (setting_line s) (map setting_line said ++ rest) (clean-setting s) (settings-clean said rest h)

passed-clean : (n : ℕ) → filter is_dark_line (map trim (passed_lines n)) ≡ passed_lines n
passed-clean zero = refl
passed-clean (suc n) = keeps-clean (codes "<REQUEST>") (passed_lines n) (refl, refl) (passed-clean n)

all-clean : (es : List Entry) (n : ℕ) → filter is_dark_line (map trim (canonical_lines es n)) ≡ canonical_lines es n
all-clean [] n = passed-clean n
all-clean (e ∷ es) n =
    let regroup : canonical_lines (e ∷ es) n ≡ variable_text e ∷ (map setting_line e.said ++ canonical_lines es n) =
    ap (λ (ls : List (List ℕ)). variable_text e ∷ ls) (append_assoc (map setting_line e.said) (all_lines es) (passed_lines n)) in
    ap (λ (ls : List (List ℕ)). filter is_dark_line (map trim ls)) regroup
    ∙ keeps-clean (variable_text e) (map setting_line e.said ++ canonical_lines es n) (clean-variable e) (settings-clean e.said (canonical_lines es n) (all-clean es n))
    ∙ sym regroup

pub read_again : AreReadAgain → (entries : List Entry) (passed : ℕ) → AreCanonical [] entries → (entries ≡ [] → passed ≡ 0) → AllByRecursion IsLine (canonical_lines entries passed)
    → meta_of (canonical_text entries passed) ≡ Ok (record { variables = map variable_of entries; passed_over = passed })
read_again lines-law entries passed canonical place plain =
    spelled_again entries passed (canonical_text entries passed) canonical place (ap (λ (ts : List (List ℕ)). filter is_dark_line (map trim ts)) (lines-law (canonical_lines entries passed) plain) ∙ all-clean entries passed)
