-- Metadata that were read are within their limits.
use Rattle.std.proofs.Common.{◌≡◌, ℕ, zero, suc, ◌+◌, ◌-◌, ◌<◌, ◌≤◌, ◌==◌, Bool, true, false, cond, not, ◌&&◌, ◌||◌, nat_lt, nat_le, List, [], ◌∷◌, ◌++◌, length, map, filter, Option, None, Some, Result, Ok, Err, refl, ap, sym, subst, ◌∙◌, arith}
use Rattle.std.specs.Prelude.{slice_get, slice_index_or, codes, sum, unwrap_or}
use Rattle.std.specs.List.{AllByRecursion, IsDistinct, list_any, after_first}
use Rattle.std.specs.Option.{ForSome}
use Rattle.std.specs.Str.{bytes_eq}
use Rattle.std.specs.Str.Parse.{digits_value}
use Rattle.std.proofs.lemmas.Bool.Decides.{nat_tests, Decides-eqb}
use Rattle.std.proofs.lemmas.Cmp.{nat_list_eq_equiv}
use Rattle.std.proofs.lemmas.Map.Keys.{IsDistinct-push}
use Rattle.std.proofs.lemmas.List.{length-map, map-append}
use Rattle.sdc_base.specs.Blanks.{trim}
use Rattle.sdc_base.specs.Lines.{lines}
use Rattle.sdc_base.specs.Steps.{◌>>=◌, or_fault, refuse}
use Rattle.sdc_base.specs.Tokens.{is_number, number_in, is_file_name, is_close}
use Rattle.sdc_base.proofs.StepLemmas.{bind_ok}
use Rattle.rda_meta.specs.Faults.{at_line, meta_fault_of}
use Rattle.sdc_base.specs.Answers.{Gives}
use Rattle.std.specs.Result.{IfOk}
use Rattle.rda_meta.specs.declared.faults.MetaError.{MetaError}
use Rattle.rda_meta.specs.Words.{words}
use denote.Enum.Bare.{same_true}
use Rattle.rda_meta.specs.contracts.setting.Keyword.{the_type}
use Rattle.rda_meta.specs.Keywords.{same_keyword, is_passed}
use Rattle.rda_meta.specs.Arguments.{is_lead, is_zero, without_end_zeros, are_levels, only_word, decimals_argument, file_argument, lead_argument, word_numbers, levels_argument, argument_of}
use Rattle.rda_meta.specs.LineSettings.{has_keyword, argument_said, number_in as number_behind, word_in, levels_in, is_numeric, decimals_of, lead_of, shape_from, has_tree, is_clashing}
use Rattle.rda_meta.specs.KeywordLines.{keyword_in, last_of, is_again, setting_in, with_setting}
use Rattle.rda_meta.specs.VariableLines.{name_at, number_at, is_past, missing_of, is_named, variable_at}
use Rattle.rda_meta.specs.Metadata.{after_setting, after_variable, keyword_line, variable_line, text_says, lines_say, no_clash, variable_of, no_lines, meta_of}
use Rattle.rda_meta.specs.Limits.{IsShaped, IsVariable, IsMeta, weights}
use Rattle.rda_meta.specs.declared.faults.MetaWhy.{MetaWhy}
use Rattle.rda_meta.specs.declared.faults.MetaWhy.TheVariants.{BadName, BadPlace, BadValue, Twice, TooMany, Clash}
use Rattle.rda_meta.specs.declared.setting.Keyword.{Keyword}
use Rattle.rda_meta.specs.declared.setting.Keyword.TheVariants.{Numeric, Decimals, Weight, CodeList, Hierarchical, HierLevels, HierCodeList, HierLeadString}
use Rattle.rda_meta.specs.declared.setting.Argument.{Argument}
use Rattle.rda_meta.specs.declared.setting.Argument.TheVariants.{Number, Word, Levels}
use Rattle.rda_meta.specs.declared.setting.Setting.{Setting}
use Rattle.rda_meta.specs.declared.entry.Entry.{Entry}
use Rattle.rda_meta.specs.declared.entry.ReaderProgress.{ReaderProgress}
use Rattle.rda_meta.specs.declared.meta.Shape.TheVariants as shape
use Rattle.rda_meta.specs.declared.meta.Variable.{Variable}
use Rattle.rda_meta.specs.declared.meta.Meta.{Meta}

-- ---- tests that did not refuse

refuse-ok : {F : Type 0} (fault : F) (wrong : Bool) (x : Unit {0}) → refuse fault wrong ≡ Ok x → wrong ≡ false
refuse-ok fault true x h = absurd cc
refuse-ok fault false x h = refl

fault-ok : {A F : Type 0} (fault : F) (o : Option A) (x : A) → or_fault fault o ≡ Ok x → o ≡ Some x
fault-ok fault None x h = absurd cc
fault-ok fault (Some y) x h = let same : y ≡ x = cc in ap Some same

not-false : (t : Bool) → not t ≡ false → t ≡ true
not-false true h = refl
not-false false h = absurd cc

and-left : (a b : Bool) → (a && b) ≡ true → a ≡ true
and-left true b h = refl
and-left false b h = h

and-right : (a b : Bool) → (a && b) ≡ true → b ≡ true
and-right true b h = h
and-right false b h = absurd cc

or-right : (a b : Bool) → (a || b) ≡ false → b ≡ false
or-right true b h = absurd cc
or-right false b h = h

or-left : (a b : Bool) → (a || b) ≡ false → a ≡ false
or-left true b h = absurd cc
or-left false b h = refl

number-within : (low high : ℕ) (digits : List ℕ) (n : ℕ) → number_in low high digits ≡ Some n → (low ≤ n) × (n ≤ high)
number-within low high digits n h =
    let value = digits_value 10 digits in
    elim (is_number digits && (nat_le low value && nat_le value high)) as (λ t. (is_number digits && (nat_le low value && nat_le value high)) ≡ t → cond t (Some value) None ≡ Some n → (low ≤ n) × (n ≤ high)) [
      | true ↦ λ is found.
          let same : value ≡ n = cc in
          let both = and-right (is_number digits) (nat_le low value && nat_le value high) is in
          let least = and-left (nat_le low value) (nat_le value high) both in
          let most = and-right (nat_le low value) (nat_le value high) both in
          subst (λ (m : ℕ). (low ≤ m) × (m ≤ high)) same (grind (arith, nat_tests), grind (arith, nat_tests))
      | false ↦ λ is found. absurd cc
    ] refl h

-- ---- keywords

same-is : (a b : Keyword) → same_keyword a b ≡ true → a ≡ b
same-is a b h = same_true the_type tt a b h

-- ---- what is said of a variable, of arguments that their keywords take

abbrev pub IsSaid : ℕ → Setting → Type 0
IsSaid width s = (ws : List (List ℕ)) × (argument_of s.keyword width ws ≡ Ok s.argument)

said-fits : (width : ℕ) (keyword : Keyword) (P : Argument → Type 0) → ((ws : List (List ℕ)) (a : Argument) → argument_of keyword width ws ≡ Ok a → P a) → (said : List Setting) → AllByRecursion (IsSaid width) said → ForSome (argument_said keyword said) P
said-fits width keyword P h [] all = λ a is. absurd cc
said-fits width keyword P h (s ∷ said) all =
    elim (same_keyword s.keyword keyword) as (λ t. same_keyword s.keyword keyword ≡ t → ForSome (cond t (Some s.argument) (argument_said keyword said)) P) [
      | true ↦ λ is a there.
          let same : s.argument ≡ a = cc in
          let taken : argument_of keyword width all.0.0 ≡ Ok a = ap (λ k. argument_of k width all.0.0) (sym (same-is s.keyword keyword is)) ∙ all.0.1 ∙ ap Ok same in
          h all.0.0 a taken
      | false ↦ λ is. said-fits width keyword P h said all.1
    ] refl

abbrev FewDecimals : Argument → Type 0
FewDecimals a = unwrap_or (number_behind (Some a)) 0 ≤ 9

decimals-fit : (width : ℕ) (ws : List (List ℕ)) (a : Argument) → argument_of Decimals width ws ≡ Ok a → FewDecimals a
unfolding argument_of decimals_argument
decimals-fit width ws a h =
    let w = bind_ok (only_word ws) _ a h in
    let n = bind_ok (or_fault BadValue (number_in 0 9 w.0)) _ a w.2 in
    let made : Number n.0 ≡ a = cc in
    subst FewDecimals made (number-within 0 9 w.0 n.0 (fault-ok BadValue (number_in 0 9 w.0) n.0 n.1)).1

abbrev IsFile : Argument → Type 0
IsFile a = (file : List ℕ) × (a ≡ Word file) × (is_file_name file ≡ true)

file-fits : (ws : List (List ℕ)) (a : Argument) → file_argument ws ≡ Ok a → IsFile a
unfolding file_argument
file-fits ws a h =
    let w = bind_ok (only_word ws) _ a h in
    let n = bind_ok (refuse BadValue (not (is_file_name w.0))) _ a w.2 in
    let made : Word w.0 ≡ a = cc in
    (w.0, sym made, not-false (is_file_name w.0) (refuse-ok BadValue (not (is_file_name w.0)) n.0 n.1))

list-fits : (width : ℕ) (ws : List (List ℕ)) (a : Argument) → argument_of CodeList width ws ≡ Ok a → IsFile a
unfolding argument_of
list-fits width ws a h = file-fits ws a h

hierarchy-fits : (width : ℕ) (ws : List (List ℕ)) (a : Argument) → argument_of HierCodeList width ws ≡ Ok a → IsFile a
unfolding argument_of
hierarchy-fits width ws a h = file-fits ws a h

abbrev IsLeadWord : Argument → Type 0
IsLeadWord a = (lead : List ℕ) × (a ≡ Word lead) × (is_lead lead ≡ true)

lead-fits : (width : ℕ) (ws : List (List ℕ)) (a : Argument) → argument_of HierLeadString width ws ≡ Ok a → IsLeadWord a
unfolding argument_of lead_argument
lead-fits width ws a h =
    let w = bind_ok (only_word ws) _ a h in
    let n = bind_ok (refuse BadValue (not (is_lead w.0))) _ a w.2 in
    let made : Word w.0 ≡ a = cc in
    (w.0, sym made, not-false (is_lead w.0) (refuse-ok BadValue (not (is_lead w.0)) n.0 n.1))

abbrev AreLevels : ℕ → Argument → Type 0
AreLevels width a = (widths : List ℕ) × (a ≡ Levels widths) × (are_levels width widths ≡ true)

levels-fit : (width : ℕ) (ws : List (List ℕ)) (a : Argument) → argument_of HierLevels width ws ≡ Ok a → AreLevels width a
unfolding argument_of levels_argument
levels-fit width ws a h =
    let w = bind_ok (word_numbers ws) _ a h in
    let n = bind_ok (refuse BadValue (not (are_levels width (without_end_zeros w.0)))) _ a w.2 in
    let made : Levels (without_end_zeros w.0) ≡ a = cc in
    (without_end_zeros w.0, sym made, not-false (are_levels width (without_end_zeros w.0)) (refuse-ok BadValue (not (are_levels width (without_end_zeros w.0))) n.0 n.1))

-- ---- a variable line

pub record IsEntry (e : Entry) : Type 0 where
  pub first_from_one : 0 < e.first
  pub width_from_one : 0 < e.width
  pub narrow : e.width ≤ 255
  pub inside : e.first + e.width ≤ 1001
  pub at_most_2_missing : length e.missing ≤ 2
  pub each : AllByRecursion (IsSaid e.width) e.said

number-at-within : (most : ℕ) (ws : List (List ℕ)) (n : ℕ × List (List ℕ)) → number_at most ws ≡ Ok n → (0 < n.0) × (n.0 ≤ most)
unfolding number_at
number-at-within most [] n h = absurd cc
number-at-within most (word ∷ ws) n h =
    let one = bind_ok (or_fault BadPlace (number_in 1 most word)) _ n h in
    let made : (one.0, ws) ≡ n = cc in
    let within = number-within 1 most word one.0 (fault-ok BadPlace (number_in 1 most word) one.0 one.1) in
    subst (λ (m : ℕ × List (List ℕ)). (0 < m.0) × (m.0 ≤ most)) made (within.0, within.1)

few-of : (ws missing : List (List ℕ)) → missing_of ws ≡ Ok missing → length missing ≤ 2
unfolding missing_of
few-of ws missing h =
    elim (nat_lt 2 (length ws)) as (λ t. nat_lt 2 (length ws) ≡ t → cond t (Err BadValue) (Ok (map trim ws)) ≡ Ok missing → length missing ≤ 2) [
      | true ↦ λ is made. absurd cc
      | false ↦ λ is made.
          let same : map trim ws ≡ missing = cc in
          let few : length ws ≤ 2 = grind (arith, nat_tests) in
          subst (λ (xs : List (List ℕ)). length xs ≤ 2) same (rw (length-map) few)
    ] refl h

-- an entry that a line adds: within its place, of a name that is new, and with room for it
pub record IsFresh (es : List Entry) (e : Entry) : Type 0 where
  pub entry : IsEntry e
  pub none : e.said ≡ []
  pub new : is_named e.name es ≡ false
  pub room : length es < 64

fresh-at : (line : ℕ) (es : List Entry) (ws : List (List ℕ)) (e : Entry) → variable_at line es ws ≡ Ok e → IsFresh es e
unfolding variable_at
fresh-at line es ws e h =
    let name = bind_ok (name_at ws) _ e h in
    let first = bind_ok (number_at 1000 name.0.1) _ e name.2 in
    let width = bind_ok (number_at 255 first.0.1) _ e first.2 in
    let within = bind_ok (refuse BadPlace (is_past first.0.0 width.0.0)) _ e width.2 in
    let missing = bind_ok (missing_of width.0.1) _ e within.2 in
    let fresh = bind_ok (refuse Twice (is_named name.0.0 es)) _ e missing.2 in
    let room = bind_ok (refuse TooMany (nat_lt 63 (length es))) _ e fresh.2 in
    let made : record { line = line; name = name.0.0; first = first.0.0; width = width.0.0; missing = missing.0; said = [] } ≡ e = cc in
    let some = number-at-within 1000 name.0.1 first.0 first.1 in
    let wide = number-at-within 255 first.0.1 width.0 width.1 in
    let past : nat_lt 1000 (first.0.0 + width.0.0 - 1) ≡ false = refuse-ok BadPlace (is_past first.0.0 width.0.0) within.0 within.1 in
    let full : nat_lt 63 (length es) ≡ false = refuse-ok TooMany (nat_lt 63 (length es)) room.0 room.1 in
    let short : first.0.0 + width.0.0 - 1 ≤ 1000 = grind (arith, nat_tests) in
    let free : length es < 64 = grind (arith, nat_tests) in
    subst (IsFresh es) made (record {
      entry = record { first_from_one = some.0; width_from_one = wide.0; narrow = wide.1; inside = omega (arith, short); at_most_2_missing = few-of width.0.1 missing.0 missing.1; each = tt };
      none = refl;
      new = refuse-ok Twice (is_named name.0.0 es) fresh.0 fresh.1;
      room = free;
    })

-- ---- a keyword line

-- the last entry can take the setting
abbrev LastTakes : Setting → List Entry → Type 0
LastTakes s [] = Unit {0}
LastTakes s (e ∷ []) = IsSaid e.width s × (same_keyword s.keyword Weight ≡ true → has_keyword Weight e.said ≡ false)
LastTakes s (e ∷ next ∷ es) = LastTakes s (next ∷ es) × (same_keyword s.keyword Weight ≡ true → has_keyword Weight e.said ≡ false)

last-next : (e next : Entry) (es : List Entry) → last_of (e ∷ next ∷ es) ≡ last_of (next ∷ es)
last-next e next es =
    let long : suc (suc (length es)) - 1 ≡ suc (length es) = omega arith in
    let short : suc (length es) - 1 ≡ length es = omega arith in
    ap (slice_get (e ∷ next ∷ es)) long ∙ ap (slice_get (next ∷ es)) (sym short)

abbrev NoWeight : List Entry → Type 0
NoWeight es = list_any (λ e. has_keyword Weight e.said) es ≡ false

last-takes : (es : List Entry) (entry : Entry) (s : Setting) → last_of es ≡ Some entry → IsSaid entry.width s → (same_keyword s.keyword Weight ≡ true → NoWeight es) → LastTakes s es
last-takes [] entry s last said none = tt
last-takes (e ∷ []) entry s last said none =
    let same : e ≡ entry = cc in
    (subst (λ (x : Entry). IsSaid x.width s) (sym same) said, λ is. or-left (has_keyword Weight e.said) false (none is))
last-takes (e ∷ next ∷ es) entry s last said none = (
  last-takes (next ∷ es) entry s (sym (last-next e next es) ∙ last) said (λ is. or-right (has_keyword Weight e.said) (list_any (λ x. has_keyword Weight x.said) (next ∷ es)) (none is)),
  λ is. or-left (has_keyword Weight e.said) (list_any (λ x. has_keyword Weight x.said) (next ∷ es)) (none is),
)

takes : (es : List Entry) (text : List ℕ) (s : Setting) → setting_in es text ≡ Ok s → LastTakes s es
unfolding setting_in
takes es text s h =
    let k = bind_ok (keyword_in text) _ s h in
    let e = bind_ok (or_fault BadName (last_of es)) _ s k.2 in
    let a = bind_ok (argument_of k.0 e.0.width (words (after_first is_close text))) _ s e.2 in
    let o = bind_ok (refuse Twice (is_again k.0 e.0 es)) _ s a.2 in
    let made : record { keyword = k.0; argument = a.0 } ≡ s = cc in
    let again : is_again k.0 e.0 es ≡ false = refuse-ok Twice (is_again k.0 e.0 es) o.0 o.1 in
    let none : same_keyword k.0 Weight ≡ true → NoWeight es = λ is. subst (λ (t : Bool). cond t (list_any (λ x. has_keyword Weight x.said) es) (has_keyword k.0 e.0.said) ≡ false) is again in
    subst (λ (x : Setting). LastTakes x es) made (last-takes es e.0 (record { keyword = k.0; argument = a.0 }) (fault-ok BadName (last_of es) e.0 e.1) (words (after_first is_close text), a.1) none)

all-more : {X : Type 0} (P : X → Type 0) (xs : List X) (x : X) → AllByRecursion P xs → P x → AllByRecursion P (xs ++ x ∷ [])
all-more P [] x all h = (h, tt)
all-more P (y ∷ ys) x all h = (all.0, all-more P ys x all.1 h)

entries-take : (es : List Entry) (s : Setting) → LastTakes s es → AllByRecursion IsEntry es → AllByRecursion IsEntry (with_setting s es)
entries-take [] s last all = tt
entries-take (e ∷ []) s last all =
    (record { first_from_one = all.0.first_from_one; width_from_one = all.0.width_from_one; narrow = all.0.narrow; inside = all.0.inside; at_most_2_missing = all.0.at_most_2_missing; each = all-more (IsSaid e.width) e.said s all.0.each last.0 }, tt)
entries-take (e ∷ next ∷ es) s last all = (all.0, entries-take (next ∷ es) s last.0 all.1)

names-stay : (es : List Entry) (s : Setting) → map (λ e. e.name) (with_setting s es) ≡ map (λ e. e.name) es
names-stay [] s = refl
names-stay (e ∷ []) s = refl
names-stay (e ∷ next ∷ es) s = ap (λ (names : List (List ℕ)). e.name ∷ names) (names-stay (next ∷ es) s)

count-stays : (es : List Entry) (s : Setting) → length (with_setting s es) ≡ length es
count-stays [] s = refl
count-stays (e ∷ []) s = refl
count-stays (e ∷ next ∷ es) s = ap suc (count-stays (next ∷ es) s)

-- how many entries are weights
abbrev weighty : List Entry → List Entry
weighty es = filter (λ e. has_keyword Weight e.said) es

none-weighty : (es : List Entry) → NoWeight es → length (weighty es) ≡ 0
none-weighty [] h = refl
none-weighty (e ∷ es) h =
    rw (or-left (has_keyword Weight e.said) (list_any (λ x. has_keyword Weight x.said) es) h) (none-weighty es (or-right (has_keyword Weight e.said) (list_any (λ x. has_keyword Weight x.said) es) h))

says-more : (said : List Setting) (s : Setting) → has_keyword Weight (said ++ s ∷ []) ≡ (has_keyword Weight said || same_keyword s.keyword Weight)
says-more [] s = elim (same_keyword s.keyword Weight) as (λ t. (t || false) ≡ t) [ true ↦ refl | false ↦ refl ]
says-more (x ∷ said) s = elim (same_keyword x.keyword Weight) as (λ t. (t || has_keyword Weight (said ++ s ∷ [])) ≡ ((t || has_keyword Weight said) || same_keyword s.keyword Weight)) [ true ↦ refl | false ↦ says-more said s ]

or-false : (t : Bool) → (t || false) ≡ t
or-false true = refl
or-false false = refl

-- a weight that is the first leaves one
weighty-one : (es : List Entry) (s : Setting) → same_keyword s.keyword Weight ≡ true → LastTakes s es → length (weighty (with_setting s es)) ≤ 1
weighty-one [] s is last = omega arith
weighty-one (e ∷ []) s is last =
    let new : Entry = record e { said = e.said ++ s ∷ [] } in
    elim (has_keyword Weight new.said) as (λ t. length (cond t (new ∷ []) []) ≤ 1) [ true ↦ omega arith | false ↦ omega arith ]
weighty-one (e ∷ next ∷ es) s is last = rw (last.1 is) (weighty-one (next ∷ es) s is last.0)

-- another setting changes no weight
weighty-same : (es : List Entry) (s : Setting) → same_keyword s.keyword Weight ≡ false → length (weighty (with_setting s es)) ≡ length (weighty es)
weighty-same [] s is = refl
weighty-same (e ∷ []) s is =
    let new : Entry = record e { said = e.said ++ s ∷ [] } in
    let same : has_keyword Weight new.said ≡ has_keyword Weight e.said = says-more e.said s ∙ ap (λ t. has_keyword Weight e.said || t) is ∙ or-false (has_keyword Weight e.said) in
    rw same (elim (has_keyword Weight e.said) as (λ t. length (cond t (new ∷ []) []) ≡ length (cond t (e ∷ []) [])) [ true ↦ refl | false ↦ refl ])
weighty-same (e ∷ next ∷ es) s is =
    let rest = weighty-same (next ∷ es) s is in
    elim (has_keyword Weight e.said) as (λ t. length (cond t (e ∷ weighty (with_setting s (next ∷ es))) (weighty (with_setting s (next ∷ es)))) ≡ length (cond t (e ∷ weighty (next ∷ es)) (weighty (next ∷ es)))) [ true ↦ ap suc rest | false ↦ rest ]

weighty-push : (es : List Entry) (e : Entry) → has_keyword Weight e.said ≡ false → length (weighty (es ++ e ∷ [])) ≡ length (weighty es)
weighty-push [] e h = rw h refl
weighty-push (x ∷ es) e h =
    let rest = weighty-push es e h in
    elim (has_keyword Weight x.said) as (λ t. length (cond t (x ∷ weighty (es ++ e ∷ [])) (weighty (es ++ e ∷ []))) ≡ length (cond t (x ∷ weighty es) (weighty es))) [ true ↦ ap suc rest | false ↦ rest ]

-- ---- line by line

pub record IsReaderProgress (s : ReaderProgress) : Type 0 where
  pub each : AllByRecursion IsEntry s.entries
  pub few : length s.entries ≤ 64
  pub distinct : IsDistinct bytes_eq (map (λ (e : Entry). e.name) s.entries)
  pub one : length (weighty s.entries) ≤ 1

new-name : (es : List Entry) (name : List ℕ) → is_named name es ≡ false → list_any (bytes_eq name) (map (λ (e : Entry). e.name) es) ≡ false
new-name [] name h = refl
new-name (e ∷ es) name h =
    let other : bytes_eq name e.name ≡ false = nat_list_eq_equiv.symm name e.name ∙ or-left (bytes_eq e.name name) (is_named name es) h in
    rw other (new-name es name (or-right (bytes_eq e.name name) (is_named name es) h))

with-weight : (es : List Entry) (s : Setting) → LastTakes s es → length (weighty es) ≤ 1 → length (weighty (with_setting s es)) ≤ 1
with-weight es s last one =
    elim (same_keyword s.keyword Weight) as (λ t. same_keyword s.keyword Weight ≡ t → length (weighty (with_setting s es)) ≤ 1) [
      | true ↦ λ is. weighty-one es s is last
      | false ↦ λ is. omega (arith, weighty-same es s is, one)
    ] refl

keyword-keeps : (s next : ReaderProgress) (text : List ℕ) → keyword_line s text ≡ Ok next → IsReaderProgress s → IsReaderProgress next
unfolding keyword_line
keyword-keeps s next text h kept =
    let one = bind_ok (setting_in s.entries text) (λ setting. Ok (after_setting s setting)) next h in
    let setting = one.0 in
    let last = takes s.entries text setting one.1 in
    let made : after_setting s setting ≡ next = cc in
    subst IsReaderProgress made
    (elim (is_passed setting.keyword) as (λ p. IsReaderProgress (cond p (record s { passed_over = s.passed_over + 1 }) (record s { entries = with_setting setting s.entries }))) [
      | true ↦ record { each = kept.each; few = kept.few; distinct = kept.distinct; one = kept.one }
      | false ↦ record {
        each = entries-take s.entries setting last kept.each;
        few = rw (count-stays s.entries setting) kept.few;
        distinct = subst (λ (names : List (List ℕ)). IsDistinct bytes_eq names) (sym (names-stay s.entries setting)) kept.distinct;
        one = with-weight s.entries setting last kept.one;
      }
    ])

pushed-count : (es : List Entry) (e : Entry) → length (es ++ e ∷ []) ≡ length es + 1
pushed-count [] e = refl
pushed-count (x ∷ es) e = omega (arith, pushed-count es e)

variable-keeps : (line : ℕ) (s next : ReaderProgress) (text : List ℕ) → variable_line line s text ≡ Ok next → IsReaderProgress s → IsReaderProgress next
unfolding variable_line
variable-keeps line s next text h kept =
    let one = bind_ok (variable_at line s.entries (words text)) (λ entry. Ok (after_variable s entry)) next h in
    let e = one.0 in
    let fresh = fresh-at line s.entries (words text) e one.1 in
    let made : after_variable s e ≡ next = cc in
    let light : has_keyword Weight e.said ≡ false = rw fresh.none refl in
    let named : map (λ (x : Entry). x.name) s.entries ++ e.name ∷ [] ≡ map (λ (x : Entry). x.name) (s.entries ++ e ∷ []) = sym (map-append (λ (x : Entry). x.name) s.entries (e ∷ [])) in
    subst IsReaderProgress made (record {
      each = all-more IsEntry s.entries e kept.each fresh.entry;
      few = omega (arith, pushed-count s.entries e, fresh.room);
      distinct = subst (λ (names : List (List ℕ)). IsDistinct bytes_eq names) named (IsDistinct-push nat_list_eq_equiv (map (λ (x : Entry). x.name) s.entries) e.name kept.distinct (new-name s.entries e.name fresh.new));
      one = omega (arith, weighty-push s.entries e light, kept.one);
    })

text-keeps : (line : ℕ) (s next : ReaderProgress) (text : List ℕ) → text_says line s text ≡ Ok next → IsReaderProgress s → IsReaderProgress next
unfolding text_says
text-keeps line s next [] h kept = let same : s ≡ next = cc in subst IsReaderProgress same kept
text-keeps line s next (b ∷ text) h kept =
    elim (b == 60) as (λ p. cond p (keyword_line s text) (variable_line line s (b ∷ text)) ≡ Ok next → IsReaderProgress next) [
      | true ↦ λ h. keyword-keeps s next text h kept
      | false ↦ λ h. variable-keeps line s next (b ∷ text) h kept
    ] h

lines-keep : (before : ℕ) (s all : ReaderProgress) (texts : List (List ℕ)) → lines_say before s texts ≡ Ok all → IsReaderProgress s → IsReaderProgress all
unfolding lines_say
lines-keep before s all [] h kept = let same : s ≡ all = cc in subst IsReaderProgress same kept
lines-keep before s all (text ∷ texts) h kept =
    let one = bind_ok (at_line (before + 1) (text_says (before + 1) s (trim text))) (λ next. lines_say (before + 1) next texts) all h in
    let said : (r : Result ReaderProgress MetaWhy) → at_line (before + 1) r ≡ Ok one.0 → r ≡ Ok one.0 = λ r. elim r as (λ r. at_line (before + 1) r ≡ Ok one.0 → r ≡ Ok one.0) [ Ok x ↦ λ h. let same : x ≡ one.0 = cc in ap Ok same | Err w ↦ λ h. cc ] in
    lines-keep (before + 1) one.0 all texts one.2 (text-keeps (before + 1) s one.0 (trim text) (said (text_says (before + 1) s (trim text)) one.1) kept)

none-clash : (es : List Entry) (x : Unit {0}) → no_clash es ≡ Ok x → AllByRecursion (λ (e : Entry). is_clashing e.said ≡ false) es
unfolding no_clash
none-clash [] x h = tt
none-clash (e ∷ es) x h =
    elim (is_clashing e.said) as (λ t. is_clashing e.said ≡ t → cond t (Err (e.line, Clash)) (no_clash es) ≡ Ok x → (is_clashing e.said ≡ false) × AllByRecursion (λ (y : Entry). is_clashing y.said ≡ false) es) [
      | true ↦ λ is h. absurd cc
      | false ↦ λ is h. (is, none-clash es x h)
    ] refl h

-- ---- the variable of an entry

positive-at : (ns : List ℕ) → list_any is_zero ns ≡ false → (k d : ℕ) → k < length ns → 0 < slice_index_or ns k d
positive-at [] h k d inside = absurd (omega (arith, inside))
positive-at (n ∷ ns) h zero d inside = let some : (n == 0) ≡ false = or-left (n == 0) (list_any is_zero ns) h in grind (arith, nat_tests)
positive-at (n ∷ ns) h (suc k) d inside = positive-at ns (or-right (n == 0) (list_any is_zero ns) h) k d (omega (arith, inside))

some-levels : (widths : List ℕ) (width : ℕ) → 0 < width → sum widths ≡ width → 0 < length widths
some-levels [] width some h = absurd (omega (arith, some, h))
some-levels (n ∷ ns) width some h = omega arith

is-not : (t : Bool) → not t ≡ true → t ≡ false
is-not true h = absurd cc
is-not false h = refl

levels-shaped : (width : ℕ) (widths : List ℕ) → 0 < width → are_levels width widths ≡ true → IsShaped width (shape.Levels widths)
levels-shaped width widths some h =
    let front = nat_lt (length widths) 10 in
    let middle = not (list_any is_zero widths) in
    let back = sum widths == width in
    let few : length widths ≤ 9 = let is : nat_lt (length widths) 10 ≡ true = and-left front middle (and-left (front && middle) back h) in grind (arith, nat_tests) in
    let none = is-not (list_any is_zero widths) (and-right front middle (and-left (front && middle) back h)) in
    let whole : sum widths ≡ width = (Decides-eqb (sum widths) width).0 (and-right (front && middle) back h) in
    (some-levels widths width some whole, few, positive-at widths none, whole)

few-decimals : (o : Option Argument) → ForSome o FewDecimals → unwrap_or (number_behind o) 0 ≤ 9
few-decimals None h = omega arith
few-decimals (Some a) h = h a refl

file-list : (o : Option Argument) → ForSome o IsFile → ForSome (word_in o) (λ file. is_file_name file ≡ true)
file-list None h = λ file is. absurd cc
file-list (Some a) h = λ file is.
    let one = h a refl in
    let there : ◌≡◌ {A = Option (List ℕ)} (word_in (Some (Word one.0))) (Some file) = ap (λ (x : Argument). word_in (Some x)) (sym one.1) ∙ is in
    let same : one.0 ≡ file = cc in
    subst (λ (x : List ℕ). is_file_name x ≡ true) same one.2

lead-is : (o : Option Argument) → ForSome o IsLeadWord → is_lead (unwrap_or (word_in o) (codes "@")) ≡ true
lead-is None h = refl
lead-is (Some a) h = let one = h a refl in rw one.1 one.2

shaped-from : (width : ℕ) (levels listed : Option Argument) (lead : List ℕ) → 0 < width → ForSome levels (AreLevels width) → ForSome listed IsFile → is_lead lead ≡ true → IsShaped width (shape_from (levels_in levels) (word_in listed) lead)
shaped-from width (Some a) listed lead some h file l = let one = h a refl in rw one.1 (levels-shaped width one.0 some one.2)
shaped-from width None (Some b) lead some h file l = let one = file b refl in rw one.1 (one.2, l)
shaped-from width None None lead some h file l = tt

weight-clash : (weight : Bool) (a b c : Bool) (decimals : ℕ) → ((((a || b) || c) || (weight && nat_lt 4 decimals)) ≡ false) → weight ≡ true → decimals ≤ 4
weight-clash true a b c decimals h is =
    let few : nat_lt 4 decimals ≡ false = or-right ((a || b) || c) (nat_lt 4 decimals) h in
    grind (arith, nat_tests)
weight-clash false a b c decimals h is = absurd cc

or-true : (a b : Bool) → b ≡ true → (a || b) ≡ true
or-true true b h = refl
or-true false b h = h

is-variable : (e : Entry) → IsEntry e → is_clashing e.said ≡ false → IsVariable (variable_of e)
unfolding variable_of
is-variable e entry fine = record {
  first_from_one = entry.first_from_one;
  width_from_one = entry.width_from_one;
  narrow = entry.narrow;
  inside = entry.inside;
  at_most_2_missing = entry.at_most_2_missing;
  at_most_9_decimals = few-decimals (argument_said Decimals e.said) (said-fits e.width Decimals FewDecimals (decimals-fit e.width) e.said entry.each);
  weight_at_most_4_decimals = weight-clash (has_keyword Weight e.said) (has_keyword HierLevels e.said && has_keyword HierCodeList e.said) (has_keyword Hierarchical e.said && not (has_tree e.said)) (is_numeric e.said && has_tree e.said) (decimals_of e.said) fine;
  weight_numeric = or-true (has_keyword Numeric e.said) (has_keyword Weight e.said);
  list = file-list (argument_said CodeList e.said) (said-fits e.width CodeList IsFile (list-fits e.width) e.said entry.each);
  shaped = shaped-from e.width (argument_said HierLevels e.said) (argument_said HierCodeList e.said) (lead_of e.said) entry.width_from_one
      (said-fits e.width HierLevels (AreLevels e.width) (levels-fit e.width) e.said entry.each)
      (said-fits e.width HierCodeList IsFile (hierarchy-fits e.width) e.said entry.each)
      (lead-is (argument_said HierLeadString e.said) (said-fits e.width HierLeadString IsLeadWord (lead-fits e.width) e.said entry.each));
}

each-variable : (es : List Entry) → AllByRecursion IsEntry es → AllByRecursion (λ (e : Entry). is_clashing e.said ≡ false) es → (place : ℕ) (v : Variable) → slice_get (map variable_of es) place ≡ Some v → IsVariable v
each-variable [] all fine place v h = absurd cc
each-variable (e ∷ es) all fine zero v h = let same : variable_of e ≡ v = cc in subst IsVariable same (is-variable e all.0 fine.0)
each-variable (e ∷ es) all fine (suc k) v h = each-variable es all.1 fine.1 k v h

variable-names : (es : List Entry) → map (λ (v : Variable). v.name) (map variable_of es) ≡ map (λ (e : Entry). e.name) es
unfolding variable_of
variable-names [] = refl
variable-names (e ∷ es) = ap (λ (names : List (List ℕ)). e.name ∷ names) (variable-names es)

variable-weights : (es : List Entry) → length (weights (map variable_of es)) ≡ length (weighty es)
unfolding variable_of
variable-weights [] = refl
variable-weights (e ∷ es) =
    let rest = variable-weights es in
    elim (has_keyword Weight e.said) as (λ t. length (cond t (variable_of e ∷ weights (map variable_of es)) (weights (map variable_of es))) ≡ length (cond t (e ∷ weighty es) (weighty es))) [ true ↦ ap suc rest | false ↦ rest ]

none-twice : IsDistinct {K = List ℕ} bytes_eq []
unfolding IsDistinct
none-twice = tt

pub within_limits : (bytes : List ℕ) (meta : Meta) → meta_of bytes ≡ Ok meta → IsMeta meta
unfolding meta_of
within_limits bytes meta h =
    let all = bind_ok (lines_say 0 no_lines (lines bytes)) _ meta h in
    let fine = bind_ok (no_clash all.0.entries) _ meta all.2 in
    let made : record { variables = map variable_of all.0.entries; passed_over = all.0.passed_over } ≡ meta = cc in
    let kept = lines-keep 0 no_lines all.0 (lines bytes) all.1 (record { each = tt; few = omega arith; distinct = none-twice; one = omega arith }) in
    let es = all.0.entries in
    subst IsMeta made (record {
      at_most_64_variables = rw length-map kept.few;
      distinct = subst (λ (names : List (List ℕ)). IsDistinct bytes_eq names) (sym (variable-names es)) kept.distinct;
      one_weight = omega (arith, variable-weights es, kept.one);
      each = each-variable es kept.each (none-clash es fine.0 fine.1);
    })

-- what is given of a text that was read is within its limits
pub limits_given : (given : Result Meta MetaError) (bytes : List ℕ) → Gives meta_fault_of (λ (meta : Meta). meta) given (meta_of bytes) → IfOk given IsMeta
limits_given (Ok meta) bytes h = within_limits bytes meta h
limits_given (Err e) bytes h = tt
