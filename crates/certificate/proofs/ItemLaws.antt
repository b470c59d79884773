-- Lines by a word that are written are read again, and those that are read are written so.
use Rattle.std.proofs.Common.{◌≡◌, ℕ, ◌+◌, ◌<◌, true, false, cond, List, [], ◌∷◌, ◌++◌, length, map, Result, Ok, Err, refl, ap, sym, ◌∙◌, subst, arith}
use Rattle.std.specs.List.{AllByRecursion, join_with_byte}
use Rattle.std.specs.Str.{bytes_eq}
use Rattle.sdc_base.specs.Steps.{◌>>=◌}
use Rattle.certificate.specs.declared.faults.CertWhy.{CertWhy}
use Rattle.certificate.specs.declared.faults.CertWhy.TheVariants.{Shape}
use Rattle.certificate.specs.Faults.{at_line}
use Rattle.certificate.specs.Remainder.{Remainder}
use Rattle.certificate.specs.Pieces.{pieces}
use Rattle.certificate.specs.TokenLists.{behind_word}
use Rattle.certificate.specs.LineReadings.{item_of}
use Rattle.certificate.specs.Certificates.{begins_with_word, is_next, item_at, items_from}
use Rattle.certificate.proofs.LineSteps.{item-and-left}
use Rattle.certificate.proofs.PieceLaws.{Avoids, same_bytes, equal_bytes, pieces_joined, joined_again, first_word}
use Rattle.certificate.proofs.TokenLaws.{bind_ok, ok_same}

-- the line of a word and tokens
abbrev pub line_by : List ℕ → List (List ℕ) → List ℕ
line_by word tokens = join_with_byte 32 (word ∷ tokens)

-- no byte of the tokens is a space
abbrev pub AreApart : List (List ℕ) → Type 0
AreApart tokens = AllByRecursion (Avoids 32) tokens

-- ---- what is written is read

item_again : {A : Type 0} (word : List ℕ) (read : List (List ℕ) → Result A CertWhy) (tokens : List (List ℕ)) (x : A) → read tokens ≡ Ok x → AreApart (word ∷ tokens) → item_of word read (line_by word tokens) ≡ Ok x
unfolding item_of
item_again word read tokens x is apart = rw (pieces_joined 32 word tokens apart, same_bytes word) is

pub item_at_again : {A : Type 0} (word : List ℕ) (read : List (List ℕ) → Result A CertWhy) (tokens : List (List ℕ)) (x : A) (given : ℕ) (more : List (List ℕ))
    → read tokens ≡ Ok x → AreApart (word ∷ tokens) → 0 < length more
    → item_at word read (record { given = given; lines = line_by word tokens ∷ more }) ≡ Ok (x, record { given = given + 1; lines = more })
unfolding item_at
item_at_again word read tokens x given [] is apart some = absurd (omega (arith, some))
item_at_again word read tokens x given (next ∷ lines) is apart some = rw (item_again word read tokens x is apart) refl

pub longer : {A : Type 0} (xs rest : List A) → 0 < length rest → 0 < length (xs ++ rest)
longer [] rest h = h
longer (x ∷ xs) rest h = omega arith

pub is_by_word : (word other : List ℕ) (tokens : List (List ℕ)) → AreApart (other ∷ tokens) → begins_with_word word (line_by other tokens) ≡ bytes_eq other word
is_by_word word other tokens apart = rw (first_word other tokens apart) refl

-- an item is read again
abbrev pub IsAgain : {A : Type 0} → List ℕ → (List (List ℕ) → Result A CertWhy) → (A → List (List ℕ)) → A → Type 0
IsAgain word read said x = (read (said x) ≡ Ok x) × AreApart (word ∷ said x)

pub items_again : {A : Type 0} (word : List ℕ) (read : List (List ℕ) → Result A CertWhy) (said : A → List (List ℕ)) (xs : List A) (given : ℕ) (rest : List (List ℕ))
    → AllByRecursion (IsAgain word read said) xs → 0 < length rest → is_next word rest ≡ false
    → (after : ℕ) × (items_from word read given (map (λ x. line_by word (said x)) xs ++ rest) ≡ Ok (xs, record { given = after; lines = rest }))
unfolding items_from
items_again word read said [] given [] each some past = absurd (omega (arith, some))
items_again word read said [] given (line ∷ lines) each some past = (given, rw past refl)
items_again word read said (x ∷ xs) given rest each some past =
    let inner = items_again word read said xs (given + 1) rest each.1 some past in
    let more = map (λ y. line_by word (said y)) xs ++ rest in
    (inner.0, rw (is_by_word word word (said x) each.0.1, same_bytes word, item_at_again word read (said x) x given more each.0.0 each.0.1 (longer (map (λ y. line_by word (said y)) xs) rest some), inner.1) refl)

-- lines by another word aren't by this one
pub past_lines : {A : Type 0} (word other : List ℕ) (said : A → List (List ℕ)) (xs : List A) (rest : List (List ℕ)) → bytes_eq other word ≡ false → AllByRecursion (λ x. AreApart (other ∷ said x)) xs
    → is_next word rest ≡ false → is_next word (map (λ x. line_by other (said x)) xs ++ rest) ≡ false
past_lines word other said [] rest apart each past = past
past_lines word other said (x ∷ xs) rest apart each past = is_by_word word other (said x) each.0 ∙ apart

-- ---- what is read was written so

pub at-line-ok : {A : Type 0} (line : ℕ) (read : Result A CertWhy) (x : A) → at_line line read ≡ Ok x → read ≡ Ok x
at-line-ok {A} line (Ok y) x h = ap (λ (z : A). Ok z) (ok_same y x h)
at-line-ok line (Err why) x h = absurd cc

behind-text : (word : List ℕ) (tokens rest : List (List ℕ)) → behind_word word tokens ≡ Ok rest → tokens ≡ word ∷ rest
behind-text word [] rest h = absurd cc
behind-text word (first ∷ tokens) rest h = elim (bytes_eq first word) as (λ t. bytes_eq first word ≡ t → cond t (Ok tokens) (Err Shape) ≡ Ok rest → first ∷ tokens ≡ word ∷ rest) [
  | true ↦ λ is g. ap (λ (w : List ℕ). w ∷ tokens) (equal_bytes first word is) ∙ ap (λ (ts : List (List ℕ)). word ∷ ts) (ok_same tokens rest g)
  | false ↦ λ no g. absurd cc
] refl h

-- what is known of a line that was read
pub record IsLineRead {A : Type 0} (word : List ℕ) (read : List (List ℕ) → Result A CertWhy) (lines : List (List ℕ)) (x : A) (left : List (List ℕ)) : Type 0 where
  pub tokens : List (List ℕ)
  pub text : lines ≡ line_by word tokens ∷ left
  pub is : read tokens ≡ Ok x
  pub some : 0 < length left

pub item_at_text : {A : Type 0} (word : List ℕ) (read : List (List ℕ) → Result A CertWhy) (given : ℕ) (lines : List (List ℕ)) (x : A) (left : Remainder)
    → item_at word read (record { given = given; lines = lines }) ≡ Ok (x, left) → IsLineRead word read lines x left.lines
unfolding item_at item_of
item_at_text word read given [] x left h = absurd cc
item_at_text word read given (line ∷ []) x left h = absurd cc
item_at_text word read given (line ∷ second ∷ lines) x left h =
    let both = item-and-left (at_line (given + 1) (item_of word read line)) (record { given = given + 1; lines = second ∷ lines }) left x h in
    let inside = bind_ok (behind_word word (pieces 32 line)) read x (at-line-ok (given + 1) (item_of word read line) x both.0) in
    let text = joined_again 32 line (word ∷ inside.0) (behind-text word (pieces 32 line) inside.0 inside.1) in
    let rest : second ∷ lines ≡ left.lines = sym (ap (λ (l : Remainder). l.lines) both.1) in
    record {
      tokens = inside.0;
      text = ap (λ (l : List ℕ). l ∷ second ∷ lines) text ∙ ap (λ (ls : List (List ℕ)). line_by word inside.0 ∷ ls) rest;
      is = inside.2;
      some = omega (arith, ap length rest);
    }

-- what is known of lines that were read
abbrev pub AreLinesRead : {A : Type 0} → List ℕ → (A → List (List ℕ)) → (A → Type 0) → List (List ℕ) → List A × Remainder → Type 0
AreLinesRead word said P lines read = (lines ≡ map (λ x. line_by word (said x)) read.0 ++ read.1.lines) × AllByRecursion P read.0

head-same : {A : Type 0} (x y : A) (xs ys : List A) → x ∷ xs ≡ y ∷ ys → x ≡ y
head-same x y xs ys h = cc

pub items_text : {A : Type 0} (word : List ℕ) (read : List (List ℕ) → Result A CertWhy) (said : A → List (List ℕ)) (P : A → Type 0) (each : (tokens : List (List ℕ)) (x : A) → read tokens ≡ Ok x → (tokens ≡ said x) × P x)
    (given : ℕ) (lines : List (List ℕ)) (result : List A × Remainder) → items_from word read given lines ≡ Ok result → AreLinesRead word said P lines result
unfolding items_from
items_text {A} word read said P each given [] result h =
    subst (λ (p : List A × Remainder). AreLinesRead word said P [] p) (ok_same ([], record { given = given; lines = [] }) result h) (refl, tt)
items_text {A} word read said P each given (line ∷ lines) result h =
    let same-in : begins_with_word word line ≡ begins_with_word word line = refl in
    let inner = λ (r : List A × Remainder) (g : items_from word read (given + 1) lines ≡ Ok r). items_text word read said P each (given + 1) lines r g in
    elim (begins_with_word word line) as (λ t. cond t (item_at word read (record { given = given; lines = line ∷ lines }) >>= λ item. items_from word read (given + 1) lines >>= λ items. Ok (item.0 ∷ items.0, items.1)) (Ok ([], record { given = given; lines = line ∷ lines })) ≡ Ok result
    → AreLinesRead word said P (line ∷ lines) result) [
      | true ↦ λ g.
          let a = bind_ok (item_at word read (record { given = given; lines = line ∷ lines })) _ result g in
          let b = bind_ok (items_from word read (given + 1) lines) _ result a.2 in
          let t = item_at_text word read given (line ∷ lines) a.0.0 a.0.1 a.1 in
          let one = each t.tokens a.0.0 t.is in
          let rest = inner b.0 b.1 in
          subst (λ (p : List A × Remainder). AreLinesRead word said P (line ∷ lines) p) (ok_same (a.0.0 ∷ b.0.0, b.0.1) result b.2)
          (ap (λ (l : List ℕ). l ∷ lines) (head-same line (line_by word t.tokens) lines a.0.1.lines t.text ∙ ap (line_by word) one.0) ∙ ap (λ (ls : List (List ℕ)). line_by word (said a.0.0) ∷ ls) rest.0, (one.1, rest.1))
      | false ↦ λ g.
          subst (λ (p : List A × Remainder). AreLinesRead word said P (line ∷ lines) p) (ok_same ([], record { given = given; lines = line ∷ lines }) result g) (refl, tt)
    ] h
