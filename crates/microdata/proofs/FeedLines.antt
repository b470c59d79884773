-- The lines that have ended and the line that has begun, once a line ends.
use Rattle.std.proofs.Common.{◌≡◌, ℕ, ◌+◌, ◌-◌, ◌<◌, ◌≤◌, ◌==◌, nat_lt, Bool, true, false, cond, ◌||◌, List, [], ◌∷◌, ◌++◌, length, take, drop, suc, length-take, length-append, refl, ap, sym, ◌∙◌, subst, arith, append-nil, ◌⊎◌, inl, inr, slice_index}
use Rattle.std.specs.List.{list_any, position_or_len, before_first, after_first}
use Rattle.std.specs.Str.Lines.{strip_carriage_return}
use Rattle.std.proofs.lemmas.Bool.Decides.{nat_tests, Decides-eqb}
use Rattle.sdc_base.specs.Lines.{lines, is_line_feed, HasNoFeed}
use Rattle.plain_text.proofs.FirstLine.{NoFeeds, lines-ended}
use Rattle.microdata.specs.Feeding.{up_to_last_feed, ended_lines, begun_line, is_too_long}

either-false : (a b : Bool) → a || b ≡ false → (a ≡ false) × (b ≡ false)
either-false true b h = cc
either-false false b h = (refl, h)

-- no byte is a line feed, said of each byte
pub no-feeds : (line : List ℕ) → HasNoFeed line → NoFeeds line
no-feeds [] h = tt
no-feeds (b ∷ line) h = let both = either-false (is_line_feed b) (list_any is_line_feed line) h in (both.0, no-feeds line both.1)

pub no-feed : (line : List ℕ) → NoFeeds line → HasNoFeed line
no-feed [] h = refl
no-feed (b ∷ line) h = rw h.0 (no-feed line h.1)

pub no-feeds-both : (a b : List ℕ) → NoFeeds a → NoFeeds b → NoFeeds (a ++ b)
no-feeds-both [] b h k = k
no-feeds-both (x ∷ a) b h k = (h.0, no-feeds-both a b h.1 k)

-- bytes have no line feed, or a first one
pub at-feed : (bytes : List ℕ) → NoFeeds bytes ⊎ ((line : List ℕ) × (rest : List ℕ) × NoFeeds line × (bytes ≡ line ++ 10 ∷ rest))
at-feed [] = inl tt
at-feed (b ∷ bytes) =
    let later = at-feed bytes in
    elim (is_line_feed b) as (λ t. is_line_feed b ≡ t → NoFeeds (b ∷ bytes) ⊎ ((line : List ℕ) × (rest : List ℕ) × NoFeeds line × (b ∷ bytes ≡ line ++ 10 ∷ rest))) [
      | true ↦ λ e. inr ([], bytes, tt, ap (λ x. x ∷ bytes) ((Decides-eqb b 10).0 e))
      | false ↦ λ e. elim later [ inl none ↦ inl (e, none) | inr found ↦ inr (b ∷ found.0, found.1, (e, found.2), ap (λ r. b ∷ r) found.3) ]
    ] refl

any-feed : (line rest : List ℕ) → list_any is_line_feed (line ++ 10 ∷ rest) ≡ true
any-feed [] rest = refl
any-feed (b ∷ line) rest = rw (any-feed line rest) (or-true (is_line_feed b))
  where
    or-true : (a : Bool) → a || true ≡ true
    or-true true = refl
    or-true false = refl

whole-next : (line rest : List ℕ) → up_to_last_feed (line ++ 10 ∷ rest) ≡ line ++ 10 ∷ up_to_last_feed rest
whole-next [] rest = refl
whole-next (b ∷ line) rest = rw (any-feed (b ∷ line) rest) (ap (λ r. b ∷ r) (whole-next line rest))

pub ended-next : (line rest : List ℕ) → NoFeeds line → ended_lines (line ++ 10 ∷ rest) ≡ strip_carriage_return line ∷ ended_lines rest
ended-next line rest h = ap lines (whole-next line rest) ∙ lines-ended line (up_to_last_feed rest) h

pub begun-next : (line rest : List ℕ) → begun_line (line ++ 10 ∷ rest) ≡ begun_line rest
begun-next [] rest = refl
begun-next (b ∷ line) rest = rw (any-feed (b ∷ line) rest) (begun-next line rest)

-- bytes without a line feed are a line that has begun
pub begun-open : (line : List ℕ) → HasNoFeed line → begun_line line ≡ line
begun-open [] h = refl
begun-open (b ∷ line) h = rw h refl

pub ended-open : (line : List ℕ) → HasNoFeed line → ended_lines line ≡ []
ended-open [] h = refl
ended-open (b ∷ line) h = rw h refl

strip-short : (line : List ℕ) → length line ≤ length (strip_carriage_return line) + 1
strip-short line = elim (slice_index line (length line - 1) == 13) as (λ t. length line ≤ length (cond t (take (length line - 1) line) line) + 1) [ true ↦ omega (arith, length-take (length line - 1) line) | false ↦ omega arith ]

strip-few : (line : List ℕ) → length (strip_carriage_return line) ≤ length line
strip-few line = elim (slice_index line (length line - 1) == 13) as (λ t. length (cond t (take (length line - 1) line) line) ≤ length line) [ true ↦ omega (arith, length-take (length line - 1) line) | false ↦ omega arith ]

above : (a b : ℕ) → nat_lt a b ≡ true → a < b
above a b h = grind (arith, nat_tests)

pub is-above : (a b : ℕ) → a < b → nat_lt a b ≡ true
is-above a b h = grind (arith, nat_tests)

-- a line that is too long stays so
pub long-more : (line more : List ℕ) → is_too_long line ≡ true → 1000 < length (strip_carriage_return (line ++ more))
long-more line [] h = subst (λ l. 1000 < length (strip_carriage_return l)) (sym (append-nil line)) (above _ _ h)
long-more line (b ∷ more) h = omega (arith, above _ _ h, strip-few line, strip-short (line ++ b ∷ more), length-append line (b ∷ more))

pub long-open : (line more : List ℕ) → is_too_long line ≡ true → 1000 < length (line ++ more)
long-open line more h = omega (arith, above _ _ h, strip-few line, length-append line more)

-- a byte that is no line feed, in front
place-behind : (b : ℕ) (bytes : List ℕ) → is_line_feed b ≡ false → position_or_len is_line_feed (b ∷ bytes) ≡ suc (position_or_len is_line_feed bytes)
place-behind b bytes other = rw other (omega arith)

before-behind : (b : ℕ) (bytes : List ℕ) → is_line_feed b ≡ false → before_first is_line_feed (b ∷ bytes) ≡ b ∷ before_first is_line_feed bytes
before-behind b bytes other = ap (λ n. take n (b ∷ bytes)) (place-behind b bytes other)

after-behind : (b : ℕ) (bytes : List ℕ) → is_line_feed b ≡ false → after_first is_line_feed (b ∷ bytes) ≡ after_first is_line_feed bytes
after-behind b bytes other =
    let next : position_or_len is_line_feed (b ∷ bytes) + 1 ≡ suc (position_or_len is_line_feed bytes + 1) = omega (arith, place-behind b bytes other) in
    ap (λ n. drop n (b ∷ bytes)) next

-- what stands before the first line feed and behind it
before-ended : (line rest : List ℕ) → NoFeeds line → before_first is_line_feed (line ++ 10 ∷ rest) ≡ line
before-ended [] rest h = refl
before-ended (b ∷ line) rest h = before-behind b (line ++ 10 ∷ rest) h.0 ∙ ap (λ l. b ∷ l) (before-ended line rest h.1)

after-ended : (line rest : List ℕ) → NoFeeds line → after_first is_line_feed (line ++ 10 ∷ rest) ≡ rest
after-ended [] rest h = refl
after-ended (b ∷ line) rest h = after-behind b (line ++ 10 ∷ rest) h.0 ∙ after-ended line rest h.1

before-open : (line : List ℕ) → NoFeeds line → before_first is_line_feed line ≡ line
before-open [] h = refl
before-open (b ∷ line) h = before-behind b line h.0 ∙ ap (λ l. b ∷ l) (before-open line h.1)

-- all bytes stand before the first line feed: there is none
pub no-end : (bytes line : List ℕ) → line ≡ before_first is_line_feed bytes → length line ≡ length bytes → HasNoFeed bytes
no-end bytes line front whole = elim (at-feed bytes) [
  | inl none ↦ no-feed bytes none
  | inr found ↦
      let before = ap length (front ∙ ap (before_first is_line_feed) found.3 ∙ before-ended found.0 found.1 found.2) in
      absurd (omega (arith, whole, before, ap length found.3, length-append found.0 (10 ∷ found.1)))
]

-- the first line that has ended has no line feed, and one stands right behind it
pub first-end : (bytes line behind : List ℕ) → line ≡ before_first is_line_feed bytes → behind ≡ after_first is_line_feed bytes → (length line ≡ length bytes → ⊥) → HasNoFeed line × (bytes ≡ line ++ 10 ∷ behind)
first-end bytes line behind front rest some = elim (at-feed bytes) [
  | inl none ↦ absurd (some (ap length (front ∙ before-open bytes none)))
  | inr found ↦
      let before : line ≡ found.0 = front ∙ ap (before_first is_line_feed) found.3 ∙ before-ended found.0 found.1 found.2 in
      let after : behind ≡ found.1 = rest ∙ ap (after_first is_line_feed) found.3 ∙ after-ended found.0 found.1 found.2 in
      rw (before, after) (no-feed found.0 found.2, found.3)
]
