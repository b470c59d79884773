-- The first of the lines.
use Rattle.std.proofs.Common.{◌≡◌, ℕ, suc, ◌+◌, ◌-◌, ◌<◌, ◌≤◌, ◌==◌, Bool, true, false, cond, ◌&&◌, not, List, [], ◌∷◌, ◌++◌, length, take, drop, get_or, refl, ap, sym, ◌∙◌, subst, arith, add-one, drop-cons}
use Rattle.std.specs.List.{position_or_len, AllByRecursion}
use Rattle.std.specs.Str.Lines.{strip_carriage_return}
use Rattle.std.proofs.lemmas.Grind.{common_steps}
use Rattle.std.proofs.lemmas.Bool.Decides.{Decides-eqb}
use Rattle.std.proofs.lemmas.List.{take-append-drop, take_all, length-take, get_or-take}
use Rattle.std.proofs.lemmas.List.Sums.{prefix_len_passes, prefix_len_stops}
use Rattle.std.proofs.lemmas.List.Elements.{recursion_from_All}
use Rattle.sdc_base.specs.Lines.{lines, is_line_feed, at_line_feed, with_front}

-- no byte of the line is a line feed
abbrev pub NoFeeds : List ℕ → Type 0
NoFeeds line = AllByRecursion (λ b. is_line_feed b ≡ false) line

cond-cons : (t : Bool) (b : ℕ) (x y : List ℕ) → cond t (b ∷ x) (b ∷ y) ≡ b ∷ cond t x y
cond-cons true b x y = refl
cond-cons false b x y = refl

pub strip-cons : (b c : ℕ) (line : List ℕ) → strip_carriage_return (b ∷ c ∷ line) ≡ b ∷ strip_carriage_return (c ∷ line)
strip-cons b c line =
    let longer : suc (suc (length line)) - 1 ≡ suc (length line) = omega arith in
    let shorter : suc (length line) - 1 ≡ length line = omega arith in
    rw (longer, shorter) (cond-cons _ b (take (length line) (c ∷ line)) (c ∷ line))

lines-plain : (b : ℕ) (bytes : List ℕ) → is_line_feed b ≡ false → at_line_feed bytes ≡ false → lines (b ∷ bytes) ≡ with_front b (lines bytes)
lines-plain b bytes p q = rw (p, q) (elim (b == 13) as (λ t. cond (t && false) (lines bytes) (with_front b (lines bytes)) ≡ with_front b (lines bytes)) [ true ↦ refl | false ↦ refl ])

-- a text with no line feed is one line
pub lines-open : (b : ℕ) (line : List ℕ) → NoFeeds (b ∷ line) → lines (b ∷ line) ≡ (b ∷ line) ∷ []
lines-open b [] h = lines-plain b [] h.0 refl
lines-open b (c ∷ line) h = lines-plain b (c ∷ line) h.0 h.1.0 ∙ ap (with_front b) (lines-open c line h.1)

-- a line that ends stands before the others
pub lines-ended : (line rest : List ℕ) → NoFeeds line → lines (line ++ 10 ∷ rest) ≡ strip_carriage_return line ∷ lines rest
lines-ended [] rest h = refl
lines-ended (b ∷ []) rest h = rw h.0 (grind (arith, common_steps))
lines-ended (b ∷ c ∷ line) rest h =
    lines-plain b (c ∷ line ++ 10 ∷ rest) h.0 h.1.0 ∙ ap (with_front b) (lines-ended (c ∷ line) rest h.1) ∙ ap (λ front. front ∷ lines rest) (sym (strip-cons b c line))

not_not : (t : Bool) → not t ≡ true → t ≡ false
not_not true e = sym e
not_not false e = refl

not_is : (t : Bool) → not t ≡ false → t ≡ true
not_is true e = refl
not_is false e = sym e

-- the bytes before the first line feed
before_feed : (bytes : List ℕ) (n : ℕ) → n ≤ position_or_len is_line_feed bytes → NoFeeds (take n bytes)
before_feed bytes n h =
    recursion_from_All _ (take n bytes)
    (λ k d below.
    let short : k < n = omega (arith, length-take n bytes) in
    rw get_or-take (not_not _ (prefix_len_passes (λ b. not (is_line_feed b)) bytes k d (omega arith))))

pub lines-none : (bytes : List ℕ) → 0 < length bytes → position_or_len is_line_feed bytes ≡ length bytes → lines bytes ≡ bytes ∷ []
lines-none [] some none = absurd (omega arith)
lines-none (b ∷ bytes) some none =
    lines-open b bytes
    (let whole : take (length (b ∷ bytes)) (b ∷ bytes) ≡ b ∷ bytes = take_all (length (b ∷ bytes)) (b ∷ bytes) (omega arith) in
    subst NoFeeds whole (before_feed (b ∷ bytes) (length (b ∷ bytes)) (omega arith)))

pub lines-first : (bytes : List ℕ) (end : ℕ) → end < length bytes → end ≡ position_or_len is_line_feed bytes → lines bytes ≡ strip_carriage_return (take end bytes) ∷ lines (drop (end + 1) bytes)
lines-first bytes end some first =
    let feed : get_or bytes end 0 ≡ 10 =
    (Decides-eqb _ _).0 (subst (λ k. is_line_feed (get_or bytes k 0) ≡ true) (sym first) (not_is _ (prefix_len_stops (λ b. not (is_line_feed b)) bytes 0 (omega arith)))) in
    let cut : bytes ≡ take end bytes ++ 10 ∷ drop (end + 1) bytes = sym (take-append-drop end bytes) ∙ ap (λ r. take end bytes ++ r) (rw (add-one, drop-cons bytes end 0 some, feed) refl) in
    ap lines cut ∙ lines-ended (take end bytes) (drop (end + 1) bytes) (before_feed bytes end (omega arith))
