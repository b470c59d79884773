-- Lines that were joined are read again.
use Rattle.std.proofs.Common.{◌≡◌, ◌≢◌, ℕ, Bool, true, false, ◌||◌, List, [], ◌∷◌, ◌++◌, refl, ap, sym, ◌∙◌, append_assoc, append-nil}
use Rattle.std.specs.List.{list_any, AllByRecursion}
use Rattle.std.specs.Str.Lines.{strip_carriage_return}
use Rattle.sdc_base.specs.Lines.{lines, is_line_feed, IsLine, HasNoFeed, text_of_lines, joined_with_returns}
use Rattle.plain_text.specs.Laws.{AreReadAgain, AreReadWithReturns, IsLastRead}
use Rattle.plain_text.proofs.FirstLine.{NoFeeds, strip-cons, lines-open, lines-ended}

left : (a b : Bool) → (a || b) ≡ false → a ≡ false
left true b h = h
left false b h = refl

right : (a b : Bool) → (a || b) ≡ false → b ≡ false
right true b h = absurd cc
right false b h = h

pub no-feeds : (line : List ℕ) → HasNoFeed line → NoFeeds line
no-feeds [] h = tt
no-feeds (b ∷ line) h = (left (is_line_feed b) (list_any is_line_feed line) h, no-feeds line (right (is_line_feed b) (list_any is_line_feed line) h))

-- no LF comes in with a CR behind the line
feeds-return : (line : List ℕ) → NoFeeds line → NoFeeds (line ++ 13 ∷ [])
feeds-return [] h = (refl, tt)
feeds-return (b ∷ line) h = (h.0, feeds-return line h.1)

strip-return : (line : List ℕ) → strip_carriage_return (line ++ 13 ∷ []) ≡ line
strip-return [] = refl
strip-return (b ∷ []) = refl
strip-return (b ∷ c ∷ line) = strip-cons b c (line ++ 13 ∷ []) ∙ ap (λ xs. b ∷ xs) (strip-return (c ∷ line))

-- a line that ends with CR and LF stands before the others
pub lines-returned : (line rest : List ℕ) → NoFeeds line → lines (line ++ 13 ∷ 10 ∷ rest) ≡ line ∷ lines rest
lines-returned line rest h =
    ap lines (sym (append_assoc line (13 ∷ []) (10 ∷ rest)))
    ∙ lines-ended (line ++ 13 ∷ []) rest (feeds-return line h)
    ∙ ap (λ (l : List ℕ). l ∷ lines rest) (strip-return line)

-- the lines of joined lines with more bytes behind them
joined-before : (texts : List (List ℕ)) (rest : List ℕ) → AllByRecursion IsLine texts → lines (text_of_lines texts ++ rest) ≡ texts ++ lines rest
joined-before [] rest h = refl
joined-before (line ∷ texts) rest h =
    ap lines (append_assoc line (10 ∷ text_of_lines texts) rest)
    ∙ lines-ended line (text_of_lines texts ++ rest) (no-feeds line h.0.no_feed)
    ∙ ap (λ (l : List ℕ). l ∷ lines (text_of_lines texts ++ rest)) h.0.no_return
    ∙ ap (λ (ls : List (List ℕ)). line ∷ ls) (joined-before texts rest h.1)

returns-before : (texts : List (List ℕ)) (rest : List ℕ) → AllByRecursion HasNoFeed texts → lines (joined_with_returns texts ++ rest) ≡ texts ++ lines rest
returns-before [] rest h = refl
returns-before (line ∷ texts) rest h =
    ap lines (append_assoc line (13 ∷ 10 ∷ joined_with_returns texts) rest)
    ∙ lines-returned line (joined_with_returns texts ++ rest) (no-feeds line h.0)
    ∙ ap (λ (ls : List (List ℕ)). line ∷ ls) (returns-before texts rest h.1)

last-open : (last : List ℕ) → HasNoFeed last → last ≢ [] → lines last ≡ last ∷ []
last-open [] h some = absurd (some refl)
last-open (b ∷ line) h some = lines-open b line (no-feeds (b ∷ line) h)

pub read_again : AreReadAgain
read_again texts h = ap lines (sym (append-nil (text_of_lines texts))) ∙ joined-before texts [] h ∙ append-nil texts

pub read_with_returns : AreReadWithReturns
read_with_returns texts h = ap lines (sym (append-nil (joined_with_returns texts))) ∙ returns-before texts [] h ∙ append-nil texts

pub last_read : IsLastRead
last_read = record {
  feeds = λ texts last h whole some. joined-before texts last h ∙ ap (λ (ls : List (List ℕ)). texts ++ ls) (last-open last whole some);
  returns = λ texts last h whole some. returns-before texts last h ∙ ap (λ (ls : List (List ℕ)). texts ++ ls) (last-open last whole some);
}
