-- Every text spells its lines.
use Rattle.std.proofs.Common.{◌≡◌, ℕ, Bool, true, false, ◌==◌, List, [], ◌∷◌, ◌++◌, map, flat_map, refl, ap, sym, ◌∙◌, append_assoc, subst}
use Rattle.std.specs.List.{AllByRecursion}
use Rattle.std.specs.Str.Lines.{strip_carriage_return}
use Rattle.std.proofs.lemmas.Bool.Decides.{Decides-eqb}
use Rattle.sdc_base.specs.Lines.{lines, is_line_feed, HasNoFeed}
use Rattle.plain_text.specs.Spelling.{LineWithEnd, IsEnded, spelling_of_line, open_line, AreSpelled}
use Rattle.plain_text.proofs.FirstLine.{strip-cons, lines-open, lines-ended}
use Rattle.plain_text.proofs.Joined.{no-feeds, lines-returned}

-- lines with their ends, and a last one without
record HasSpelling (bytes : List ℕ) : Type 0 where
  front : List LineWithEnd
  last : List ℕ
  ended : AllByRecursion IsEnded front
  no_feed : HasNoFeed last
  text : bytes ≡ flat_map spelling_of_line front ++ last

last-read : (last : List ℕ) → HasNoFeed last → lines last ≡ open_line last
last-read [] h = refl
last-read (b ∷ line) h = lines-open b line (no-feeds (b ∷ line) h)

-- one line with its end stands before the others
line-read : (line : List ℕ) (by_return : Bool) (rest : List ℕ) → IsEnded (record { line = line; by_return = by_return }) →
    lines (spelling_of_line (record { line = line; by_return = by_return }) ++ rest) ≡ line ∷ lines rest
line-read line true rest h = ap lines (append_assoc line (13 ∷ 10 ∷ []) rest) ∙ lines-returned line rest (no-feeds line h.no_feed)
line-read line false rest h =
    ap lines (append_assoc line (10 ∷ []) rest) ∙ lines-ended line rest (no-feeds line h.no_feed) ∙ ap (λ (l : List ℕ). l ∷ lines rest) (h.no_return refl)

spelled-read : (front : List LineWithEnd) (last : List ℕ) → AllByRecursion IsEnded front → HasNoFeed last → lines (flat_map spelling_of_line front ++ last) ≡ map (λ e. e.line) front ++ open_line last
spelled-read [] last ends open_end = last-read last open_end
spelled-read (e ∷ front) last ends open_end =
    ap lines (append_assoc (spelling_of_line e) (flat_map spelling_of_line front) last)
    ∙ line-read e.line e.by_return (flat_map spelling_of_line front ++ last) ends.0
    ∙ ap (λ (ls : List (List ℕ)). e.line ∷ ls) (spelled-read front last ends.1 open_end)

more-feeds : (b : ℕ) (line : List ℕ) → is_line_feed b ≡ false → HasNoFeed line → HasNoFeed (b ∷ line)
more-feeds b line other h = rw other h

strip-one : (b : ℕ) → (b == 13) ≡ false → strip_carriage_return (b ∷ []) ≡ b ∷ []
strip-one b other = rw other refl

-- a byte that is no LF, at the front of the first line with its end
with-byte : (b : ℕ) (line : List ℕ) (by_return : Bool) (front : List LineWithEnd) (last : List ℕ) → is_line_feed b ≡ false → IsEnded (record { line = line; by_return = by_return }) → AllByRecursion IsEnded front → HasNoFeed last →
    HasSpelling (b ∷ (spelling_of_line (record { line = line; by_return = by_return }) ++ flat_map spelling_of_line front ++ last))
with-byte b line true front last other h ends open_end = record {
  front = record { line = b ∷ line; by_return = true } ∷ front;
  last = last;
  ended = (record { no_feed = more-feeds b line other h.no_feed; no_return = λ never. absurd cc }, ends);
  no_feed = open_end;
  text = refl;
}
with-byte b (c ∷ line) false front last other h ends open_end = record {
  front = record { line = b ∷ c ∷ line; by_return = false } ∷ front;
  last = last;
  ended = (record { no_feed = more-feeds b (c ∷ line) other h.no_feed; no_return = λ _. strip-cons b c line ∙ ap (λ (l : List ℕ). b ∷ l) (h.no_return refl) }, ends);
  no_feed = open_end;
  text = refl;
}
with-byte b [] false front last other h ends open_end = elim (b == 13) as (λ t. (b == 13) ≡ t → HasSpelling (b ∷ (10 ∷ flat_map spelling_of_line front ++ last))) [
  | true ↦ λ is. record {
    front = record { line = []; by_return = true } ∷ front;
    last = last;
    ended = (record { no_feed = refl; no_return = λ never. absurd cc }, ends);
    no_feed = open_end;
    text = ap (λ (c : ℕ). c ∷ (10 ∷ flat_map spelling_of_line front ++ last)) ((Decides-eqb _ _).0 is);
  }
  | false ↦ λ is. record {
    front = record { line = b ∷ []; by_return = false } ∷ front;
    last = last;
    ended = (record { no_feed = more-feeds b [] other refl; no_return = λ _. strip-one b is }, ends);
    no_feed = open_end;
    text = refl;
  }
] refl

front-byte : (b : ℕ) (bytes : List ℕ) (front : List LineWithEnd) (last : List ℕ) → is_line_feed b ≡ false → AllByRecursion IsEnded front → HasNoFeed last → bytes ≡ flat_map spelling_of_line front ++ last → HasSpelling (b ∷ bytes)
front-byte b bytes [] last other ends open_end text = record {
  front = [];
  last = b ∷ last;
  ended = tt;
  no_feed = more-feeds b last other open_end;
  text = ap (λ (bs : List ℕ). b ∷ bs) text;
}
front-byte b bytes (e ∷ front) last other ends open_end text =
    subst (λ (bs : List ℕ). HasSpelling (b ∷ bs)) (sym text) (with-byte b e.line e.by_return front last other ends.0 ends.1 open_end)

has-spelling : (bytes : List ℕ) → HasSpelling bytes
has-spelling [] = record { front = []; last = []; ended = tt; no_feed = refl; text = refl }
has-spelling (b ∷ bytes) =
    let rest : HasSpelling bytes = has-spelling bytes in
    elim (is_line_feed b) as (λ t. is_line_feed b ≡ t → HasSpelling (b ∷ bytes)) [
      | true ↦ λ is. record {
        front = record { line = []; by_return = false } ∷ rest.front;
        last = rest.last;
        ended = (record { no_feed = refl; no_return = λ _. refl }, rest.ended);
        no_feed = rest.no_feed;
        text = ap (λ (c : ℕ). c ∷ bytes) ((Decides-eqb _ _).0 is) ∙ ap (λ (bs : List ℕ). 10 ∷ bs) rest.text;
      }
      | false ↦ λ is. front-byte b bytes rest.front rest.last is rest.ended rest.no_feed rest.text
    ] refl

pub are_spelled : AreSpelled
are_spelled bytes =
    let has : HasSpelling bytes = has-spelling bytes in
    record {
      front = has.front;
      last = has.last;
      ended = has.ended;
      no_feed = has.no_feed;
      text = has.text;
      read = ap lines has.text ∙ spelled-read has.front has.last has.ended has.no_feed;
    }
