-- Moves of complete tables that are written are read again, and those that are read are written so, in each version.
use Rattle.std.proofs.Common.{◌≡◌, ◌≢◌, ℕ, suc, ◌==◌, not, true, List, [], ◌∷◌, length, map, Ok, pos, refl, ap, ◌∙◌, subst, arith}
use Rattle.std.specs.Fmt.{signed_decimal}
use Rattle.std.specs.List.{AllByRecursion, list_all}
use Rattle.std.proofs.lemmas.List.{length-map}
use Rattle.sdc_base.specs.Forms.{Term}
use Rattle.sdc_base.specs.Steps.{refuse}
use Rattle.worlds.specs.declared.world.Move.{Move}
use Rattle.certificate.specs.declared.faults.CertWhy.TheVariants.{Order}
use Rattle.certificate.specs.declared.version.Version.{Version}
use Rattle.certificate.specs.declared.version.Version.TheVariants.{One, Two}
use Rattle.certificate.specs.Numerals.{ascends}
use Rattle.certificate.specs.TokenLists.{is_pair, terms_of, move_of, paired_moves_of, have_form, moves_by}
use Rattle.certificate.specs.Texts.{pair_token, move_token, next_move, moves_in_turn, move_tokens}
use Rattle.certificate.specs.Spelling.{FitsIn32Bits, IsAmong, IsTermWithinTypes, IsMoveWithinTypes}
use Rattle.certificate.proofs.LineLaws.{not-false}
use Rattle.certificate.proofs.TokenLaws.{Cells, bind_ok, ok_same, not_refused, terms_again, pairs_again, terms_text, moves_again, moves_text}

-- ---- moves as terms

-- the cell of a move with the number by which it moves
abbrev pub term_by : Move → Term
term_by move = (move.cell, move.by)

paired : (moves : List Move) → map move_token moves ≡ map pair_token (map term_by moves)
paired [] = refl
paired (move ∷ moves) = ap (λ (ts : List (List ℕ)). move_token move ∷ ts) (paired moves)

cells-paired : (moves : List Move) → map (λ term. term.0) (map term_by moves) ≡ Cells moves
cells-paired [] = refl
cells-paired (move ∷ moves) = ap (λ (ns : List ℕ). move.cell ∷ ns) (cells-paired moves)

moved-again : (moves : List Move) → map move_of (map term_by moves) ≡ moves
moved-again [] = refl
moved-again (move ∷ moves) = ap (λ (ms : List Move). move ∷ ms) (moved-again moves)

terms-wide : (moves : List Move) → AllByRecursion IsMoveWithinTypes moves → AllByRecursion IsTermWithinTypes (map term_by moves)
terms-wide [] wide = tt
terms-wide (move ∷ moves) wide = (wide.0, terms-wide moves wide.1)

terms-count : (moves : List Move) → AllByRecursion (λ one. one.by ≢ pos 0) moves → AllByRecursion (λ term. term.1 ≢ pos 0) (map term_by moves)
terms-count [] counts = tt
terms-count (move ∷ moves) counts = (counts.0, terms-count moves counts.1)

tokens-moved : (terms : List Term) → map pair_token terms ≡ map move_token (map move_of terms)
tokens-moved [] = refl
tokens-moved (term ∷ terms) = ap (λ (ts : List (List ℕ)). pair_token term ∷ ts) (tokens-moved terms)

cells-moved : (terms : List Term) → map (λ term. term.0) terms ≡ Cells (map move_of terms)
cells-moved [] = refl
cells-moved (term ∷ terms) = ap (λ (ns : List ℕ). term.0 ∷ ns) (cells-moved terms)

moves-wide : (terms : List Term) → AllByRecursion IsTermWithinTypes terms → AllByRecursion IsMoveWithinTypes (map move_of terms)
moves-wide [] wide = tt
moves-wide (term ∷ terms) wide = (wide.0, moves-wide terms wide.1)

moves-count : (terms : List Term) → AllByRecursion (λ term. term.1 ≢ pos 0) terms → AllByRecursion (λ one. one.by ≢ pos 0) (map move_of terms)
moves-count [] counts = tt
moves-count (term ∷ terms) counts = (counts.0, moves-count terms counts.1)

-- ---- moves that are written

paired-again : (moves : List Move) → ascends (Cells moves) ≡ true → AllByRecursion (λ one. one.by ≢ pos 0) moves → AllByRecursion IsMoveWithinTypes moves → paired_moves_of (map move_token moves) ≡ Ok moves
unfolding paired_moves_of
paired-again moves up counts wide =
    rw (paired moves, terms_again (map term_by moves) (terms-wide moves wide) (terms-count moves counts), cells-paired moves, up, moved-again moves) refl

turn-length : (hidden : List ℕ) (moves : List Move) → length (moves_in_turn hidden moves) ≡ length hidden
turn-length [] moves = refl
turn-length (cell ∷ cells) moves = ap (λ n. suc n) (turn-length cells (next_move cell moves).1)

same-count : (m n : ℕ) → m ≡ n → (m == n) ≡ true
same-count m n h = grind arith

count-same : (m n : ℕ) → (m == n) ≡ true → m ≡ n
count-same m n h = grind arith

pub form_again : (version : Version) (hidden : List ℕ) (moves : List Move) → have_form version hidden (move_tokens version hidden moves) ≡ true
form_again One hidden moves = same-count (length (map signed_decimal (moves_in_turn hidden moves))) (length hidden) (length-map (moves_in_turn hidden moves) signed_decimal ∙ turn-length hidden moves)
form_again Two hidden moves = rw (paired moves) (pairs_again (map term_by moves))

-- moves can be said: in the first version they are of hidden cells
abbrev pub AreSayable : Version → List ℕ → List Move → Type 0
AreSayable One hidden moves = AllByRecursion (λ one. IsAmong hidden one.cell) moves
AreSayable Two hidden moves = Unit {0}

pub moves_by_again : (version : Version) (hidden : List ℕ) (moves : List Move) → ascends hidden ≡ true → ascends (Cells moves) ≡ true → AreSayable version hidden moves
    → AllByRecursion (λ one. one.by ≢ pos 0) moves → AllByRecursion IsMoveWithinTypes moves → moves_by version hidden (move_tokens version hidden moves) ≡ Ok moves
moves_by_again One hidden moves up rise among counts wide = moves_again 0 hidden 0 moves up rise among counts wide
moves_by_again Two hidden moves up rise sayable counts wide = paired-again moves rise counts wide

-- ---- moves that were read

-- what is known of moves that were read
pub record AreMovesRead (version : Version) (hidden : List ℕ) (tokens : List (List ℕ)) (moves : List Move) : Type 0 where
  pub text : tokens ≡ move_tokens version hidden moves
  pub ascending : ascends (Cells moves) ≡ true
  pub moving : AllByRecursion (λ one. one.by ≢ pos 0) moves
  pub sayable : AreSayable version hidden moves
  pub wide : AllByRecursion IsMoveWithinTypes moves

paired-text : (hidden : List ℕ) (tokens : List (List ℕ)) (moves : List Move) → list_all is_pair tokens ≡ true → paired_moves_of tokens ≡ Ok moves → AreMovesRead Two hidden tokens moves
unfolding paired_moves_of
paired-text hidden tokens moves form h =
    let a = bind_ok (terms_of tokens) _ moves h in
    let b = bind_ok (refuse Order (not (ascends (map (λ term. term.0) a.0)))) _ moves a.2 in
    let terms = terms_text tokens a.0 form a.1 in
    let up = not-false (ascends (map (λ term. term.0) a.0)) (not_refused Order (not (ascends (map (λ term. term.0) a.0))) b.0 b.1) in
    subst (λ (ms : List Move). AreMovesRead Two hidden tokens ms) (ok_same (map move_of a.0) moves b.2) (record {
      text = terms.0 ∙ tokens-moved a.0;
      ascending = rw (← cells-moved a.0) up;
      moving = moves-count a.0 terms.2;
      sayable = tt;
      wide = moves-wide a.0 terms.1;
    })

pub moves_by_text : (version : Version) (hidden : List ℕ) (tokens : List (List ℕ)) (moves : List Move) → ascends hidden ≡ true → AllByRecursion FitsIn32Bits hidden → have_form version hidden tokens ≡ true
    → moves_by version hidden tokens ≡ Ok moves → AreMovesRead version hidden tokens moves
moves_by_text One hidden tokens moves up short form h =
    let read = moves_text 0 hidden tokens moves up short (count-same (length tokens) (length hidden) form) h in
    record { text = read.text; ascending = read.ascending; moving = read.moving; sayable = read.among; wide = read.wide }
moves_by_text Two hidden tokens moves up short form h = paired-text hidden tokens moves form h
