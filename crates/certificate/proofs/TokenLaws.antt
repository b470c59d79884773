-- Lists of tokens that are written are read again, and those that are read are written so.
use Rattle.std.proofs.Common.{◌≡◌, ◌≢◌, ◌⊎◌, inl, inr, ℕ, ◌+◌, ◌<◌, ◌≤◌, ◌==◌, ◌&&◌, ◌||◌, Bool, true, false, cond, nat_le, List, [], ◌∷◌, ◌++◌, length, map, Result, Ok, Err, ℤ, pos, refl, ap, sym, ◌∙◌, subst, arith, decimal}
use Rattle.std.specs.Fmt.{signed_decimal}
use Rattle.std.specs.List.{AllByRecursion, list_all, list_any, before_first, after_first}
use Rattle.std.specs.Ordering.{int_eq}
use Rattle.std.proofs.lemmas.Bool.Decides.{Decides-int_eq}
use Rattle.sdc_base.specs.Forms.{Term}
use Rattle.sdc_base.specs.Steps.{◌>>=◌, refuse}
use Rattle.worlds.specs.declared.world.Move.{Move}
use Rattle.certificate.specs.declared.faults.CertWhy.TheVariants.{Number}
use Rattle.certificate.specs.Numerals.{natural_of, integer_of, ascends_from}
use Rattle.certificate.specs.TokenLists.{token_numbers, is_pair, term_of, terms_of, with_move, first_integer, moves_of}
use Rattle.certificate.specs.Texts.{pair_token, next_move, moves_in_turn}
use Rattle.certificate.specs.Spelling.{FitsIn128Bits, FitsIn32Bits, IsTermWithinTypes, IsMoveWithinTypes, IsAmong}
use Rattle.certificate.proofs.NumeralLaws.{natural_again, natural_text, integer_again, integer_text, decimal_apart}
use Rattle.certificate.proofs.PieceLaws.{Avoids, before_at, after_at, mark_in, cut_again}

-- ---- steps that give a value

pub bind_ok : {A B F : Type 0} (r : Result A F) (next : A → Result B F) (y : B) → (r >>= next) ≡ Ok y → (x : A) × (r ≡ Ok x) × (next x ≡ Ok y)
bind_ok (Ok x) next y h = (x, refl, h)
bind_ok (Err fault) next y h = absurd cc

pub ok_same : {A F : Type 0} (x y : A) → ◌≡◌ {A = Result A F} (Ok x) (Ok y) → x ≡ y
ok_same x y h = cc

-- what wasn't refused isn't so
pub not_refused : {F : Type 0} (fault : F) (wrong : Bool) (x : Unit {0}) → refuse fault wrong ≡ Ok x → wrong ≡ false
not_refused fault true x h = absurd cc
not_refused fault false x h = refl

-- ---- numbers

pub numbers_again : (numbers : List ℕ) → AllByRecursion FitsIn32Bits numbers → token_numbers (map decimal numbers) ≡ Ok numbers
unfolding token_numbers
numbers_again [] h = refl
numbers_again (n ∷ numbers) h = rw (natural_again 0 n (omega arith) h.0, numbers_again numbers h.1) refl

pub numbers_text : (tokens : List (List ℕ)) (numbers : List ℕ) → token_numbers tokens ≡ Ok numbers → (tokens ≡ map decimal numbers) × AllByRecursion FitsIn32Bits numbers
unfolding token_numbers
numbers_text [] numbers h = subst (λ (ns : List ℕ). ([] ≡ map decimal ns) × AllByRecursion FitsIn32Bits ns) (ok_same [] numbers h) (refl, tt)
numbers_text (token ∷ tokens) numbers h =
    let a = bind_ok (natural_of 0 token) _ numbers h in
    let b = bind_ok (token_numbers tokens) _ numbers a.2 in
    let one = natural_text 0 token a.0 a.1 in
    let rest = numbers_text tokens b.0 b.1 in
    subst (λ (ns : List ℕ). (token ∷ tokens ≡ map decimal ns) × AllByRecursion FitsIn32Bits ns) (ok_same (a.0 ∷ b.0) numbers b.2)
    (ap (λ (t : List ℕ). t ∷ tokens) one.0 ∙ ap (λ (ts : List (List ℕ)). decimal a.0 ∷ ts) rest.0, (one.2, rest.1))

-- ---- pairs

counts-is : (z : ℤ) → z ≢ pos 0 → int_eq z (pos 0) ≡ false
counts-is z h = by_test (int_eq z (pos 0)) (λ is. h ((Decides-int_eq z (pos 0)).0 is))
  where
    by_test : (t : Bool) → (t ≡ true → ⊥) → t ≡ false
    by_test true g = absurd (g refl)
    by_test false g = refl

counts-not : (z : ℤ) → int_eq z (pos 0) ≡ false → z ≢ pos 0
counts-not z h is = let no : true ≡ false = sym ((Decides-int_eq z (pos 0)).1 is) ∙ h in absurd cc

short-apart : (n : ℕ) → FitsIn32Bits n → Avoids 58 (decimal n)
short-apart n h = decimal_apart 58 n (omega (arith, h)) (inr (omega arith))

pub term_again : (term : Term) → IsTermWithinTypes term → term.1 ≢ pos 0 → term_of (pair_token term) ≡ Ok term
unfolding term_of
term_again term wide counts =
    rw (
      before_at 58 (decimal term.0) (signed_decimal term.1) (short-apart term.0 wide.0),
      after_at 58 (decimal term.0) (signed_decimal term.1) (short-apart term.0 wide.0),
      natural_again 0 term.0 (omega arith) wide.0,
      integer_again term.1 wide.1,
      counts-is term.1 counts,
    ) refl

pub terms_again : (terms : List Term) → AllByRecursion IsTermWithinTypes terms → AllByRecursion (λ term. term.1 ≢ pos 0) terms → terms_of (map pair_token terms) ≡ Ok terms
unfolding terms_of
terms_again [] wide counts = refl
terms_again (term ∷ terms) wide counts = rw (term_again term wide.0 counts.0, terms_again terms wide.1 counts.1) refl

pub pairs_again : (terms : List Term) → list_all is_pair (map pair_token terms) ≡ true
pairs_again [] = refl
pairs_again (term ∷ terms) = rw (mark_in 58 (decimal term.0) (signed_decimal term.1)) (pairs_again terms)

pub term_text : (token : List ℕ) (term : Term) → is_pair token ≡ true → term_of token ≡ Ok term → (token ≡ pair_token term) × IsTermWithinTypes term × (term.1 ≢ pos 0)
unfolding term_of
term_text token term pair h =
    let a = bind_ok (natural_of 0 (before_first (λ b. b == 58) token)) _ term h in
    let b = bind_ok (integer_of (after_first (λ b. b == 58) token)) _ term a.2 in
    let c = bind_ok (refuse Number (int_eq b.0 (pos 0))) _ term b.2 in
    let number = natural_text 0 (before_first (λ b. b == 58) token) a.0 a.1 in
    let by = integer_text (after_first (λ b. b == 58) token) b.0 b.1 in
    subst (λ (t : Term). (token ≡ pair_token t) × IsTermWithinTypes t × (t.1 ≢ pos 0)) (ok_same (a.0, b.0) term c.2) (
      cut_again 58 token pair ∙ ap (λ (front : List ℕ). front ++ 58 ∷ after_first (λ b. b == 58) token) number.0 ∙ ap (λ (back : List ℕ). decimal a.0 ++ 58 ∷ back) by.0,
      (number.2, by.1),
      counts-not b.0 (not_refused Number (int_eq b.0 (pos 0)) c.0 c.1),
    )

pub both-true : (p q : Bool) → (p && q) ≡ true → (p ≡ true) × (q ≡ true)
both-true true q h = (refl, h)
both-true false q h = absurd cc

pub terms_text : (tokens : List (List ℕ)) (terms : List Term) → list_all is_pair tokens ≡ true → terms_of tokens ≡ Ok terms
    → (tokens ≡ map pair_token terms) × AllByRecursion IsTermWithinTypes terms × AllByRecursion (λ term. term.1 ≢ pos 0) terms
unfolding terms_of
terms_text [] terms pairs h =
    subst (λ (ts : List Term). ([] ≡ map pair_token ts) × AllByRecursion IsTermWithinTypes ts × AllByRecursion (λ term. term.1 ≢ pos 0) ts) (ok_same [] terms h) (refl, tt, tt)
terms_text (token ∷ tokens) terms pairs h =
    let p = both-true (is_pair token) (list_all is_pair tokens) pairs in
    let a = bind_ok (term_of token) _ terms h in
    let b = bind_ok (terms_of tokens) _ terms a.2 in
    let one = term_text token a.0 p.0 a.1 in
    let rest = terms_text tokens b.0 p.1 b.1 in
    subst (λ (ts : List Term). (token ∷ tokens ≡ map pair_token ts) × AllByRecursion IsTermWithinTypes ts × AllByRecursion (λ term. term.1 ≢ pos 0) ts) (ok_same (a.0 ∷ b.0) terms b.2)
    (ap (λ (t : List ℕ). t ∷ tokens) one.0 ∙ ap (λ (ts : List (List ℕ)). pair_token a.0 ∷ ts) rest.0, (one.1, rest.1), (one.2, rest.2))

-- ---- moves

abbrev pub Cells : List Move → List ℕ
Cells moves = map (λ one. one.cell) moves

pub le-of : (m n : ℕ) → nat_le m n ≡ true → m ≤ n
le-of m n h = grind arith

le-is : (m n : ℕ) → m ≤ n → nat_le m n ≡ true
le-is m n h = grind arith

apart-is : (m n : ℕ) → m < n → (m == n) ≡ false
apart-is m n h = grind arith

apart-back : (m n : ℕ) → m < n → (n == m) ≡ false
apart-back m n h = grind arith

pub same-is : (m n : ℕ) → (m == n) ≡ true → m ≡ n
same-is m n h = grind arith

same-test : (n : ℕ) → (n == n) ≡ true
same-test n = grind arith

one-of : (p q : Bool) → (p || q) ≡ true → (p ≡ true) ⊎ (q ≡ true)
one-of true q h = inl refl
one-of false q h = inr h

among-here : (least cell x : ℕ) (cells : List ℕ) → least ≤ cell → (cell == x ≡ true) ⊎ (list_any (λ other. other == x) cells ≡ true) → (list_any (λ other. other == x) cells ≡ true → cell + 1 ≤ x) → least ≤ x
among-here least cell x cells above (inl here) later = omega (arith, above, same-is cell x here)
among-here least cell x cells above (inr there) later = omega (arith, above, later there)

-- a cell among ascending ones isn't below the least
pub among-least : (least : ℕ) (cells : List ℕ) (x : ℕ) → ascends_from least cells ≡ true → IsAmong cells x → least ≤ x
among-least least [] x up is = absurd (let no : false ≡ true = is in cc)
among-least least (cell ∷ cells) x up is =
    let p = both-true (nat_le least cell) (ascends_from (cell + 1) cells) up in
    among-here least cell x cells (le-of least cell p.0) (one-of (cell == x) (list_any (λ other. other == x) cells) is) (λ later. among-least (cell + 1) cells x p.1 later)

-- a cell that isn't the first is among the others
pub later-one : (cell x : ℕ) (cells : List ℕ) → (cell == x) ≡ false → IsAmong (cell ∷ cells) x → IsAmong cells x
later-one cell x cells apart is = sym (ap (λ (t : Bool). t || list_any (λ other. other == x) cells) apart) ∙ is

pub all-later : (cell : ℕ) (cells : List ℕ) (from : ℕ) (moves : List Move) → cell < from → ascends_from from (Cells moves) ≡ true → AllByRecursion (λ one. IsAmong (cell ∷ cells) one.cell) moves
    → AllByRecursion (λ one. IsAmong cells one.cell) moves
all-later cell cells from [] above up among = tt
all-later cell cells from (move ∷ moves) above up among =
    let p = both-true (nat_le from move.cell) (ascends_from (move.cell + 1) (Cells moves)) up in
    let past : cell < move.cell = omega (arith, above, le-of from move.cell p.0) in
    (later-one cell move.cell cells (apart-is cell move.cell past) among.0, all-later cell cells (move.cell + 1) moves (omega (arith, past)) p.1 among.1)

zero-again : integer_of (signed_decimal (pos 0)) ≡ Ok (pos 0)
zero-again = integer_again (pos 0) (omega arith)

step-none : (cell : ℕ) (cells : List ℕ) → moves_of cells (map signed_decimal (moves_in_turn cells [])) ≡ Ok [] → moves_of (cell ∷ cells) (map signed_decimal (moves_in_turn (cell ∷ cells) [])) ≡ Ok []
unfolding moves_of first_integer
step-none cell cells rest = rw (zero-again, rest) refl

step-here : (cell : ℕ) (cells : List ℕ) (move : Move) (moves : List Move) → (move.cell == cell) ≡ true → FitsIn128Bits move.by → move.by ≢ pos 0 → moves_of cells (map signed_decimal (moves_in_turn cells moves)) ≡ Ok moves
    → moves_of (cell ∷ cells) (map signed_decimal (moves_in_turn (cell ∷ cells) (move ∷ moves))) ≡ Ok (move ∷ moves)
unfolding moves_of first_integer
step-here cell cells move moves is wide counts rest =
    rw (is, integer_again move.by wide, rest, counts-is move.by counts) (ap (λ (x : ℕ). Ok (record { cell = x; by = move.by } ∷ moves)) (sym (same-is move.cell cell is)))

step-past : (cell : ℕ) (cells : List ℕ) (move : Move) (moves : List Move) → (move.cell == cell) ≡ false → moves_of cells (map signed_decimal (moves_in_turn cells (move ∷ moves))) ≡ Ok (move ∷ moves)
    → moves_of (cell ∷ cells) (map signed_decimal (moves_in_turn (cell ∷ cells) (move ∷ moves))) ≡ Ok (move ∷ moves)
unfolding moves_of first_integer
step-past cell cells move moves is rest = rw (is, zero-again, rest) refl

pub flipped : (m n : ℕ) → (m == n) ≡ false → (n == m) ≡ false
flipped m n h = grind arith

pub moves_again : (least : ℕ) (hidden : List ℕ) (from : ℕ) (moves : List Move) → ascends_from least hidden ≡ true → ascends_from from (Cells moves) ≡ true
    → AllByRecursion (λ one. IsAmong hidden one.cell) moves → AllByRecursion (λ one. one.by ≢ pos 0) moves → AllByRecursion IsMoveWithinTypes moves
    → moves_of hidden (map signed_decimal (moves_in_turn hidden moves)) ≡ Ok moves
unfolding moves_of
moves_again least [] from [] up rise among counts wide = refl
moves_again least [] from (move ∷ moves) up rise among counts wide = absurd (let no : false ≡ true = among.0 in cc)
moves_again least (cell ∷ cells) from [] up rise among counts wide =
    let p = both-true (nat_le least cell) (ascends_from (cell + 1) cells) up in
    step-none cell cells (moves_again (cell + 1) cells from [] p.1 rise tt tt tt)
moves_again least (cell ∷ cells) from (move ∷ moves) up rise among counts wide =
    let p = both-true (nat_le least cell) (ascends_from (cell + 1) cells) up in
    let q = both-true (nat_le from move.cell) (ascends_from (move.cell + 1) (Cells moves)) rise in
    elim (move.cell == cell) as (λ t. (move.cell == cell) ≡ t → moves_of (cell ∷ cells) (map signed_decimal (moves_in_turn (cell ∷ cells) (move ∷ moves))) ≡ Ok (move ∷ moves)) [
      | true ↦ λ is.
          let past : cell < move.cell + 1 = omega (arith, same-is move.cell cell is) in
          step-here cell cells move moves is wide.0.1 counts.0 (moves_again (cell + 1) cells (move.cell + 1) moves p.1 q.1 (all-later cell cells (move.cell + 1) moves past q.1 among.1) counts.1 wide.1)
      | false ↦ λ is.
          let one = later-one cell move.cell cells (flipped move.cell cell is) among.0 in
          let past : cell < move.cell + 1 = omega (arith, among-least (cell + 1) cells move.cell p.1 one) in
          step-past cell cells move moves is (moves_again (cell + 1) cells from (move ∷ moves) p.1 rise (one, all-later cell cells (move.cell + 1) moves past q.1 among.1) counts wide)
    ] refl

-- ---- moves that were read

weaker : (from least : ℕ) (numbers : List ℕ) → least ≤ from → ascends_from from numbers ≡ true → ascends_from least numbers ≡ true
weaker from least [] below h = refl
weaker from least (n ∷ numbers) below h =
    let p = both-true (nat_le from n) (ascends_from (n + 1) numbers) h in
    rw (le-is least n (omega (arith, below, le-of from n p.0))) p.1

wider : (cell : ℕ) (cells : List ℕ) (moves : List Move) → AllByRecursion (λ one. IsAmong cells one.cell) moves → AllByRecursion (λ one. IsAmong (cell ∷ cells) one.cell) moves
wider cell cells [] h = tt
wider cell cells (move ∷ moves) h = (rw h.0 (elim (cell == move.cell) as (λ t. (t || true) ≡ true) [ true ↦ refl | false ↦ refl ]), wider cell cells moves h.1)

taken-past : (cell : ℕ) (moves : List Move) → ascends_from (cell + 1) (Cells moves) ≡ true → next_move cell moves ≡ (pos 0, moves)
taken-past cell [] h = refl
taken-past cell (move ∷ moves) h =
    let p = both-true (nat_le (cell + 1) move.cell) (ascends_from (move.cell + 1) (Cells moves)) h in
    rw (apart-back cell move.cell (omega (arith, le-of (cell + 1) move.cell p.0))) refl

-- what is known of moves that were read
pub record AreRead (least : ℕ) (hidden : List ℕ) (tokens : List (List ℕ)) (moves : List Move) : Type 0 where
  pub text : tokens ≡ map signed_decimal (moves_in_turn hidden moves)
  pub ascending : ascends_from least (Cells moves) ≡ true
  pub moving : AllByRecursion (λ one. one.by ≢ pos 0) moves
  pub among : AllByRecursion (λ one. IsAmong hidden one.cell) moves
  pub wide : AllByRecursion IsMoveWithinTypes moves

moves-step : (cell : ℕ) (cells : List ℕ) (token : List ℕ) (tokens : List (List ℕ)) (moves : List Move) → moves_of (cell ∷ cells) (token ∷ tokens) ≡ Ok moves
    → (by : ℤ) × (rest : List Move) × (integer_of token ≡ Ok by) × (moves_of cells tokens ≡ Ok rest) × (with_move cell by rest ≡ moves)
unfolding moves_of first_integer
moves-step cell cells token tokens moves h =
    let a = bind_ok (integer_of token >>= λ by. Ok (by, tokens)) _ moves h in
    let b = bind_ok (integer_of token) _ a.0 a.1 in
    let same : ◌≡◌ {A = ℤ × List (List ℕ)} (b.0, tokens) a.0 = ok_same (b.0, tokens) a.0 b.2 in
    let d = subst (λ (p : ℤ × List (List ℕ)). (moves_of cells p.1 >>= λ rest. Ok (with_move cell p.0 rest)) ≡ Ok moves) (sym same) a.2 in
    let e = bind_ok (moves_of cells tokens) _ moves d in
    (b.0, e.0, b.1, e.1, ok_same (with_move cell b.0 e.0) moves e.2)

read-zero : (least cell : ℕ) (cells : List ℕ) (token : List ℕ) (tokens : List (List ℕ)) (moves : List Move) → least ≤ cell → token ≡ signed_decimal (pos 0) → AreRead (cell + 1) cells tokens moves → AreRead least (cell ∷ cells) (token ∷ tokens) moves
read-zero least cell cells token tokens moves below is r = record {
  text = rw (taken-past cell moves r.ascending) (ap (λ (t : List ℕ). t ∷ tokens) is ∙ ap (λ (ts : List (List ℕ)). signed_decimal (pos 0) ∷ ts) r.text);
  ascending = weaker (cell + 1) least (Cells moves) (omega (arith, below)) r.ascending;
  moving = r.moving;
  among = wider cell cells moves r.among;
  wide = r.wide;
}

read-move : (least cell : ℕ) (cells : List ℕ) (token : List ℕ) (tokens : List (List ℕ)) (by : ℤ) (moves : List Move) → least ≤ cell → token ≡ signed_decimal by → FitsIn32Bits cell → FitsIn128Bits by → by ≢ pos 0
    → AreRead (cell + 1) cells tokens moves → AreRead least (cell ∷ cells) (token ∷ tokens) (record { cell = cell; by = by } ∷ moves)
read-move least cell cells token tokens by moves below is short wide counts r = record {
  text = rw (same-test cell) (ap (λ (t : List ℕ). t ∷ tokens) is ∙ ap (λ (ts : List (List ℕ)). signed_decimal by ∷ ts) r.text);
  ascending = rw (le-is least cell below) r.ascending;
  moving = (counts, r.moving);
  among = (rw (same-test cell) refl, wider cell cells moves r.among);
  wide = ((short, wide), r.wide);
}

pub moves_text : (least : ℕ) (hidden : List ℕ) (tokens : List (List ℕ)) (moves : List Move) → ascends_from least hidden ≡ true → AllByRecursion FitsIn32Bits hidden → length tokens ≡ length hidden → moves_of hidden tokens ≡ Ok moves → AreRead least hidden tokens moves
unfolding moves_of
moves_text least [] [] moves up short each h = subst (λ (ms : List Move). AreRead least [] [] ms) (ok_same [] moves h) (record { text = refl; ascending = refl; moving = tt; among = tt; wide = tt })
moves_text least [] (token ∷ tokens) moves up short each h = absurd (omega (arith, each))
moves_text least (cell ∷ cells) [] moves up short each h = absurd (omega (arith, each))
moves_text least (cell ∷ cells) (token ∷ tokens) moves up short each h =
    let p = both-true (nat_le least cell) (ascends_from (cell + 1) cells) up in
    let s = moves-step cell cells token tokens moves h in
    let one = integer_text token s.0 s.2 in
    let rest = moves_text (cell + 1) cells tokens s.1 p.1 short.1 (omega (arith, each)) s.3 in
    elim (int_eq s.0 (pos 0)) as (λ t. int_eq s.0 (pos 0) ≡ t → cond t s.1 (record { cell = cell; by = s.0 } ∷ s.1) ≡ moves → AreRead least (cell ∷ cells) (token ∷ tokens) moves) [
      | true ↦ λ zero-test same.
          let none = (Decides-int_eq s.0 (pos 0)).0 zero-test in
          subst (λ (ms : List Move). AreRead least (cell ∷ cells) (token ∷ tokens) ms) same
          (read-zero least cell cells token tokens s.1 (le-of least cell p.0) (one.0 ∙ ap signed_decimal none) rest)
      | false ↦ λ test same.
          subst (λ (ms : List Move). AreRead least (cell ∷ cells) (token ∷ tokens) ms) same
          (read-move least cell cells token tokens s.0 s.1 (le-of least cell p.0) one.0 short.0 one.1 (counts-not s.0 test) rest)
    ] refl s.4
