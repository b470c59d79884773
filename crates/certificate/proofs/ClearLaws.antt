-- The tokens of a certificate have no byte that ends tokens or lines.
use Rattle.std.proofs.Common.{◌≡◌, inl, ℕ, ◌+◌, ◌<◌, ◌==◌, ◌&&◌, Bool, true, false, cond, nat_lt, List, [], ◌∷◌, map, ℤ, pos, refl, arith, decimal}
use Rattle.std.specs.Prelude.{codes}
use Rattle.std.specs.Fmt.{signed_decimal}
use Rattle.std.specs.List.{AllByRecursion, list_all}
use Rattle.sdc_base.specs.Forms.{Term}
use Rattle.sdc_base.specs.declared.method.Method.{Method}
use Rattle.sdc_base.specs.declared.method.Method.TheVariants as method
use Rattle.sdc_base.specs.declared.trail.PlanStep.{PlanStep}
use Rattle.sdc_base.specs.declared.side.Side.{Side}
use Rattle.sdc_base.specs.declared.side.Side.TheVariants as side
use Rattle.worlds.specs.declared.refuted.Refuted.{Refuted}
use Rattle.worlds.specs.declared.world.Move.{Move}
use Rattle.certificate.specs.declared.certificate.WorldLine.{WorldLine}
use Rattle.certificate.specs.declared.version.Version.{Version}
use Rattle.certificate.specs.declared.version.Version.TheVariants.{One, Two}
use Rattle.sdc_base.specs.Sides.{side_word}
use Rattle.certificate.specs.Texts.{method_arguments, comma_list, step_arguments, pair_token, refutation_arguments, next_move, moves_in_turn, move_token, move_tokens, world_arguments}
use Rattle.certificate.specs.Spelling.{FitsIn128Bits, FitsIn32Bits, IsMethodWithinTypes, IsStepSpellable, IsStepWithinTypes, IsTermWithinTypes, IsMoveWithinTypes, IsRefutationWithinTypes, IsWorldWithinTypes}
use Rattle.certificate.proofs.NumeralLaws.{decimal_apart, signed_apart}
use Rattle.certificate.proofs.PieceLaws.{Avoids, avoids_append, avoids_joined}

apart-high : (b mark : ℕ) → mark < 44 → 43 < b → (b == mark) ≡ false
apart-high b mark low high = grind arith

above-of : (b : ℕ) → nat_lt 43 b ≡ true → 43 < b
above-of b h = grind arith

both-true : (p q : Bool) → (p && q) ≡ true → (p ≡ true) × (q ≡ true)
both-true true q h = (refl, h)
both-true false q h = absurd cc

-- a word of letters
pub clear_word : (mark : ℕ) (word : List ℕ) → mark < 44 → list_all (λ b. nat_lt 43 b) word ≡ true → Avoids mark word
clear_word mark [] low h = refl
clear_word mark (b ∷ word) low h =
    let p = both-true (nat_lt 43 b) (list_all (λ c. nat_lt 43 c) word) h in
    rw (apart-high b mark low (above-of b p.0), clear_word mark word low p.1) refl

pub clear_decimal : (mark n : ℕ) → mark < 44 → FitsIn32Bits n → Avoids mark (decimal n)
clear_decimal mark n low short = decimal_apart mark n (omega (arith, short)) (inl (omega (arith, low)))

pub clear_signed : (mark : ℕ) (z : ℤ) → mark < 44 → FitsIn128Bits z → Avoids mark (signed_decimal z)
clear_signed mark z low wide = signed_apart mark z wide (λ same. omega (arith, low, same)) (inl (omega (arith, low)))

pub clear_numbers : (mark : ℕ) (numbers : List ℕ) → mark < 44 → AllByRecursion FitsIn32Bits numbers → AllByRecursion (Avoids mark) (map decimal numbers)
clear_numbers mark [] low short = tt
clear_numbers mark (n ∷ numbers) low short = (clear_decimal mark n low short.0, clear_numbers mark numbers low short.1)

clear-comma_list : (mark : ℕ) (numbers : List ℕ) → mark < 44 → AllByRecursion FitsIn32Bits numbers → Avoids mark (comma_list numbers)
clear-comma_list mark numbers low short = avoids_joined mark 44 (map decimal numbers) (apart-high 44 mark low (omega arith)) (clear_numbers mark numbers low short)

pub clear_pairs : (mark : ℕ) (terms : List Term) → mark < 44 → AllByRecursion IsTermWithinTypes terms → AllByRecursion (Avoids mark) (map pair_token terms)
clear_pairs mark [] low wide = tt
clear_pairs mark (term ∷ terms) low wide = (
  avoids_append mark (decimal term.0) (58 ∷ signed_decimal term.1) (clear_decimal mark term.0 low wide.0.0) (rw (apart-high 58 mark low (omega arith)) (clear_signed mark term.1 low wide.0.1)),
  clear_pairs mark terms low wide.1,
)

AreWide : List Move → Type 0
AreWide moves = AllByRecursion IsMoveWithinTypes moves

taken-wide : (cell : ℕ) (moves : List Move) → AreWide moves → FitsIn128Bits (next_move cell moves).0 × AreWide (next_move cell moves).1
unfolding AreWide
taken-wide cell [] wide = (omega arith, tt)
taken-wide cell (move ∷ moves) wide = elim (move.cell == cell) as (λ t. FitsIn128Bits (cond {A = ℤ × List Move} t (move.by, moves) (pos 0, move ∷ moves)).0 × AreWide (cond {A = ℤ × List Move} t (move.by, moves) (pos 0, move ∷ moves)).1) [
  | true ↦ (wide.0.1, wide.1)
  | false ↦ (omega arith, wide)
]

clear-turns : (mark : ℕ) (hidden : List ℕ) (moves : List Move) → mark < 44 → AreWide moves → AllByRecursion (Avoids mark) (map signed_decimal (moves_in_turn hidden moves))
clear-turns mark [] moves low wide = tt
clear-turns mark (cell ∷ cells) moves low wide =
    let taken = taken-wide cell moves wide in
    (clear_signed mark (next_move cell moves).0 low taken.0, clear-turns mark cells (next_move cell moves).1 low taken.1)

pub clear_side : (mark : ℕ) (s : Side) → mark < 44 → Avoids mark (side_word s)
clear_side mark side.Above low = clear_word mark (side_word side.Above) low refl
clear_side mark side.Below low = clear_word mark (side_word side.Below) low refl

clear-paired : (mark : ℕ) (moves : List Move) → mark < 44 → AreWide moves → AllByRecursion (Avoids mark) (map move_token moves)
unfolding AreWide
clear-paired mark [] low wide = tt
clear-paired mark (move ∷ moves) low wide = (
  avoids_append mark (decimal move.cell) (58 ∷ signed_decimal move.by) (clear_decimal mark move.cell low wide.0.0) (rw (apart-high 58 mark low (omega arith)) (clear_signed mark move.by low wide.0.1)),
  clear-paired mark moves low wide.1,
)

clear-moves : (version : Version) (mark : ℕ) (hidden : List ℕ) (moves : List Move) → mark < 44 → AreWide moves → AllByRecursion (Avoids mark) (move_tokens version hidden moves)
clear-moves One mark hidden moves low wide = clear-turns mark hidden moves low wide
clear-moves Two mark hidden moves low wide = clear-paired mark moves low wide

-- ---- lines

pub clear_method : (mark : ℕ) (how : Method) → mark < 44 → IsMethodWithinTypes how → AllByRecursion (Avoids mark) (codes "method" ∷ method_arguments how)
clear_method mark method.Modular low wide = (clear_word mark (codes "method") low refl, (clear_word mark (codes "MOD") low refl, tt))
clear_method mark (method.Gh passes) low wide = (clear_word mark (codes "method") low refl, (clear_word mark (codes "GH") low refl, (clear_decimal mark passes low wide, tt)))
clear_method mark (method.Rnd base) low wide = (clear_word mark (codes "method") low refl, (clear_word mark (codes "RND") low refl, (clear_signed mark base low wide, tt)))

pub clear_step : (mark : ℕ) (step : PlanStep) → mark < 44 → IsStepSpellable step → IsStepWithinTypes step → AllByRecursion (Avoids mark) (codes "step" ∷ step_arguments step)
clear_step mark step low fine wide = (
  clear_word mark (codes "step") low refl,
  (
    clear_decimal mark (step.table + 1) low (omega (arith, fine.table)),
    (
      clear-comma_list mark step.parents low wide.parents,
      (
        clear_decimal mark step.cell low wide.cell,
        (clear-comma_list mark step.corners low wide.corners, tt),
      ),
    ),
  ),
)

pub clear_refuted : (mark : ℕ) (word : List ℕ) (refuted : Refuted) → mark < 44 → list_all (λ b. nat_lt 43 b) word ≡ true → IsRefutationWithinTypes refuted → AllByRecursion (Avoids mark) (word ∷ refutation_arguments refuted)
clear_refuted mark word refuted low letters wide = (
  clear_word mark word low letters,
  (
    clear_decimal mark refuted.subject low wide.subject,
    (
      clear_decimal mark refuted.cell low wide.cell,
      (
        clear_side mark refuted.side low,
        (clear_signed mark refuted.multipliers.den low wide.den, clear_pairs mark refuted.multipliers.by_relation low wide.terms),
      ),
    ),
  ),
)

pub clear_world : (version : Version) (mark : ℕ) (word hidden : List ℕ) (line : WorldLine) → mark < 44 → list_all (λ b. nat_lt 43 b) word ≡ true → IsWorldWithinTypes line → AllByRecursion (Avoids mark) (word ∷ world_arguments version hidden line)
unfolding AreWide
clear_world version mark word hidden line low letters wide = (
  clear_word mark word low letters,
  (
    clear_decimal mark line.cell low wide.cell,
    (
      clear_side mark line.side low,
      (
        clear_signed mark line.world.den low wide.den,
        clear-moves version mark hidden line.world.moves low wide.moves,
      ),
    ),
  ),
)
