-- Flags that are set for the cells with some numbers.
use Rattle.std.proofs.Common.{◌≡◌, ℕ, zero, suc, ◌<◌, ◌==◌, ◌||◌, Bool, true, false, List, [], ◌∷◌, length, length-set, map, fold, replicate, Option, Some, if◌then◌else◌, refl, ap, ap₂, sym, ◌∙◌, arith}
use Rattle.std.proofs.lemmas.Bool.Decides.{Decides-eqb}
use Rattle.sdc_base.specs.HiddenSets.{is_hidden, hide}
use Rattle.sdc_base.specs.Kinds.{is_primary}
use Rattle.sdc_base.specs.Trails.{corners_of}
use Rattle.sdc_base.specs.declared.cell.Kind.{Kind}
use Rattle.certificate.specs.declared.certificate.Certificate.{Certificate}
use Rattle.certificate.specs.declared.extra.Extra.{Extra}
use Rattle.worlds.specs.declared.refuted.Refuted.{Refuted}
use Rattle.repair.specs.HidingOrder.{hide_subjects}
use Rattle.repair.proofs.Flags.{by_test, hidden_here, hidden_other}
use Rattle.cell_listing.specs.Flags.{AreHiddenCells, flags_of, outcome_in}
use Rattle.cell_listing.specs.Outcomes.{cells_in, hidden_or_shown, is_among, origin_by, subjects_of}
use Rattle.cell_listing.specs.ReleasedCells.{IsPrintable}
use Rattle.cell_listing.specs.declared.hidden_cells.HiddenCells.{HiddenCells}
use Rattle.cell_listing.specs.declared.outcome.Origin.{Origin}
use Rattle.cell_listing.specs.declared.outcome.Origin.TheVariants as origin
use Rattle.cell_listing.specs.declared.outcome.Outcome.{Outcome}
use Rattle.cell_listing.specs.declared.outcome.Outcome.TheVariants as outcome

or_true : (a : Bool) → (a || true) ≡ true
or_true true = refl
or_true false = refl

or_false : (a : Bool) → (a || false) ≡ a
or_false true = refl
or_false false = refl

-- one cell more
flag_step : (flags : List Bool) (n c : ℕ) (rest : Bool) → c < length flags → (is_hidden (hide flags n) c || rest) ≡ (is_hidden flags c || ((n == c) || rest))
flag_step flags n c rest within =
    by_test (n == c) ((is_hidden (hide flags n) c || rest) ≡ (is_hidden flags c || ((n == c) || rest)))
    (λ test.
    let same : n ≡ c = (Decides-eqb n c).0 test in
    let here : is_hidden (hide flags n) c ≡ true = ap (λ (k : ℕ). is_hidden (hide flags k) c) same ∙ hidden_here flags c within in
    ap (λ (b : Bool). b || rest) here ∙ sym (ap (λ (b : Bool). is_hidden flags c || (b || rest)) test ∙ or_true (is_hidden flags c)))
    (λ test.
    let there : is_hidden (hide flags n) c ≡ is_hidden flags c = hidden_other flags n c (λ same. let bad : (n == c) ≡ true = (Decides-eqb n c).1 (sym same) in let clash : true ≡ false = sym bad ∙ test in cc) in
    ap (λ (b : Bool). b || rest) there ∙ sym (ap (λ (b : Bool). is_hidden flags c || (b || rest)) test))

-- the flag of a cell is set where it was, or where the cell is among these
pub flag_or : (flags : List Bool) (numbers : List ℕ) (c : ℕ) → c < length flags → is_hidden (fold hide flags numbers) c ≡ (is_hidden flags c || is_among numbers c)
flag_or flags [] c within = sym (or_false (is_hidden flags c))
flag_or flags (n ∷ numbers) c within = flag_or (hide flags n) numbers c (omega (arith, within, length-set flags n true)) ∙ flag_step flags n c (is_among numbers c) within

unset : (cells c : ℕ) → is_hidden (replicate cells false) c ≡ false
unset zero c = refl
unset (suc cells) zero = refl
unset (suc cells) (suc c) = unset cells c

fresh_length : (cells : ℕ) → length (replicate cells false) ≡ cells
fresh_length zero = refl
fresh_length (suc cells) = ap suc (fresh_length cells)

-- the flag of a cell is set exactly where the cell is among these
pub flag_is : (cells : ℕ) (numbers : List ℕ) (c : ℕ) → c < cells → is_hidden (flags_of cells numbers) c ≡ is_among numbers c
flag_is cells numbers c within = flag_or (replicate cells false) numbers c (omega (arith, within, fresh_length cells)) ∙ ap (λ (b : Bool). b || is_among numbers c) (unset cells c)

by_subjects : (flags : List Bool) (repairs : List Refuted) → hide_subjects flags repairs ≡ fold hide flags (map (λ repair. repair.subject) repairs)
by_subjects flags [] = refl
by_subjects flags (repair ∷ repairs) = by_subjects (hide flags repair.subject) repairs

if_more : Bool → Bool → Outcome → Outcome
if_more hidden extra first = if hidden then first else if extra then outcome.Hidden (Some origin.Extra) else outcome.Shown

-- what the flags say is what the certificate and the extra cells say
pub outcome_by : (c : Certificate) (extra : Option Extra) (cells number : ℕ) (kind : Kind) (flags : HiddenCells) → AreHiddenCells c extra cells flags → number < cells
    → outcome_in flags number kind ≡ hidden_or_shown c extra number kind
unfolding if_more
outcome_by c extra cells number kind flags are within =
    let hidden : is_hidden flags.hidden number ≡ is_among c.hidden number = ap (λ (all : List Bool). is_hidden all number) are.hidden ∙ flag_is cells c.hidden number within in
    let corner : is_hidden flags.corners number ≡ is_among (corners_of c.steps) number = ap (λ (all : List Bool). is_hidden all number) are.corners ∙ flag_is cells (corners_of c.steps) number within in
    let subject : is_hidden flags.subjects number ≡ is_among (subjects_of c) number = ap (λ (all : List Bool). is_hidden all number) (are.subjects ∙ by_subjects (flags_of cells []) c.repairs) ∙ flag_is cells (subjects_of c) number within in
    let beside : is_hidden flags.extra number ≡ is_among (cells_in extra) number = ap (λ (all : List Bool). is_hidden all number) are.extra ∙ flag_is cells (cells_in extra) number within in
    ap₂ (λ (a b : Bool). if_more a b (outcome.Hidden (origin_by (is_primary kind) (is_hidden flags.corners number) (is_hidden flags.subjects number)))) hidden beside
    ∙ ap₂ (λ (a b : Bool). if_more (is_among c.hidden number) (is_among (cells_in extra) number) (outcome.Hidden (origin_by (is_primary kind) a b))) corner subject

printable_if : (hidden extra : Bool) (by : Option Origin) → IsPrintable (if_more hidden extra (outcome.Hidden by))
unfolding if_more
printable_if true extra by = tt
printable_if false true by = tt
printable_if false false by = tt

-- a cell that is hidden or shown has no amount to be printed
pub printable_by : (flags : HiddenCells) (number : ℕ) (kind : Kind) → IsPrintable (outcome_in flags number kind)
unfolding if_more
printable_by flags number kind = printable_if (is_hidden flags.hidden number) (is_hidden flags.extra number) (origin_by (is_primary kind) (is_hidden flags.corners number) (is_hidden flags.subjects number))
