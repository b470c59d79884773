-- Exactly the hidden cells of a release that is accepted are listed as hidden, each with an origin.
use Rattle.std.proofs.Common.{◌≡◌, ◌↔◌, ◌⊎◌, inl, inr, ℕ, zero, suc, ◌<◌, ◌||◌, Bool, true, false, List, [], ◌∷◌, length, slice_get, Option, None, Some, option_map, ℤ, if◌then◌else◌, IfSome, refl, ap, sym, ◌∙◌, arith}
use Rattle.std.specs.Prelude.{slice_index_or, pos}
use Rattle.std.proofs.lemmas.List.{length-map}
use Rattle.std.proofs.lemmas.Option.{slice_get-map, slice_get_within}
use Rattle.sdc_base.specs.HiddenSets.{is_hidden}
use Rattle.sdc_base.specs.Kinds.{is_primary}
use Rattle.sdc_base.specs.Trails.{corners_of}
use Rattle.sdc_base.specs.declared.cell.Cell.{Cell}
use Rattle.sdc_base.specs.declared.cell.Kind.{Kind}
use Rattle.sdc_base.specs.declared.cell.Kind.TheVariants.{Primary}
use Rattle.apriori.specs.Settling.{SettledCell, view_of_cell}
use Rattle.certificate.specs.declared.certificate.Certificate.{Certificate}
use Rattle.certificate.specs.declared.extra.Extra.{Extra}
use Rattle.release_writer.specs.ReadingLaws.{AreTexts}
use Rattle.release_writer.specs.ShownCells.{open_truth}
use Rattle.repair.specs.HidingOrder.{IsOfKind, IsSubset}
use Rattle.repair.proofs.Flags.{by_test}
use Rattle.repair.proofs.Sayings.{open_set_holds}
use Rattle.cert_check.proofs.SetLengths.{set_length}
use Rattle.cert_check.specs.FirstFault.{open_set}
use Rattle.cert_check.specs.HiddenSet.{hidden_set}
use Rattle.cert_check.specs.Methods.{rounds_cells}
use Rattle.cert_check.specs.declared.case.Case.{Case}
use Rattle.job_inputs.specs.Cells.{cells, figures}
use Rattle.job_check.specs.Answers.{IsAcceptedWith}
use Rattle.job_check.specs.Cases.{IsCaseOf}
use Rattle.job_check.specs.GuardedReleases.{larger_set}
use Rattle.job_check.specs.ReleaseFiles.{ReleasedFiles}
use Rattle.cell_listing.specs.ListedCells.{ListedCell, listed_cells}
use Rattle.cell_listing.specs.Outcomes.{cells_in, hidden_or_shown, is_among, is_listed_hidden, origin_by, origin_of, outcome_of, subjects_of}
use Rattle.cell_listing.specs.Releases.{IsListedHidden}
use Rattle.cell_listing.specs.declared.outcome.Origin.{Origin}
use Rattle.cell_listing.specs.declared.outcome.Origin.TheVariants as origin
use Rattle.cell_listing.specs.declared.outcome.Outcome.{Outcome}
use Rattle.cell_listing.specs.declared.outcome.Outcome.TheVariants as outcome
use Rattle.cell_listing.proofs.Flagged.{flag_is, flag_or}
use Rattle.cell_listing.proofs.Numbered.{was_number}

-- ---- what a release makes of a cell

-- where a release hides cells, a cell is hidden or shown
pub suppressed_outcome : (c : Certificate) (extra : Option Extra) (amounts : List ℤ) (number : ℕ) (kind : Kind) → rounds_cells c.method ≡ false → outcome_of c extra amounts number kind ≡ hidden_or_shown c extra number kind
suppressed_outcome c extra amounts number kind hides = ap (λ (b : Bool). if b then outcome.Rounded (slice_index_or amounts number (pos 0)) else hidden_or_shown c extra number kind) hides

-- where it rounds, a cell is rounded
pub rounded_outcome : (c : Certificate) (extra : Option Extra) (amounts : List ℤ) (number : ℕ) (kind : Kind) → rounds_cells c.method ≡ true → outcome_of c extra amounts number kind ≡ outcome.Rounded (slice_index_or amounts number (pos 0))
rounded_outcome c extra amounts number kind rounds = ap (λ (b : Bool). if b then outcome.Rounded (slice_index_or amounts number (pos 0)) else hidden_or_shown c extra number kind) rounds

beside : Certificate → Option Extra → ℕ → Kind → Bool → Bool → Outcome
beside c extra number kind own more = if own then outcome.Hidden (origin_of c number kind) else if more then outcome.Hidden (Some origin.Extra) else outcome.Shown

-- a cell of the certificate's own set
pub own_outcome : (c : Certificate) (extra : Option Extra) (number : ℕ) (kind : Kind) → is_among c.hidden number ≡ true → hidden_or_shown c extra number kind ≡ outcome.Hidden (origin_of c number kind)
unfolding beside
own_outcome c extra number kind own = ap (λ (b : Bool). beside c extra number kind b (is_among (cells_in extra) number)) own

-- an extra cell beside these
pub extra_outcome : (c : Certificate) (extra : Option Extra) (number : ℕ) (kind : Kind) → is_among c.hidden number ≡ false → is_among (cells_in extra) number ≡ true → hidden_or_shown c extra number kind ≡ outcome.Hidden (Some origin.Extra)
unfolding beside
extra_outcome c extra number kind own more = ap (λ (b : Bool). beside c extra number kind b (is_among (cells_in extra) number)) own ∙ ap (λ (b : Bool). beside c extra number kind false b) more

-- any other cell
pub shown_outcome : (c : Certificate) (extra : Option Extra) (number : ℕ) (kind : Kind) → is_among c.hidden number ≡ false → is_among (cells_in extra) number ≡ false → hidden_or_shown c extra number kind ≡ outcome.Shown
unfolding beside
shown_outcome c extra number kind own more = ap (λ (b : Bool). beside c extra number kind b (is_among (cells_in extra) number)) own ∙ ap (λ (b : Bool). beside c extra number kind false b) more

or_true : (a : Bool) → (a || true) ≡ true
or_true true = refl
or_true false = refl

pub or_parts : (a b : Bool) → (a || b) ≡ true → (a ≡ true) ⊎ ((a ≡ false) × (b ≡ true))
or_parts true b h = inl refl
or_parts false b h = inr (refl, h)

-- what is hidden is listed so
hides_so : (c : Certificate) (extra : Option Extra) (amounts : List ℤ) (number : ℕ) (kind : Kind) (by : Option Origin) → outcome_of c extra amounts number kind ≡ outcome.Hidden by → is_listed_hidden c extra number ≡ true
hides_so c extra amounts number kind by is =
    by_test (rounds_cells c.method) (is_listed_hidden c extra number ≡ true)
    (λ rounds. let bad : outcome.Rounded (slice_index_or amounts number (pos 0)) ≡ outcome.Hidden by = sym (rounded_outcome c extra amounts number kind rounds) ∙ is in absurd cc)
    (λ hides.
    by_test (is_among c.hidden number) (is_listed_hidden c extra number ≡ true) (λ own. ap (λ (b : Bool). b || is_among (cells_in extra) number) own)
    (λ other.
    by_test (is_among (cells_in extra) number) (is_listed_hidden c extra number ≡ true) (λ more. ap (λ (b : Bool). is_among c.hidden number || b) more ∙ or_true (is_among c.hidden number))
    (λ none. let bad : outcome.Shown ≡ outcome.Hidden by = sym (shown_outcome c extra number kind other none) ∙ sym (suppressed_outcome c extra amounts number kind hides) ∙ is in absurd cc)))

-- a cell of one of the three origins has one
some_origin : (primary corner subject : Bool) → (primary ≡ true) ⊎ ((corner ≡ true) ⊎ (subject ≡ true)) → (by : Origin) × (origin_by primary corner subject ≡ Some by)
some_origin true corner subject h = (origin.Primary, refl)
some_origin false true subject h = (origin.Step, refl)
some_origin false false true h = (origin.Repair, refl)
some_origin false false false (inl bad) = absurd cc
some_origin false false false (inr (inl bad)) = absurd cc
some_origin false false false (inr (inr bad)) = absurd cc

-- ---- what a release that is accepted and hides cells has

-- A release that hides cells, by a case: the hidden set of its certificate is that of its steps and repairs, and its tables
-- hide a set of the certificate's cells and the extra ones.
pub record IsHiding (released : ReleasedFiles) (case : Case) : Type 0 where
  pub is_case : IsCaseOf released.settled case
  pub each_cell : length case.cells.now ≡ case.system.now.cells
  pub steps : released.certificate.steps ≡ case.trail.now.steps
  pub within : IsSubset (hidden_set case.system.now.cells released.certificate.hidden) (open_set case released.certificate)
  pub larger : List Bool
  pub flags : (number : ℕ) → number < case.system.now.cells → is_hidden larger number ≡ is_listed_hidden released.certificate released.extra number
  pub tables : AreTexts case.book.now case.decimals (open_truth case.book.now.marks larger) case.book.now.tables case.names.now released.tables

or_false : (a : Bool) → (a || false) ≡ a
or_false true = refl
or_false false = refl

pub hiding_of : (extra : Option Extra) (released : ReleasedFiles) → released.extra ≡ extra → IsAcceptedWith extra released → rounds_cells released.certificate.method ≡ false → (case : Case) × IsHiding released case
hiding_of None released none accepted hides =
    let case : Case = accepted.case in
    let c : Certificate = released.certificate in
    let shown = accepted.suppressed (sym (ap rounds_cells accepted.of_case.same_method) ∙ hides) in (
      case,
      record {
        is_case = accepted.is_case;
        each_cell = accepted.fits.each_cell;
        steps = shown.steps;
        within = shown.within;
        larger = hidden_set case.system.now.cells c.hidden;
        flags = λ number inside.
            flag_is case.system.now.cells c.hidden number inside ∙ sym (or_false (is_among c.hidden number)) ∙ ap (λ (extra : Option Extra). is_among c.hidden number || is_among (cells_in extra) number) (sym none);
        tables = shown.tables;
      },
    )
hiding_of (Some own) released some accepted hides =
    let case : Case = accepted.case in
    let c : Certificate = released.certificate in
    let n : ℕ = case.system.now.cells in
    let shows = accepted.shows in (
      case,
      record {
        is_case = accepted.is_case;
        each_cell = accepted.fits.each_cell;
        steps = shows.certified.steps;
        within = shows.certified.within;
        larger = larger_set case c own;
        flags = λ number inside.
            flag_or (hidden_set n c.hidden) own.cells number (omega (arith, inside, set_length n c.hidden))
            ∙ ap (λ (b : Bool). b || is_among own.cells number) (flag_is n c.hidden number inside)
            ∙ ap (λ (extra : Option Extra). is_among c.hidden number || is_among (cells_in extra) number) (sym some);
        tables = shows.shown;
      },
    )

-- no cell is listed as hidden where the release rounds
none_rounded : (extra : Option Extra) (released : ReleasedFiles) → released.extra ≡ extra → IsAcceptedWith extra released → IfSome extra (λ own. rounds_cells released.certificate.method ≡ false) → (number : ℕ)
    → is_listed_hidden released.certificate released.extra number ≡ true → rounds_cells released.certificate.method ≡ false
none_rounded None released none accepted apart number listed =
    let c : Certificate = released.certificate in
    by_test (rounds_cells c.method) (rounds_cells c.method ≡ false)
    (λ rounds.
    let empty : c.hidden ≡ [] = (accepted.rounded (sym (ap rounds_cells accepted.of_case.same_method) ∙ rounds)).lists_nothing.hidden in
    let bad : false ≡ true = ap (λ (all : List ℕ). is_among all number || is_among (cells_in None) number) (sym empty) ∙ ap (λ (extra : Option Extra). is_among c.hidden number || is_among (cells_in extra) number) (sym none) ∙ listed in
    absurd cc)
    (λ hides. hides)
none_rounded (Some own) released some accepted apart number listed = apart

-- ---- lines

-- there are as many cells in the case as in the listing
pub case_size : (released : ReleasedFiles) (case : Case) → IsHiding released case → length released.settled.cells ≡ case.system.now.cells
case_size released case is =
    ap (λ (all : List SettledCell). length all) (sym is.is_case.job_is.cells)
    ∙ length-map is.is_case.job.cells view_of_cell
    ∙ ap (λ (all : List Cell). length all) (sym is.is_case.cells)
    ∙ is.each_cell

-- a cell of the case that is primary is listed as such
listed_primary : (released : ReleasedFiles) (case : Case) (is : IsHiding released case) (number : ℕ) (cell : ListedCell) → slice_get released.settled.cells number ≡ Some cell.settled → IsOfKind case.cells.now number Primary → is_primary cell.settled.kind ≡ true
listed_primary released case is number cell here of =
    let it = is.is_case in
    let found : slice_get it.job.cells number ≡ Some of.cell = ap (λ (all : List Cell). slice_get all number) (sym it.cells) ∙ of.found in
    let there : slice_get released.settled.cells number ≡ Some (view_of_cell of.cell) =
    ap (λ (all : List SettledCell). slice_get all number) (sym it.job_is.cells) ∙ slice_get-map view_of_cell it.job.cells number ∙ ap (λ (o : Option Cell). option_map view_of_cell o) found in
    let both : Some cell.settled ≡ Some (view_of_cell of.cell) = sym here ∙ there in
    let same : cell.settled ≡ view_of_cell of.cell = cc in
    ap (λ (one : SettledCell). is_primary one.kind) same ∙ ap is_primary of.is_kind

-- by what a cell of the certificate's own set came to be hidden
origin_there : (released : ReleasedFiles) (case : Case) (is : IsHiding released case) (number : ℕ) (cell : ListedCell) → slice_get released.settled.cells number ≡ Some cell.settled → number < case.system.now.cells → is_among released.certificate.hidden number ≡ true
    → (by : Origin) × (origin_of released.certificate number cell.settled.kind ≡ Some by)
origin_there released case is number cell here within own =
    let c : Certificate = released.certificate in
    let flag : is_hidden (hidden_set case.system.now.cells c.hidden) number ≡ true = flag_is case.system.now.cells c.hidden number within ∙ own in
    let corners : corners_of c.steps ≡ corners_of case.trail.now.steps = ap corners_of is.steps in
    let inside : number < length case.cells.now = omega (arith, within, is.each_cell) in
    let said = (open_set_holds case.cells.now (corners_of case.trail.now.steps) c.repairs number inside).0 (is.within number flag) in
    some_origin (is_primary cell.settled.kind) (is_among (corners_of c.steps) number) (is_among (subjects_of c) number) (elim said [
      | inl primary ↦ inl (listed_primary released case is number cell here primary)
      | inr more ↦ elim more [
        | inl corner ↦ inr (inl (ap (λ (all : List ℕ). is_among all number) corners ∙ corner))
        | inr subject ↦ inr (inr subject)
      ]
    ])

there : {X : Type 0} (xs : List X) (i : ℕ) → i < length xs → (x : X) × (slice_get xs i ≡ Some x)
there [] i within = absurd (omega (arith, within))
there (x ∷ xs) zero within = (x, refl)
there (x ∷ xs) (suc i) within = there xs i (omega (arith, within))

-- the line of a cell that is listed as hidden says so
listed_hidden : (released : ReleasedFiles) (amounts : List ℤ) (case : Case) → IsHiding released case → rounds_cells released.certificate.method ≡ false → (number : ℕ) → is_listed_hidden released.certificate released.extra number ≡ true → number < length (listed_cells released.settled)
    → IsListedHidden released amounts number
listed_hidden released amounts case is hides number listed within =
    let c : Certificate = released.certificate in
    let extra : Option Extra = released.extra in
    let inputs = released.settled.inputs in
    let it = there (listed_cells released.settled) number within in
    let was = was_number 0 (cells inputs) (figures inputs) released.settled.cells number it.0 it.1 in
    let same : it.0.number ≡ number = omega (arith, was.number) in
    let inside : number < case.system.now.cells = omega (arith, slice_get_within released.settled.cells number it.0.settled was.settled_is, case_size released case is) in
    let kind : Kind = it.0.settled.kind in
    let what : outcome_of c extra amounts it.0.number kind ≡ hidden_or_shown c extra number kind = ap (λ n. outcome_of c extra amounts n kind) same ∙ suppressed_outcome c extra amounts number kind hides in
    elim (or_parts (is_among c.hidden number) (is_among (cells_in extra) number) listed) [
      | inl own ↦
          let by = origin_there released case is number it.0 was.settled_is inside own in
          record { cell = it.0; listed = it.1; origin = by.0; hidden = what ∙ own_outcome c extra number kind own ∙ ap (λ (o : Option Origin). outcome.Hidden o) by.1 }
      | inr more ↦ record { cell = it.0; listed = it.1; origin = origin.Extra; hidden = what ∙ extra_outcome c extra number kind more.0 more.1 }
    ]

pub hidden_exactly : (released : ReleasedFiles) (amounts : List ℤ) → IsAcceptedWith released.extra released → IfSome released.extra (λ own. rounds_cells released.certificate.method ≡ false) → (number : ℕ)
    → IsListedHidden released amounts number ↔ ((is_listed_hidden released.certificate released.extra number ≡ true) × (number < length (listed_cells released.settled)))
hidden_exactly released amounts accepted apart number = (
  λ line.
      let inputs = released.settled.inputs in
      let was = was_number 0 (cells inputs) (figures inputs) released.settled.cells number line.cell line.listed in
      let same : line.cell.number ≡ number = omega (arith, was.number) in (
        ap (λ n. is_listed_hidden released.certificate released.extra n) (sym same) ∙ hides_so released.certificate released.extra amounts line.cell.number line.cell.settled.kind (Some line.origin) line.hidden,
        slice_get_within (listed_cells released.settled) number line.cell line.listed,
      ),
  λ both.
      let hides = none_rounded released.extra released refl accepted apart number both.0 in
      let it = hiding_of released.extra released refl accepted hides in
      listed_hidden released amounts it.0 it.1 hides number both.0 both.1,
)
