-- The tables of a release that is accepted show what its lines say.
use Rattle.std.proofs.Common.{◌≡◌, ℕ, zero, suc, ◌<◌, ◌||◌, Bool, true, false, List, [], ◌∷◌, length, map, slice_get, Option, None, Some, option_map, cond, ℤ, neg_ℤ, ◌≤ℤ◌, ◌^◌, refl, ap, sym, subst, ◌∙◌, arith}
use Rattle.std.specs.Prelude.{slice_index_or, pos}
use Rattle.std.proofs.lemmas.Int.{ints}
use Rattle.std.proofs.lemmas.Option.{slice_get_within}
use Rattle.sdc_base.specs.HiddenSets.{is_hidden}
use Rattle.sdc_base.specs.declared.cell.Kind.{Kind}
use Rattle.certificate.specs.declared.certificate.Certificate.{Certificate}
use Rattle.certificate.specs.declared.extra.Extra.{Extra}
use Rattle.linked_tables.specs.declared.mark.Mark.{Mark}
use Rattle.release_writer.specs.ReadingLaws.{AreTexts, IsReleased}
use Rattle.release_writer.specs.ShownCells.{open_truth}
use Rattle.repair.proofs.Flags.{by_test}
use Rattle.cert_check.specs.Methods.{rounds_cells}
use Rattle.cert_check.specs.declared.case.Case.{Case}
use Rattle.job_inputs.specs.Cells.{cells, figures}
use Rattle.job_inputs.specs.Tables.{names_of}
use Rattle.job_inputs.specs.TabulatedBooks.{IsBookOf}
use Rattle.job_inputs.specs.declared.described.DescribedJob.{DescribedJob}
use Rattle.job_check.specs.Reading.{IsReleasedOf}
use Rattle.job_check.specs.ReleaseFiles.{ReleasedFiles}
use Rattle.job_check.specs.declared.reading.ReadRelease.{ReadRelease}
use Rattle.job_check.proofs.SameBook.{still-book}
use Rattle.cell_listing.specs.ListedCells.{ListedCell}
use Rattle.cell_listing.specs.Outcomes.{cells_in, hidden_or_shown, is_among, is_listed_hidden, outcome_of}
use Rattle.cell_listing.specs.ReleasedCells.{AreShownAs}
use Rattle.cell_listing.specs.ReleasedListings.{outcome_at}
use Rattle.cell_listing.specs.Releases.{shows, AreTablesOfListing}
use Rattle.cell_listing.specs.declared.outcome.Outcome.{Outcome}
use Rattle.cell_listing.proofs.HiddenRows.{case_size, extra_outcome, IsHiding, own_outcome, rounded_outcome, shown_outcome, suppressed_outcome}
use Rattle.cell_listing.proofs.LawsOfJobs.{marked, opened}
use Rattle.cell_listing.proofs.Numbered.{was_number}

-- a hidden cell shows nothing
closed : (marks : List Mark) (flags : List Bool) (number : ℕ) → is_hidden flags number ≡ true → open_truth marks flags number ≡ None
closed marks flags number hidden = ap (λ (b : Bool). cond b None (option_map (λ (m : Mark). m.facts.truth) (slice_get marks number))) hidden

-- what a line of a release that hides cells says
line_shows : (c : Certificate) (extra : Option Extra) (amounts : List ℤ) (marks : List Mark) (flags : List Bool) (number : ℕ) (cell : ListedCell) (mark : Mark) → rounds_cells c.method ≡ false → cell.number ≡ number → is_hidden flags number ≡ is_listed_hidden c extra number
    → slice_get marks number ≡ Some mark → mark.facts.truth ≡ cell.figures.truth → open_truth marks flags number ≡ shows cell (outcome_at c extra amounts cell)
line_shows c extra amounts marks flags number cell mark hides same flag here truth =
    let kind : Kind = cell.settled.kind in
    let own : Bool = is_among c.hidden number in
    let more : Bool = is_among (cells_in extra) number in
    let what : outcome_at c extra amounts cell ≡ hidden_or_shown c extra number kind = ap (λ n. outcome_of c extra amounts n kind) same ∙ suppressed_outcome c extra amounts number kind hides in
    by_test own (open_truth marks flags number ≡ shows cell (outcome_at c extra amounts cell))
    (λ is. closed marks flags number (flag ∙ ap (λ (b : Bool). b || more) is) ∙ sym (ap (λ (one : Outcome). shows cell one) (what ∙ own_outcome c extra number kind is)))
    (λ other.
    by_test more (open_truth marks flags number ≡ shows cell (outcome_at c extra amounts cell))
    (λ is. closed marks flags number (flag ∙ ap (λ (b : Bool). b || more) other ∙ is) ∙ sym (ap (λ (one : Outcome). shows cell one) (what ∙ extra_outcome c extra number kind other is)))
    (λ none.
    opened marks flags number mark (flag ∙ ap (λ (b : Bool). b || more) other ∙ none) here
    ∙ ap (λ (t : ℤ). Some t) truth
    ∙ sym (ap (λ (one : Outcome). shows cell one) (what ∙ shown_outcome c extra number kind other none))))

-- where cells are hidden
pub suppressed_shown : (released : ReleasedFiles) (amounts : List ℤ) (case : Case) → IsHiding released case → rounds_cells released.certificate.method ≡ false → AreTablesOfListing released amounts
suppressed_shown released amounts case hiding hides =
    let is = hiding.is_case in
    let c : Certificate = released.certificate in
    let inputs = released.settled.inputs in
    let flags : List Bool = hiding.larger in
    let of : IsBookOf inputs case.book.now = still-book inputs is.job.book case.book.now is.book is.job_is.book in
    let decimals : case.decimals ≡ inputs.described.bound.decimals = is.decimals ∙ ap (λ (d : DescribedJob). d.bound.decimals) is.job_is.described in
    let names : case.names.now ≡ map names_of inputs.described.job.tables = is.names ∙ ap (λ (d : DescribedJob). map names_of d.job.tables) is.job_is.described in
    record {
      book = case.book.now;
      is_book = of;
      shown = open_truth case.book.now.marks flags;
      each = λ number cell listed.
          let was = was_number 0 (cells inputs) (figures inputs) released.settled.cells number cell listed in
          let same : cell.number ≡ number = omega (arith, was.number) in
          let within : number < case.system.now.cells = omega (arith, slice_get_within released.settled.cells number cell.settled was.settled_is, case_size released case hiding) in
          let it = marked released.settled case.book.now of number cell listed in
          line_shows c released.extra amounts case.book.now.marks flags number cell it.mark hides same (hiding.flags number within) it.here it.truth_is;
      tables =
          subst (λ (n : ℕ). AreTexts case.book.now n (open_truth case.book.now.marks flags) case.book.now.tables (map names_of inputs.described.job.tables) released.tables) decimals
          (subst (λ (all : List (List (List ℕ))). AreTexts case.book.now case.decimals (open_truth case.book.now.marks flags) case.book.now.tables all released.tables) names hiding.tables);
    }

amount_there : (amounts : List ℤ) (number : ℕ) → number < length amounts → slice_get amounts number ≡ Some (slice_index_or amounts number (pos 0))
amount_there [] number within = absurd (omega (arith, within))
amount_there (one ∷ amounts) zero within = refl
amount_there (one ∷ amounts) (suc number) within = amount_there amounts number (omega (arith, within))

-- where cells are rounded
pub rounded_shown : (released : ReleasedFiles) (read : ReadRelease) (amounts : List ℤ) → IsReleasedOf released read → rounds_cells released.certificate.method ≡ true → AreShownAs read amounts → AreTablesOfListing released amounts
rounded_shown released read amounts is rounds are =
    let c : Certificate = released.certificate in
    let inputs = released.settled.inputs in
    let of = is.settled.book in
    record {
      book = read.job.book;
      is_book = of;
      shown = slice_get amounts;
      each = λ number cell listed.
          let was = was_number 0 (cells inputs) (figures inputs) released.settled.cells number cell listed in
          let same : cell.number ≡ number = omega (arith, was.number) in
          let it = marked released.settled read.job.book of number cell listed in
          let within : number < length amounts = omega (arith, slice_get_within read.job.book.marks number it.mark it.here, of.one_each, are.one_each) in
          amount_there amounts number within
          ∙ ap (λ n. Some (slice_index_or amounts n (pos 0))) (sym same)
          ∙ sym (ap (λ (one : Outcome). shows cell one) (rounded_outcome c released.extra amounts cell.number cell.settled.kind rounds));
      tables =
          subst (λ (d : DescribedJob). AreTexts read.job.book d.bound.decimals (slice_get amounts) read.job.book.tables (map names_of d.job.tables) released.tables) is.settled.described
          (subst (λ (all : List (List ℕ)). AreTexts read.job.book read.job.described.bound.decimals (slice_get amounts) read.job.book.tables (map names_of read.job.described.job.tables) all) is.tables are.texts);
    }

-- an amount of a release can be printed
pub printable_at : (amounts : List ℤ) (number : ℕ) → IsReleased amounts → neg_ℤ (pos (2 ^ 120)) ≤ℤ slice_index_or amounts number (pos 0)
printable_at [] number are = omega (arith, ints)
printable_at (one ∷ amounts) zero are = let from = are.0.1 in omega (arith, ints, from)
printable_at (one ∷ amounts) (suc number) are = printable_at amounts number are.1
