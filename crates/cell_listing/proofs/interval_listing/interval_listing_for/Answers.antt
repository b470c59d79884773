use Rattle.std.proofs.Common.{◌≡◌, ◌++◌, ℕ, List, Some, flat_map, option_map, ap, ◌∙◌}
use Rattle.std.specs.Prelude.{Vec}
use Rattle.std.specs.declared.alloc.Global.{Global}
use Rattle.std.proofs.lemmas.Result.{IfOk-weaker}
use Rattle.sdc_base.specs.TableText.{line_text}
use Rattle.release_writer.specs.Lines.{bytes_written}
use Rattle.job_check.specs.Accepted.{IsAcceptedAs}
use Rattle.job_check.specs.ReleaseFiles.{ReleasedFiles}
use Rattle.cell_listing.specs.Columns.{column_names}
use Rattle.cell_listing.specs.IntervalFiles.{hidden_in, IsIntervalFileOf}
use Rattle.cell_listing.specs.IntervalListings.{end_names, interval_line, interval_text, IsIntervalListingOf}
use Rattle.cell_listing.specs.ListedCells.{told_cells}
use Rattle.cell_listing.specs.ReleasedCells.{amounts_in}
use Rattle.cell_listing.specs.ReleasedListings.{outcome_at, outcome_names}
use Rattle.cell_listing.proofs.IntervalReads.{is_interval_listing}
use Rattle.cell_listing.proofs.interval_listing.interval_listing_for.Goals as goal

pub returns : goal.returns
returns c =
    let read = c.args.read.now in
    let made = c.in_ok-cells.cells in
    let ranges = c.args.ranges.now in
    let outcome = outcome_at read.certificate read.extra (amounts_in made) in
    let names : List ℕ = line_text ((column_names read.job.described ++ outcome_names) ++ end_names) in
    let lines : List ℕ = flat_map (interval_line read.job.described read.job.book.trees outcome ranges) (told_cells read.job) in
    let text : List ℕ = interval_text read.job.described read.job.book.trees outcome ranges (told_cells read.job) in
    let first : bytes_written c.write_names.new.writer ≡ Some names = c.in_ok-write_names.ensures.text ∙ ap (option_map (λ text. text ++ names)) c.empty_writer-writer.ensures.text in
    let all : bytes_written c.write_cells.new.writer ≡ Some text = c.in_ok-write_cells.ensures.text ∙ ap (option_map (λ text. text ++ lines)) first in
    record {
      over_records = IfOk-weaker c.bytes_of.result (λ (bytes : Vec ℕ Global). Some bytes.items ≡ bytes_written c.write_cells.new.writer)
          (λ (bytes : Vec ℕ Global). (released : ReleasedFiles) (file : List ℕ) → IsAcceptedAs released read → IsIntervalFileOf (hidden_in released) ranges file → IsIntervalListingOf released file bytes.items)
          (λ bytes is released file got its.
          let both : Some bytes.items ≡ Some text = is ∙ all in
          let same : bytes.items ≡ text = cc in
          is_interval_listing released read made ranges file bytes.items c.requires.ready c.in_ok-cells.ensures its same got)
          c.bytes_of.ensures.text;
    }
