use Rattle.std.proofs.Common.{◌≡◌, ◌++◌, ℕ, List, Some, flat_map, option_map, ap, ◌∙◌}
use Rattle.std.specs.Prelude.{Vec}
use Rattle.std.specs.declared.alloc.Global.{Global}
use Rattle.std.proofs.lemmas.Result.{IfOk-weaker}
use Rattle.sdc_base.specs.TableText.{line_text}
use Rattle.release_writer.specs.Lines.{bytes_written}
use Rattle.job_check.specs.Accepted.{IsAcceptedAs}
use Rattle.job_check.specs.ReleaseFiles.{ReleasedFiles}
use Rattle.cell_listing.specs.Columns.{column_names}
use Rattle.cell_listing.specs.ListedCells.{told_cells}
use Rattle.cell_listing.specs.ReleasedCells.{amounts_in}
use Rattle.cell_listing.specs.ReleasedListings.{outcome_at, outcome_names, released_line, released_text}
use Rattle.cell_listing.specs.Releases.{IsListingOf}
use Rattle.cell_listing.proofs.ReleaseReads.{is_listing}
use Rattle.cell_listing.proofs.released_listing.released_listing_for.Goals as goal

pub returns : goal.returns
returns c =
    let read = c.args.read.now in
    let made = c.in_ok-cells.cells in
    let outcome = outcome_at read.certificate read.extra (amounts_in made) in
    let names : List ℕ = line_text (column_names read.job.described ++ outcome_names) in
    let lines : List ℕ = flat_map (released_line read.job.described read.job.book.trees outcome) (told_cells read.job) in
    let text : List ℕ = released_text read.job.described read.job.book.trees outcome (told_cells read.job) in
    let first : bytes_written c.write_names.new.writer ≡ Some names = c.in_ok-write_names.ensures.text ∙ ap (option_map (λ text. text ++ names)) c.empty_writer-writer.ensures.text in
    let all : bytes_written c.write_cells.new.writer ≡ Some text = c.in_ok-write_cells.ensures.text ∙ ap (option_map (λ text. text ++ lines)) first in
    record {
      over_records = IfOk-weaker c.bytes_of.result (λ (bytes : Vec ℕ Global). Some bytes.items ≡ bytes_written c.write_cells.new.writer) (λ (bytes : Vec ℕ Global). (released : ReleasedFiles) → IsAcceptedAs released read → IsListingOf released bytes.items)
          (λ bytes is released got.
          let both : Some bytes.items ≡ Some text = is ∙ all in
          let same : bytes.items ≡ text = cc in
          is_listing released read made bytes.items c.requires.ready c.in_ok-cells.ensures same got)
          c.bytes_of.ensures.text;
    }
