use Rattle.std.proofs.Common.{◌≡◌, ◌++◌, ℕ, List, Some, option_map, ap, ◌∙◌}
use Rattle.std.specs.Prelude.{Vec}
use Rattle.std.specs.declared.alloc.Global.{Global}
use Rattle.std.proofs.lemmas.Result.{IfOk-weaker}
use Rattle.sdc_base.specs.TableText.{line_text}
use Rattle.release_writer.specs.Lines.{bytes_written}
use Rattle.job_inputs.specs.ClassifiedJobs.{IsSettledOf, SettledInputs}
use Rattle.cell_listing.specs.Columns.{column_names}
use Rattle.cell_listing.specs.ListedCells.{told_cells}
use Rattle.cell_listing.specs.Listings.{lines_of, listing_text, IsCellListing}
use Rattle.cell_listing.proofs.Alike.{listed_alike}
use Rattle.cell_listing.proofs.LawsOfJobs.{listings_count_as_reports}
use Rattle.cell_listing.proofs.listing.listing_for.Goals as goal

pub returns-clause-over_records : goal.returns-clause-over_records
returns-clause-over_records c =
    let job = c.args.job.now in
    let lines : List ℕ = lines_of job.described job.book.trees (told_cells job) in
    let text : List ℕ = listing_text job.described job.book.trees (told_cells job) in
    let first : bytes_written c.write_names.new.writer ≡ Some (line_text (column_names job.described)) = c.in_ok-write_names.ensures.text ∙ ap (option_map (λ text. text ++ line_text (column_names job.described))) c.empty_writer-writer.ensures.text in
    let all : bytes_written c.write_cells.new.writer ≡ Some text = c.in_ok-write_cells.ensures.text ∙ ap (option_map (λ text. text ++ lines)) first in
    IfOk-weaker c.bytes_of.result (λ (bytes : Vec ℕ Global). Some bytes.items ≡ bytes_written c.write_cells.new.writer) (λ (bytes : Vec ℕ Global). (settled : SettledInputs) → IsSettledOf settled job → IsCellListing settled bytes.items)
    (λ bytes is settled of.
    let both : Some bytes.items ≡ Some text = is ∙ all in
    let same : bytes.items ≡ text = cc in
    record { text_is = same ∙ listed_alike job settled c.requires.ready of; counts = listings_count_as_reports settled job c.requires.ready of })
    c.bytes_of.ensures.text
