use Rattle.std.proofs.Common.{◌≡◌, ◌++◌, ℕ, List, Some, option_map, ap, ◌∙◌}
use Rattle.std.specs.Prelude.{Vec, flat_map}
use Rattle.std.specs.declared.alloc.Global.{Global}
use Rattle.std.proofs.lemmas.Result.{IfOk-weaker}
use Rattle.sdc_base.specs.TableText.{line_text}
use Rattle.release_writer.specs.Lines.{bytes_written}
use Rattle.job_inputs.specs.ClassifiedJobs.{IsSettledOf, SettledInputs}
use Rattle.cell_listing.specs.Columns.{variable_names}
use Rattle.cell_listing.specs.RelationListings.{relation_line, relation_names, relation_text, IsRelationListing, IsRelationText}
use Rattle.cell_listing.proofs.ListingReads.{relations_alike}
use Rattle.cell_listing.proofs.relations_listing.relations_listing_for.Goals as goal

pub returns : goal.returns
returns c =
    let job = c.args.job.now in
    let names : List (List ℕ) = variable_names job.described in
    let relations = c.in_ok-relations.relations in
    let lines : List ℕ = flat_map (relation_line names) relations in
    let text : List ℕ = relation_text names relations in
    let first : bytes_written c.write_names.new.writer ≡ Some (line_text relation_names) = c.in_ok-write_names.ensures.text ∙ ap (option_map (λ text. text ++ line_text relation_names)) c.empty_writer-writer.ensures.text in
    let named : c.as_slice.result.now ≡ names = c.as_slice.ensures ∙ c.in_ok-names.ensures in
    let written : bytes_written c.write_relations.new.writer ≡ option_map (λ text. text ++ lines) (bytes_written c.write_names.new.writer) =
    c.in_ok-write_relations.ensures.text
    ∙ ap (λ (called : List (List ℕ)). option_map (λ text. text ++ flat_map (relation_line called) c.as_slice-2.result.now) (bytes_written c.write_names.new.writer)) named
    ∙ ap (λ all. option_map (λ text. text ++ flat_map (relation_line names) all) (bytes_written c.write_names.new.writer)) c.as_slice-2.ensures
    in
    let all : bytes_written c.write_relations.new.writer ≡ Some text = written ∙ ap (option_map (λ text. text ++ lines)) first in
    let told : (bytes : Vec ℕ Global) → Some bytes.items ≡ bytes_written c.write_relations.new.writer → IsRelationText job.described job.book.trees job.book.tables bytes.items =
    λ bytes is.
    let both : Some bytes.items ≡ Some text = is ∙ all in
    record { relations = relations; are = c.in_ok-relations.ensures; text_is = (let same : bytes.items ≡ text = cc in same) } in
    record {
      told = IfOk-weaker c.bytes_of.result (λ (bytes : Vec ℕ Global). Some bytes.items ≡ bytes_written c.write_relations.new.writer) (λ (bytes : Vec ℕ Global). IsRelationText job.described job.book.trees job.book.tables bytes.items) told c.bytes_of.ensures.text;
      over_records = IfOk-weaker c.bytes_of.result (λ (bytes : Vec ℕ Global). Some bytes.items ≡ bytes_written c.write_relations.new.writer) (λ (bytes : Vec ℕ Global). (settled : SettledInputs) → IsSettledOf settled job → IsRelationListing settled bytes.items)
          (λ bytes is settled of. relations_alike job settled bytes.items of (told bytes is)) c.bytes_of.ensures.text;
    }
