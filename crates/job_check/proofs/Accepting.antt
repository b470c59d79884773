-- A release that was accepted, as it was read.
use Rattle.std.proofs.Common.{◌≡◌, ◌<◌, ◌≤◌, ◌^◌, ℕ, List, length, map, All, Option, Result, Ok, Err, ap, sym, subst, ◌∙◌}
use Rattle.sdc_base.specs.declared.cell.Cell.{Cell}
use Rattle.sdc_base.specs.RuleLevels.{keep_of}
use Rattle.sdc_base.specs.declared.facts.CellFacts.{CellFacts}
use Rattle.sdc_base.specs.declared.rows.Row.{Row}
use Rattle.certificate.specs.declared.extra.Extra.{Extra}
use Rattle.tabulate.specs.TabulatedMarks.{AreTabulated}
use Rattle.apriori.specs.CellLevels.{HasLevelsInRange}
use Rattle.apriori.specs.Settling.{view_of_cell}
use Rattle.job_inputs.specs.SoundJobs.{IsSoundJob}
use Rattle.job_inputs.specs.TabulatedBooks.{IsReadyFor}
use Rattle.job_inputs.specs.declared.described.DescribedJob.{DescribedJob}
use Rattle.job_inputs.specs.declared.faults.Fault.{Fault}
use Rattle.job_check.specs.Accepted.{IsReadReleaseAnswer, IsSameRelease}
use Rattle.job_check.specs.Answers.{IsReleaseCheckAnswer}
use Rattle.job_check.specs.Contributors.{AreForJob}
use Rattle.job_check.specs.Reading.{IsReadyRelease, IsReleasedOf}
use Rattle.job_check.specs.ReleaseFiles.{ReleasedFiles}
use Rattle.job_check.specs.declared.reading.ReadRelease.{ReadRelease}
use Rattle.job_check.proofs.CaseParts.{by-facts}
use Rattle.job_check.proofs.SameBook.{as-many-marks, same-cells, still-book, still-ready, still-told}

-- the settled inputs are still those
pub still-released : (released : ReleasedFiles) (old new : ReadRelease) → IsSameRelease old new → IsReleasedOf released old → IsReleasedOf released new
still-released released old new same is = record {
  settled = record {
    described = same.described ∙ is.settled.described;
    book = still-book released.settled.inputs old.job.book new.job.book same.book is.settled.book;
    cells = ap (λ (cells : List Cell). map view_of_cell cells) same.cells ∙ is.settled.cells;
    rows = same.rows ∙ is.settled.rows;
    records = same.records ∙ is.settled.records;
    skipped = same.skipped ∙ is.settled.skipped;
  };
  certificate = same.certificate ∙ is.certificate;
  extra = same.extra ∙ is.extra;
  tables = same.tables ∙ is.tables;
}

-- and it is still ready
pub still-judged : (old new : ReadRelease) → IsSameRelease old new → IsReadyRelease old → IsReadyRelease new
still-judged old new same ready = record {
  job = record {
    sound = subst IsSoundJob (sym same.described) ready.job.sound;
    book = subst (λ (d : DescribedJob). IsReadyFor d new.job.book) (sym same.described) (still-ready old.job.described old.job.book new.job.book same.book ready.job.book);
    told =
        subst (λ (d : DescribedJob). AreTabulated new.job.book new.job.rows (keep_of d.job.rules.list) d.bound.scale) (sym same.described)
        (subst (λ (rows : List Row). AreTabulated new.job.book rows (keep_of old.job.described.job.rules.list) old.job.described.bound.scale) (sym same.rows)
        (still-told old.job.book new.job.book old.job.rows (keep_of old.job.described.job.rules.list) old.job.described.bound.scale same.book ready.job.told));
    at_most_1000000 = subst (λ (rows : List Row). length rows ≤ 1000000) (sym same.rows) ready.job.at_most_1000000;
    one_each = as-many-marks old.job.book new.job.book same.book ∙ ready.job.one_each ∙ ap (λ names. length names) (sym (same-cells old.job.book new.job.book same.book));
    settled = ap (λ (cells : List Cell). length cells) same.cells ∙ ready.job.settled ∙ sym (as-many-marks old.job.book new.job.book same.book);
    levels = subst (λ (cells : List Cell). All HasLevelsInRange cells) (sym same.cells) ready.job.levels;
    truths =
        by-facts new.job.book.marks ∙ ap (map (λ (facts : CellFacts). facts.truth)) same.book.facts ∙ sym (by-facts old.job.book.marks) ∙ ready.job.truths
        ∙ ap (λ (cells : List Cell). map (λ (cell : Cell). cell.truth) cells) (sym same.cells);
    fewer_than_2_32 = subst (λ (cells : List Cell). length cells < 2 ^ 32) (sym same.cells) ready.job.fewer_than_2_32;
  };
  extra =
      subst (λ (d : DescribedJob). AreForJob d.job.contributors new.extra) (sym same.described)
      (subst (λ (extra : Option Extra). AreForJob old.job.described.job.contributors extra) (sym same.extra) ready.extra);
  each = ap (λ (tables : List (List ℕ)). length tables) same.tables ∙ ready.each ∙ ap (λ (d : DescribedJob). length d.job.outputs) (sym same.described);
}

-- a release that is accepted so answers the check
pub answers-read-release : (outcome : Result ReleasedFiles Fault) (read : ReadRelease) → IsReadReleaseAnswer outcome (Ok read) → IsReleaseCheckAnswer outcome (Ok tt)
answers-read-release (Ok released) read h = h.accepted
answers-read-release (Err fault) read h = absurd h
