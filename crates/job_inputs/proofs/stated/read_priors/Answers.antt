use Rattle.std.proofs.Common.{◌<◌, List, length, ap, subst, sym, ◌∙◌}
use Rattle.std.proofs.lemmas.Result.{err_from_is_err_and}
use Rattle.job_lang.specs.declared.job.TableLine.{TableLine}
use Rattle.job_inputs.specs.declared.described.DescribedJob.{DescribedJob}
use Rattle.job_inputs.proofs.Causes.{come-on, cause-on, nothing-looked, look-on}
use Rattle.job_inputs.proofs.Facts.{cells-are}
use Rattle.job_inputs.proofs.Stating.{files-none, files-more, files-stop, comes-statement}
use Rattle.job_inputs.proofs.stated.read_priors.Goals as goal

pub tables-init : goal.tables-init
tables-init g c = record {
  told = λ inputs is fs told. files-none fs inputs c.in_ok-priors.priors.items _ c.in_ok-priors.ensures.blank (c.cells.ensures.cells ∙ ap length (cells-are inputs c.args.counted.now.book is.book));
  fit = c.in_ok-priors.ensures.fit c.args.counted.now.book.marks (sym c.cells.ensures.marks);
  shelf = nothing-looked _ _;
}

pub returns-in_err-add_file : goal.returns-in_err-add_file
returns-in_err-add_file g c =
    let p = err_from_is_err_and c.from_residual-in_err-add_file.result c.from_residual-in_err-add_file.ensures.1 in
    let e = c.in_err-add_file.field-0.0 in
    let before = c.tables.invariant in
    let look = c.in_err-add_file.ensures in
    let here = subst (λ (xs : List TableLine). c.tables.t < length xs) c.as_slice-tables.ensures c.tables-test.true in
    rw (p.1, p.2) (record {
      told = λ fs told inputs is.
          files-stop fs inputs c.args.counted.now.described c.tables.t (length inputs.described.job.tables) c.tables.priors.items _ is.described (before.told inputs is fs told)
          (look.told fs (before.shelf.only_read.files ∙ told) inputs is) (subst (λ (d : DescribedJob). c.tables.t < length d.job.tables) is.described here);
      came_to = λ fs told.
          come-on e _ _ fs (g.S.Shelf.state c.add_file.new.shelf)
          (λ f held comes inputs is. (c.tables.t, comes.2, comes-statement fs inputs c.args.counted.now.described c.tables.t c.tables.priors.items comes.0 held is.described (before.told inputs is fs told) comes.1 comes.3))
          (look.came_to fs (before.shelf.only_read.files ∙ told));
      shelf = look-on _ _ _ _ before.shelf look.shelf;
      cause = cause-on e _ _ _ before.shelf look.cause;
      sound = tt;
    })

pub tables-preserved : goal.tables-preserved
tables-preserved g c = record {
  told = λ inputs is fs told.
      files-more fs inputs c.args.counted.now.described c.tables.t c.tables.priors.items c.add_file.new.priors.items is.described (c.tables.invariant.told inputs is fs told)
      (c.in_ok-add_file.ensures.told fs (c.tables.invariant.shelf.only_read.files ∙ told) inputs is);
  fit = c.in_ok-add_file.ensures.sound;
  shelf = look-on _ _ _ _ c.tables.invariant.shelf c.in_ok-add_file.ensures.shelf;
}
