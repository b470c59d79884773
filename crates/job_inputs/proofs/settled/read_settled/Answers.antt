use Rattle.std.proofs.Common.{◌≡◌, ◌<◌, ◌^◌, Ok, map, refl, ap, sym, subst, ◌∙◌, List, length}
use Rattle.std.proofs.lemmas.Result.{err_from_is_err_and}
use Rattle.sdc_base.specs.Answers.{Fails}
use Rattle.sdc_base.specs.Steps.{map_fault, refuse}
use Rattle.apriori.specs.Settling.{view_of_cell, settle_of}
use Rattle.apriori.specs.declared.prior.Prior.{Prior}
use Rattle.job_inputs.proofs.Causes.{out-name-cause, come-on, cause-as, cause-on, stop-fails, contents-come, contents-cause, look-on}
use Rattle.job_inputs.proofs.Coming.{statements-come}
use Rattle.job_inputs.proofs.Settling.{inputs-fail, book-fails, priors-fail, cells-fail, outputs-fail, settled-is}
use Rattle.job_inputs.specs.Cells.{figures, prior_fault}
use Rattle.plain_text.specs.Stops.{why_of}
use Rattle.job_inputs.specs.ClassifiedJobs.{SettledInputs, overwrites_job}
use Rattle.job_inputs.specs.declared.described.DescribedJob.{DescribedJob}
use Rattle.job_inputs.specs.declared.faults.Fault.TheVariants as fault
use Rattle.job_inputs.proofs.settled.read_settled.Goals as goal

pub returns-in_err-inputs-clause-looked : goal.returns-in_err-inputs-clause-looked
returns-in_err-inputs-clause-looked g c =
    let p = err_from_is_err_and c.from_residual.result c.from_residual.ensures.1 in
    let e = c.in_err-inputs.field-0.0 in
    let look = c.in_err-inputs.ensures in
    rw (p.1, p.2) (record {
      told = λ fs told. inputs-fail c.args.purpose fs c.args.name.now _ (look.told fs told);
      came_to = λ fs told. come-on e _ _ fs (g.S.Shelf.state c.read_inputs.new.shelf) (λ f held comes. comes) (look.came_to fs told);
      shelf = look.shelf;
      cause = cause-as e _ _ look.cause;
      sound = tt;
    })

pub returns-in_err-counted-clause-looked : goal.returns-in_err-counted-clause-looked
returns-in_err-counted-clause-looked g c =
    let p = err_from_is_err_and c.from_residual-in_err-counted.result c.from_residual-in_err-counted.ensures.1 in
    let r = c.in_err-counted.field-0.0 in
    let first = c.in_ok-inputs.ensures in
    rw (p.1, p.2) (record {
      told = λ fs told. stop-fails r _ (book-fails c.args.purpose fs c.args.name.now c.in_ok-inputs.inputs (why_of r) (first.told fs told) c.in_err-counted.ensures.told);
      came_to = λ fs told. contents-come r _ fs (g.S.Shelf.state c.read_inputs.new.shelf);
      shelf = first.shelf;
      cause = contents-cause r _ _ c.in_err-counted.ensures.contents;
      sound = tt;
    })

pub returns-in_err-priors-clause-looked : goal.returns-in_err-priors-clause-looked
returns-in_err-priors-clause-looked g c =
    let p = err_from_is_err_and c.from_residual-in_err-priors.result c.from_residual-in_err-priors.ensures.1 in
    let e = c.in_err-priors.field-0.0 in
    let inputs = c.in_ok-inputs.inputs in
    let counted = c.in_ok-counted.ensures.sound.0 in
    let first = c.in_ok-inputs.ensures in
    let look = c.in_err-priors.ensures in
    rw (p.1, p.2) (record {
      told = λ fs told.
          priors-fail c.args.purpose fs c.args.name.now inputs _ _ (first.told fs told) c.in_ok-counted.ensures.told (look.told fs (first.shelf.only_read.files ∙ told) inputs counted);
      came_to = λ fs told.
          come-on e _ _ fs (g.S.Shelf.state c.read_priors.new.shelf)
          (λ f held comes.
          let came = comes inputs counted in
          statements-come c.args.purpose fs c.args.name.now inputs _ f came.0 held came.1 (first.told fs told) c.in_ok-counted.ensures.told came.2)
          (look.came_to fs (first.shelf.only_read.files ∙ told));
      shelf = look-on _ _ _ _ first.shelf look.shelf;
      cause = cause-on e _ _ _ first.shelf look.cause;
      sound = tt;
    })

pub returns-in_err-cells-clause-looked : goal.returns-in_err-cells-clause-looked
returns-in_err-cells-clause-looked g c =
    let p = err_from_is_err_and c.from_residual-in_err-cells.result c.from_residual-in_err-cells.ensures.1 in
    let r = c.in_err-cells.field-0.0 in
    let inputs = c.in_ok-inputs.inputs in
    let counted = c.in_ok-counted.ensures.sound.0 in
    let first = c.in_ok-inputs.ensures in
    let then = c.in_ok-priors.ensures in
    let priors = c.in_ok-priors.priors in
    rw (p.1, p.2) (record {
      told = λ fs told.
          stop-fails r _
          (cells-fail c.args.purpose fs c.args.name.now inputs _ priors (why_of r) (first.told fs told) c.in_ok-counted.ensures.told (then.told fs (first.shelf.only_read.files ∙ told) inputs counted)
          (subst (λ (ps : List Prior). Fails (why_of r) (map_fault prior_fault (settle_of inputs.described.job.rules (figures inputs) ps))) c.as_slice.ensures (c.in_err-cells.ensures.gives inputs counted)));
      came_to = λ fs told. contents-come r _ fs (g.S.Shelf.state c.read_priors.new.shelf);
      shelf = look-on _ _ _ _ first.shelf then.shelf;
      cause = contents-cause r _ _ c.in_err-cells.ensures.contents;
      sound = tt;
    })

pub returns-in_err-check_outputs-clause-looked : goal.returns-in_err-check_outputs-clause-looked
returns-in_err-check_outputs-clause-looked g c =
    let p = err_from_is_err_and c.from_residual-in_err-check_outputs.result c.from_residual-in_err-check_outputs.ensures.1 in
    let reason = c.in_err-check_outputs.field-0.0 in
    let inputs = c.in_ok-inputs.inputs in
    let counted = c.in_ok-counted.ensures.sound.0 in
    let first = c.in_ok-inputs.ensures in
    let then = c.in_ok-priors.ensures in
    let priors = c.in_ok-priors.priors in
    let cells = c.in_ok-cells.cells in
    let settled = subst (λ (ps : List Prior). map_fault prior_fault (settle_of inputs.described.job.rules (figures inputs) ps) ≡ Ok (map view_of_cell cells)) c.as_slice.ensures (c.in_ok-cells.ensures.gives inputs counted) in
    rw (p.1, p.2) (record {
      told = λ fs told.
          outputs-fail c.args.purpose fs c.args.name.now inputs _ priors (map view_of_cell cells) reason (first.told fs told) c.in_ok-counted.ensures.told (then.told fs (first.shelf.only_read.files ∙ told) inputs counted) settled
          (sym (c.in_err-check_outputs.ensures ∙ ap (λ (d : DescribedJob). refuse fault.OutName (overwrites_job c.args.name.now d.job)) counted.described));
      came_to = λ fs told f is. absurd cc;
      shelf = look-on _ _ _ _ first.shelf then.shelf;
      cause = out-name-cause reason (overwrites_job c.args.name.now c.in_ok-counted.counted.described.job) _ _ c.in_err-check_outputs.ensures;
      sound = tt;
    })

pub returns-clause-looked : goal.returns-clause-looked
returns-clause-looked g c =
    let records = ap length c.as_slice-2.ensures ∙ ap length c.in_ok-counted.ensures.sound.0.rows in
    let inputs = c.in_ok-inputs.inputs in
    let counted = c.in_ok-counted.ensures.sound.0 in
    let ready = c.in_ok-counted.ensures.sound.1 in
    let first = c.in_ok-inputs.ensures in
    let then = c.in_ok-priors.ensures in
    let priors = c.in_ok-priors.priors in
    let cells = c.in_ok-cells.cells in
    let are = c.in_ok-cells.ensures.ready in
    let settled = subst (λ (ps : List Prior). map_fault prior_fault (settle_of inputs.described.job.rules (figures inputs) ps) ≡ Ok (map view_of_cell cells)) c.as_slice.ensures (c.in_ok-cells.ensures.gives inputs counted) in
    record {
      told = λ fs told.
          rw (settled-is c.args.purpose fs c.args.name.now inputs _ priors (map view_of_cell cells) (first.told fs told) c.in_ok-counted.ensures.told (then.told fs (first.shelf.only_read.files ∙ told) inputs counted) settled
          (sym (c.in_ok-check_outputs.ensures ∙ ap (λ (d : DescribedJob). refuse fault.OutName (overwrites_job c.args.name.now d.job)) counted.described)))
          (record { described = counted.described; book = counted.book; cells = refl; rows = counted.rows; records = records; skipped = counted.skipped });
      came_to = λ fs told f is. absurd cc;
      shelf = look-on _ _ _ _ first.shelf then.shelf;
      cause = record { absent = λ f is. absurd cc; too_long = λ f is. absurd cc; read_fault = λ f is. absurd cc; tree = λ f is. absurd cc };
      sound = record { sound = ready.sound; book = ready.book; told = ready.told; at_most_1000000 = ready.at_most_1000000; one_each = ready.one_each; settled = are.one_each; levels = are.levels; truths = are.truths; fewer_than_2_32 = subst (λ n. n < 2 ^ 32) (sym are.one_each) ready.fewer_than_2_32 };
    }

pub returns-clause-settled : goal.returns-clause-settled
returns-clause-settled g c =
    let records = ap length c.as_slice-2.ensures ∙ ap length c.in_ok-counted.ensures.sound.0.rows in
    let counted = c.in_ok-counted.ensures.sound.0 in
    let settled : SettledInputs = record { inputs = c.in_ok-inputs.inputs; priors = c.in_ok-priors.priors; cells = map view_of_cell c.in_ok-cells.cells } in
    (settled, record { described = counted.described; book = counted.book; cells = refl; rows = counted.rows; records = records; skipped = counted.skipped }, c.in_ok-inputs.ensures.sound)
