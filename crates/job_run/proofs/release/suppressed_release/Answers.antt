use Rattle.std.proofs.Common.{◌≡◌, length, Bool, List, ap, ◌∙◌}
use Rattle.sdc_base.specs.declared.hidden.Hidden.{Hidden}
use Rattle.job_run.specs.Releases.{puts_of, shown_in}
use Rattle.job_run.proofs.Releasing.{hidden-can}
use Rattle.job_run.proofs.release.suppressed_release.Goals as goal

pub puts_for-requires-clause-shown : goal.puts_for-requires-clause-shown
puts_for-requires-clause-shown c =
    let flags : length c.hidden.result.now.flags ≡ length c.args.book.now.marks = ap (λ (hidden : Hidden). length hidden.flags) c.hidden.ensures.hidden ∙ c.requires.shown.each_flag in
    record {
      sound = c.requires.shown.sound;
      ready = c.requires.shown.ready;
      can = hidden-can c.args.described.now c.args.book.now c.hidden.result c.requires.shown.ready flags;
    }

pub returns-clause-puts : goal.returns-clause-puts
returns-clause-puts c = λ inputs is whole.
    c.in_ok-puts.ensures.puts inputs is whole
    ∙ ap (λ (flags : List Bool). puts_of inputs (shown_in inputs flags) c.args.certificate) (ap (λ (hidden : Hidden). hidden.flags) c.hidden.ensures.hidden)
