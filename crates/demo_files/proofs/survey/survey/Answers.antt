use Rattle.std.proofs.Common.{◌≡◌, ◌∙◌, ◌++◌, ℕ, ap, arith}
use Rattle.std.specs.Prelude.{Vec}
use Rattle.std.specs.declared.alloc.Global.{Global}
use Rattle.demo_files.specs.Draws.{state_after}
use Rattle.demo_files.specs.Surveys.{record_line, survey}
use Rattle.demo_files.proofs.Drawing.{more-records}
use Rattle.demo_files.proofs.survey.survey.Goals as goal

pub records-preserved : goal.records-preserved
records-preserved c =
    let added : c.add_record.new.text.bytes.items ≡ c.records.text.bytes.items ++ record_line c.records.state = c.in_ok-add_record.ensures.text in
    let state : c.add_record.new.state ≡ state_after 6 c.records.state = c.in_ok-add_record.ensures.state in
    more-records c.args.seed c.records.number _ _ _ _ c.records.invariant.0 c.records.invariant.1 added state

pub returns : goal.returns
returns c =
    let end : c.records.number ≡ c.args.records = omega (arith, c.records-test.false, c.records.auto.number-end) in
    ap (λ (vec : Vec ℕ Global). vec.items) c.into_bytes.ensures.value ∙ c.records.invariant.0 ∙ ap (survey c.args.seed) end
