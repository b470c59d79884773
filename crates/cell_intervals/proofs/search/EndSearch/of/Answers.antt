use Rattle.std.proofs.Common.{◌≡◌, IfSome, true, ℕ, subst}
use Rattle.sdc_base.specs.HiddenSets.{is_hidden}
use Rattle.sdc_base.specs.declared.system.System.{System}
use Rattle.cell_intervals.specs.IntervalFaults.{HasSmallComponent}
use Rattle.cell_intervals.proofs.search.EndSearch.of.Goals as goal

pub returns-clause-small : goal.returns-clause-small
returns-clause-small c =
    let flags = c.args.hidden.now.flags in
    subst (λ (own : System). IfSome c.searches_in.result (λ _. (cell : ℕ) → is_hidden flags cell ≡ true → HasSmallComponent own flags cell)) c.system.ensures c.searches_in.ensures
