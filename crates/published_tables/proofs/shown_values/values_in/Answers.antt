use Rattle.std.proofs.Common.{List, ℕ, length, ap, sym, ◌∙◌}
use Rattle.published_tables.proofs.Readying.{have_names, each_table}
use Rattle.published_tables.proofs.shown_values.values_in.Goals as goal

pub rounded_of-requires-clause-names : goal.rounded_of-requires-clause-names
rounded_of-requires-clause-names c = have_names c.args.shelved.now.job c.as_slice.result.now c.requires.job (c.as_slice.ensures ∙ c.in_ok-names.ensures)

pub returns-clause-each : goal.returns-clause-each
returns-clause-each c =
    let shelved = c.args.shelved.now in
    let names = have_names shelved.job c.as_slice.result.now c.requires.job (c.as_slice.ensures ∙ c.in_ok-names.ensures) in
    let tables = ap (λ (xs : List (List ℕ)). length xs) c.as_slice-tables.ensures ∙ each_table shelved c.requires in
    (c.rounded_numbers_have_texts.ensures shelved.job.book c.as_slice.result.now shelved.job.described.bound.decimals c.as_slice-tables.result.now c.in_ok-values.values c.requires.job.one_each names.lists tables
    c.in_ok-values.ensures.exact).0
    ∙ sym c.requires.job.settled
