use Rattle.tests_tables.proofs.relations_tests.rows.Goals as goal

pub rows_of-requires : goal.rows_of-requires
rows_of-requires c = record { components = (c.in_ok-set.set.flags, c.in_ok-set.ensures, c.in_ok-grouping.ensures) }
