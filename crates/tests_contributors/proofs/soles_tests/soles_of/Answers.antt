use Rattle.tests_contributors.proofs.soles_tests.soles_of.Goals as goal

pub soles-requires-clause-told : goal.soles-requires-clause-told
soles-requires-clause-told c = λ cell name mark named marked. (c.tabulate.ensures.marks cell name mark named marked).freq_is
