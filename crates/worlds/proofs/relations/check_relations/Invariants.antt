use Rattle.std.proofs.Common.{◌≡◌, drop}
use Rattle.sdc_base.specs.Systems.{number_at}
use Rattle.worlds.specs.WorldFaults.{relations_fault}
use Rattle.worlds.proofs.relations.check_relations.Given as goal

abbrev pub invariant-loop-number : goal.invariant-loop-number
invariant-loop-number l = relations_fault (number_at l.numbers) 0 l.relations ≡ relations_fault (number_at l.numbers) l.number (drop l.number l.relations)
