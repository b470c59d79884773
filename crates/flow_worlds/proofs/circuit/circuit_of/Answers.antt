use Rattle.flow_worlds.proofs.Circling.{circuit_is}
use Rattle.flow_worlds.proofs.circuit.circuit_of.Goals as goal

pub returns : goal.returns
returns c =
    let each = rw c.as_slice-visits.ensures.value at c.in_ok-steps.ensures.each in
    let first = rw c.as_slice-visits.ensures.value at c.in_ok-steps.ensures.first in
    let carries = rw c.as_slice-visits.ensures.value at c.in_ok-steps.ensures.carries in
    let within = rw c.as_slice-visits.ensures.value at c.place_of_end-place.ensures.within in
    let ends = rw c.as_slice-visits.ensures.value at c.place_of_end-place.ensures.ends_there in
    circuit_is c.args.task.now c.args.moves.now c.args.search.now c.in_ok-steps.steps.items c.place_of_end-place.result c.requires.search within ends each c.in_ok-steps.ensures.apart first carries
