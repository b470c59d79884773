use Rattle.std.proofs.Common.{◌≡◌, ◌+◌, ◌-◌, drop, length}
use Rattle.modular_plan.specs.SubtablePlaces.{places_below}
use Rattle.modular_plan.proofs.PlaceLists.{found_at, places_among}
use Rattle.modular_plan.proofs.entry.+add_places.Given as goal

abbrev pub decreases-add_places : goal.decreases-add_places
decreases-add_places l = length l.lists.now - length l.begun.now

abbrev pub invariant-codes : goal.invariant-codes
invariant-codes l =
    found_at l.book l.t l.found.keys (places_among l.begun (drop l.code-index l.code-items) (drop (length l.begun + 1) l.lists))
    ≡ found_at l.book l.t l.fn.found.keys (places_below l.begun (drop (length l.begun) l.lists))
