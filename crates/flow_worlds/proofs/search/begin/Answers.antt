use Rattle.std.proofs.Common.{◌≡◌, ◌∷◌, ◌++◌, [], Bool, List, length, ap, false, true, replicate, ◌∙◌}
use Rattle.std.proofs.Math.ListN.{set, length-set}
use Rattle.flow_worlds.specs.declared.search.Visit.{Visit}
use Rattle.flow_worlds.proofs.Searching.{begun, many_flags}
use Rattle.flow_worlds.proofs.search.begin.Goals as goal

pub returns : goal.returns
returns c =
    let none : c.in_ok-reached.reached.items ≡ replicate (length c.args.task.now.touching.now) false = c.in_ok-reached.ensures.items_if_clones_equal (λ y is. is) in
    record {
      search = begun c.args.task.now c.args.moves.now c.args.forward c.args.first c.push.new.self.items (set c.in_ok-reached.reached.items c.args.first.end true) 0 c.requires.task c.requires.first
          (c.in_ok-push.ensures.items ∙ ap (λ (visits : List Visit). visits ++ record { step = c.args.first; before = 0 } ∷ []) c.new-visits.ensures.items)
          (ap (λ (flags : List Bool). set flags c.args.first.end true) none)
          (length-set c.in_ok-reached.reached.items c.args.first.end true ∙ ap (λ (flags : List Bool). length flags) none ∙ many_flags (length c.args.task.now.touching.now));
    }
