use Rattle.std.proofs.Common.{◌≤◌, ◌∷◌, [], All, List, sym, subst}
use Rattle.sdc_base.specs.RuleLevels.{keep_of}
use Rattle.sdc_base.specs.declared.rule.Rule.{Rule}
use Rattle.cell_listing.proofs.Alike.{each_kept}
use Rattle.cell_listing.proofs.Levels.{high_enough}
use Rattle.cell_listing.proofs.fields.standing_fields.Goals as goal

pub add_reasons-requires-clause-kept : goal.add_reasons-requires-clause-kept
add_reasons-requires-clause-kept c = subst (λ (rules : List Rule). All (λ one. keep_of (one ∷ []) ≤ c.args.given.now.facts.now.tops.keep) rules) (sym c.as_slice.ensures) (each_kept c.args.described.now.job.rules.list c.args.given.now.facts.now.tops.keep c.requires.given.kept)

pub add_bound-requires-clause-low : goal.add_bound-requires-clause-low
add_bound-requires-clause-low c = high_enough c.args.given.now.cell.now
