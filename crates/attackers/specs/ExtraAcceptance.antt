-- Extra cells that are needed, and guard with a hidden set against every contributor (own).
use Rattle.std.specs.Prelude.{◌≡◌, ℕ, Bool, false, List, All, Option}
use Rattle.sdc_base.specs.declared.cell.Kind.TheVariants.{Free}
use Rattle.sdc_base.specs.HiddenSets.{is_hidden, show, hide_cells}
use Rattle.repair.specs.HidingOrder.{Case, IsOfKind}
use Rattle.certificate.specs.declared.extra.ExtraNeed.{ExtraNeed}
use Rattle.certificate.specs.declared.extra.Extra.{Extra}
use Rattle.attackers.specs.KnownCells.{IsAttack, GuardsAll}
use Rattle.attackers.specs.AttackOrder.{attacks_of}
use Rattle.attackers.specs.Extras.{attack_of, subjects_of, Unguards}

-- A need shows that its subject must stay hidden: its attack is one, and its multipliers refute it for the hidden set
-- without the subject.
pub record IsExtraNeed (c : Case) (soles : List (Option ℕ)) (flags : List Bool) (need : ExtraNeed) : Type 0 where
  pub on : IsAttack c.cells soles (attack_of need)
  pub refutes : Unguards c soles (show flags need.subject) (attack_of need) need.multipliers

-- Extra cells beside a hidden set are free and not of it, each is needed, and the set with them guards against all
-- attacks.
pub record IsGuarding (c : Case) (soles : List (Option ℕ)) (flags : List Bool) (extra : Extra) : Type 0 where
  pub are_free : All (λ cell. IsOfKind c.cells cell Free) extra.cells
  pub are_shown : All (λ cell. is_hidden flags cell ≡ false) extra.cells
  pub each_needed : subjects_of extra.needs ≡ extra.cells
  pub are_needs : All (IsExtraNeed c soles (hide_cells flags extra.cells)) extra.needs
  pub guards_all : GuardsAll c soles (hide_cells flags extra.cells) (attacks_of c.cells soles)
