use Rattle.std.proofs.Common.{get_or}
use Rattle.std.proofs.lemmas.Option.{slice_get-get_or, slice_get_within}
use Rattle.sdc_base.specs.declared.side.Side.TheVariants.{Above}
use Rattle.attackers.specs.declared.attack.Attack.{Attack}
use Rattle.attackers.specs.KnownCells.{IsAttack}
use Rattle.attackers.proofs.AskedCells.{attack_says}
use Rattle.attackers.proofs.serving.attack_at.Goals as goal

pub returns : goal.returns
returns c =
    let attack : Attack = get_or c.args.task.now.attacks.now c.args.place (record { row = 0; cell = 0; side = Above }) in
    let on : IsAttack c.args.task.now.cells.now c.args.task.now.soles.now attack = c.args.task.now.fits.are_attacks c.args.place (record { row = 0; cell = 0; side = Above }) c.requires in
    let says = attack_says c.args.task.now.cells.now c.args.task.now.soles.now attack on in
    record {
      stands = slice_get-get_or c.args.task.now.attacks.now c.args.place (record { row = 0; cell = 0; side = Above }) c.requires;
      is_attack = on;
      inside = slice_get_within c.args.task.now.cells.now attack.cell says.primary.cell says.primary.found;
      hidden = λ flags permitted. permitted.primary_hidden attack.cell says.primary.cell says.primary.found says.primary.is_kind;
    }
