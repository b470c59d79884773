use Rattle.std.proofs.Common.{◌≡◌, false, length, ap, sym, ◌∙◌}
use Rattle.sdc_base.specs.HiddenSets.{is_hidden}
use Rattle.sdc_base.proofs.Numbering.{numbered-shown}
use Rattle.sdc_base.proofs.connected.number_of.Goals as goal

pub returns : goal.returns
returns c =
    let flags = c.args.flags.now in
    let of = c.args.of.now in
    let shown : is_hidden flags (length of) ≡ false = ap (is_hidden flags) (sym c.requires.next) ∙ sym c.is_hidden.ensures ∙ c.if-is_hidden.false in
    numbered-shown flags c.args.lower.now of c.args.sizes.now.items c.requires.numbered c.requires.falls shown
