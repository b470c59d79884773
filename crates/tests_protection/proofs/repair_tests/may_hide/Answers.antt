use Rattle.std.proofs.Common.{◌≡◌, not, true, refl, sym, ◌∙◌, ap, length, arith}
use Rattle.std.proofs.lemmas.Option.{slice_get_read}
use Rattle.sdc_base.specs.declared.cell.Kind.{Kind}
use Rattle.sdc_base.specs.declared.cell.Kind.TheVariants.{Primary, Free, Fixed}
use Rattle.sdc_base.specs.HiddenSets.{may_hide}
use Rattle.sdc_base.specs.Kinds.{is_fixed}
use Rattle.tests_protection.proofs.repair_tests.may_hide.Goals as goal

not_fixed : (kind : Kind) → not (is_fixed kind) ≡ true → may_hide kind ≡ true
not_fixed Primary is = refl
not_fixed Free is = refl
not_fixed Fixed is = absurd cc

pub returns : goal.returns
returns c = λ is. record {
  cell = c.index-cells-number.result;
  found = slice_get_read c.args.cells.now (length c.args.cells.now) c.args.number c.index-cells-number.result refl (omega (arith, c.if-number-cells.false)) c.index-cells-number.is;
  may = not_fixed c.index-cells-number.result.kind (ap not (sym c.is_fixed.ensures) ∙ is);
}
