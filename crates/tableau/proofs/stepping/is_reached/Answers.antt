use Rattle.std.proofs.Common.{◌≡◌, ℤ, subst, ◌∙◌, ap, arith, rules, FitsSigned}
use Rattle.std.specs.Int.{w128}
use Rattle.std.proofs.lemmas.Int.{to_z-of_z}
use Rattle.tableau.specs.Tables.{Table}
use Rattle.sdc_base.specs.Systems.{number_at}
use Rattle.tableau.specs.TableLaws.{value}
use Rattle.tableau.specs.SparseTables.{table_of}
use Rattle.tableau.proofs.stepping.is_reached.Goals as goal

pub returns-in-None : goal.returns-in-None
returns-in-None c =
    let d = c.args.table.now in
    let t : Table = table_of d in
    let target : ℤ = c.args.problem.now.target in
    let den_fits : FitsSigned w128 d.den = search rules in
    let target_fits : FitsSigned w128 target = search rules in
    let value_fits : FitsSigned w128 c.objective_number-value.result = search rules in
    let value_is : c.objective_number-value.result ≡ value t = c.objective_number-value.ensures ∙ ap (number_at t.objective) (omega (arith, c.len.ensures)) in
    let wide = c.in-None.ensures in
    let wide_here = simp to_z-of_z at wide in
    (λ clash. cc, λ reached. absurd (wide_here (subst (λ n. FitsSigned w128 n) (value_is ∙ reached) value_fits)))
