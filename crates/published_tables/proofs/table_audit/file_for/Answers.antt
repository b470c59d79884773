use Rattle.std.proofs.Common.{◌≡◌, ◌≤ℤ◌, ◌^◌, All, FitsSigned, pos, List, ℕ, length, true, ap, arith, refl, rules, subst, sym, ◌∙◌}
use Rattle.std.specs.Int.{w128}
use Rattle.std.proofs.lemmas.Int.{to_z-of_z}
use Rattle.std.proofs.lemmas.List.Sums.{count_by-le-length}
use Rattle.std.proofs.lemmas.Result.{err_from_is_err_and}
use Rattle.sdc_base.specs.declared.cell.Cell.{Cell}
use Rattle.sdc_base.specs.declared.system.System.{System}
use Rattle.sdc_base.specs.Kinds.{is_primary_at}
use Rattle.sdc_base.specs.Roundings.{IsRounding}
use Rattle.cell_intervals.specs.IntervalFaults.{HasSmallComponent}
use Rattle.relations.specs.Holding.{IsSystemOf}
use Rattle.relations.proofs.SignedTables.{one_or_two_way_has_signs}
use Rattle.rounding_audit.specs.ReaderFaults.{truths_of}
use Rattle.rounding_audit.specs.Readers.{all_hidden}
use Rattle.rounding_audit.specs.AuditFaults.{IsAuditFault}
use Rattle.rounding_audit.specs.AuditTexts.{audit_text}
use Rattle.rounding_audit.specs.Audits.{IsAudit}
use Rattle.rounding_audit.specs.Exposures.{exposed_in, is_exposed}
use Rattle.rounding_audit.specs.declared.audited.AuditedCell.{AuditedCell}
use Rattle.published_tables.proofs.Readying.{truths_within}
use Rattle.published_tables.specs.ShownValues.{base_of_job}
use Rattle.published_tables.proofs.AuditStopping.{audit_stops}
use Rattle.published_tables.proofs.Counting.{few_listed}
use Rattle.published_tables.proofs.table_audit.file_for.Goals as goal

pub audit_of-requires-clause-can : goal.audit_of-requires-clause-can
audit_of-requires-clause-can c =
    let job = c.args.shelved.now.job in
    let all = ap (λ (cells : List Cell). length cells) c.as_slice.ensures in
    let counted = c.in_ok-system.ensures.cells in
    let fits : FitsSigned w128 c.base_in_units-base.result = search rules in
    let base = sym (to_z-of_z w128 c.base_in_units-base.result fits) in
    record {
      each_cell = omega (arith, all, counted, c.requires.ready.job.one_each, c.requires.ready.job.settled);
      each_value = omega (arith, all, c.requires.each);
      truths = subst (λ (cells : List Cell). All (λ (cell : Cell). cell.truth ≤ℤ pos (10 ^ 29)) cells) (sym c.as_slice.ensures) (truths_within job c.requires.ready.job);
      from_one = subst (λ z. pos 1 ≤ℤ z) base c.base_in_units-base.ensures.from_one;
      at_most_10_22 = subst (λ z. z ≤ℤ pos (10 ^ 22)) base c.base_in_units-base.ensures.at_most;
    }

pub returns-in_err-audited : goal.returns-in_err-audited
returns-in_err-audited c =
    let p = err_from_is_err_and c.from_residual-in_err-audited.result c.from_residual-in_err-audited.ensures.1 in
    let e = c.in_err-audited.field-0.0 in
    let job = c.args.shelved.now.job in
    let fits : FitsSigned w128 c.base_in_units-base.result = search rules in
    let base = to_z-of_z w128 c.base_in_units-base.result fits ∙ c.base_in_units-base.ensures.base in
    let own = subst (λ b. IsAuditFault c.in_ok-system.system c.as_slice.result.now c.args.values.now b job.described.job.steps e) base c.in_err-audited.ensures.fault in
    let fault = subst (λ (cells : List Cell). IsAuditFault c.in_ok-system.system cells c.args.values.now (base_of_job job) job.described.job.steps e) c.as_slice.ensures own in
    let system_is : IsSystemOf job.book c.in_ok-system.system = record { cells = c.in_ok-system.ensures.cells; relations = c.in_ok-system.ensures.exact } in
    rw (p.1, p.2) (audit_stops job c.in_ok-system.system c.args.values.now e c.cells-known.ensures.book system_is fault c.size_is_large.ensures c.in_err-audited.ensures.signed)

pub overflow_cast-primary : goal.overflow_cast-primary
overflow_cast-primary c =
    let all = ap (λ (audited : List AuditedCell). length audited) c.as_slice-3.ensures in
    let cells = ap (λ (all : List Cell). length all) c.as_slice.ensures in
    let few = few_listed (λ (one : AuditedCell). one.cell) (is_primary_at c.as_slice.result.now) (length c.as_slice.result.now) c.in_ok-audited.audited c.in_ok-audited.ensures.audit.numbers in
    omega (arith, all, few, cells, c.requires.ready.job.fewer_than_2_32)

pub overflow_cast-exposed : goal.overflow_cast-exposed
overflow_cast-exposed c =
    let all = ap (λ (audited : List AuditedCell). length audited) c.as_slice-4.ensures in
    let cells = ap (λ (all : List Cell). length all) c.as_slice.ensures in
    let few = few_listed (λ (one : AuditedCell). one.cell) (is_primary_at c.as_slice.result.now) (length c.as_slice.result.now) c.in_ok-audited.audited c.in_ok-audited.ensures.audit.numbers in
    let less = count_by-le-length is_exposed c.as_slice-4.result.now in
    omega (arith, all, few, cells, less, c.exposed_in-exposed.ensures, c.requires.ready.job.fewer_than_2_32)

pub returns : goal.returns
returns c =
    let job = c.args.shelved.now.job in
    let fits : FitsSigned w128 c.base_in_units-base.result = search rules in
    let base = to_z-of_z w128 c.base_in_units-base.result fits ∙ c.base_in_units-base.ensures.base in
    let system : System = c.in_ok-system.system in
    let own = subst (λ b. IsAudit system c.as_slice.result.now c.args.values.now b c.in_ok-audited.audited) base c.in_ok-audited.ensures.audit in
    let rounded = subst (λ b. IsRounding system (truths_of c.as_slice.result.now) b c.args.values.now) base (c.in_ok-audited.ensures.rounded refl) in
    let system_is : IsSystemOf job.book system = record { cells = c.in_ok-system.ensures.cells; relations = c.in_ok-system.ensures.exact } in
    record {
      one_each = c.requires.each;
      system = c.in_ok-system.system;
      audited = c.in_ok-audited.audited;
      system_is = system_is;
      rounding = subst (λ (cells : List Cell). IsRounding system (truths_of cells) (base_of_job job) c.args.values.now) c.as_slice.ensures rounded;
      whole = λ shape. (let signs = one_or_two_way_has_signs job.book system shape c.cells-known.ensures.book system_is in c.in_ok-audited.ensures.whole signs.0 signs.1);
      small = subst (λ (cells : List Cell). (number : ℕ) → is_primary_at cells number ≡ true → HasSmallComponent system (all_hidden system.cells) number) c.as_slice.ensures c.in_ok-audited.ensures.small;
      are = subst (λ (cells : List Cell). IsAudit c.in_ok-system.system cells c.args.values.now (base_of_job job) c.in_ok-audited.audited) c.as_slice.ensures own;
      bytes = c.in_ok-bytes.ensures ∙ ap (λ (audited : List AuditedCell). audit_text audited) c.as_slice-2.ensures;
      primary = ap (λ (audited : List AuditedCell). length audited) c.as_slice-3.ensures;
      exposed = c.exposed_in-exposed.ensures ∙ ap (λ (audited : List AuditedCell). exposed_in audited) c.as_slice-4.ensures;
    }
