use Rattle.std.proofs.Common.{◌≡◌, ◌+◌, ◌<◌, ◌^◌, ◌≤ℤ◌, ℕ, ℤ, List, [], Err, pos, length, map, take, slice_index, slice_index_or, set, ap, sym, subst, ◌∙◌, arith, rules, FitsSigned, to_z, of_z, length-set}
use Rattle.std.specs.Int.{w128}
use Rattle.std.proofs.lemmas.Int.{to_z-of_z}
use Rattle.std.proofs.lemmas.List.{get_or_read}
use Rattle.std.proofs.lemmas.List.Elements.{All-from_get_or}
use Rattle.sdc_base.specs.Forms.{Term}
use Rattle.sdc_base.specs.Systems.{number_at}
use Rattle.tableau.specs.declared.faults.ExchangeFault.TheVariants as fault
use Rattle.tableau.specs.Tables.{Table, exchanged_table}
use Rattle.tableau.specs.Steps.{IsInLowestTerms}
use Rattle.tableau.specs.Entries.{IsSparse, AreSparse}
use Rattle.tableau.specs.OwnRows.{row_over, IsDenOf, AreOwnRows}
use Rattle.tableau.specs.NewRows.{placed_lists, exchanged_den}
use Rattle.tableau.specs.SparseTables.{table_of, width_of}
use Rattle.tableau.proofs.CrossedEntries.{times_above}
use Rattle.tableau.proofs.Exchanged.{divisor_of, are_lowest, own_rows_after}
use Rattle.tableau.proofs.NewRows.{length-placed}
use Rattle.tableau.proofs.Rising.{shaped_exchanged}
use Rattle.tableau.proofs.SparseTables.{sparse_shaped, sparse_at}
use Rattle.tableau.proofs.ReducedRows.{reduced_table}
use Rattle.tableau.proofs.exchange.exchange.Goals as goal

pub returns-in-Err-clause-wide : goal.returns-in-Err-clause-wide
returns-in-Err-clause-wide c k j is =
    let fault_is : c.in-Err.fault ≡ fault.Wide k j = cc in
    c.in-Err.ensures.wide k j (ap Err fault_is)

pub place_rows-requires : goal.place_rows-requires
place_rows-requires c = c.in-Ok.ensures.ok.long

pub invariant_of-table : goal.invariant_of-table
invariant_of-table c =
    let s = c.args.table.now in
    let lists : List (List Term) = placed_lists s.rows.items c.in-Ok.made.rows.items in
    let rows_are : c.place_rows.new.rows.items ≡ lists = c.place_rows.ensures in
    let long : length lists ≡ length s.members.items + 1 = length-placed s.rows.items c.in-Ok.made.rows.items ∙ c.in-Ok.ensures.ok.long ∙ s.filled in
    let members_long : length (set s.members.items c.args.row c.index.result.now) ≡ length s.members.items = length-set s.members.items c.args.row c.index.result.now in
    let others_long : length (set s.others.items c.args.column c.index-leaving.result.now) ≡ length s.others.items = length-set s.others.items c.args.column c.index-leaving.result.now in
    let sparse : AreSparse (length s.others.items + 2) lists = All-from_get_or (λ (entries : List Term). IsSparse 0 (length s.others.items + 2) entries) lists [] (λ k below. sparse_at (width_of s + 1) (length s.others.items + 2) (slice_index_or lists k []) (omega arith) (c.in-Ok.ensures.ok.rows k below).sparse) in
    record {
      filled = ap length rows_are ∙ long ∙ ap (λ n. n + 1) (sym members_long);
      fewer_than_2_32 = subst (λ n. n + 2 < 2 ^ 32) (sym others_long) s.fewer_than_2_32;
      each = subst (λ n. AreSparse (n + 2) c.place_rows.new.rows.items) (sym others_long) (subst (λ (r : List (List Term)). AreSparse (length s.others.items + 2) r) (sym rows_are) sparse);
    }

pub returns-clause-ok : goal.returns-clause-ok
returns-clause-ok c =
    let s = c.args.table.now in
    let t : Table = table_of s in
    let made = c.in-Ok.made in
    let ok = c.in-Ok.ensures.ok in
    let whole : Table = exchanged_table t c.args.row c.args.column in
    let whole_up : pos 1 ≤ℤ exchanged_den s c.args.row c.args.column = times_above s.den (number_at (slice_index_or t.rows c.args.row []) c.args.column) c.requires.sound.rows.above c.requires.above in
    let shaped = shaped_exchanged t c.args.row c.args.column (sparse_shaped s) c.requires.row in
    let members : List ℕ = set s.members.items c.args.row c.index.result.now in
    let others : List ℕ = set s.others.items c.args.column c.index-leaving.result.now in
    let entering : c.index.result.now ≡ slice_index s.others.items c.args.column = get_or_read s.others.items c.args.column c.index.result.now c.requires.column c.index.ensures 0 in
    let leaving : c.index-leaving.result.now ≡ slice_index s.members.items c.args.row = get_or_read s.members.items c.args.row c.index-leaving.result.now c.requires.row c.index-leaving.ensures 0 in
    let den_fits : FitsSigned w128 made.den = search rules in
    let d : ℤ = to_z w128 (of_z w128 made.den) in
    let lists : List (List Term) = placed_lists s.rows.items made.rows.items in
    let long : length lists ≡ length s.members.items + 1 = length-placed s.rows.items made.rows.items ∙ ok.long ∙ s.filled in
    let den_is : IsDenOf (width_of s) lists d = subst (IsDenOf (width_of s) lists) (sym (to_z-of_z w128 made.den den_fits)) ok.den_is in
    let by : ℤ = divisor_of s c.args.row c.args.column d in
    let lowest = are_lowest s c.args.row c.args.column lists d whole_up ok.rows den_is c.requires.row long in (
      by,
      subst (λ (r : List (List Term)). IsInLowestTerms by whole (record { den = d; members = members; others = others; rows = map (row_over d (length others + 1)) (take (length members) r); objective = row_over d (length others + 1) (slice_index_or r (length members) []) })) (sym c.place_rows.ensures)
          (reduced_table whole d by (width_of s) members others lists shaped lowest (ap (set s.members.items c.args.row) (sym entering)) (ap (set s.others.items c.args.column) (sym leaving))
          (ap (λ n. n + 1) (length-set s.others.items c.args.column c.index-leaving.result.now))),
    )

pub returns-clause-sound : goal.returns-clause-sound
returns-clause-sound c =
    let s = c.args.table.now in
    let made = c.in-Ok.made in
    let ok = c.in-Ok.ensures.ok in
    let den_fits : FitsSigned w128 made.den = search rules in
    let d : ℤ = to_z w128 (of_z w128 made.den) in
    let d_is : d ≡ made.den = to_z-of_z w128 made.den den_fits in
    let lists : List (List Term) = placed_lists s.rows.items made.rows.items in
    let rows : List (List Term) = c.place_rows.new.rows.items in
    let rows_are : rows ≡ lists = c.place_rows.ensures in
    let den_is : IsDenOf (width_of s) lists d = subst (IsDenOf (width_of s) lists) (sym d_is) ok.den_is in
    let members_long : length (set s.members.items c.args.row c.index.result.now) ≡ length s.members.items = length-set s.members.items c.args.row c.index.result.now in
    let others_long : length (set s.others.items c.args.column c.index-leaving.result.now) ≡ length s.others.items = length-set s.others.items c.args.column c.index-leaving.result.now in
    let values_at : ℤ → ℕ → ℕ → List (List Term) → List ℤ = λ d v n t. map (λ row. number_at row v) (map (row_over d (v + 1)) (take n t)) in
    let numbers_at : ℤ → ℕ → ℕ → List (List Term) → List ℤ = λ d v n t. row_over d (v + 1) (slice_index_or t n []) in
    record {
      rows = subst (λ n. AreOwnRows d (n + 1) rows) (sym others_long) (subst (AreOwnRows d (width_of s)) (sym rows_are) (own_rows_after s c.args.row c.args.column lists d ok.rows den_is));
      values = ok.values_are ∙ ap (λ e. values_at e (length s.others.items) (length s.members.items) lists) (sym d_is) ∙ ap (λ v. values_at d v (length s.members.items) lists) (sym others_long) ∙ ap (λ n. values_at d (length (set s.others.items c.args.column c.index-leaving.result.now)) n lists) (sym members_long) ∙ ap (values_at d (length (set s.others.items c.args.column c.index-leaving.result.now)) (length (set s.members.items c.args.row c.index.result.now))) (sym rows_are);
      objective = ok.objective_is ∙ ap (λ e. numbers_at e (length s.others.items) (length s.members.items) lists) (sym d_is) ∙ ap (λ v. numbers_at d v (length s.members.items) lists) (sym others_long) ∙ ap (λ n. numbers_at d (length (set s.others.items c.args.column c.index-leaving.result.now)) n lists) (sym members_long) ∙ ap (numbers_at d (length (set s.others.items c.args.column c.index-leaving.result.now)) (length (set s.members.items c.args.row c.index.result.now))) (sym rows_are);
    }
