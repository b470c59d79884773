use Rattle.std.proofs.Common.{◌≡◌, ◌+◌, ◌-◌, ◌<◌, ◌≤◌, ◌≤ℤ◌, ℕ, ℤ, List, [], Option, Err, pos, length, map, take, slice_index_or, unsigned_abs, true, ap, sym, subst, ◌∙◌, arith, rules, FitsSigned, to_z, of_z}
use Prim.Native.Nat.{◌∣◌}
use Rattle.std.specs.Int.{w128}
use Rattle.std.proofs.lemmas.Int.{to_z-of_z}
use Rattle.sdc_base.specs.Forms.{Term}
use Rattle.sdc_base.specs.Systems.{number_at}
use Rattle.tableau.specs.declared.faults.RowFault.TheVariants as faults
use Rattle.tableau.specs.declared.faults.ExchangeFault.TheVariants as fault
use Rattle.tableau.specs.Entries.{IsSparse}
use Rattle.tableau.specs.OwnRows.{own_den, row_over, DensDivide, IsDenOf, AreWithDens}
use Rattle.tableau.specs.NewRows.{placed_lists, exchanged_den, AreNewRows}
use Rattle.tableau.specs.SparseTables.{table_of, width_of}
use Rattle.tableau.specs.Widths.{is_wide, IsWidePlace}
use Rattle.tableau.proofs.CrossedEntries.{times_above, den_wide, fault_wide}
use Rattle.tableau.proofs.Divisors.{abs_up}
use Rattle.tableau.proofs.Exchanged.{new_dens, with_dens, number_wide}
use Rattle.tableau.proofs.LeastDens.{placed_here}
use Rattle.tableau.proofs.NewRows.{length-placed}
use Rattle.tableau.proofs.SparseTables.{sparse_at}
use Rattle.tableau.proofs.exchange.exchanged_rows.Goals as goal

pub returns-in-Err-clause-wide : goal.returns-in-Err-clause-wide
returns-in-Err-clause-wide c k j is =
    let fault_is : c.in-Err.fault ≡ fault.Wide k j = cc in
    c.in-Err.ensures.wide k j (ap Err fault_is)

pub rows_den-requires-clause-long : goal.rows_den-requires-clause-long
rows_den-requires-clause-long c = omega (arith, ap length c.as_slice.ensures.value, ap length c.as_slice-olds.ensures.value, c.in-Ok.ensures.long, c.args.table.now.filled)

pub rows_den-requires-clause-dens : goal.rows_den-requires-clause-dens
rows_den-requires-clause-dens c =
    let s = c.args.table.now in
    let width : c.len.result + 1 ≡ width_of s = omega (arith, c.len.ensures) in
    let news : List (Option (List Term)) = c.in-Ok.rows.items in
    let lists : List (List Term) = placed_lists s.rows.items news in
    let long : length lists ≡ length s.members.items + 1 = length-placed s.rows.items news ∙ c.in-Ok.ensures.long in
    let are : AreNewRows s c.args.row c.args.column lists = c.in-Ok.ensures.ok in
    let whole_up : pos 1 ≤ℤ exchanged_den s c.args.row c.args.column = times_above s.den (number_at (slice_index_or (table_of s).rows c.args.row []) c.args.column) c.requires.sound.rows.above c.requires.above in
    let lists_are : placed_lists c.as_slice-olds.result.now c.as_slice.result.now ≡ lists = ap (λ (o : List (List Term)). placed_lists o c.as_slice.result.now) c.as_slice-olds.ensures.value ∙ ap (λ (n : List (Option (List Term))). placed_lists s.rows.items n) c.as_slice.ensures.value in
    subst (AreWithDens (c.len.result + 1)) (sym lists_are) (with_dens s c.args.row c.args.column (c.len.result + 1) lists width are)

pub returns-in_default-clause-wide : goal.returns-in_default-clause-wide
returns-in_default-clause-wide c k j is =
    let s = c.args.table.now in
    let width : c.len.result + 1 ≡ width_of s = omega (arith, c.len.ensures) in
    let news : List (Option (List Term)) = c.in-Ok.rows.items in
    let lists : List (List Term) = placed_lists s.rows.items news in
    let long : length lists ≡ length s.members.items + 1 = length-placed s.rows.items news ∙ c.in-Ok.ensures.long in
    let are : AreNewRows s c.args.row c.args.column lists = c.in-Ok.ensures.ok in
    let whole_up : pos 1 ≤ℤ exchanged_den s c.args.row c.args.column = times_above s.den (number_at (slice_index_or (table_of s).rows c.args.row []) c.args.column) c.requires.sound.rows.above c.requires.above in
    let lists_are : placed_lists c.as_slice-olds.result.now c.as_slice.result.now ≡ lists = ap (λ (o : List (List Term)). placed_lists o c.as_slice.result.now) c.as_slice-olds.ensures.value ∙ ap (λ (n : List (Option (List Term))). placed_lists s.rows.items n) c.as_slice.ensures.value in
    let row_is : c.args.row ≡ k = cc in
    let column_is : c.args.column ≡ j = cc in
    let m : ℕ = unsigned_abs (exchanged_den s c.args.row c.args.column) in
    let divide : DensDivide (c.len.result + 1) (placed_lists c.as_slice-olds.result.now c.as_slice.result.now) m = subst (λ (t : List (List Term)). DensDivide (c.len.result + 1) t m) (sym lists_are) (subst (λ n. DensDivide n lists m) (sym width) (new_dens s c.args.row c.args.column lists are)) in
    let wide : is_wide (pos m) ≡ true = c.in_default.ensures.none m (abs_up (exchanged_den s c.args.row c.args.column) whole_up) divide in
    subst (λ n. IsWidePlace (table_of s) c.args.row c.args.column n j) row_is (subst (λ n. IsWidePlace (table_of s) c.args.row c.args.column c.args.row n) column_is (omega (arith, c.requires.row), omega (arith, c.requires.column), den_wide s c.args.row c.args.column wide))

pub values_over-requires-clause-dens : goal.values_over-requires-clause-dens
values_over-requires-clause-dens c =
    let s = c.args.table.now in
    let width : c.len.result + 1 ≡ width_of s = omega (arith, c.len.ensures) in
    let news : List (Option (List Term)) = c.in-Ok.rows.items in
    let lists : List (List Term) = placed_lists s.rows.items news in
    let long : length lists ≡ length s.members.items + 1 = length-placed s.rows.items news ∙ c.in-Ok.ensures.long in
    let are : AreNewRows s c.args.row c.args.column lists = c.in-Ok.ensures.ok in
    let whole_up : pos 1 ≤ℤ exchanged_den s c.args.row c.args.column = times_above s.den (number_at (slice_index_or (table_of s).rows c.args.row []) c.args.column) c.requires.sound.rows.above c.requires.above in
    let lists_are-2 : placed_lists c.as_slice-olds.result.now c.as_slice-2.result.now ≡ lists = ap (λ (o : List (List Term)). placed_lists o c.as_slice-2.result.now) c.as_slice-olds.ensures.value ∙ ap (λ (n : List (Option (List Term))). placed_lists s.rows.items n) c.as_slice-2.ensures.value in
    subst (AreWithDens (c.len.result + 1)) (sym lists_are-2) (with_dens s c.args.row c.args.column (c.len.result + 1) lists width are)

pub returns-in-Err-values_over-clause-wide : goal.returns-in-Err-values_over-clause-wide
returns-in-Err-values_over-clause-wide c k j is =
    let s = c.args.table.now in
    let width : c.len.result + 1 ≡ width_of s = omega (arith, c.len.ensures) in
    let news : List (Option (List Term)) = c.in-Ok.rows.items in
    let lists : List (List Term) = placed_lists s.rows.items news in
    let long : length lists ≡ length s.members.items + 1 = length-placed s.rows.items news ∙ c.in-Ok.ensures.long in
    let are : AreNewRows s c.args.row c.args.column lists = c.in-Ok.ensures.ok in
    let whole_up : pos 1 ≤ℤ exchanged_den s c.args.row c.args.column = times_above s.den (number_at (slice_index_or (table_of s).rows c.args.row []) c.args.column) c.requires.sound.rows.above c.requires.above in
    let lists_are : placed_lists c.as_slice-olds.result.now c.as_slice.result.now ≡ lists = ap (λ (o : List (List Term)). placed_lists o c.as_slice.result.now) c.as_slice-olds.ensures.value ∙ ap (λ (n : List (Option (List Term))). placed_lists s.rows.items n) c.as_slice.ensures.value in
    let lists_are-2 : placed_lists c.as_slice-olds.result.now c.as_slice-2.result.now ≡ lists = ap (λ (o : List (List Term)). placed_lists o c.as_slice-2.result.now) c.as_slice-olds.ensures.value ∙ ap (λ (n : List (Option (List Term))). placed_lists s.rows.items n) c.as_slice-2.ensures.value in
    let d : ℤ = to_z w128 (of_z w128 c.in-Some.den) in
    let den_fits : FitsSigned w128 c.in-Some.den = search rules in
    let den_is : IsDenOf (width_of s) lists d = subst (IsDenOf (width_of s) lists) (sym (to_z-of_z w128 c.in-Some.den den_fits)) (subst (λ n. IsDenOf n lists c.in-Some.den) width (subst (λ (t : List (List Term)). IsDenOf (c.len.result + 1) t c.in-Some.den) lists_are c.in-Some.ensures.least)) in
    let fault_is : c.in-Err-values_over.fault ≡ fault.Wide k j = cc in
    let told = c.in-Err-values_over.ensures.wide k j (ap Err fault_is) in
    let below : k ≤ length s.members.items = omega (arith, told.0, c.len-height.ensures) in
    let inside : j < width_of s = omega (arith, told.1, width) in
    let wide : is_wide (number_at (row_over d (width_of s) (slice_index_or lists k [])) j) ≡ true =
    subst (λ n. is_wide (number_at (row_over d n (slice_index_or lists k [])) j) ≡ true) width (subst (λ (t : List (List Term)). is_wide (number_at (row_over d (c.len.result + 1) (slice_index_or t k [])) j) ≡ true) lists_are-2 told.2) in
    (below, omega (arith, inside), number_wide s c.args.row c.args.column lists d whole_up are den_is k j c.requires.row c.requires.column long below inside wide)

pub row_numbers-requires-clause-sparse : goal.row_numbers-requires-clause-sparse
row_numbers-requires-clause-sparse c =
    let s = c.args.table.now in
    let width : c.len.result + 1 ≡ width_of s = omega (arith, c.len.ensures) in
    let news : List (Option (List Term)) = c.in-Ok.rows.items in
    let lists : List (List Term) = placed_lists s.rows.items news in
    let long : length lists ≡ length s.members.items + 1 = length-placed s.rows.items news ∙ c.in-Ok.ensures.long in
    let are : AreNewRows s c.args.row c.args.column lists = c.in-Ok.ensures.ok in
    let whole_up : pos 1 ≤ℤ exchanged_den s c.args.row c.args.column = times_above s.den (number_at (slice_index_or (table_of s).rows c.args.row []) c.args.column) c.requires.sound.rows.above c.requires.above in
    let h : ℕ = c.len-height.result in
    let height : h ≡ length s.members.items = omega (arith, c.len-height.ensures) in
    let inside : h < length news = omega (arith, c.in-Ok.ensures.long, height) in
    let last_is : c.placed-last.result.now ≡ slice_index_or lists h [] = placed_here s.rows.items news h c.placed-last.result.now c.index-olds-height.result c.index.result.now inside (omega (arith, c.in-Ok.ensures.long, s.filled)) (c.index-olds-height.is ∙ ap (λ (t : List (List Term)). slice_index_or t h c.index-olds-height.result) c.as_slice-olds.ensures.value) c.index.ensures c.placed-last.ensures in
    let within : h < length lists = omega (arith, long, height) in
    sparse_at (width_of s + 1) (c.len.result + 1 + 1) c.placed-last.result.now (omega (arith, width)) (subst (IsSparse 0 (width_of s + 1)) (sym last_is) (are h within).sparse)

pub row_numbers-requires-clause-own : goal.row_numbers-requires-clause-own
row_numbers-requires-clause-own c =
    let s = c.args.table.now in
    let width : c.len.result + 1 ≡ width_of s = omega (arith, c.len.ensures) in
    let news : List (Option (List Term)) = c.in-Ok.rows.items in
    let lists : List (List Term) = placed_lists s.rows.items news in
    let long : length lists ≡ length s.members.items + 1 = length-placed s.rows.items news ∙ c.in-Ok.ensures.long in
    let are : AreNewRows s c.args.row c.args.column lists = c.in-Ok.ensures.ok in
    let whole_up : pos 1 ≤ℤ exchanged_den s c.args.row c.args.column = times_above s.den (number_at (slice_index_or (table_of s).rows c.args.row []) c.args.column) c.requires.sound.rows.above c.requires.above in
    let h : ℕ = c.len-height.result in
    let height : h ≡ length s.members.items = omega (arith, c.len-height.ensures) in
    let inside : h < length news = omega (arith, c.in-Ok.ensures.long, height) in
    let last_is : c.placed-last.result.now ≡ slice_index_or lists h [] = placed_here s.rows.items news h c.placed-last.result.now c.index-olds-height.result c.index.result.now inside (omega (arith, c.in-Ok.ensures.long, s.filled)) (c.index-olds-height.is ∙ ap (λ (t : List (List Term)). slice_index_or t h c.index-olds-height.result) c.as_slice-olds.ensures.value) c.index.ensures c.placed-last.ensures in
    let within : h < length lists = omega (arith, long, height) in
    subst (λ n. pos 1 ≤ℤ own_den n c.placed-last.result.now) (sym width) (subst (λ (t : List Term). pos 1 ≤ℤ own_den (width_of s) t) (sym last_is) (are h within).own.above)

pub row_numbers-requires-clause-divides : goal.row_numbers-requires-clause-divides
row_numbers-requires-clause-divides c =
    let s = c.args.table.now in
    let width : c.len.result + 1 ≡ width_of s = omega (arith, c.len.ensures) in
    let news : List (Option (List Term)) = c.in-Ok.rows.items in
    let lists : List (List Term) = placed_lists s.rows.items news in
    let long : length lists ≡ length s.members.items + 1 = length-placed s.rows.items news ∙ c.in-Ok.ensures.long in
    let are : AreNewRows s c.args.row c.args.column lists = c.in-Ok.ensures.ok in
    let whole_up : pos 1 ≤ℤ exchanged_den s c.args.row c.args.column = times_above s.den (number_at (slice_index_or (table_of s).rows c.args.row []) c.args.column) c.requires.sound.rows.above c.requires.above in
    let lists_are : placed_lists c.as_slice-olds.result.now c.as_slice.result.now ≡ lists = ap (λ (o : List (List Term)). placed_lists o c.as_slice.result.now) c.as_slice-olds.ensures.value ∙ ap (λ (n : List (Option (List Term))). placed_lists s.rows.items n) c.as_slice.ensures.value in
    let d : ℤ = to_z w128 (of_z w128 c.in-Some.den) in
    let den_fits : FitsSigned w128 c.in-Some.den = search rules in
    let den_is : IsDenOf (width_of s) lists d = subst (IsDenOf (width_of s) lists) (sym (to_z-of_z w128 c.in-Some.den den_fits)) (subst (λ n. IsDenOf n lists c.in-Some.den) width (subst (λ (t : List (List Term)). IsDenOf (c.len.result + 1) t c.in-Some.den) lists_are c.in-Some.ensures.least)) in
    let h : ℕ = c.len-height.result in
    let height : h ≡ length s.members.items = omega (arith, c.len-height.ensures) in
    let inside : h < length news = omega (arith, c.in-Ok.ensures.long, height) in
    let last_is : c.placed-last.result.now ≡ slice_index_or lists h [] = placed_here s.rows.items news h c.placed-last.result.now c.index-olds-height.result c.index.result.now inside (omega (arith, c.in-Ok.ensures.long, s.filled)) (c.index-olds-height.is ∙ ap (λ (t : List (List Term)). slice_index_or t h c.index-olds-height.result) c.as_slice-olds.ensures.value) c.index.ensures c.placed-last.ensures in
    let within : h < length lists = omega (arith, long, height) in
    subst (λ n. unsigned_abs (own_den n c.placed-last.result.now) ∣ unsigned_abs d) (sym width) (subst (λ (t : List Term). unsigned_abs (own_den (width_of s) t) ∣ unsigned_abs d) (sym last_is) (den_is.divide h within))

pub returns-in-Err-row_numbers-clause-wide : goal.returns-in-Err-row_numbers-clause-wide
returns-in-Err-row_numbers-clause-wide c k j is =
    let s = c.args.table.now in
    let width : c.len.result + 1 ≡ width_of s = omega (arith, c.len.ensures) in
    let news : List (Option (List Term)) = c.in-Ok.rows.items in
    let lists : List (List Term) = placed_lists s.rows.items news in
    let long : length lists ≡ length s.members.items + 1 = length-placed s.rows.items news ∙ c.in-Ok.ensures.long in
    let are : AreNewRows s c.args.row c.args.column lists = c.in-Ok.ensures.ok in
    let whole_up : pos 1 ≤ℤ exchanged_den s c.args.row c.args.column = times_above s.den (number_at (slice_index_or (table_of s).rows c.args.row []) c.args.column) c.requires.sound.rows.above c.requires.above in
    let lists_are : placed_lists c.as_slice-olds.result.now c.as_slice.result.now ≡ lists = ap (λ (o : List (List Term)). placed_lists o c.as_slice.result.now) c.as_slice-olds.ensures.value ∙ ap (λ (n : List (Option (List Term))). placed_lists s.rows.items n) c.as_slice.ensures.value in
    let d : ℤ = to_z w128 (of_z w128 c.in-Some.den) in
    let den_fits : FitsSigned w128 c.in-Some.den = search rules in
    let den_is : IsDenOf (width_of s) lists d = subst (IsDenOf (width_of s) lists) (sym (to_z-of_z w128 c.in-Some.den den_fits)) (subst (λ n. IsDenOf n lists c.in-Some.den) width (subst (λ (t : List (List Term)). IsDenOf (c.len.result + 1) t c.in-Some.den) lists_are c.in-Some.ensures.least)) in
    let h : ℕ = c.len-height.result in
    let height : h ≡ length s.members.items = omega (arith, c.len-height.ensures) in
    let inside : h < length news = omega (arith, c.in-Ok.ensures.long, height) in
    let last_is : c.placed-last.result.now ≡ slice_index_or lists h [] = placed_here s.rows.items news h c.placed-last.result.now c.index-olds-height.result c.index.result.now inside (omega (arith, c.in-Ok.ensures.long, s.filled)) (c.index-olds-height.is ∙ ap (λ (t : List (List Term)). slice_index_or t h c.index-olds-height.result) c.as_slice-olds.ensures.value) c.index.ensures c.placed-last.ensures in
    let within : h < length lists = omega (arith, long, height) in
    let fault_is : c.at_place.result ≡ fault.Wide k j = cc in
    let wide : (place : ℕ) → c.in-Err-row_numbers.fault ≡ faults.Wide place → (place < width_of s) × (is_wide (number_at (row_over d (width_of s) (slice_index_or lists h [])) place) ≡ true) =
    λ place place_is.
    let told = c.in-Err-row_numbers.ensures.wide place (ap Err place_is) in
    (omega (arith, told.0, width), subst (λ n. is_wide (number_at (row_over d n (slice_index_or lists h [])) place) ≡ true) width (subst (λ (t : List Term). is_wide (number_at (row_over d (c.len.result + 1) t) place) ≡ true) last_is told.1)) in
    fault_wide s c.args.row c.args.column h c.len-in-Err-row_numbers.result k j c.in-Err-row_numbers.fault (omega (arith, c.len-in-Err-row_numbers.ensures)) c.requires.row c.requires.column (omega (arith, height)) (c.at_place.ensures k j fault_is)
    (λ place place_is below. let told = wide place place_is in number_wide s c.args.row c.args.column lists d whole_up are den_is h place c.requires.row c.requires.column long (omega (arith, height)) told.0 told.1)
    (λ place place_is over. let told = wide place place_is in absurd (omega (arith, told.0, over)))

pub returns-clause-ok : goal.returns-clause-ok
returns-clause-ok c =
    let s = c.args.table.now in
    let width : c.len.result + 1 ≡ width_of s = omega (arith, c.len.ensures) in
    let news : List (Option (List Term)) = c.in-Ok.rows.items in
    let lists : List (List Term) = placed_lists s.rows.items news in
    let long : length lists ≡ length s.members.items + 1 = length-placed s.rows.items news ∙ c.in-Ok.ensures.long in
    let are : AreNewRows s c.args.row c.args.column lists = c.in-Ok.ensures.ok in
    let whole_up : pos 1 ≤ℤ exchanged_den s c.args.row c.args.column = times_above s.den (number_at (slice_index_or (table_of s).rows c.args.row []) c.args.column) c.requires.sound.rows.above c.requires.above in
    let lists_are : placed_lists c.as_slice-olds.result.now c.as_slice.result.now ≡ lists = ap (λ (o : List (List Term)). placed_lists o c.as_slice.result.now) c.as_slice-olds.ensures.value ∙ ap (λ (n : List (Option (List Term))). placed_lists s.rows.items n) c.as_slice.ensures.value in
    let lists_are-2 : placed_lists c.as_slice-olds.result.now c.as_slice-2.result.now ≡ lists = ap (λ (o : List (List Term)). placed_lists o c.as_slice-2.result.now) c.as_slice-olds.ensures.value ∙ ap (λ (n : List (Option (List Term))). placed_lists s.rows.items n) c.as_slice-2.ensures.value in
    let d : ℤ = to_z w128 (of_z w128 c.in-Some.den) in
    let den_fits : FitsSigned w128 c.in-Some.den = search rules in
    let den_is : IsDenOf (width_of s) lists d = subst (IsDenOf (width_of s) lists) (sym (to_z-of_z w128 c.in-Some.den den_fits)) (subst (λ n. IsDenOf n lists c.in-Some.den) width (subst (λ (t : List (List Term)). IsDenOf (c.len.result + 1) t c.in-Some.den) lists_are c.in-Some.ensures.least)) in
    let h : ℕ = c.len-height.result in
    let height : h ≡ length s.members.items = omega (arith, c.len-height.ensures) in
    let inside : h < length news = omega (arith, c.in-Ok.ensures.long, height) in
    let last_is : c.placed-last.result.now ≡ slice_index_or lists h [] = placed_here s.rows.items news h c.placed-last.result.now c.index-olds-height.result c.index.result.now inside (omega (arith, c.in-Ok.ensures.long, s.filled)) (c.index-olds-height.is ∙ ap (λ (t : List (List Term)). slice_index_or t h c.index-olds-height.result) c.as_slice-olds.ensures.value) c.index.ensures c.placed-last.ensures in
    let within : h < length lists = omega (arith, long, height) in
    let values_at : ℕ → ℕ → ℕ → List (List Term) → List ℤ = λ w v n t. map (λ row. number_at row v) (map (row_over d w) (take n t)) in
    let place : c.len.result + 1 - 1 ≡ length s.others.items = omega (arith, c.len.ensures) in
    record {
      long = c.in-Ok.ensures.long ∙ sym s.filled;
      rows = are;
      den_is = den_is;
      values_are = c.in-Ok-values_over.ensures.ok ∙ ap (values_at (c.len.result + 1) (c.len.result + 1 - 1) h) lists_are-2 ∙ ap (λ w. values_at w (c.len.result + 1 - 1) h lists) width ∙ ap (λ v. values_at (width_of s) v h lists) place ∙ ap (λ n. values_at (width_of s) (length s.others.items) n lists) height;
      objective_is = c.in-Ok-row_numbers.ensures.ok ∙ ap (row_over d (c.len.result + 1)) last_is ∙ ap (λ w. row_over d w (slice_index_or lists h [])) width ∙ ap (λ n. row_over d (width_of s) (slice_index_or lists n [])) height;
    }
