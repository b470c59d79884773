use Rattle.std.proofs.Common.{◌≡◌, ◌<◌, ◌≤◌, ◌+◌, ◌-◌, ℕ, ℤ, List, pos, length, slice_index, slice_index_or, ap, sym, subst, ◌∙◌, arith, rules, FitsSigned}
use Rattle.std.specs.Int.{w128}
use Rattle.std.proofs.lemmas.Int.{ints, to_z-of_z}
use Rattle.std.proofs.lemmas.List.{get_or_read}
use Rattle.sdc_base.specs.Forms.{Term, coefficient}
use Rattle.tableau.specs.RowLists.{lead}
use Rattle.tableau.specs.SparseTables.{table_of}
use Rattle.tableau.proofs.Independent.{by_less}
use Rattle.tableau.proofs.Places.{ascend_of, from_start, from_place, from_later, from_none}
use Rattle.tableau.proofs.Numbers.{slack_same, slack_none, slacks_same}
use Rattle.tableau.proofs.lists.first_apart.Goals as goal

pub merge-init : goal.merge-init
merge-init c =
    record {
      within = omega arith;
      passed = from_start c.row_of-entries.result.now (ascend_of 0 (length c.args.column.now.table.now.others.items + 2) c.row_of-entries.result.now c.row_of-entries.ensures.sparse);
      other_passed = from_start c.row_of-other_entries.result.now (ascend_of 0 (length c.args.column.now.table.now.others.items + 2) c.row_of-other_entries.result.now c.row_of-other_entries.ensures.sparse);
      short = omega (arith, c.min-apart.ensures, c.own_place.ensures.within);
      own_up = λ slack. omega (arith, c.min-apart.ensures, c.own_place.ensures.slack slack);
      other_up = λ slack. omega (arith, c.min-apart.ensures, c.own_place-2.ensures.slack slack);
      same = λ k below. absurd (omega (arith, below));
    }

pub entry_here-here-requires : goal.entry_here-here-requires
entry_here-here-requires c =
    let l = c.merge in
    let w : ℕ = c.len-width.result in
    let one : l.next ≤ c.place_at.result = subst (λ n. l.next ≤ n) (sym c.place_at.ensures) (from_place l.next l.i w c.row_of-entries.result.now l.invariant.passed l.invariant.within) in
    let other : l.next ≤ c.place_at-in-merge.result = subst (λ n. l.next ≤ n) (sym c.place_at-in-merge.ensures) (from_place l.next l.j w c.row_of-other_entries.result.now l.invariant.other_passed l.invariant.within) in
    from_later l.next l.i w c.least_place-place.result c.row_of-entries.result.now l.invariant.passed (c.least_place-place.ensures.from l.next one other) (subst (λ n. c.least_place-place.result ≤ n) c.place_at.ensures c.least_place-place.ensures.one)

pub entry_here-there-requires : goal.entry_here-there-requires
entry_here-there-requires c =
    let l = c.merge in
    let w : ℕ = c.len-width.result in
    let one : l.next ≤ c.place_at.result = subst (λ n. l.next ≤ n) (sym c.place_at.ensures) (from_place l.next l.i w c.row_of-entries.result.now l.invariant.passed l.invariant.within) in
    let other : l.next ≤ c.place_at-in-merge.result = subst (λ n. l.next ≤ n) (sym c.place_at-in-merge.ensures) (from_place l.next l.j w c.row_of-other_entries.result.now l.invariant.other_passed l.invariant.within) in
    from_later l.next l.j w c.least_place-place.result c.row_of-other_entries.result.now l.invariant.other_passed (c.least_place-place.ensures.from l.next one other) (subst (λ n. c.least_place-place.result ≤ n) c.place_at-in-merge.ensures c.least_place-place.ensures.other)

pub nearer_place-apart-requires-clause-times : goal.nearer_place-apart-requires-clause-times
nearer_place-apart-requires-clause-times c =
    let q : ℤ = c.member_number-other_own.result in
    let q_fits : FitsSigned w128 q = search rules in
    omega (arith, ints, to_z-of_z w128 q q_fits, c.member_number-other_own.ensures.back c.requires.rows.other_above)

pub nearer_place-apart-requires-clause-other_times : goal.nearer_place-apart-requires-clause-other_times
nearer_place-apart-requires-clause-other_times c =
    let p : ℤ = c.member_number-own.result in
    let p_fits : FitsSigned w128 p = search rules in
    omega (arith, ints, to_z-of_z w128 p p_fits, c.member_number-own.ensures.back c.requires.rows.one_above)

pub merge-smaller : goal.merge-smaller
merge-smaller c =
    let l = c.merge in
    let w : ℕ = c.len-width.result in
    let one : l.next ≤ c.place_at.result = subst (λ n. l.next ≤ n) (sym c.place_at.ensures) (from_place l.next l.i w c.row_of-entries.result.now l.invariant.passed l.invariant.within) in
    let other : l.next ≤ c.place_at-in-merge.result = subst (λ n. l.next ≤ n) (sym c.place_at-in-merge.ensures) (from_place l.next l.j w c.row_of-other_entries.result.now l.invariant.other_passed l.invariant.within) in
    let up : l.next ≤ c.least_place-place.result = c.least_place-place.ensures.from l.next one other in
    let less : w - (c.least_place-place.result + 1) < w - l.next = omega (arith, c.if-place-width.false) in
    less

pub merge-preserved : goal.merge-preserved
merge-preserved c =
    let l = c.merge in
    let s = c.args.column.now.table.now in
    let problem = c.args.column.now.problem.now in
    let entries : List Term = c.row_of-entries.result.now in
    let other_entries : List Term = c.row_of-other_entries.result.now in
    let row_is = c.row_of-entries.ensures.row_at in
    let other_is = c.row_of-other_entries.ensures.row_at in
    let p : ℤ = c.member_number-own.result in
    let q : ℤ = c.member_number-other_own.result in
    let lead_at : ℕ → ℤ = λ k. lead problem (table_of s) c.args.column.now.place c.args.other c.args.one (slice_index s.others.items k - problem.columns + 1) in
    let place : ℕ = c.least_place-place.result in
    let one_up : place ≤ (slice_index_or entries l.i (c.len-width.result, pos 0)).0 = subst (λ n. place ≤ n) c.place_at.ensures c.least_place-place.ensures.one in
    let other_up : place ≤ (slice_index_or other_entries l.j (c.len-width.result, pos 0)).0 = subst (λ n. place ≤ n) c.place_at-in-merge.ensures c.least_place-place.ensures.other in
    let between : (k : ℕ) → l.next ≤ k → k < place → k < length s.others.items → problem.columns ≤ slice_index s.others.items k → lead_at k ≡ pos 0 =
    λ k from below inside slack.
    slack_none problem s c.args.column.now.place c.args.one c.args.other k p q c.requires.column.kept c.requires.rows.one_within c.requires.rows.other_within inside slack
    (ap (λ (e : List Term). coefficient e k) (sym row_is) ∙ from_none l.next l.i c.len-width.result k entries l.invariant.passed from (omega (arith, below, one_up)))
    (ap (λ (e : List Term). coefficient e k) (sym other_is) ∙ from_none l.next l.j c.len-width.result k other_entries l.invariant.other_passed from (omega (arith, below, other_up)))
    c.member_number-own.ensures.over c.member_number-other_own.ensures.over in
    let x : ℤ = c.entry_here-here.result.0 in
    let y : ℤ = c.entry_here-there.result.0 in
    let x_fits : FitsSigned w128 x = search rules in
    let y_fits : FitsSigned w128 y = search rules in
    let p_fits : FitsSigned w128 p = search rules in
    let q_fits : FitsSigned w128 q = search rules in
    let inside_place : place < length s.others.items = omega (arith, c.if-place-width.false, c.len-width.ensures) in
    let name : ℕ = slice_index s.others.items place in
    let name_is : c.index.result.now ≡ name = get_or_read s.others.items place c.index.result.now inside_place c.index.ensures 0 in
    let nearer : c.nearer_place-apart.result ≤ l.apart = c.nearer_place-apart.ensures.within in
    let here : problem.columns ≤ name → name - problem.columns + 1 < c.nearer_place-apart.result → lead_at place ≡ pos 0 =
    λ slack near.
    let told = c.nearer_place-apart.ensures.same (omega (arith, name_is, near, c.list_place-at.ensures.slack (omega (arith, name_is, slack)))) in
    slack_same problem s c.args.column.now.place c.args.one c.args.other place p q x y c.requires.column.kept c.requires.rows.one_within c.requires.rows.other_within inside_place slack
    (c.entry_here-here.ensures.number ∙ ap (λ (e : List Term). coefficient e place) row_is) (c.entry_here-there.ensures.number ∙ ap (λ (e : List Term). coefficient e place) other_is)
    c.member_number-own.ensures.over c.member_number-other_own.ensures.over (simp to_z-of_z at told) in
    record {
      within = omega (arith, c.if-place-width.false);
      passed = c.entry_here-here.ensures.past;
      other_passed = c.entry_here-there.ensures.past;
      short = omega (arith, nearer, l.invariant.short);
      own_up = λ slack. omega (arith, nearer, l.invariant.own_up slack);
      other_up = λ slack. omega (arith, nearer, l.invariant.other_up slack);
      same = λ k below inside slack near.
          by_less k place
          (λ less. by_less k l.next (λ under. l.invariant.same k under inside slack (omega (arith, near, nearer))) (λ over. between k over less inside slack))
          (λ more.
          let at : k ≡ place = omega (arith, below, more) in
          ap lead_at at ∙ here (subst (λ n. problem.columns ≤ slice_index s.others.items n) at slack) (subst (λ n. slice_index s.others.items n - problem.columns + 1 < c.nearer_place-apart.result) at near));
    }

pub returns-clause-same : goal.returns-clause-same
returns-clause-same c =
    let l = c.merge in
    let s = c.args.column.now.table.now in
    slacks_same c.args.column.now.problem.now (table_of s) c.args.column.now.place c.args.one c.args.other l.apart c.requires.column.kept c.requires.rows.one_within c.requires.rows.other_within l.invariant.own_up l.invariant.other_up
    (λ k inside. l.invariant.same k (omega (arith, inside, c.merge-test.false, c.len-width.ensures)) inside)

pub returns-then-place-width-clause-same : goal.returns-then-place-width-clause-same
returns-then-place-width-clause-same c =
    let l = c.merge in
    let s = c.args.column.now.table.now in
    let problem = c.args.column.now.problem.now in
    let entries : List Term = c.row_of-entries.result.now in
    let other_entries : List Term = c.row_of-other_entries.result.now in
    let row_is = c.row_of-entries.ensures.row_at in
    let other_is = c.row_of-other_entries.ensures.row_at in
    let p : ℤ = c.member_number-own.result in
    let q : ℤ = c.member_number-other_own.result in
    let lead_at : ℕ → ℤ = λ k. lead problem (table_of s) c.args.column.now.place c.args.other c.args.one (slice_index s.others.items k - problem.columns + 1) in
    let place : ℕ = c.least_place-place.result in
    let one_up : place ≤ (slice_index_or entries l.i (c.len-width.result, pos 0)).0 = subst (λ n. place ≤ n) c.place_at.ensures c.least_place-place.ensures.one in
    let other_up : place ≤ (slice_index_or other_entries l.j (c.len-width.result, pos 0)).0 = subst (λ n. place ≤ n) c.place_at-in-merge.ensures c.least_place-place.ensures.other in
    let between : (k : ℕ) → l.next ≤ k → k < place → k < length s.others.items → problem.columns ≤ slice_index s.others.items k → lead_at k ≡ pos 0 =
    λ k from below inside slack.
    slack_none problem s c.args.column.now.place c.args.one c.args.other k p q c.requires.column.kept c.requires.rows.one_within c.requires.rows.other_within inside slack
    (ap (λ (e : List Term). coefficient e k) (sym row_is) ∙ from_none l.next l.i c.len-width.result k entries l.invariant.passed from (omega (arith, below, one_up)))
    (ap (λ (e : List Term). coefficient e k) (sym other_is) ∙ from_none l.next l.j c.len-width.result k other_entries l.invariant.other_passed from (omega (arith, below, other_up)))
    c.member_number-own.ensures.over c.member_number-other_own.ensures.over in
    slacks_same problem (table_of s) c.args.column.now.place c.args.one c.args.other l.apart c.requires.column.kept c.requires.rows.one_within c.requires.rows.other_within l.invariant.own_up l.invariant.other_up
    (λ k inside slack near. by_less k l.next (λ under. l.invariant.same k under inside slack near) (λ over. between k over (omega (arith, inside, c.if-place-width.true, c.len-width.ensures)) inside slack))
