use Rattle.std.proofs.Common.{◌≡◌, ◌+◌, ◌≤◌, ◌<◌, ◌++◌, ◌∷◌, [], ℕ, List, drop, length, slice_index, slice_index_or, ap, sym, ◌∙◌, subst, append_assoc, length-append, arith}
use Rattle.std.proofs.lemmas.List.{append-nil}
use Rattle.sdc_base.specs.declared.dimension.Dimension.{Dimension}
use Rattle.hypercube.specs.Branches.{codes_at}
use Rattle.hypercube.proofs.EdgeLists.{codes_at-next, codes_at-short, no_dimension}
use Rattle.hypercube.proofs.edges.codes_at.Goals as goal

pub returns-then-k-above : goal.returns-then-k-above
returns-then-k-above c =
    let done : List ℕ = c.variables.codes.items in
    let past : length c.args.parents.now ≤ c.variables.k = subst (λ list. length list ≤ c.variables.k) c.as_slice-above.ensures c.if-k-above.true in
    c.new.ensures
    ∙ sym (append-nil done)
    ∙ ap (λ (left : List ℕ). done ++ left) (sym (codes_at-short c.args.name.now c.args.table.now c.args.parents.now c.variables.k past))
    ∙ c.variables.invariant.rest

pub variables-preserved : goal.variables-preserved
variables-preserved c =
    let name : List ℕ = c.args.name.now in
    let table : List Dimension = c.args.table.now in
    let parents : List ℕ = c.args.parents.now in
    let k = c.variables.k in
    let done : List ℕ = c.variables.codes.items in
    let rest : List ℕ = codes_at name (drop (k + 1) table) (drop (k + 1) parents) in
    let within : k < length parents = subst (λ (list : List ℕ). k < length list) c.as_slice-above.ensures (omega (arith, c.if-k-above.false)) in
    let code : c.code_at-code.result ≡ slice_index name (slice_index_or table k no_dimension).variable =
    c.code_at-code.ensures
    ∙ ap (λ (codes : List ℕ). slice_index codes (slice_index_or c.as_slice.result.now k no_dimension).variable) c.as_slice-in-variables.ensures
    ∙ ap (λ (spanned : List Dimension). slice_index name (slice_index_or spanned k no_dimension).variable) c.as_slice.ensures
    in
    record {
      rest = ap (λ (codes : List ℕ). codes ++ rest) c.push.ensures.items
          ∙ ap (λ (one : ℕ). (done ++ one ∷ []) ++ rest) code
          ∙ append_assoc done (slice_index name (slice_index_or table k no_dimension).variable ∷ []) rest
          ∙ ap (λ (codes : List ℕ). done ++ codes) (sym (codes_at-next name table parents k no_dimension 0 (omega arith) within))
          ∙ c.variables.invariant.rest;
      few = ap (λ (codes : List ℕ). length codes) c.push.ensures.items ∙ length-append done (c.code_at-code.result ∷ []) ∙ ap (λ (n : ℕ). n + 1) c.variables.invariant.few;
    }
