use Rattle.std.proofs.Common.{List, ℕ, Ok, ◌≡◌, subst}
use Rattle.std.proofs.lemmas.Result.{err_from_is_err_and}
use Rattle.sdc_base.specs.Answers.{Fails}
use Rattle.job_inputs.proofs.Causes.{look-stops, contents-stop, look-ends, nothing-looked}
use Rattle.job_inputs.proofs.Listing.{tree-file-stops, tree-contents-stop, tree-is}
use Rattle.job_inputs.specs.CodeSources.{tree_in}
use Rattle.job_inputs.specs.Reading.{stopped_for}
use Rattle.plain_text.specs.Stops.{why_of}
use Rattle.job_inputs.specs.declared.file_ref.FileRef.TheVariants as file
use Rattle.job_inputs.proofs.codes.read_tree.Goals as goal

pub returns-in_err-bytes : goal.returns-in_err-bytes
returns-in_err-bytes g c =
    let p = err_from_is_err_and c.from_residual.result c.from_residual.ensures.1 in
    let e = c.in_err-bytes.field-0.0 in
    rw (p.1, p.2)
    (look-stops _ _ _ _ _ _ e _ _ _ (nothing-looked _ _) c.in_err-bytes.ensures
    (λ fs told fails. tree-file-stops fs c.args.place c.args.variable.now c.args.name.now c.args.lead.now (stopped_for e) fails)
    (λ fs told f held comes. comes))

pub returns-in_err-tree : goal.returns-in_err-tree
returns-in_err-tree g c =
    let p = err_from_is_err_and c.from_residual-in_err-tree.result c.from_residual-in_err-tree.ensures.1 in
    let r = c.in_err-tree.field-0.0 in
    let first = c.in_ok-bytes.ensures in
    let refused = subst (λ (bytes : List ℕ). Fails (why_of r) (tree_in (file.Hierarchy c.args.place) c.args.variable.now c.args.lead.now bytes)) c.as_slice.ensures.value c.in_err-tree.ensures.told in
    rw (p.1, p.2)
    (contents-stop _ _ _ r _ _ first.shelf c.in_err-tree.ensures.contents
    (λ fs told. tree-contents-stop fs c.args.place c.args.variable.now c.args.name.now c.args.lead.now c.in_ok-bytes.bytes.items (why_of r) (first.told fs told) refused))

pub returns : goal.returns
returns g c =
    let first = c.in_ok-bytes.ensures in
    let given = subst (λ (bytes : List ℕ). tree_in (file.Hierarchy c.args.place) c.args.variable.now c.args.lead.now bytes ≡ Ok c.in_ok-tree.tree) c.as_slice.ensures.value c.in_ok-tree.ensures.told in
    look-ends _ _ _ _ _ _ first.shelf (nothing-looked _ _)
    (λ fs told. tree-is fs c.args.place c.args.variable.now c.args.name.now c.args.lead.now c.in_ok-bytes.bytes.items c.in_ok-tree.tree (first.told fs told) given)
    tt
