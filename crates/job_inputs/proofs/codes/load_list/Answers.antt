use Rattle.std.proofs.Common.{List, ℕ, Ok, ◌≡◌, subst}
use Rattle.std.proofs.lemmas.Result.{err_from_is_err_and}
use Rattle.sdc_base.specs.Answers.{Fails}
use Rattle.sdc_base.specs.Steps.{map_fault}
use Rattle.hierarchy.specs.CodeList.{codes_of}
use Rattle.job_inputs.proofs.Causes.{look-stops, contents-stop, look-ends, nothing-looked}
use Rattle.job_inputs.proofs.Listing.{list-file-stops, list-contents-stop, list-is}
use Rattle.job_inputs.specs.Reading.{stopped_for}
use Rattle.plain_text.specs.Stops.{why_of}
use Rattle.job_inputs.specs.declared.faults.Fault.TheVariants as fault
use Rattle.job_inputs.specs.declared.file_ref.FileRef.TheVariants as file
use Rattle.job_inputs.proofs.codes.load_list.Goals as goal

pub returns-in_err-bytes : goal.returns-in_err-bytes
returns-in_err-bytes g c =
    let p = err_from_is_err_and c.from_residual.result c.from_residual.ensures.1 in
    let e = c.in_err-bytes.field-0.0 in
    rw (p.1, p.2)
    (look-stops _ _ _ _ _ _ e _ _ _ (nothing-looked _ _) c.in_err-bytes.ensures
    (λ fs told fails. list-file-stops fs c.args.place c.args.total.now c.args.name.now (stopped_for e) fails)
    (λ fs told f held comes. comes))

pub returns-in_err-codes : goal.returns-in_err-codes
returns-in_err-codes g c =
    let p = err_from_is_err_and c.from_residual-in_err-codes.result c.from_residual-in_err-codes.ensures.1 in
    let r = c.in_err-codes.field-0.0 in
    let total = c.args.total.now in
    let first = c.in_ok-bytes.ensures in
    let refused = subst (λ (bytes : List ℕ). Fails (why_of r) (map_fault (fault.Tree (file.CodeList c.args.place)) (codes_of total bytes))) c.as_slice.ensures.value c.in_err-codes.ensures.told in
    rw (p.1, p.2)
    (contents-stop _ _ _ r _ _ first.shelf c.in_err-codes.ensures.contents
    (λ fs told. list-contents-stop fs c.args.place total c.args.name.now c.in_ok-bytes.bytes.items (why_of r) (first.told fs told) refused))

pub returns : goal.returns
returns g c =
    let total = c.args.total.now in
    let first = c.in_ok-bytes.ensures in
    let codes = c.in_ok-codes.codes.items in
    let given = subst (λ (bytes : List ℕ). map_fault (fault.Tree (file.CodeList c.args.place)) (codes_of total bytes) ≡ Ok codes) c.as_slice.ensures.value c.in_ok-codes.ensures.told in
    look-ends _ _ _ _ _ _ first.shelf (nothing-looked _ _)
    (λ fs told. list-is fs c.args.place total c.args.name.now c.in_ok-bytes.bytes.items codes (first.told fs told) given)
    c.in_ok-codes.ensures.sound
