use Rattle.std.proofs.Common.{◌≡◌, ◌+◌, ◌++◌, [], ap, refl, ◌∙◌, Ok, List, ℕ, arith, length, length-append, ◌≤◌}
use Rattle.sdc_base.specs.Trees.{flat_tree}
use Rattle.code_trees.specs.FlatForm.{flat_of}
use Rattle.microdata.proofs.FlatCodes.{no-first-fault}
use Rattle.microdata.proofs.TreesMade.{memory-alone}
use Rattle.microdata.proofs.closing.flat_tree.Goals as goal

pub want_of-requires : goal.want_of-requires
want_of-requires c =
    let all : c.deref.result.now ≡ c.args.listed ++ c.args.further = c.deref.ensures.value ∙ c.in_ok-append.ensures.items ∙ (rw (c.into_vec-codes.ensures, c.in_ok-further.ensures.texts) refl) in
    let few : length {A = List ℕ} [] + length (c.args.listed ++ c.args.further) ≤ 5000 = omega (arith, c.requires.at_most_5000, length-append c.args.listed c.args.further) in
    let fine : flat_of c.args.total.now (c.args.listed ++ c.args.further) ≡ Ok (flat_tree c.args.total.now (c.args.listed ++ c.args.further)) =
    rw (no-first-fault c.args.total.now 1 [] (c.args.listed ++ c.args.further) c.requires.distinct few) refl in
    memory-alone c.in-Err.fault (flat_of c.args.total.now c.deref.result.now) (flat_tree c.args.total.now (c.args.listed ++ c.args.further)) (ap (flat_of c.args.total.now) all ∙ fine) c.in-Err.ensures.exact
