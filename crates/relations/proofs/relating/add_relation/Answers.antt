use Rattle.std.proofs.Common.{◌≡◌, ◌<◌, ◌∷◌, [], List, length, All, arith, subst, sym}
use Rattle.std.proofs.lemmas.List.Elements.{All-append, All-cons}
use Rattle.std.proofs.lemmas.Option.{slice_get_within}
use Rattle.sdc_base.specs.Systems.{NamesCells}
use Rattle.sdc_base.specs.declared.relation.Relation.{Relation}
use Rattle.linked_tables.specs.BookCells.{cells}
use Rattle.relations.proofs.Tables.{cell-of_trees}
use Rattle.relations.proofs.Holding.{at-named, tables-of}
use Rattle.sdc_base.proofs.GrowingLists.{all-nothing}
use Rattle.relations.proofs.relating.add_relation.Goals as goal

pub has_relation-requires-clause-cell : goal.has_relation-requires-clause-cell
has_relation-requires-clause-cell c = at-named (cells c.args.book.now) c.args.cell c.args.name.now c.requires.at

pub has_relation-requires-clause-known : goal.has_relation-requires-clause-known
has_relation-requires-clause-known c =
    let book = c.args.book.now in
    let long = (cell-of_trees book.trees book.tables c.args.name.now c.requires.book.trees (tables-of book c.requires.book) (at-named (cells book) c.args.cell c.args.name.now c.requires.at)).long in
    omega (arith, long, c.requires.known)

pub parts_of-requires-clause-long : goal.parts_of-requires-clause-long
parts_of-requires-clause-long c =
    let book = c.args.book.now in
    (cell-of_trees book.trees book.tables c.args.name.now c.requires.book.trees (tables-of book c.requires.book) (at-named (cells book) c.args.cell c.args.name.now c.requires.at)).long

pub returns-in_ok-push-clause-within : goal.returns-in_ok-push-clause-within
returns-in_ok-push-clause-within c =
    let book = c.args.book.now in
    let inside : c.args.cell < length book.marks = omega (arith, slice_get_within (cells book) c.args.cell c.args.name.now c.requires.at, c.requires.book.one_each) in
    subst (λ (relations : List Relation). All (NamesCells (length book.marks)) relations) (sym c.in_ok-push.ensures.items)
    (All-append (NamesCells (length book.marks)) _ _ c.requires.named
    (All-cons (NamesCells (length book.marks)) _ [] (record { total_named = inside; parts_named = c.in_ok-parts.ensures.named }) (all-nothing (NamesCells (length book.marks)))))
