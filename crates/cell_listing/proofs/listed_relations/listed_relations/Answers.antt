use Rattle.std.proofs.Common.{◌≡◌, List, [], ◌∷◌, ◌++◌, map, All, ap, sym, subst, ◌∙◌}
use Rattle.std.proofs.lemmas.List.{map-append}
use Rattle.std.proofs.lemmas.List.Elements.{All-head, All-tail}
use Rattle.sdc_base.specs.Relations.{Sum}
use Rattle.sdc_base.specs.declared.relation.Relation.{Relation}
use Rattle.relations.specs.Holding.{sum_in}
use Rattle.cell_listing.specs.declared.listed_relations.ListedRelation.{ListedRelation}
use Rattle.cell_listing.proofs.RelationLists.{AreListed, none_listed, one_more}
use Rattle.cell_listing.proofs.RelationVariables.{all_for_some, IsForSome}
use Rattle.cell_listing.proofs.listed_relations.listed_relations.Goals as goal

pub add_relation-requires : goal.add_relation-requires
add_relation-requires c =
    let book = c.args.book.now in
    let relation = c.in-Some.relation in
    let left : List Relation = c.next.new.self.rest.items in
    let all : All (IsForSome book.trees book.tables) (sum_in relation ∷ map sum_in left) = subst (λ (items : List Relation). All (IsForSome book.trees book.tables) (map sum_in items)) c.in-Some.ensures.steps.0 c.relations.invariant.rest in
    All-head (IsForSome book.trees book.tables) (sum_in relation) (map sum_in left) all

pub relations-preserved : goal.relations-preserved
relations-preserved c =
    let book = c.args.book.now in
    let relation = c.in-Some.relation in
    let left : List Relation = c.next.new.self.rest.items in
    let sums : List Sum = map sum_in c.relations.yielded in
    let more : map sum_in (c.relations.yielded ++ relation ∷ []) ≡ sums ++ sum_in relation ∷ [] = map-append sum_in c.relations.yielded (relation ∷ []) in
    let one : AreListed book.trees book.tables (sums ++ sum_in relation ∷ []) c.add_relation.new.listed = one_more book.trees book.tables sums (sum_in relation) c.relations.listed c.add_relation.new.listed c.relations.invariant.are c.in_ok-add_relation.ensures in
    let all : All (IsForSome book.trees book.tables) (sum_in relation ∷ map sum_in left) = subst (λ (items : List Relation). All (IsForSome book.trees book.tables) (map sum_in items)) c.in-Some.ensures.steps.0 c.relations.invariant.rest in
    record {
      are = subst (λ (sums : List Sum). AreListed book.trees book.tables sums c.add_relation.new.listed) (sym more) one;
      rest = All-tail (IsForSome book.trees book.tables) (sum_in relation) (map sum_in left) all;
    }

pub relations-init : goal.relations-init
relations-init c =
    let book = c.args.book.now in
    let items : List Relation = c.into_iter-relation-iterator.result.rest.items in
    let same : items ≡ c.in_ok-system.system.relations = c.into_iter-relation-iterator.ensures.into_iter_gives.0 ∙ c.into_vec-relation-items.ensures in
    record {
      are = subst (λ (listed : List ListedRelation). AreListed book.trees book.tables [] listed) (sym c.empty-listed.ensures) (none_listed book.trees book.tables);
      rest = subst (All (IsForSome book.trees book.tables)) (sym (ap (map sum_in) same ∙ c.in_ok-system.ensures.exact)) (all_for_some book.trees book.tables);
    }
