-- Relations listed one after another.
use Rattle.std.proofs.Common.{◌≡◌, ℕ, zero, suc, ◌+◌, List, [], ◌∷◌, ◌++◌, length, map, All, arith, refl, ap, sym, subst, ◌∙◌}
use Rattle.std.specs.List.{range_with_len}
use Rattle.std.proofs.lemmas.List.{length-append, map-append}
use Rattle.std.proofs.lemmas.List.Elements.{All-append, All-cons, All-nil}
use Rattle.sdc_base.specs.Relations.{Sum, relations_among}
use Rattle.sdc_base.specs.Trees.{Tree}
use Rattle.sdc_base.specs.declared.dimension.Dimension.{Dimension}
use Rattle.cell_listing.specs.ListedRelations.{AreRelationsOf, IsOneMore, IsSumFor, total_and_parts}
use Rattle.cell_listing.specs.declared.listed_relations.ListedRelation.{ListedRelation}

-- these relations are listed, numbered from 0, each for its variable
pub record AreListed (trees : List Tree) (tables : List (List Dimension)) (sums : List Sum) (listed : List ListedRelation) : Type 0 where
  pub sums_are : map total_and_parts listed ≡ sums
  pub numbers : map (λ relation. relation.number) listed ≡ range_with_len 0 (length listed)
  pub variables : All (λ relation. IsSumFor trees tables (total_and_parts relation) relation.variable) listed

pub none_listed : (trees : List Tree) (tables : List (List Dimension)) → AreListed trees tables [] []
none_listed trees tables = record { sums_are = refl; numbers = refl; variables = All-nil (λ (relation : ListedRelation). IsSumFor trees tables (total_and_parts relation) relation.variable) }

-- numbers from one on, with the next
range-more : (start n : ℕ) → range_with_len start (n + 1) ≡ range_with_len start n ++ (start + n) ∷ []
range-more start zero = let same : start ≡ start + 0 = omega arith in ap (λ (k : ℕ). k ∷ []) same
range-more start (suc n) =
    let longer : suc n + 1 ≡ suc (n + 1) = omega arith in
    let same : (start + 1) + n ≡ start + suc n = omega arith in
    ap (range_with_len start) longer ∙ ap (λ (rest : List ℕ). start ∷ rest) (range-more (start + 1) n ∙ ap (λ (k : ℕ). range_with_len (start + 1) n ++ k ∷ []) same)

pub one_more : (trees : List Tree) (tables : List (List Dimension)) (sums : List Sum) (sum : Sum) (listed new : List ListedRelation) → AreListed trees tables sums listed → IsOneMore trees tables sum listed new → AreListed trees tables (sums ++ sum ∷ []) new
one_more trees tables sums sum listed new are is =
    let last : ListedRelation = record { number = length listed; total = sum.0; variable = is.variable; parts = sum.1 } in
    let number : ListedRelation → ℕ = λ relation. relation.number in
    let P : ListedRelation → Type 0 = λ relation. IsSumFor trees tables (total_and_parts relation) relation.variable in
    let count : length listed ≡ 0 + length listed = omega arith in
    let long : length new ≡ length listed + 1 = ap length is.added ∙ length-append listed (last ∷ []) in
    record {
      sums_are = ap (map total_and_parts) is.added ∙ map-append total_and_parts listed (last ∷ []) ∙ ap (λ (front : List Sum). front ++ sum ∷ []) are.sums_are;
      numbers = ap (map number) is.added ∙ map-append number listed (last ∷ []) ∙ ap (λ (front : List ℕ). front ++ length listed ∷ []) are.numbers ∙ ap (λ (k : ℕ). range_with_len 0 (length listed) ++ k ∷ []) count ∙ sym (range-more 0 (length listed)) ∙ ap (range_with_len 0) (sym long);
      variables = subst (All P) (sym is.added) (All-append P listed (last ∷ []) are.variables (All-cons P last [] is.its (All-nil P)));
    }

pub all_listed : (trees : List Tree) (tables : List (List Dimension)) (listed : List ListedRelation) → AreListed trees tables (relations_among trees tables) listed → AreRelationsOf trees tables listed
all_listed trees tables listed are = record { sums = are.sums_are; numbers = are.numbers; variables = are.variables }
