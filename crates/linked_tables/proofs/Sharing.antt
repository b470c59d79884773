-- Which cells a table names, by their codes, and which two tables share.
use Rattle.std.proofs.Common.{◌≡◌, ℕ, suc, ◌<◌, ◌==◌, ◌&&◌, ◌||◌, nat_le, nat_lt, not, Bool, true, false, List, [], ◌∷◌, length, map, get_or, slice_index_or, if◌then◌else◌, bytes_eq, All, Option, None, Some, is_some, arith, refl, ap, sym, ◌∙◌, subst}
use Rattle.std.specs.List.{list_any}
use Rattle.std.specs.Option.{option_map_or}
use Rattle.std.proofs.lemmas.Bool.Decides.{nat_tests, Decides-eqb}
use Rattle.std.proofs.lemmas.List.{get_or-replicate, length-replicate}
use Rattle.std.proofs.lemmas.List.FromFn.{get_or-map-range_with_len}
use Rattle.std.proofs.lemmas.List.Sorted.{list_any-IsPermutation}
use Rattle.std.proofs.lemmas.Slice.Eq.{bytes_eq-Decides}
use Rattle.sdc_base.specs.Trees.{IsCodeTree, Tree}
use Rattle.sdc_base.specs.CutTrees.{has_code}
use Rattle.sdc_base.specs.Records.{Name}
use Rattle.sdc_base.specs.Cells.{code_for, cut_tree, is_named, named_by, name_of, places, trees_of, spans}
use Rattle.sdc_base.specs.CellOrder.{is_place_in}
use Rattle.sdc_base.specs.declared.dimension.Dimension.{Dimension}
use Rattle.sdc_base.proofs.CutTrees.{total-within}
use Rattle.sdc_base.proofs.Places.{places_are_lexicographic}
use Rattle.sdc_base.proofs.PlaceLists.{name_length}
use Rattle.linked_tables.specs.Tables.{has_twice, has_unknown}
use Rattle.linked_tables.specs.BookCells.{IsTable}
use Rattle.linked_tables.specs.Laws.{dimension_of, is_code, CellsByCode, TurnedShareAll, ApartShareTotal, grand_total}
use Rattle.linked_tables.proofs.Finding.{named-map}

-- ---- a table's name has its place

unmapped : (variables : ℕ) (table : List Dimension) (found : List (List ℕ)) (name : Name) → is_named (map (name_of variables table) found) name ≡ true → (place : List ℕ) × (is_named found place ≡ true) × (name ≡ name_of variables table place)
unmapped variables table [] name h = cc
unmapped variables table (place ∷ found) name h =
    elim (bytes_eq name (name_of variables table place)) as (λ b. bytes_eq name (name_of variables table place) ≡ b → (b || is_named (map (name_of variables table) found) name) ≡ true → (one : List ℕ) × (is_named (place ∷ found) one ≡ true) × (name ≡ name_of variables table one)) [
      | true ↦ λ is h. let same : bytes_eq place place ≡ true = (bytes_eq-Decides place place).1 refl in (place, rw same refl, (bytes_eq-Decides name (name_of variables table place)).0 is)
      | false ↦ λ is h. let rest = unmapped variables table found name h in (rest.0, rw rest.1 (either (bytes_eq rest.0 place)), rest.2)
    ] refl h
  where
    either : (b : Bool) → (b || true) ≡ true
    either true = refl
    either false = refl

-- ---- how a table spans a variable

-- some way exactly where it spans it
pub dimension-spans : (table : List Dimension) (variable : ℕ) → is_some (dimension_of table variable) ≡ spans table variable
dimension-spans [] variable = refl
dimension-spans (dimension ∷ table) variable =
    elim (dimension.variable == variable) as (λ b. is_some (if b then Some dimension else dimension_of table variable) ≡ (b || spans table variable)) [ true ↦ refl | false ↦ dimension-spans table variable ]

-- and it is of that variable
pub dimension-is : (table : List Dimension) (variable : ℕ) (d : Dimension) → dimension_of table variable ≡ Some d → d.variable ≡ variable
dimension-is [] variable d h = cc
dimension-is (dimension ∷ table) variable d h =
    elim (dimension.variable == variable) as (λ b. (dimension.variable == variable) ≡ b → (if b then Some dimension else dimension_of table variable) ≡ Some d → d.variable ≡ variable) [
      | true ↦ λ is h. let same : dimension ≡ d = some-same h in ap (λ (one : Dimension). one.variable) (sym same) ∙ (Decides-eqb dimension.variable variable).0 is
      | false ↦ λ is h. dimension-is table variable d h
    ] refl h
  where
    some-same : {X : Type 0} {x y : X} → Some x ≡ Some y → x ≡ y
    some-same h = cc

-- ---- the codes of a place

pub code-good : (trees : List Tree) (table : List Dimension) (place : List ℕ) (variable : ℕ) → is_place_in (trees_of trees table) place ≡ true → is_code trees table variable (code_for table place variable) ≡ true
code-good trees [] place variable h = refl
code-good trees (dimension ∷ table) [] variable h = cc
code-good trees (dimension ∷ table) (code ∷ place) variable h =
    let both = parts (has_code (cut_tree trees dimension) code) (is_place_in (trees_of trees table) place) h in
    elim (dimension.variable == variable) as (λ b. option_map_or (λ d. has_code (cut_tree trees d) (if b then code else code_for table place variable)) (if b then Some dimension else dimension_of table variable) ((if b then code else code_for table place variable) == 0) ≡ true) [
      | true ↦ both.0
      | false ↦ code-good trees table place variable both.1
    ]
  where
    parts : (a b : Bool) → (a && b) ≡ true → (a ≡ true) × (b ≡ true)
    parts true true h = (refl, refl)
    parts true false h = cc
    parts false b h = cc

-- ---- the place of a name

abbrev pub codes_at : Name → List Dimension → List ℕ
codes_at name table = map (λ dimension. get_or name dimension.variable 0) table

pub code-back : (name : Name) (table : List Dimension) (variable : ℕ) → code_for table (codes_at name table) variable ≡ (if spans table variable then get_or name variable 0 else 0)
code-back name [] variable = refl
code-back name (dimension ∷ table) variable =
    elim (dimension.variable == variable) as (λ b. (dimension.variable == variable) ≡ b → (if b then get_or name dimension.variable 0 else code_for table (codes_at name table) variable) ≡ (if b || spans table variable then get_or name variable 0 else 0)) [
      | true ↦ λ is. ap (λ v. get_or name v 0) ((Decides-eqb dimension.variable variable).0 is)
      | false ↦ λ is. code-back name table variable
    ] refl

-- a place whose codes the table has
pub place-good : (trees : List Tree) (name : Name) (table : List Dimension) → has_twice table ≡ false → ((variable : ℕ) (d : Dimension) → dimension_of table variable ≡ Some d → has_code (cut_tree trees d) (get_or name variable 0) ≡ true)
    → is_place_in (trees_of trees table) (codes_at name table) ≡ true
place-good trees name [] once each = refl
place-good trees name (dimension ∷ table) once each =
    let parts = neither (spans table dimension.variable) (has_twice table) once in
    let here : (dimension.variable == dimension.variable) ≡ true = (Decides-eqb dimension.variable dimension.variable).1 refl in
    let first : has_code (cut_tree trees dimension) (get_or name dimension.variable 0) ≡ true = each dimension.variable dimension (ap (λ b. if b then Some dimension else dimension_of table dimension.variable) here) in
    let rest = place-good trees name table parts.1 (λ variable d h. each variable d (later variable d h (dimension.variable == variable) refl parts.0)) in
    rw (first, rest) refl
  where
    neither : (a b : Bool) → (a || b) ≡ false → (a ≡ false) × (b ≡ false)
    neither true b h = cc
    neither false b h = (refl, h)

    later : (variable : ℕ) (d : Dimension) → dimension_of table variable ≡ Some d → (b : Bool) → (dimension.variable == variable) ≡ b → spans table dimension.variable ≡ false → (if dimension.variable == variable then Some dimension else dimension_of table variable) ≡ Some d
    later variable d h true is none =
        let same : dimension.variable ≡ variable = (Decides-eqb dimension.variable variable).0 is in
        let spanned : true ≡ false = sym (ap is_some h) ∙ dimension-spans table variable ∙ ap (spans table) (sym same) ∙ none in
        cc
    later variable d h false is none = ap (λ b. if b then Some dimension else dimension_of table variable) is ∙ h

-- ---- lists of equal length with equal items

pub same-items : (xs ys : List ℕ) → length xs ≡ length ys → ((i : ℕ) → i < length xs → get_or xs i 0 ≡ get_or ys i 0) → xs ≡ ys
same-items [] [] h each = refl
same-items [] (y ∷ ys) h each = cc
same-items (x ∷ xs) [] h each = cc
same-items (x ∷ xs) (y ∷ ys) h each =
    let first : x ≡ y = each 0 (omega arith) in
    let lengths : length xs ≡ length ys = omega (arith, h) in
    let rest : xs ≡ ys = same-items xs ys lengths (λ i inside. each (suc i) (omega (arith, inside))) in
    ap (λ z. z ∷ xs) first ∙ ap (λ zs. y ∷ zs) rest

pub name-codes : (n : ℕ) (table : List Dimension) (place : List ℕ) (variable : ℕ) → variable < n → get_or (name_of n table place) variable 0 ≡ code_for table place variable
name-codes n table place variable h = get_or-map-range_with_len (code_for table place) 0 n variable variable 0 h (omega arith)

pub known-below : (variables : ℕ) (table : List Dimension) (variable : ℕ) → has_unknown variables table ≡ false → spans table variable ≡ true → variable < variables
known-below variables [] variable known h = cc
known-below variables (dimension ∷ table) variable known h =
    elim (dimension.variable == variable) as (λ b. (dimension.variable == variable) ≡ b → (b || spans table variable) ≡ true → variable < variables) [
      | true ↦ λ is h. let same : dimension.variable ≡ variable = (Decides-eqb dimension.variable variable).0 is in subst (λ v. v < variables) same (below dimension.variable (first (nat_le variables dimension.variable) (has_unknown variables table) known))
      | false ↦ λ is h. known-below variables table variable (second (nat_le variables dimension.variable) (has_unknown variables table) known) h
    ] refl h
  where
    first : (a b : Bool) → (a || b) ≡ false → a ≡ false
    first true b h = cc
    first false b h = refl

    second : (a b : Bool) → (a || b) ≡ false → b ≡ false
    second true b h = cc
    second false b h = h

    below : (one : ℕ) → nat_le variables one ≡ false → one < variables
    below one h = grind (arith, nat_tests)

-- ---- a place is that of its name

pub place-long : (trees : List Tree) (table : List Dimension) (place : List ℕ) → is_place_in (trees_of trees table) place ≡ true → length place ≡ length table
place-long trees [] [] h = refl
place-long trees [] (code ∷ place) h = cc
place-long trees (dimension ∷ table) [] h = cc
place-long trees (dimension ∷ table) (code ∷ place) h =
    let rest = place-long trees table place (second (has_code (cut_tree trees dimension) code) (is_place_in (trees_of trees table) place) h) in
    omega (arith, rest)
  where
    second : (a b : Bool) → (a && b) ≡ true → b ≡ true
    second true b h = h
    second false b h = cc

skip : (dimension : Dimension) (code : ℕ) (table : List Dimension) (place : List ℕ) (some : List Dimension) → spans some dimension.variable ≡ false
    → map (λ (d : Dimension). code_for (dimension ∷ table) (code ∷ place) d.variable) some ≡ map (λ (d : Dimension). code_for table place d.variable) some
skip dimension code table place [] apart = refl
skip dimension code table place (one ∷ some) apart =
    let parts = both (one.variable == dimension.variable) (spans some dimension.variable) apart in
    let test : (dimension.variable == one.variable) ≡ false = grind (arith, nat_tests, parts.0) in
    let rest = skip dimension code table place some parts.1 in
    rw (test, rest) refl
  where
    both : (a b : Bool) → (a || b) ≡ false → (a ≡ false) × (b ≡ false)
    both true b h = cc
    both false b h = (refl, h)

codes-forth : (table : List Dimension) (place : List ℕ) → has_twice table ≡ false → length place ≡ length table → map (λ (d : Dimension). code_for table place d.variable) table ≡ place
codes-forth [] [] once long = refl
codes-forth [] (code ∷ place) once long = cc
codes-forth (dimension ∷ table) [] once long = cc
codes-forth (dimension ∷ table) (code ∷ place) once long =
    let parts = both (spans table dimension.variable) (has_twice table) once in
    let here : (dimension.variable == dimension.variable) ≡ true = (Decides-eqb dimension.variable dimension.variable).1 refl in
    let rest : map (λ (d : Dimension). code_for (dimension ∷ table) (code ∷ place) d.variable) table ≡ place = skip dimension code table place table parts.0 ∙ codes-forth table place parts.1 (omega (arith, long)) in
    rw (here, rest) refl
  where
    both : (a b : Bool) → (a || b) ≡ false → (a ≡ false) × (b ≡ false)
    both true b h = cc
    both false b h = (refl, h)

codes-of-name : (n : ℕ) (table : List Dimension) (place : List ℕ) (some : List Dimension) → has_unknown n some ≡ false → codes_at (name_of n table place) some ≡ map (λ (d : Dimension). code_for table place d.variable) some
codes-of-name n table place [] known = refl
codes-of-name n table place (dimension ∷ some) known =
    let parts = both (nat_le n dimension.variable) (has_unknown n some) known in
    let below : dimension.variable < n = grind (arith, nat_tests, parts.0) in
    let first = name-codes n table place dimension.variable below in
    let rest = codes-of-name n table place some parts.1 in
    rw (first, rest) refl
  where
    both : (a b : Bool) → (a || b) ≡ false → (a ≡ false) × (b ≡ false)
    both true b h = cc
    both false b h = (refl, h)

pub place-of-name : (trees : List Tree) (table : List Dimension) (place : List ℕ) → IsTable (length trees) table → is_place_in (trees_of trees table) place ≡ true → codes_at (name_of (length trees) table place) table ≡ place
place-of-name trees table place sound inside = codes-of-name (length trees) table place table sound.known ∙ codes-forth table place sound.once (place-long trees table place inside)

-- ---- the cells of a table by their codes

pub named-codes : (trees : List Tree) (table : List Dimension) (name : Name) → is_named (named_by trees table) name ≡ true → (variable : ℕ) → variable < length trees → is_code trees table variable (get_or name variable 0) ≡ true
named-codes trees table name h variable below =
    let found = unmapped (length trees) table (places (trees_of trees table)) name h in
    let inside : is_place_in (trees_of trees table) found.0 ≡ true = sym (places_are_lexicographic.all (trees_of trees table) found.0) ∙ found.1 in
    let code : get_or name variable 0 ≡ code_for table found.0 variable = ap (λ one. get_or one variable 0) found.2 ∙ name-codes (length trees) table found.0 variable below in
    ap (is_code trees table variable) code ∙ code-good trees table found.0 variable inside

pub codes-named : (trees : List Tree) (table : List Dimension) (name : Name) → IsTable (length trees) table → length name ≡ length trees → ((variable : ℕ) → variable < length trees → is_code trees table variable (get_or name variable 0) ≡ true)
    → is_named (named_by trees table) name ≡ true
codes-named trees table name sound long each =
    let place = codes_at name table in
    let inside : is_place_in (trees_of trees table) place ≡ true = place-good trees name table sound.once spanned in
    let listed : is_named (places (trees_of trees table)) place ≡ true = places_are_lexicographic.all (trees_of trees table) place ∙ inside in
    let same : name_of (length trees) table place ≡ name =
    same-items (name_of (length trees) table place) name (name_length table place (length trees) ∙ sym long)
    (λ variable below. let under : variable < length trees = subst (λ n. variable < n) (name_length table place (length trees)) below in
    name-codes (length trees) table place variable under ∙ code-back name table variable ∙ ap (λ b. if b then get_or name variable 0 else 0) (sym (dimension-spans table variable)) ∙ back variable (dimension_of table variable) (each variable under))
    in
    subst (λ one. is_named (named_by trees table) one ≡ true) same (named-map (length trees) table (places (trees_of trees table)) place listed)
  where
    spanned : (variable : ℕ) (d : Dimension) → dimension_of table variable ≡ Some d → has_code (cut_tree trees d) (get_or name variable 0) ≡ true
    spanned variable d h =
        let under = known-below (length trees) table variable sound.known (sym (dimension-spans table variable) ∙ ap is_some h) in
        ap (λ (found : Option Dimension). option_map_or (λ one. has_code (cut_tree trees one) (get_or name variable 0)) found (get_or name variable 0 == 0)) (sym h) ∙ each variable under

    back : (variable : ℕ) (found : Option Dimension) → option_map_or (λ d. has_code (cut_tree trees d) (get_or name variable 0)) found (get_or name variable 0 == 0) ≡ true → (if is_some found then get_or name variable 0 else 0) ≡ get_or name variable 0
    back variable (Some d) good = refl
    back variable None good = sym ((Decides-eqb (get_or name variable 0) 0).0 good)

pub cells_by_code : CellsByCode
cells_by_code = λ trees table name sound long. (named-codes trees table name, codes-named trees table name sound long)

-- ---- tables over the same variables

pub name-long : (trees : List Tree) (table : List Dimension) (name : Name) → is_named (named_by trees table) name ≡ true → length name ≡ length trees
name-long trees table name h =
    let found = unmapped (length trees) table (places (trees_of trees table)) name h in
    ap length found.2 ∙ name_length table found.0 (length trees)

-- the dimension is of the variable, and has the code
abbrev has_for : List Tree → ℕ → ℕ → Dimension → Bool
has_for trees variable code dimension = dimension.variable == variable && has_code (cut_tree trees dimension) code

none-has : (trees : List Tree) (table : List Dimension) (variable code : ℕ) → spans table variable ≡ false → list_any (has_for trees variable code) table ≡ false
none-has trees [] variable code h = refl
none-has trees (dimension ∷ table) variable code h =
    let parts = both (dimension.variable == variable) (spans table variable) h in
    let rest = none-has trees table variable code parts.1 in
    rw (parts.0, rest) refl
  where
    both : (a b : Bool) → (a || b) ≡ false → (a ≡ false) × (b ≡ false)
    both true b h = cc
    both false b h = (refl, h)

-- the same in words that don't know an order
code-by-any : (trees : List Tree) (table : List Dimension) (variable code : ℕ) → has_twice table ≡ false → is_code trees table variable code ≡ (list_any (has_for trees variable code) table || (not (spans table variable) && (code == 0)))
code-by-any trees [] variable code once = refl
code-by-any trees (dimension ∷ table) variable code once =
    let parts = both (spans table dimension.variable) (has_twice table) once in
    elim (dimension.variable == variable) as (λ b. (dimension.variable == variable) ≡ b
    → option_map_or (λ d. has_code (cut_tree trees d) code) (if b then Some dimension else dimension_of table variable) (code == 0) ≡ (((b && has_code (cut_tree trees dimension) code) || list_any (has_for trees variable code) table) || (not (b || spans table variable) && (code == 0)))) [
      | true ↦ λ is.
          let apart : spans table variable ≡ false = ap (spans table) (sym ((Decides-eqb dimension.variable variable).0 is)) ∙ parts.0 in
          let none = none-has trees table variable code apart in
          rw none (alone (has_code (cut_tree trees dimension) code))
      | false ↦ λ is. code-by-any trees table variable code parts.1
    ] refl
  where
    both : (a b : Bool) → (a || b) ≡ false → (a ≡ false) × (b ≡ false)
    both true b h = cc
    both false b h = (refl, h)

    alone : (b : Bool) → b ≡ ((b || false) || false)
    alone true = refl
    alone false = refl

turned : (trees : List Tree) (table other : List Dimension) (name : Name) → IsTable (length trees) other → ((variable code : ℕ) → is_code trees table variable code ≡ is_code trees other variable code) → is_named (named_by trees table) name ≡ true → is_named (named_by trees other) name ≡ true
turned trees table other name sound same h =
    codes-named trees other name sound (name-long trees table name h) (λ variable below. sym (same variable (get_or name variable 0)) ∙ named-codes trees table name h variable below)

pub turned_share_all : TurnedShareAll
turned_share_all = λ trees table other name sound sound_other permuted.
    let same : (variable code : ℕ) → is_code trees table variable code ≡ is_code trees other variable code = λ variable code.
    code-by-any trees table variable code sound.once
    ∙ ap (λ b. b || (not (spans table variable) && (code == 0))) (list_any-IsPermutation (has_for trees variable code) table other permuted)
    ∙ ap (λ b. list_any (has_for trees variable code) other || (not b && (code == 0))) (list_any-IsPermutation (λ (dimension : Dimension). dimension.variable == variable) table other permuted)
    ∙ sym (code-by-any trees other variable code sound_other.once)
    in
    (turned trees table other name sound_other same, turned trees other table name sound (λ variable code. sym (same variable code)))

-- ---- tables that share no variable

-- the total's code is one that every table has
pub zero-good : (trees : List Tree) (table : List Dimension) (variable : ℕ) → IsCodeTree (slice_index_or trees variable []) → is_code trees table variable 0 ≡ true
zero-good trees table variable is = by (dimension_of table variable) refl
  where
    by : (found : Option Dimension) → dimension_of table variable ≡ found → option_map_or (λ d. has_code (cut_tree trees d) 0) found (0 == 0) ≡ true
    by None at = refl
    by (Some d) at =
        let good : IsCodeTree (cut_tree trees d).tree = subst (λ v. IsCodeTree (slice_index_or trees v [])) (sym (dimension-is table variable d at)) is in
        let some : nat_lt 0 (length (cut_tree trees d).tree) ≡ true = let full = good.has_total in grind (arith, nat_tests, full) in
        let top = total-within (cut_tree trees d) good in
        rw (some, top) refl

pub apart_share_total : ApartShareTotal
apart_share_total = λ trees one other name full sound sound_other apart. (only trees one other name apart, total trees one other name full sound sound_other)
  where
    lone : (trees : List Tree) (code : ℕ) (first second : Option Dimension) → (is_some first && is_some second) ≡ false → option_map_or (λ d. has_code (cut_tree trees d) code) first (code == 0) ≡ true → option_map_or (λ d. has_code (cut_tree trees d) code) second (code == 0) ≡ true → code ≡ 0
    lone trees code (Some d) (Some e) h one other = cc
    lone trees code (Some d) None h one other = (Decides-eqb code 0).0 other
    lone trees code None second h one other = (Decides-eqb code 0).0 one

    only : (trees : List Tree) (one other : List Dimension) (name : Name) → ((variable : ℕ) → (spans one variable && spans other variable) ≡ false)
        → (is_named (named_by trees one) name ≡ true) × (is_named (named_by trees other) name ≡ true) → name ≡ grand_total (length trees)
    only trees one other name apart both =
        let long = name-long trees one name both.0 in
        same-items name (grand_total (length trees)) (long ∙ sym (length-replicate (length trees) 0))
        (λ variable below. let under : variable < length trees = subst (λ n. variable < n) long below in
        let none : (is_some (dimension_of one variable) && is_some (dimension_of other variable)) ≡ false = ap (λ b. b && is_some (dimension_of other variable)) (dimension-spans one variable) ∙ ap (λ b. spans one variable && b) (dimension-spans other variable) ∙ apart variable in
        lone trees (get_or name variable 0) (dimension_of one variable) (dimension_of other variable) none (named-codes trees one name both.0 variable under) (named-codes trees other name both.1 variable under)
        ∙ sym (get_or-replicate (length trees) variable 0 0 under))

    named : (trees : List Tree) (table : List Dimension) → All IsCodeTree trees → IsTable (length trees) table → is_named (named_by trees table) (grand_total (length trees)) ≡ true
    named trees table full sound =
        codes-named trees table (grand_total (length trees)) sound (length-replicate (length trees) 0)
        (λ variable below. subst (λ code. is_code trees table variable code ≡ true) (sym (get_or-replicate (length trees) variable 0 0 below)) (zero-good trees table variable (full variable [] below)))

    total : (trees : List Tree) (one other : List Dimension) (name : Name) → All IsCodeTree trees → IsTable (length trees) one → IsTable (length trees) other
        → name ≡ grand_total (length trees) → (is_named (named_by trees one) name ≡ true) × (is_named (named_by trees other) name ≡ true)
    total trees one other name full sound sound_other same =
        (subst (λ n. is_named (named_by trees one) n ≡ true) (sym same) (named trees one full sound), subst (λ n. is_named (named_by trees other) n ≡ true) (sym same) (named trees other full sound_other))
