-- What holds of a job that is bound.
use Rattle.std.proofs.Common.{◌≡◌, ℕ, zero, suc, ◌+◌, ◌<◌, Bool, true, false, cond, List, [], ◌∷◌, length, map, Option, None, Some, refl, ap, sym, ◌∙◌, subst, arith}
use Rattle.std.proofs.lemmas.Bool.Decides.{Decides-eqb}
use Rattle.std.proofs.lemmas.Slice.Eq.{bytes_eq-Decides}
use Rattle.std.specs.Cmp.Lexicographic.{nat_list_eq_equiv}
use Rattle.std.specs.Prelude.{◌==◌, ◌||◌, ◌&&◌, not, nat_lt, slice_get, unwrap_or, fold}
use Rattle.std.specs.List.{AllByRecursion, IsDistinct, list_any}
use Rattle.std.specs.Str.{bytes_eq}
use Rattle.sdc_base.specs.Places.{first_place}
use Rattle.rda_meta.specs.declared.meta.Variable.{Variable}
use Rattle.job_lang.specs.declared.faults.JobWhy.{JobWhy}
use Rattle.sdc_base.specs.declared.dimension.Dimension.{Dimension}
use Rattle.job_lang.specs.declared.job.DepthLine.{DepthLine}
use Rattle.job_lang.specs.declared.job.Job.{Job}
use Rattle.job_lang.specs.declared.job.OutputLine.{OutputLine}
use Rattle.job_lang.specs.declared.job.TableLine.{TableLine}
use Rattle.job_lang.specs.Binding.{places_from, spanning_of, variable_place, spanning_place, depth_of, table_dimensions, dimensions_from, response_of, places_of}
use Rattle.job_lang.specs.BindingFaults.{is_named, is_absent, is_numeric_named, is_numeric, table_fault, weight_fault, is_spanning, file_fault, earlier_fault, tables_fault, outputs_fault, contributors_fault, earliest_fault}
use Rattle.job_lang.specs.JobLimits.{HasNoTwice, AreTables}
use Rattle.job_lang.specs.BoundLimits.{AreVariables, AreAscending, IsNumericAt, IsBound}
use Rattle.job_lang.proofs.PlacesFit.{or_left, or_right, turned, spanning_few, response_few, weight_few}

-- ---- no fault at all

earlier_none : (first : Option (ℕ × JobWhy)) (line : ℕ) (why : Option JobWhy) → earlier_fault first line why ≡ None → (first ≡ None) × (why ≡ None)
earlier_none first line None h = (h, refl)
earlier_none None line (Some why) h = absurd cc
earlier_none (Some fault) line (Some why) h = absurd (never (nat_lt line fault.0) h)
  where
    never : (t : Bool) → ◌≡◌ {A = Option (ℕ × JobWhy)} (cond t (Some (line, why)) (Some fault)) None → ⊥
    never true g = cc
    never false g = cc

tables_none : (variables : List Variable) (first : Option (ℕ × JobWhy)) (tables : List TableLine) → fold (λ first t. earlier_fault first t.line (table_fault variables t)) first tables ≡ None
    → (first ≡ None) × AllByRecursion (λ t. table_fault variables t ≡ None) tables
tables_none variables first [] h = (h, tt)
tables_none variables first (t ∷ tables) h =
    let rest = tables_none variables (earlier_fault first t.line (table_fault variables t)) tables h in
    let both = earlier_none first t.line (table_fault variables t) rest.0 in
    (both.0, (both.1, rest.1))

outputs_none : (tables : List TableLine) (variables : List Variable) (first : Option (ℕ × JobWhy)) (outputs : List OutputLine) → outputs_fault tables variables first outputs ≡ None
    → (first ≡ None) × AllByRecursion (λ o. file_fault tables variables o.file ≡ None) outputs
outputs_none tables variables first [] h = (h, tt)
outputs_none tables variables first (o ∷ outputs) h =
    let rest = outputs_none tables variables (earlier_fault first o.line (file_fault tables variables o.file)) outputs h in
    let both = earlier_none first o.line (file_fault tables variables o.file) rest.0 in
    (both.0, (both.1, rest.1))

-- a contributors' file, where there is one, has no fault
abbrev pub IsFreeOfFault : List TableLine → List Variable → Option OutputLine → Type 0
IsFreeOfFault tables variables None = Unit {0}
IsFreeOfFault tables variables (Some o) = file_fault tables variables o.file ≡ None

contributors_none : (tables : List TableLine) (variables : List Variable) (first : Option (ℕ × JobWhy)) (contributors : Option OutputLine) → contributors_fault tables variables first contributors ≡ None
    → (first ≡ None) × IsFreeOfFault tables variables contributors
contributors_none tables variables first None h = (h, tt)
contributors_none tables variables first (Some o) h = earlier_none first o.line (file_fault tables variables o.file) h

-- no line has a fault
pub record IsClean (job : Job) (variables : List Variable) : Type 0 where
  pub tables : AllByRecursion (λ t. table_fault variables t ≡ None) job.tables
  pub rules : weight_fault variables job.rules ≡ None
  pub outputs : AllByRecursion (λ o. file_fault job.tables variables o.file ≡ None) job.outputs
  pub certificate : file_fault job.tables variables job.certificate ≡ None
  pub contributors : IsFreeOfFault job.tables variables job.contributors

pub clean : (job : Job) (variables : List Variable) → earliest_fault job variables ≡ None → IsClean job variables
clean job variables h =
    let before = outputs_fault job.tables variables (earlier_fault (tables_fault variables job.tables) job.rules_line (weight_fault variables job.rules)) job.outputs in
    let whole = contributors_none job.tables variables (earlier_fault before job.certificate_line (file_fault job.tables variables job.certificate)) job.contributors h in
    let last = earlier_none before job.certificate_line (file_fault job.tables variables job.certificate) whole.0 in
    let puts = outputs_none job.tables variables (earlier_fault (tables_fault variables job.tables) job.rules_line (weight_fault variables job.rules)) job.outputs last.0 in
    let rules = earlier_none (tables_fault variables job.tables) job.rules_line (weight_fault variables job.rules) puts.0 in
    record { tables = (tables_none variables None job.tables rules.0).1; rules = rules.1; outputs = puts.1; certificate = last.1; contributors = whole.1 }

four : (x y z : JobWhy) (a b c d : Bool) → ◌≡◌ {A = Option JobWhy} (cond (a || b) (Some x) (cond c (Some y) (cond (not d) (Some z) None))) None → (a ≡ false) × (b ≡ false) × (c ≡ false) × (d ≡ true)
four x y z true b c d h = absurd cc
four x y z false true c d h = absurd cc
four x y z false false true d h = absurd cc
four x y z false false false true h = (refl, refl, refl, refl)
four x y z false false false false h = absurd cc

-- a table's line without a fault
pub record IsFine (variables : List Variable) (t : TableLine) : Type 0 where
  pub present : list_any (λ name. is_absent variables name) t.variables ≡ false
  pub plain : list_any (λ name. is_numeric variables name) t.variables ≡ false
  pub known : is_absent variables t.response ≡ false
  pub response : is_numeric variables t.response ≡ true

pub fine : (variables : List Variable) (t : TableLine) → table_fault variables t ≡ None → IsFine variables t
fine variables t h =
    let facts = four _ _ _ (list_any (λ name. is_absent variables name) t.variables) (is_absent variables t.response) (list_any (λ name. is_numeric variables name) t.variables) (is_numeric variables t.response) h in
    record { present = facts.0; plain = facts.2; known = facts.1; response = facts.3 }

-- ---- names that tables have

any_false : (p : List ℕ → Bool) (q : List ℕ) (names : List (List ℕ)) → list_any p names ≡ false → list_any (bytes_eq q) names ≡ true → p q ≡ false
any_false p q [] h g = absurd cc
any_false p q (n ∷ names) h g =
    let here = false_left (p n) (list_any p names) h in
    elim (bytes_eq q n) as (λ b. bytes_eq q n ≡ b → (b || list_any (bytes_eq q) names) ≡ true → p q ≡ false) [
      | true ↦ λ same later. let is : q ≡ n = (bytes_eq-Decides q n).0 same in rw is here.0
      | false ↦ λ apart later. any_false p q names here.1 later
    ] refl g
  where
    false_left : (a b : Bool) → (a || b) ≡ false → (a ≡ false) × (b ≡ false)
    false_left true b h = absurd cc
    false_left false b h = (refl, h)

-- a name that spans a table is that of a variable, and of no numeric one
record IsPlain (variables : List Variable) (q : List ℕ) : Type 0 where
  present : is_absent variables q ≡ false
  plain : is_numeric variables q ≡ false

plain_name : (variables : List Variable) (q : List ℕ) (tables : List TableLine) → AllByRecursion (λ t. table_fault variables t ≡ None) tables → is_spanning tables q ≡ true → IsPlain variables q
plain_name variables q [] all h = absurd cc
plain_name variables q (t ∷ tables) all h =
    let own = fine variables t all.0 in
    elim (list_any (λ n. bytes_eq n q) t.variables) as (λ b. list_any (λ n. bytes_eq n q) t.variables ≡ b → (b || is_spanning tables q) ≡ true → IsPlain variables q) [
      | true ↦ λ here g.
          let inside = sym (turned q t.variables) ∙ here in
          record { present = any_false (λ name. is_absent variables name) q t.variables own.present inside; plain = any_false (λ name. is_numeric variables name) q t.variables own.plain inside }
      | false ↦ λ here g. plain_name variables q tables all.1 g
    ] refl h

any_at : {A : Type 0} (p : A → Bool) (xs : List A) (k : ℕ) (x : A) → list_any p xs ≡ false → slice_get xs k ≡ Some x → p x ≡ false
any_at p [] k x h g = absurd cc
any_at {A} p (y ∷ xs) zero x h g =
    let same : y ≡ x = cc in
    subst (λ (x : A). p x ≡ false) same (left (p y) h)
  where
    left : (b : Bool) → (b || list_any p xs) ≡ false → b ≡ false
    left true h = h
    left false h = refl
any_at p (y ∷ xs) (suc k) x h g = any_at p xs k x (right (p y) h) g
  where
    right : (b : Bool) → (b || list_any p xs) ≡ false → list_any p xs ≡ false
    right true h = absurd cc
    right false h = h

same_name : (name : List ℕ) → bytes_eq name name ≡ true
same_name name = nat_list_eq_equiv.refl name

not_numeric : (variables : List Variable) (k : ℕ) (v : Variable) → slice_get variables k ≡ Some v → is_numeric variables v.name ≡ false → v.numeric ≡ false
not_numeric variables k v at h =
    let here = any_at (λ w. is_numeric_named v.name w) variables k v h at in
    passed (bytes_eq v.name v.name) v.numeric (same_name v.name) here
  where
    passed : (a b : Bool) → a ≡ true → (a && b) ≡ false → b ≡ false
    passed true b h g = g
    passed false b h g = absurd cc

-- ---- places of those that pass a test

placed : {A : Type 0} (P : ℕ → Type 0) (test : A → Bool) (place : ℕ) (xs : List A) → ((k : ℕ) (x : A) → slice_get xs k ≡ Some x → test x ≡ true → P (place + k)) → AllByRecursion P (places_from place test xs)
placed P test place [] h = tt
placed {A} P test place (x ∷ xs) h =
    let rest = placed P test (place + 1) xs (λ k y at passes. let same : place + suc k ≡ place + 1 + k = omega arith in subst P same (h (suc k) y at passes)) in
    elim (test x) as (λ t. test x ≡ t → AllByRecursion P (cond t (place ∷ places_from (place + 1) test xs) (places_from (place + 1) test xs))) [
      | true ↦ λ passes. let same : place + 0 ≡ place = omega arith in (subst P same (h 0 x refl passes), rest)
      | false ↦ λ fails. rest
    ] refl

ascending : {A : Type 0} (test : A → Bool) (place : ℕ) (xs : List A) → AreAscending (places_from place test xs)
ascending test place [] = tt
ascending test place (x ∷ xs) =
    elim (test x) as (λ t. AreAscending (cond t (place ∷ places_from (place + 1) test xs) (places_from (place + 1) test xs))) [
      | true ↦ (placed (λ j. place < j) test (place + 1) xs (λ k y at passes. omega arith), ascending test (place + 1) xs)
      | false ↦ ascending test (place + 1) xs
    ]

placed_in : {A : Type 0} (test : A → Bool) (place : ℕ) (xs : List A) (k : ℕ) (x : A) → slice_get xs k ≡ Some x → test x ≡ true → list_any (λ j. j == place + k) (places_from place test xs) ≡ true
placed_in test place [] k x at passes = absurd cc
placed_in {A} test place (y ∷ xs) zero x at passes =
    let same : y ≡ x = cc in
    let here : test y ≡ true = subst (λ (z : A). test z ≡ true) (sym same) passes in
    let eq : (place == place + 0) ≡ true = (Decides-eqb place (place + 0)).1 (omega arith) in
    rw here (or_left (place == place + 0) _ eq)
placed_in test place (y ∷ xs) (suc k) x at passes =
    let later = placed_in test (place + 1) xs k x at passes in
    let same : place + 1 + k ≡ place + suc k = omega arith in
    let there : list_any (λ j. j == place + suc k) (places_from (place + 1) test xs) ≡ true = subst (λ (n : ℕ). list_any (λ j. j == n) (places_from (place + 1) test xs) ≡ true) same later in
    elim (test y) as (λ t. list_any (λ j. j == place + suc k) (cond t (place ∷ places_from (place + 1) test xs) (places_from (place + 1) test xs)) ≡ true) [
      | true ↦ or_right (place == place + suc k) _ there
      | false ↦ there
    ]

-- the first that passes, with its place
pub record IsFirst {A : Type 0} (test : A → Bool) (xs : List A) (k : ℕ) (x : A) : Type 0 where
  pub first : first_place test xs ≡ Some k
  pub at : slice_get xs k ≡ Some x
  pub passes : test x ≡ true
  pub within : k < length xs

pub first_found : {A : Type 0} (test : A → Bool) (xs : List A) → list_any test xs ≡ true → (k : ℕ) × (x : A) × IsFirst test xs k x
first_found test [] h = absurd cc
first_found {A} test (y ∷ xs) h =
    elim (test y) as (λ t. test y ≡ t → (t || list_any test xs) ≡ true → (k : ℕ) × (x : A) × IsFirst test (y ∷ xs) k x) [
      | true ↦ λ passes g. (0, y, record { first = rw passes refl; at = refl; passes = passes; within = omega arith })
      | false ↦ λ fails g.
          let rest = first_found test xs g in
          let next : rest.0 + 1 ≡ suc rest.0 = omega arith in
          (suc rest.0, rest.1, record { first = rw (fails, rest.2.first) (ap (λ (n : ℕ). Some n) next); at = rest.2.at; passes = rest.2.passes; within = omega (arith, rest.2.within) })
    ] refl h

-- ---- where names stand

-- where the variable of a name stands, and where among those that span tables
pub record IsSpot (spanning : List ℕ) (variables : List Variable) (q : List ℕ) : Type 0 where
  pub variable : Variable
  pub named : variable.name ≡ q
  pub at : slice_get variables (variable_place variables q) ≡ Some variable
  pub among : slice_get spanning (spanning_place spanning variables q) ≡ Some (variable_place variables q)
  pub within : spanning_place spanning variables q < length spanning

pub not_false : (b : Bool) → not b ≡ false → b ≡ true
not_false true h = refl
not_false false h = absurd cc

pub spot : (tables : List TableLine) (variables : List Variable) (q : List ℕ) → AllByRecursion (λ t. table_fault variables t ≡ None) tables → is_spanning tables q ≡ true → IsSpot (spanning_of tables variables) variables q
spot tables variables q all spans =
    let known = plain_name variables q tables all spans in
    let found = first_found (λ v. is_named q v) variables (not_false (list_any (λ v. is_named q v) variables) known.present) in
    let name : found.1.name ≡ q = (bytes_eq-Decides found.1.name q).0 found.2.passes in
    let place : variable_place variables q ≡ found.0 = ap (λ (o : Option ℕ). unwrap_or o 0) found.2.first in
    let spanned : is_spanning tables found.1.name ≡ true = subst (λ (n : List ℕ). is_spanning tables n ≡ true) (sym name) spans in
    let same : 0 + found.0 ≡ variable_place variables q = omega (arith, place) in
    let there : list_any (λ j. j == variable_place variables q) (spanning_of tables variables) ≡ true =
    subst (λ (n : ℕ). list_any (λ j. j == n) (spanning_of tables variables) ≡ true) same (placed_in (λ v. is_spanning tables v.name) 0 variables found.0 found.1 found.2.at spanned) in
    let among = first_found (λ j. j == variable_place variables q) (spanning_of tables variables) there in
    let value : among.1 ≡ variable_place variables q = (Decides-eqb among.1 (variable_place variables q)).0 among.2.passes in
    let stands : spanning_place (spanning_of tables variables) variables q ≡ among.0 = ap (λ (o : Option ℕ). unwrap_or o 0) among.2.first in
    record {
      variable = found.1;
      named = name;
      at = ap (slice_get variables) place ∙ found.2.at;
      among = ap (slice_get (spanning_of tables variables)) stands ∙ among.2.at ∙ ap (λ (n : ℕ). Some n) value;
      within = omega (arith, stands, among.2.within);
    }

names_spots : (spanning : List ℕ) (variables : List Variable) (names : List (List ℕ)) → ((q : List ℕ) → list_any (λ n. bytes_eq n q) names ≡ true → IsSpot spanning variables q) → AllByRecursion (IsSpot spanning variables) names
names_spots spanning variables [] h = tt
names_spots spanning variables (n ∷ names) h = (h n (or_left (bytes_eq n n) _ (same_name n)), names_spots spanning variables names (λ q g. h q (or_right (bytes_eq n q) _ g)))

pub tables_spots : (spanning : List ℕ) (variables : List Variable) (tables : List TableLine) → ((q : List ℕ) → is_spanning tables q ≡ true → IsSpot spanning variables q) → AllByRecursion (λ t. AllByRecursion (IsSpot spanning variables) t.variables) tables
tables_spots spanning variables [] h = tt
tables_spots spanning variables (t ∷ tables) h =
    (names_spots spanning variables t.variables (λ q g. h q (or_left _ (is_spanning tables q) g)), tables_spots spanning variables tables (λ q g. h q (or_right (list_any (λ n. bytes_eq n q) t.variables) _ g)))

differ : (spanning : List ℕ) (variables : List Variable) (q n : List ℕ) → IsSpot spanning variables q → IsSpot spanning variables n → bytes_eq q n ≡ false → (spanning_place spanning variables q == spanning_place spanning variables n) ≡ false
differ spanning variables q n a b apart =
    elim (spanning_place spanning variables q == spanning_place spanning variables n) as (λ t. (spanning_place spanning variables q == spanning_place spanning variables n) ≡ t → t ≡ false) [
      | true ↦ λ eq.
          let same = (Decides-eqb (spanning_place spanning variables q) (spanning_place spanning variables n)).0 eq in
          let places : ◌≡◌ {A = Option ℕ} (Some (variable_place variables q)) (Some (variable_place variables n)) = sym a.among ∙ ap (slice_get spanning) same ∙ b.among in
          let place : variable_place variables q ≡ variable_place variables n = cc in
          let both : ◌≡◌ {A = Option Variable} (Some a.variable) (Some b.variable) = sym a.at ∙ ap (slice_get variables) place ∙ b.at in
          let one : a.variable ≡ b.variable = cc in
          let names : q ≡ n = sym a.named ∙ ap (λ (v : Variable). v.name) one ∙ b.named in
          let yes : bytes_eq q n ≡ true = (bytes_eq-Decides q n).1 names in
          sym yes ∙ apart
      | false ↦ λ eq. refl
    ] refl

apart_spots : (spanning : List ℕ) (variables : List Variable) (q : List ℕ) (names : List (List ℕ)) → IsSpot spanning variables q → AllByRecursion (IsSpot spanning variables) names → AllByRecursion (λ n. bytes_eq q n ≡ false) names
    → AllByRecursion (λ j. (spanning_place spanning variables q == j) ≡ false) (map (λ name. spanning_place spanning variables name) names)
apart_spots spanning variables q [] own all apart = tt
apart_spots spanning variables q (n ∷ names) own all apart = (differ spanning variables q n own all.0 apart.0, apart_spots spanning variables q names own all.1 apart.1)

distinct_spots : (spanning : List ℕ) (variables : List Variable) (names : List (List ℕ)) → AllByRecursion (IsSpot spanning variables) names → IsDistinct bytes_eq names → IsDistinct ◌==◌ (map (λ name. spanning_place spanning variables name) names)
unfolding IsDistinct
distinct_spots spanning variables [] all distinct = tt
distinct_spots spanning variables (q ∷ names) all distinct = (apart_spots spanning variables q names all.0 all.1 distinct.0, distinct_spots spanning variables names all.1 distinct.1)

-- the dimensions of the variables of these names in the table at this place
abbrev pub dimensions_of : List ℕ → List Variable → List DepthLine → ℕ → List (List ℕ) → List Dimension
dimensions_of spanning variables depths place names = map (λ name. record { variable = spanning_place spanning variables name; depth = depth_of depths place name }) names

within_spots : (spanning : List ℕ) (variables : List Variable) (depths : List DepthLine) (place : ℕ) (names : List (List ℕ)) → AllByRecursion (IsSpot spanning variables) names
    → AllByRecursion (λ (one : Dimension). one.variable < length spanning) (dimensions_of spanning variables depths place names)
within_spots spanning variables depths place [] all = tt
within_spots spanning variables depths place (q ∷ names) all = (all.0.within, within_spots spanning variables depths place names all.1)

tables_within : (spanning : List ℕ) (variables : List Variable) (depths : List DepthLine) (place : ℕ) (tables : List TableLine) → AllByRecursion (λ t. AllByRecursion (IsSpot spanning variables) t.variables) tables
    → AllByRecursion (λ dimensions. AllByRecursion (λ (one : Dimension). one.variable < length spanning) dimensions) (dimensions_from spanning variables depths place tables)
tables_within spanning variables depths place [] all = tt
tables_within spanning variables depths place (t ∷ tables) all = (within_spots spanning variables depths place t.variables all.0, tables_within spanning variables depths (place + 1) tables all.1)

variables_of : (spanning : List ℕ) (variables : List Variable) (depths : List DepthLine) (place : ℕ) (names : List (List ℕ))
    → map (λ (one : Dimension). one.variable) (dimensions_of spanning variables depths place names) ≡ map (λ name. spanning_place spanning variables name) names
variables_of spanning variables depths place [] = refl
variables_of spanning variables depths place (q ∷ names) = ap (λ (rest : List ℕ). spanning_place spanning variables q ∷ rest) (variables_of spanning variables depths place names)

tables_distinct : (spanning : List ℕ) (variables : List Variable) (depths : List DepthLine) (place : ℕ) (tables : List TableLine) → AllByRecursion (λ t. AllByRecursion (IsSpot spanning variables) t.variables) tables → AllByRecursion HasNoTwice tables
    → AllByRecursion (λ dimensions. IsDistinct ◌==◌ (map (λ (one : Dimension). one.variable) dimensions)) (dimensions_from spanning variables depths place tables)
tables_distinct spanning variables depths place [] all once = tt
tables_distinct spanning variables depths place (t ∷ tables) all once = (
  subst (λ (list : List ℕ). IsDistinct ◌==◌ list) (sym (variables_of spanning variables depths place t.variables)) (distinct_spots spanning variables t.variables all.0 once.0),
  tables_distinct spanning variables depths (place + 1) tables all.1 once.1,
)

map_wide : (f : List ℕ → Dimension) (names : List (List ℕ)) → length (map f names) ≡ length names
map_wide f [] = refl
map_wide f (n ∷ names) = ap suc (map_wide f names)

tables_wide : (spanning : List ℕ) (variables : List Variable) (depths : List DepthLine) (place : ℕ) (tables : List TableLine)
    → map (λ (dimensions : List Dimension). length dimensions) (dimensions_from spanning variables depths place tables) ≡ map (λ t. length t.variables) tables
tables_wide spanning variables depths place [] = refl
tables_wide spanning variables depths place (t ∷ tables) =
    rw (map_wide (λ name. record { variable = spanning_place spanning variables name; depth = depth_of depths place name }) t.variables, tables_wide spanning variables depths (place + 1) tables) refl

-- ---- the response

no_more : (name r : List ℕ) (variables : List Variable) → AllByRecursion (λ n. bytes_eq name n ≡ false) (map (λ v. v.name) variables) → bytes_eq name r ≡ true → list_any (λ v. is_numeric_named r v) variables ≡ false
no_more name r [] apart same = refl
no_more name r (v ∷ variables) apart same =
    let is : name ≡ r = (bytes_eq-Decides name r).0 same in
    let other : bytes_eq v.name r ≡ false = nat_list_eq_equiv.symm v.name r ∙ ap (λ (n : List ℕ). bytes_eq n v.name) (sym is) ∙ apart.0 in
    rw (other, no_more name r variables apart.1 same) refl

-- the first variable of the name is numeric
record IsResponse (variables : List Variable) (r : List ℕ) : Type 0 where
  place : ℕ
  variable : Variable
  first : first_place (λ v. is_named r v) variables ≡ Some place
  at : slice_get variables place ≡ Some variable
  numeric : variable.numeric ≡ true

numeric_first : (variables : List Variable) (r : List ℕ) → IsDistinct bytes_eq (map (λ v. v.name) variables) → is_numeric variables r ≡ true → IsResponse variables r
unfolding IsDistinct
numeric_first [] r distinct h = absurd cc
numeric_first (w ∷ variables) r distinct h =
    let later = λ (g : is_numeric variables r ≡ true).
    let rest = numeric_first variables r distinct.1 g in rest in
    elim (bytes_eq w.name r) as (λ b. bytes_eq w.name r ≡ b → ((b && w.numeric) || is_numeric variables r) ≡ true → IsResponse (w ∷ variables) r) [
      | true ↦ λ named g.
          let none = no_more w.name r variables distinct.0 named in
          let numeric : w.numeric ≡ true = only w.numeric (is_numeric variables r) none g in
          record { place = 0; variable = w; first = rw named refl; at = refl; numeric = numeric }
      | false ↦ λ other g.
          let rest = later g in
          let next : rest.place + 1 ≡ suc rest.place = omega arith in
          record { place = suc rest.place; variable = rest.variable; first = rw (other, rest.first) (ap (λ (n : ℕ). Some n) next); at = rest.at; numeric = rest.numeric }
    ] refl h
  where
    only : (a b : Bool) → b ≡ false → ((true && a) || b) ≡ true → a ≡ true
    only true b lacks g = refl
    only false b lacks g = absurd cc

first_fine : (variables : List Variable) (tables : List TableLine) → 0 < length tables → AllByRecursion (λ t. table_fault variables t ≡ None) tables → is_numeric variables (response_of tables) ≡ true
first_fine variables [] some all = absurd (omega (arith, some))
first_fine variables (t ∷ tables) some all = (fine variables t all.0).response

response_numeric : (variables : List Variable) (tables : List TableLine) → 0 < length tables → IsDistinct bytes_eq (map (λ v. v.name) variables) → AllByRecursion (λ t. table_fault variables t ≡ None) tables
    → IsNumericAt true variables (variable_place variables (response_of tables))
response_numeric variables tables some distinct all =
    let found = numeric_first variables (response_of tables) distinct (first_fine variables tables some all) in
    let place : variable_place variables (response_of tables) ≡ found.place = ap (λ (o : Option ℕ). unwrap_or o 0) found.first in
    (found.variable, ap (slice_get variables) place ∙ found.at, found.numeric)

-- ---- all together

pub bound_known : (job : Job) (variables : List Variable) → AreTables job.tables → AreVariables variables → earliest_fault job variables ≡ None → IsBound job variables (places_of job variables)
bound_known job variables is fit none =
    let free = clean job variables none in
    let spanning = spanning_of job.tables variables in
    let spots = tables_spots (spanning_of job.tables variables) variables job.tables (λ q g. spot job.tables variables q free.tables g) in
    record {
      ascending = ascending (λ v. is_spanning job.tables v.name) 0 variables;
      at_most_8_spanning = spanning_few job.tables variables is fit;
      spanning = placed (IsNumericAt false variables) (λ v. is_spanning job.tables v.name) 0 variables (λ k v at spans.
          let same : 0 + k ≡ k = omega arith in
          let known = plain_name variables v.name job.tables free.tables spans in
          (v, ap (slice_get variables) same ∙ at, not_numeric variables k v at known.plain));
      tables = tables_wide (spanning_of job.tables variables) variables job.depths 0 job.tables;
      within = tables_within (spanning_of job.tables variables) variables job.depths 0 job.tables spots;
      once = tables_distinct (spanning_of job.tables variables) variables job.depths 0 job.tables spots is.once;
      response = response_numeric variables job.tables is.has_table fit.names free.tables;
      decimals = let a = response_few job.tables variables fit in let b = weight_few job.rules variables fit in omega (arith, a, b);
      scale = (refl, weight_few job.rules variables fit);
    }
