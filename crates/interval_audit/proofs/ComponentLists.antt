-- The relations of a component, of the lists of all.
use Rattle.std.proofs.Common.{◌≡◌, ℕ, ◌+◌, ◌<◌, Bool, false, List, [], ◌∷◌, filter, cond, length, get_or, slice_get, Option, None, Some, IfSome, Vec, arith, refl, ap, sym, ◌∙◌}
use Rattle.std.specs.declared.alloc.Global.{Global}
use Rattle.std.specs.List.{list_any, range_with_len}
use Rattle.std.specs.Option.{option_map_or}
use Rattle.std.proofs.lemmas.List.{get_or-map, length-map}
use Rattle.std.proofs.lemmas.List.FromFn.{get_or-map-range_with_len, length-map-range_with_len}
use Rattle.sdc_base.specs.declared.relation.Relation.{Relation}
use Rattle.sdc_base.specs.Components.{AreComponents, component, is_of}
use Rattle.sdc_base.specs.ComponentRows.{lists_in, rows_in, rows_of}
use Rattle.interval_audit.specs.Groups.{group_of}
use Rattle.interval_audit.specs.Labels.{is_met, met_relations}

-- the lists are as many as there are components
pub many_rows : (lists : List (Vec ℕ Global)) (relations : List Relation) (of : List (Option ℕ)) (n : ℕ) → lists_in lists ≡ rows_of relations of n → length lists ≡ n
many_rows lists relations of n are =
    sym (length-map lists (λ (list : Vec ℕ Global). list.items)) ∙ ap (λ (all : List (List ℕ)). length all) are ∙ length-map-range_with_len (rows_in relations of) 0 n

-- there is one for the asked cell's component
pub known_list : (relations : List Relation) (flags : List Bool) (of : List (Option ℕ)) (sizes : List ℕ) (asked : ℕ) → AreComponents relations flags of sizes → (n : ℕ) → n ≡ length sizes → IfSome (component of asked) (λ number. number < n)
known_list relations flags of sizes asked are n long = by (component of asked) refl
  where
    by : (o : Option ℕ) → component of asked ≡ o → IfSome o (λ number. number < n)
    by None is = tt
    by (Some number) is = let within = are.within asked number is in omega (arith, within, long)

-- it has the relations that are met
pub list_met : (lists : List (Vec ℕ Global)) (of : List (Option ℕ)) (asked number components : ℕ) (relations : List Relation) (one : Vec ℕ Global) → component of asked ≡ Some number → number < length lists → one ≡ get_or lists number one
    → lists_in lists ≡ rows_of relations of components → one.items ≡ met_relations (group_of of asked) relations
list_met lists of asked number components relations one some inside is are =
    let start : 0 + number ≡ number = omega arith in
    let below : number < components = omega (arith, inside, many_rows lists relations of components are) in
    ap (λ (list : Vec ℕ Global). list.items) is ∙ sym (get_or-map (λ (list : Vec ℕ Global). list.items) lists number one [] inside) ∙ ap (λ (all : List (List ℕ)). get_or all number []) are
    ∙ get_or-map-range_with_len (rows_in relations of) 0 components number number [] below start
    ∙ ap (λ (o : Option ℕ). met_relations (λ cell. option_map_or (λ n. is_of n (component of cell)) o false) relations) (sym some)

none_pass : (test : ℕ → Bool) → ((x : ℕ) → test x ≡ false) → (xs : List ℕ) → filter test xs ≡ []
none_pass test none [] = refl
none_pass test none (x ∷ xs) = ap (λ b. cond b (x ∷ filter test xs) (filter test xs)) (none x) ∙ none_pass test none xs

none_stands : (parts : List ℕ) → list_any (λ part. false) parts ≡ false
none_stands [] = refl
none_stands (part ∷ parts) = none_stands parts

none_met : (o : Option Relation) → option_map_or (is_met (λ cell. false)) o false ≡ false
none_met None = refl
none_met (Some r) = none_stands r.parts

-- a shown cell meets no relation
pub shown_met : (of : List (Option ℕ)) (asked : ℕ) (relations : List Relation) → component of asked ≡ None → met_relations (group_of of asked) relations ≡ []
shown_met of asked relations none =
    ap (λ (o : Option ℕ). met_relations (λ cell. option_map_or (λ n. is_of n (component of cell)) o false) relations) none
    ∙ none_pass (λ number. option_map_or (is_met (λ cell. false)) (slice_get relations number) false) (λ number. none_met (slice_get relations number)) (range_with_len 0 (length relations))
