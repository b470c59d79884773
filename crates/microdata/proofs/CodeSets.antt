-- The keys of a set of codes, seen as codes.
use Rattle.std.proofs.Common.{◌≡◌, ℕ, suc, ◌+◌, Bool, false, cond, ◌||◌, not, List, [], ◌∷◌, ◌++◌, length, map, position, Option, None, Some, is_some, refl, ap, sym, ◌∙◌}
use Rattle.std.specs.List.{IsDistinct, AllByRecursion, position_or_len, list_any}
use Rattle.std.specs.Option.{IfNone}
use Rattle.std.specs.Str.{bytes_eq}
use Rattle.std.specs.declared.alloc.Global.{Global}
use Rattle.std.specs.declared.vec.Vec.{Vec}
use Rattle.std.proofs.lemmas.List.{map-append}
use Rattle.std.proofs.lemmas.Map.Keys.{IsDistinct-head, IsDistinct-tail, IsDistinct-cons}
use Rattle.indexmap.specs.IndexSet.{insert_key}

abbrev Keys : Type 0
Keys = List (Vec ℕ Global)

abbrev pub codes_in : Keys → List (List ℕ)
codes_in keys = map (λ (code : Vec ℕ Global). code.items) keys

abbrev same_key : Vec ℕ Global → Vec ℕ Global → Bool
same_key a b = bytes_eq a.items b.items

first-in : (test : List ℕ → Bool) (keys : Keys) → position_or_len test (codes_in keys) ≡ position_or_len (λ (key : Vec ℕ Global). test key.items) keys
first-in test [] = refl
first-in test (key ∷ keys) = ap (λ rest. cond (not (test key.items)) (1 + rest) 0) (first-in test keys)

same-length : (keys : Keys) → length (codes_in keys) ≡ length keys
same-length [] = refl
same-length (key ∷ keys) = ap suc (same-length keys)

pub position-in : (test : List ℕ → Bool) (keys : Keys) → position (λ (key : Vec ℕ Global). test key.items) keys ≡ position test (codes_in keys)
position-in test keys = rw (first-in test keys, same-length keys) refl

pub any-in-codes : (test : List ℕ → Bool) (keys : Keys) → list_any test (codes_in keys) ≡ list_any (λ (key : Vec ℕ Global). test key.items) keys
any-in-codes test [] = refl
any-in-codes test (key ∷ keys) = ap (λ rest. test key.items || rest) (any-in-codes test keys)

-- a new code goes last
pub insert-last : (keys : Keys) (key : Vec ℕ Global) → list_any (bytes_eq key.items) (codes_in keys) ≡ false → codes_in (insert_key same_key keys key) ≡ codes_in keys ++ key.items ∷ []
insert-last keys key new = rw (sym (any-in-codes (bytes_eq key.items) keys) ∙ new) (map-append (λ (code : Vec ℕ Global). code.items) keys (key ∷ []))

-- distinct keys are distinct codes
pub distinct-codes : (keys : Keys) → IsDistinct same_key keys → IsDistinct bytes_eq (codes_in keys)
unfolding IsDistinct
distinct-codes [] h = tt
distinct-codes (key ∷ keys) h = IsDistinct-cons bytes_eq key.items (codes_in keys) (apart keys (IsDistinct-head same_key key keys h)) (distinct-codes keys (IsDistinct-tail same_key key keys h))
  where
    apart : (rest : Keys) → AllByRecursion (λ other. same_key key other ≡ false) rest → AllByRecursion (λ code. bytes_eq key.items code ≡ false) (codes_in rest)
    apart [] all = tt
    apart (k ∷ ks) all = (all.0, apart ks all.1)

-- where nothing was found the test was false
pub none-found : (found : Option ℕ) (b : Bool) → is_some found ≡ b → IfNone found (b ≡ false)
none-found None b h = sym h
none-found (Some place) b h = tt
