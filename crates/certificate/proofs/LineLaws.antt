-- What lines say is read again, and what is read is said so.
use Rattle.std.proofs.Common.{◌≡◌, ℕ, zero, suc, ◌<◌, ◌==◌, not, Bool, true, false, cond, List, [], ◌∷◌, length, map, Ok, Err, refl, ap, ◌∙◌, subst, arith, decimal}
use Rattle.std.specs.Prelude.{codes}
use Rattle.std.specs.List.{AllByRecursion}
use Rattle.std.specs.Str.{bytes_eq}
use Rattle.std.proofs.lemmas.List.{length-map}
use Rattle.sdc_base.specs.Steps.{refuse}
use Rattle.sdc_base.specs.declared.method.Method.{Method}
use Rattle.sdc_base.specs.declared.method.Method.TheVariants as method
use Rattle.certificate.specs.declared.faults.CertWhy.TheVariants.{Shape, Order}
use Rattle.certificate.specs.Numerals.{natural_of, integer_of, ascends}
use Rattle.certificate.specs.TokenLists.{first_of, end_of, only_of, token_numbers}
use Rattle.certificate.specs.LineReadings.{hidden_of}
use Rattle.certificate.specs.MethodReadings.{passes_of, method_by_base, modular_of, method_by, method_of, count_of}
use Rattle.certificate.specs.Texts.{method_arguments}
use Rattle.certificate.specs.Spelling.{FitsIn32Bits, IsMethodWithinTypes}
use Rattle.certificate.proofs.NumeralLaws.{natural_again, natural_text, integer_again, integer_text}
use Rattle.certificate.proofs.PieceLaws.{equal_bytes}
use Rattle.certificate.proofs.TokenLaws.{bind_ok, ok_same, not_refused, numbers_again, numbers_text}

-- ---- tokens

pub first_text : (tokens : List (List ℕ)) (p : List ℕ × List (List ℕ)) → first_of tokens ≡ Ok p → tokens ≡ p.0 ∷ p.1
first_text [] p h = absurd cc
first_text (token ∷ tokens) p h = let same : ◌≡◌ {A = List ℕ × List (List ℕ)} (token, tokens) p = ok_same (token, tokens) p h in ap (λ (q : List ℕ × List (List ℕ)). q.0 ∷ q.1) same

pub ended_text : (tokens : List (List ℕ)) (x : Unit {0}) → end_of tokens ≡ Ok x → tokens ≡ []
ended_text [] x h = refl
ended_text (token ∷ tokens) x h = absurd cc

pub only_text : (tokens : List (List ℕ)) (token : List ℕ) → only_of tokens ≡ Ok token → tokens ≡ token ∷ []
unfolding only_of
only_text tokens token h =
    let a = bind_ok (first_of tokens) _ token h in
    let b = bind_ok (end_of a.0.1) _ token a.2 in
    first_text tokens a.0 a.1 ∙ ap (λ (rest : List (List ℕ)). a.0.0 ∷ rest) (ended_text a.0.1 b.0 b.1) ∙ ap (λ (t : List ℕ). t ∷ []) (ok_same a.0.0 token b.2)

-- ---- the method and counts

pub method_again : (how : Method) → IsMethodWithinTypes how → method_of (method_arguments how) ≡ Ok how
unfolding method_of modular_of passes_of method_by_base only_of
method_again method.Modular wide = refl
method_again (method.Gh passes) wide = rw (natural_again 0 passes (omega arith) wide) refl
method_again (method.Rnd base) wide = rw (integer_again base wide) refl

abbrev IsMethodText : List (List ℕ) → Method → Type 0
IsMethodText tokens how = (tokens ≡ method_arguments how) × IsMethodWithinTypes how

modular_text : (tokens : List (List ℕ)) (how : Method) → modular_of tokens ≡ Ok how → IsMethodText (codes "MOD" ∷ tokens) how
unfolding modular_of
modular_text tokens how h =
    let a = bind_ok (end_of tokens) _ how h in
    subst (λ (m : Method). IsMethodText (codes "MOD" ∷ tokens) m) (ok_same method.Modular how a.2) (ap (λ (ts : List (List ℕ)). codes "MOD" ∷ ts) (ended_text tokens a.0 a.1), tt)

passes_text : (tokens : List (List ℕ)) (how : Method) → passes_of tokens ≡ Ok how → IsMethodText (codes "GH" ∷ tokens) how
unfolding passes_of
passes_text tokens how h =
    let a = bind_ok (only_of tokens) _ how h in
    let b = bind_ok (natural_of 0 a.0) _ how a.2 in
    let n = natural_text 0 a.0 b.0 b.1 in
    subst (λ (m : Method). IsMethodText (codes "GH" ∷ tokens) m) (ok_same (method.Gh b.0) how b.2)
    (ap (λ (ts : List (List ℕ)). codes "GH" ∷ ts) (only_text tokens a.0 a.1 ∙ ap (λ (t : List ℕ). t ∷ []) n.0), n.2)

base_text : (tokens : List (List ℕ)) (how : Method) → method_by_base tokens ≡ Ok how → IsMethodText (codes "RND" ∷ tokens) how
unfolding method_by_base
base_text tokens how h =
    let a = bind_ok (only_of tokens) _ how h in
    let b = bind_ok (integer_of a.0) _ how a.2 in
    let z = integer_text a.0 b.0 b.1 in
    subst (λ (m : Method). IsMethodText (codes "RND" ∷ tokens) m) (ok_same (method.Rnd b.0) how b.2)
    (ap (λ (ts : List (List ℕ)). codes "RND" ∷ ts) (only_text tokens a.0 a.1 ∙ ap (λ (t : List ℕ). t ∷ []) z.0), z.1)

picked-word : (word wanted : List ℕ) (tokens : List (List ℕ)) (how : Method) → bytes_eq word wanted ≡ true → IsMethodText (wanted ∷ tokens) how → IsMethodText (word ∷ tokens) how
picked-word word wanted tokens how is h = (ap (λ (w : List ℕ). w ∷ tokens) (equal_bytes word wanted is) ∙ h.0, h.1)

method-by-text : (word : List ℕ) (tokens : List (List ℕ)) (how : Method) → method_by word tokens ≡ Ok how → IsMethodText (word ∷ tokens) how
method-by-text word tokens how h =
    elim (bytes_eq word (codes "MOD")) as (λ t. bytes_eq word (codes "MOD") ≡ t
    → cond t (modular_of tokens) (cond (bytes_eq word (codes "GH")) (passes_of tokens) (cond (bytes_eq word (codes "RND")) (method_by_base tokens) (Err Shape))) ≡ Ok how → IsMethodText (word ∷ tokens) how) [
      | true ↦ λ is g. picked-word word (codes "MOD") tokens how is (modular_text tokens how g)
      | false ↦ λ no g.
          elim (bytes_eq word (codes "GH")) as (λ t. bytes_eq word (codes "GH") ≡ t → cond t (passes_of tokens) (cond (bytes_eq word (codes "RND")) (method_by_base tokens) (Err Shape)) ≡ Ok how → IsMethodText (word ∷ tokens) how) [
            | true ↦ λ is k. picked-word word (codes "GH") tokens how is (passes_text tokens how k)
            | false ↦ λ not-gh k.
                elim (bytes_eq word (codes "RND")) as (λ t. bytes_eq word (codes "RND") ≡ t → cond t (method_by_base tokens) (Err Shape) ≡ Ok how → IsMethodText (word ∷ tokens) how) [
                  | true ↦ λ is l. picked-word word (codes "RND") tokens how is (base_text tokens how l)
                  | false ↦ λ not-rnd l. absurd cc
                ] refl k
          ] refl g
    ] refl h

pub method_text : (tokens : List (List ℕ)) (how : Method) → method_of tokens ≡ Ok how → (tokens ≡ method_arguments how) × IsMethodWithinTypes how
unfolding method_of
method_text tokens how h =
    let a = bind_ok (first_of tokens) _ how h in
    let m = method-by-text a.0.0 a.0.1 how a.2 in
    (first_text tokens a.0 a.1 ∙ m.0, m.1)

pub count_again : (n : ℕ) → FitsIn32Bits n → count_of (decimal n ∷ []) ≡ Ok n
unfolding count_of only_of
count_again n short = rw (natural_again 0 n (omega arith) short) refl

pub count_text : (tokens : List (List ℕ)) (n : ℕ) → count_of tokens ≡ Ok n → (tokens ≡ decimal n ∷ []) × FitsIn32Bits n
unfolding count_of
count_text tokens n h =
    let a = bind_ok (only_of tokens) _ n h in
    let number = natural_text 0 a.0 n a.2 in
    (only_text tokens a.0 a.1 ∙ ap (λ (t : List ℕ). t ∷ []) number.0, number.2)

-- ---- the hidden cells

pub hidden_again : (cell : ℕ) (cells : List ℕ) → ascends (cell ∷ cells) ≡ true → AllByRecursion FitsIn32Bits (cell ∷ cells) → hidden_of (decimal cell ∷ map decimal cells) ≡ Ok (cell ∷ cells)
unfolding hidden_of
hidden_again cell cells up short = rw (some-length (length (map decimal cells)), numbers_again (cell ∷ cells) short, up) refl
  where
    some-length : (n : ℕ) → (suc n == 0) ≡ false
    some-length n = grind arith

pub not-false : (t : Bool) → not t ≡ false → t ≡ true
not-false true h = refl
not-false false h = absurd cc

pub some-of : (n : ℕ) → (n == 0) ≡ false → 0 < n
some-of zero h = absurd cc
some-of (suc n) h = omega arith

pub hidden_text : (tokens : List (List ℕ)) (cells : List ℕ) → hidden_of tokens ≡ Ok cells → (tokens ≡ map decimal cells) × (0 < length cells) × (ascends cells ≡ true) × AllByRecursion FitsIn32Bits cells
unfolding hidden_of
hidden_text tokens cells h =
    let a = bind_ok (refuse Shape (length tokens == 0)) _ cells h in
    let b = bind_ok (token_numbers tokens) _ cells a.2 in
    let c = bind_ok (refuse Order (not (ascends b.0))) _ cells b.2 in
    let some = some-of (length tokens) (not_refused Shape (length tokens == 0) a.0 a.1) in
    let n = numbers_text tokens b.0 b.1 in
    let more : 0 < length b.0 = omega (arith, some, ap length n.0, length-map b.0 decimal) in
    let up = not-false (ascends b.0) (not_refused Order (not (ascends b.0)) c.0 c.1) in
    subst (λ (ns : List ℕ). (tokens ≡ map decimal ns) × (0 < length ns) × (ascends ns ≡ true) × AllByRecursion FitsIn32Bits ns) (ok_same b.0 cells c.2) (n.0, more, up, n.1)
