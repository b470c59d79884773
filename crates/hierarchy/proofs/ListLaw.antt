-- A code list gives the codes of its lines.
use Rattle.std.proofs.Common.{◌≡◌, ◌≢◌, ℕ, suc, ◌+◌, ◌==◌, ◌<◌, ◌||◌, nat_le, true, false, cond, List, [], ◌∷◌, ◌++◌, length, Ok, Err, refl, ap, sym, ◌∙◌, subst, arith, ◌⊎◌, inl, inr, append_assoc, append-nil, length-append}
use Rattle.std.specs.List.{IsDistinct}
use Rattle.std.specs.Str.{bytes_eq}
use Rattle.std.proofs.lemmas.Bool.Decides.{nat_tests}
use Rattle.std.proofs.lemmas.Cmp.{nat_list_eq_equiv}
use Rattle.std.proofs.lemmas.Map.Keys.{IsDistinct-push}
use Rattle.std.proofs.lemmas.Slice.Eq.{bytes_eq-Decides}
use Rattle.sdc_base.specs.Lines.{lines}
use Rattle.code_trees.specs.Among.{IsIn}
use Rattle.hierarchy.specs.CodeList.{code_of_line, is_passed_over, codes_listed}
use Rattle.code_trees.specs.MissingCodes.{has_code}
use Rattle.hierarchy.specs.Laws.{AreTheListed, ListGivesItsCodes}
use Rattle.code_trees.specs.declared.tree_fault.TreeFault.TheVariants as fault
use Rattle.code_trees.proofs.Among.{any-known, last-in, same-bytes}
use Rattle.code_trees.proofs.MissingLaw.{in-front, in-behind}

no-bytes : (code : List ℕ) → (length code == 0) ≡ true → code ≡ []
no-bytes [] h = refl
no-bytes (b ∷ code) h = absurd (more (length code) h)
  where
    more : (n : ℕ) → (suc n == 0) ≡ true → ⊥
    more n e = let never : (suc n == 0) ≡ false = grind (arith, nat_tests) in cc

some-bytes : (code : List ℕ) → (length code == 0) ≡ false → code ≢ []
some-bytes code h empty = let none : (length code == 0) ≡ true = ap (λ (c : List ℕ). length c == 0) empty in cc

other-code : (code total : List ℕ) → bytes_eq code total ≡ false → code ≢ total
other-code code total h same = let yes-same = (bytes_eq-Decides code total).1 same in cc

-- what is passed over
passed-is : (total : List ℕ) (kept : List (List ℕ)) (code : List ℕ) → is_passed_over total kept code ≡ true → (code ≡ []) ⊎ ((code ≡ total) ⊎ IsIn code kept)
passed-is total kept code h =
    elim (length code == 0) as (λ b. (length code == 0) ≡ b → (b || (bytes_eq code total || has_code kept code)) ≡ true → (code ≡ []) ⊎ ((code ≡ total) ⊎ IsIn code kept)) [
      | true ↦ λ e f. inl (no-bytes code e)
      | false ↦ λ e f.
          elim (bytes_eq code total) as (λ b. bytes_eq code total ≡ b → (b || has_code kept code) ≡ true → (code ≡ []) ⊎ ((code ≡ total) ⊎ IsIn code kept)) [
            | true ↦ λ d g. inr (inl (same-bytes code total d))
            | false ↦ λ d g. inr (inr (any-known code kept g))
          ] refl f
    ] refl h

-- what isn't passed over
record IsFresh (total : List ℕ) (kept : List (List ℕ)) (code : List ℕ) : Type 0 where
  pub some : code ≢ []
  pub own : code ≢ total
  pub new : has_code kept code ≡ false

fresh-is : (total : List ℕ) (kept : List (List ℕ)) (code : List ℕ) → is_passed_over total kept code ≡ false → IsFresh total kept code
fresh-is total kept code h =
    elim (length code == 0) as (λ b. (length code == 0) ≡ b → (b || (bytes_eq code total || has_code kept code)) ≡ false → IsFresh total kept code) [
      | true ↦ λ e f. cc
      | false ↦ λ e f.
          elim (bytes_eq code total) as (λ b. bytes_eq code total ≡ b → (b || has_code kept code) ≡ false → IsFresh total kept code) [
            | true ↦ λ d g. cc
            | false ↦ λ d g. record { some = some-bytes code e; own = other-code code total d; new = g }
          ] refl f
    ] refl h

abbrev IsSpoken : List ℕ → List (List ℕ) → List ℕ → Type 0
IsSpoken total kept line = (code_of_line line ≡ []) ⊎ ((code_of_line line ≡ total) ⊎ IsIn (code_of_line line) kept)

with-passed : (total : List ℕ) (before kept : List (List ℕ)) (line : List ℕ) → IsSpoken total kept line → AreTheListed total before kept → AreTheListed total (before ++ line ∷ []) kept
with-passed total before kept line spoken so = record {
  each = λ code inside. let e = so.each code inside in ((e.0.0, in-front before (line ∷ []) e.0.0 e.0.1, e.0.2), e.1, e.2);
  all = λ other inside. elim (last-in before line other inside) [ inl old ↦ so.all other old | inr here ↦ subst (IsSpoken total kept) (sym here) spoken ];
  once = so.once;
  at_most_5000 = so.at_most_5000;
}

with-kept : (total : List ℕ) (before kept : List (List ℕ)) (line : List ℕ) → IsFresh total kept (code_of_line line) → length kept < 5000 → AreTheListed total before kept → AreTheListed total (before ++ line ∷ []) (kept ++ code_of_line line ∷ [])
with-kept total before kept line fresh room so = record {
  each = λ code inside. elim (last-in kept (code_of_line line) code inside) [
    | inl old ↦ let e = so.each code old in ((e.0.0, in-front before (line ∷ []) e.0.0 e.0.1, e.0.2), e.1, e.2)
    | inr here ↦ ((line, in-behind before (line ∷ []) line (inl refl), sym here), (λ empty. fresh.some (sym here ∙ empty)), (λ whole. fresh.own (sym here ∙ whole)))
  ];
  all = λ other inside. elim (last-in before line other inside) [
    | inl old ↦ elim (so.all other old) [ inl empty ↦ inl empty | inr known ↦ inr (elim known [ inl whole ↦ inl whole | inr there ↦ inr (in-front kept (code_of_line line ∷ []) (code_of_line other) there) ]) ]
    | inr here ↦ inr (inr (subst (λ (l : List ℕ). IsIn (code_of_line l) (kept ++ code_of_line line ∷ [])) (sym here) (in-behind kept (code_of_line line ∷ []) (code_of_line line) (inl refl))))
  ];
  once = IsDistinct-push nat_list_eq_equiv kept (code_of_line line) so.once fresh.new;
  at_most_5000 = omega (arith, room, length-append kept (code_of_line line ∷ []));
}

not-full : (n : ℕ) → nat_le 5000 n ≡ false → n < 5000
not-full n h = grind (arith, nat_tests)

listed-on : (total : List ℕ) (n : ℕ) (texts before kept given : List (List ℕ)) → AreTheListed total before kept → codes_listed total n kept texts ≡ Ok given → AreTheListed total (before ++ texts) given
listed-on total n [] before kept given so h =
    let same : kept ≡ given = cc in subst (AreTheListed total (before ++ [])) same (subst (λ (b : List (List ℕ)). AreTheListed total b kept) (sym (append-nil before)) so)
listed-on total n (line ∷ texts) before kept given so h =
    subst (λ (all : List (List ℕ)). AreTheListed total all given) (append_assoc before (line ∷ []) texts)
    (elim (is_passed_over total kept (code_of_line line)) as (λ b. is_passed_over total kept (code_of_line line) ≡ b → cond b (codes_listed total (n + 1) kept texts) (cond (nat_le 5000 (length kept)) (Err (fault.TooMany n)) (codes_listed total (n + 1) (kept ++ code_of_line line ∷ []) texts)) ≡ Ok given → AreTheListed total ((before ++ line ∷ []) ++ texts) given) [
      | true ↦ λ e f. listed-on total (n + 1) texts (before ++ line ∷ []) kept given (with-passed total before kept line (passed-is total kept (code_of_line line) e) so) f
      | false ↦ λ e f.
          elim (nat_le 5000 (length kept)) as (λ b. nat_le 5000 (length kept) ≡ b → cond b (Err (fault.TooMany n)) (codes_listed total (n + 1) (kept ++ code_of_line line ∷ []) texts) ≡ Ok given → AreTheListed total ((before ++ line ∷ []) ++ texts) given) [
            | true ↦ λ d g. cc
            | false ↦ λ d g. listed-on total (n + 1) texts (before ++ line ∷ []) (kept ++ code_of_line line ∷ []) given (with-kept total before kept line (fresh-is total kept (code_of_line line) e) (not-full (length kept) d) so) g
          ] refl f
    ] refl h)

start : (total : List ℕ) → AreTheListed total [] []
unfolding IsDistinct
start total = record { each = λ code none. absurd none; all = λ line none. absurd none; once = tt; at_most_5000 = omega arith }

pub list_gives_its_codes : ListGivesItsCodes
list_gives_its_codes total bytes kept h = listed-on total 1 (lines bytes) [] [] kept (start total) h
