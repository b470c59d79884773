-- Missing codes stand behind the tree as it was.
use Rattle.std.proofs.Common.{◌≡◌, ℕ, ◌+◌, true, false, cond, List, [], ◌∷◌, ◌++◌, Option, None, Some, Result, Ok, refl, ap, sym, ◌∙◌, subst, inl, inr, append_assoc, append-nil}
use Rattle.sdc_base.specs.Trees.{Tree, codes}
use Rattle.code_trees.specs.Among.{IsIn}
use Rattle.code_trees.specs.Growing.{tree_with_node}
use Rattle.code_trees.specs.MissingCodes.{has_code, missing_fault, with_code, with_codes, unless_read}
use Rattle.code_trees.specs.Laws.{IsCompleted, MissingStandLast}
use Rattle.code_trees.specs.declared.tree_fault.TreeFault.{TreeFault}
use Rattle.code_trees.proofs.Among.{any-known}

pub in-front : (a b : List (List ℕ)) (x : List ℕ) → IsIn x a → IsIn x (a ++ b)
in-front [] b x h = absurd h
in-front (y ∷ a) b x h = elim h [ inl here ↦ inl here | inr later ↦ inr (in-front a b x later) ]

pub in-behind : (a b : List (List ℕ)) (x : List ℕ) → IsIn x b → IsIn x (a ++ b)
in-behind [] b x h = h
in-behind (y ∷ a) b x h = inr (in-behind a b x h)

codes-append : (a b : Tree) → codes (a ++ b) ≡ codes a ++ codes b
codes-append [] b = refl
codes-append (node ∷ a) b = ap (λ rest. node.0 ∷ rest) (codes-append a b)

stays-there : (tree more : Tree) (x : List ℕ) → IsIn x (codes tree) → IsIn x (codes (tree ++ more))
stays-there tree more x h = subst (IsIn x) (sym (codes-append tree more)) (in-front (codes tree) (codes more) x h)

no-fault : (told : Option TreeFault) (read : Result Tree TreeFault) (whole : Tree) → unless_read told read ≡ Ok whole → read ≡ Ok whole
no-fault None read whole h = h
no-fault (Some one) read whole h = cc

completed : (n : ℕ) (missing : List (List ℕ)) (tree whole : Tree) → with_codes n tree missing ≡ Ok whole → IsCompleted tree whole missing
completed n [] tree whole h =
    record { more = []; stays = (let same : tree ≡ whole = cc in sym same) ∙ sym (append-nil tree); under_total = tt; wanted = λ x none. none; there = λ x none. absurd none }
completed n (code ∷ missing) tree whole h =
    let rest = no-fault (missing_fault (codes tree) code n) (with_codes (n + 1) (with_code tree code) missing) whole h in
    elim (has_code (codes tree) code) as (λ b. has_code (codes tree) code ≡ b → with_codes (n + 1) (cond b tree (tree_with_node tree code 0)) missing ≡ Ok whole → IsCompleted tree whole (code ∷ missing)) [
      | true ↦ λ known later. old (any-known code (codes tree) known) (completed (n + 1) missing tree whole later)
      | false ↦ λ new later. one-more (completed (n + 1) missing (tree_with_node tree code 0) whole later)
    ] refl rest
  where
    old : IsIn code (codes tree) → IsCompleted tree whole missing → IsCompleted tree whole (code ∷ missing)
    old known r = record {
      more = r.more;
      stays = r.stays;
      under_total = r.under_total;
      wanted = λ x inside. inr (r.wanted x inside);
      there = λ x inside. elim inside [
        | inl here ↦ subst (λ (w : Tree). IsIn x (codes w)) (sym r.stays) (stays-there tree r.more x (subst (λ y. IsIn y (codes tree)) (sym here) known))
        | inr later ↦ r.there x later
      ];
    }

    one-more : IsCompleted (tree_with_node tree code 0) whole missing → IsCompleted tree whole (code ∷ missing)
    one-more r = record {
      more = (code, Some 0) ∷ r.more;
      stays = r.stays ∙ append_assoc tree ((code, Some 0) ∷ []) r.more;
      under_total = (refl, r.under_total);
      wanted = λ x inside. elim inside [ inl here ↦ inl here | inr later ↦ inr (r.wanted x later) ];
      there = λ x inside. elim inside [
        | inl here ↦
            let known : IsIn code (codes (tree ++ (code, Some 0) ∷ [])) = subst (IsIn code) (sym (codes-append tree ((code, Some 0) ∷ []))) (in-behind (codes tree) (code ∷ []) code (inl refl)) in
            subst (λ (w : Tree). IsIn x (codes w)) (sym r.stays) (stays-there (tree_with_node tree code 0) r.more x (subst (λ y. IsIn y (codes (tree_with_node tree code 0))) (sym here) known))
        | inr later ↦ r.there x later
      ];
    }

pub missing_stand_last : MissingStandLast
missing_stand_last tree whole missing h = completed 1 missing tree whole h
