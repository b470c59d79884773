use Rattle.std.proofs.Common.{◌∷◌, [], ℕ, List, get_or, length, arith, ap, ◌∙◌, length-append}
use Rattle.signed_network.proofs.Touching.{empty_more}
use Rattle.signed_network.proofs.lists.empty_lists.Goals as goal

pub lists-preserved : goal.lists-preserved
lists-preserved c = record {
  many = ap (λ (xs : List (List ℕ)). length xs) c.in_ok-push.ensures.items ∙ length-append c.lists.lists.items (c.empty.result ∷ []) ∙ omega (arith, c.lists.invariant.many);
  empty = λ cell. ap (λ (xs : List (List ℕ)). get_or xs cell []) c.in_ok-push.ensures.items ∙ empty_more c.lists.lists.items c.empty.result cell c.empty.ensures c.lists.invariant.empty;
}
