-- Steps of tokens.
use Rattle.std.proofs.Common.{◌≡◌, ℕ, ◌<◌, true, List, [], ◌∷◌, length, arith}
use Rattle.job_lang.specs.LineTokens.{begins_with}

-- bytes that begin with a mark are some
pub begins_some : (mark : ℕ) (text : List ℕ) → begins_with mark text ≡ true → 0 < length text
begins_some mark [] h = absurd cc
begins_some mark (b ∷ text) h = omega arith
