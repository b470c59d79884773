-- What an output tells of what was written to it, and how one write changes it (own).
use Rattle.std.specs.Prelude.{◌≡◌, ◌++◌, ℕ, List, take, Option, option_map}
use Rattle.sdc_base.specs.Counts.{HasRisen, count_after}

-- What an output tells: the bytes that were written to it, where they are known; how many writes were made or begun, and
-- how often it has refused to take more. No count falls, and each stands still at 2^64 - 1.
pub record OutputState : Type 0 where
  pub written : Option (List ℕ)
  pub writes : ℕ
  pub refusals : ℕ

-- these bytes were written behind those before, whole and by one write
pub record HasWritten (bytes : List ℕ) (old new : OutputState) : Type 0 where
  pub written : new.written ≡ option_map (λ before. before ++ bytes) old.written
  pub writes : new.writes ≡ count_after old.writes 1
  pub refusals : new.refusals ≡ old.refusals

-- the output refused to take more: the first of these bytes were written, or none, and a write and a refusal were
-- counted
pub record HasRefused (bytes : List ℕ) (old new : OutputState) : Type 0 where
  pub written : (n : ℕ) × (new.written ≡ option_map (λ before. before ++ take n bytes) old.written)
  pub writes : new.writes ≡ count_after old.writes 1
  pub refused : HasRisen old.refusals new.refusals
