-- Counts of faults, which never fall and stand still at their type's end (own).
use Rattle.std.specs.Prelude.{ℕ, ◌+◌, ◌-◌, ◌^◌, ◌≤◌, min}

-- a count after so many more: it stays at its last value
abbrev pub count_after : ℕ → ℕ → ℕ
count_after count more = min (count + more) (2 ^ 64 - 1)

-- The count rose: it is greater than it was, or it stands at its last value.
-- So a count that began at its last value has risen in each call, and an unchanged lower one has not.
abbrev pub HasRisen : ℕ → ℕ → Type 0
HasRisen old new = count_after old 1 ≤ new
