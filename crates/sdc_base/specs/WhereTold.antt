-- What holds where something is told (own). A shelf over real files tells nothing of what they hold.
use Rattle.std.specs.Prelude.{◌≡◌, Option, Some}

-- this holds of what is told; where nothing is told it says nothing
abbrev pub WhereTold : {T : Type 0} → Option T → (T → Type 0) → Type 0
WhereTold {T} told P = (x : T) → told ≡ Some x → P x
