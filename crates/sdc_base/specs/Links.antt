-- Links of relations to lower ones, by which their signs are found (own).
use Rattle.std.specs.Prelude.{◌≡◌, ℕ, ◌≤◌, Bool, true, false, not, List, slice_get, Some}
use Rattle.sdc_base.specs.declared.ends.Ends.{Ends}
use Rattle.sdc_base.specs.declared.ends.Ends.TheVariants.{Two}
use Rattle.sdc_base.specs.declared.links.Link.{Link}
use Rattle.sdc_base.specs.Signs.{sign_of}

-- a sign, or the other one where it isn't to be the same
abbrev pub sign_by_link : Bool → Bool → Bool
sign_by_link true sign = sign
sign_by_link false sign = not sign

-- each link is to the relation itself or to a lower one, and to itself with the same sign
pub record AreLinks (links : List Link) : Type 0 where
  pub falls : (number : ℕ) (link : Link) → slice_get links number ≡ Some link → link.to ≤ number
  pub itself : (number : ℕ) (link : Link) → slice_get links number ≡ Some link → link.to ≡ number → link.same ≡ true

-- the signs are as the links say: each relation's is that of the one that it is linked to, or the other one
abbrev pub Follow : List Bool → List Link → Type 0
Follow signs links =
    (number : ℕ) (link : Link) → slice_get links number ≡ Some link
    → sign_of signs number ≡ sign_by_link link.same (sign_of signs link.to)

-- the relations that count a cell count it with opposite signs
abbrev pub Oppose : List Bool → Ends → Type 0
Oppose signs (Two one other) = sign_of signs one.relation
    ≡ sign_by_link (sign_by_link one.plus (not other.plus)) (sign_of signs other.relation)
Oppose signs fewer = Unit {0}
