-- What tests of methods say where they are true.
use Rattle.std.proofs.Common.{◌≡◌, ◌==◌, ◌&&◌, ◌||◌, not, Bool, true, false, List, [], ◌∷◌, length, arith, refl, ap}
use Rattle.std.proofs.lemmas.Bool.Decides.{Decides-eqb, Decides-int_eq}
use Rattle.sdc_base.specs.declared.method.Method.{Method}
use Rattle.sdc_base.specs.declared.method.Method.TheVariants as method
use Rattle.certificate.specs.declared.certificate.Certificate.{Certificate}
use Rattle.worlds.proofs.TrueTests.{and_true}
use Rattle.cert_check.specs.Methods.{same_method, lists_nothing, ListsNothing}

pub method_same : (one other : Method) → same_method one other ≡ true → one ≡ other
method_same method.Modular method.Modular is = refl
method_same method.Modular (method.Gh n) is = absurd cc
method_same method.Modular (method.Rnd b) is = absurd cc
method_same (method.Gh n) method.Modular is = absurd cc
method_same (method.Gh n) (method.Gh m) is = ap method.Gh ((Decides-eqb n m).0 is)
method_same (method.Gh n) (method.Rnd b) is = absurd cc
method_same (method.Rnd a) method.Modular is = absurd cc
method_same (method.Rnd a) (method.Gh m) is = absurd cc
method_same (method.Rnd a) (method.Rnd b) is = ap method.Rnd ((Decides-int_eq a b).0 is)

pub same_where : (same wrong : Bool) → (not same || wrong) ≡ false → same ≡ true
same_where true wrong is = refl
same_where false wrong is = absurd cc

pub bare_where : (same rounds bare : Bool) → rounds ≡ true → (not same || (rounds && not bare)) ≡ false → bare ≡ true
bare_where true true true rounded is = refl
bare_where true true false rounded is = absurd cc
bare_where true false bare rounded is = absurd cc
bare_where false rounds bare rounded is = absurd cc

none_left : {A : Type 0} (xs : List A) → (length xs == 0) ≡ true → xs ≡ []
none_left [] is = refl
none_left (x ∷ xs) is = absurd (omega (arith, (Decides-eqb (length (x ∷ xs)) 0).0 is))

pub nothing_listed : (c : Certificate) → lists_nothing c ≡ true → ListsNothing c
nothing_listed c is =
    let four : Bool = (length c.needs == 0) && (length c.worlds == 0) in
    let three : Bool = (length c.repairs == 0) && four in
    let two : Bool = (length c.steps == 0) && three in
    let a = and_true (length c.hidden == 0) two is in
    let b = and_true (length c.steps == 0) three a.1 in
    let d = and_true (length c.repairs == 0) four b.1 in
    let e = and_true (length c.needs == 0) (length c.worlds == 0) d.1 in
    record {
      hidden = none_left c.hidden a.0;
      steps = none_left c.steps b.0;
      repairs = none_left c.repairs d.0;
      needs = none_left c.needs e.0;
      worlds = none_left c.worlds e.1;
    }
