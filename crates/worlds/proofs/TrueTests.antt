-- What tests say where they are true.
use Rattle.std.proofs.Common.{◌≡◌, ◌↔◌, Bool, true, false, not, ◌&&◌, Result, Ok, Err, IsOk, OnOk, IfOk, IfErr, refl}

pub and_true : (a b : Bool) → (a && b) ≡ true → (a ≡ true) × (b ≡ true)
and_true true b is = (refl, is)
and_true false b is = absurd cc

pub both_true : (a b : Bool) → a ≡ true → b ≡ true → (a && b) ≡ true
both_true true b is also = also
both_true false b is also = absurd cc

pub not_true : (a : Bool) → not a ≡ true → a ≡ false
not_true true is = absurd cc
not_true false is = refl

pub true_unless : (a : Bool) → (a ≡ false → false ≡ true) → a ≡ true
true_unless true h = refl
true_unless false h = h refl

-- an answer is good where it is the good one
pub ok_where : {F : Type 0} (P : Type 0) (r : Result (Unit {0}) F) → (r ≡ Ok tt) ↔ P → IsOk r ↔ P
ok_where P (Ok tt) law = (λ _. law.0 refl, λ _. refl)
ok_where P (Err e) law = ((λ bad. absurd cc), (λ p. let clash : Err e ≡ Ok tt = law.1 p in cc))

pub ok_more : {A F : Type 0} {P Q : Type 0} (r : Result A F) → (P → Q) → OnOk r P → OnOk r Q
ok_more (Ok x) f h = f h
ok_more (Err e) f h = tt

pub err_more : {A F : Type 0} {P Q : F → Type 0} (r : Result A F) → ((e : F) → P e → Q e) → IfErr r P → IfErr r Q
err_more (Ok x) f h = tt
err_more (Err e) f h = f e h

pub if_ok : {A F : Type 0} {P : A → Type 0} (r : Result A F) → ((x : A) → r ≡ Ok x → P x) → IfOk r P
if_ok (Ok x) f = f x refl
if_ok (Err e) f = tt

-- an answer is good exactly where there is a value
pub ok_some : {A F : Type 0} (P : Type 0) (r : Result A F) → ((x : A) → r ≡ Ok x → P) → (P → (x : A) × (r ≡ Ok x)) → IsOk r ↔ P
ok_some P (Ok x) f g = (λ _. f x refl, λ _. refl)
ok_some P (Err e) f g = ((λ bad. absurd cc), (λ p. let found = g p in let clash : Err e ≡ Ok found.0 = found.1 in cc))

pub if_err : {A F : Type 0} {P : F → Type 0} (r : Result A F) → ((e : F) → r ≡ Err e → P e) → IfErr r P
if_err (Ok x) f = tt
if_err (Err e) f = f e refl

-- what holds anyway holds where there is a value
pub on_ok : {A E : Type 0} (P : Type 0) (r : Result A E) → P → OnOk r P
on_ok P (Ok x) is = is
on_ok P (Err e) is = tt
