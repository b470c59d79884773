-- What is left of a file that is told.
use Rattle.std.proofs.Common.{◌≡◌, ◌≢◌, ℕ, ◌-◌, ◌<◌, ◌≤◌, List, [], ◌++◌, length, take, drop, Option, None, Some, ap, sym, ◌∙◌, subst, refl, arith, append_assoc, append-nil, length-append, IsSomeAnd, option_map, ◌↔◌}
use Rattle.sdc_base.specs.WhereTold.{WhereTold}
use Rattle.std.proofs.lemmas.List.{take-append-drop}

-- the file is what was got and what is left
abbrev pub IsGot : Option (List ℕ) → List ℕ → Option (List ℕ) → Type 0
IsGot file got left = IsSomeAnd left (λ rest. file ≡ Some (got ++ rest))

pub IsGot-start : (file : Option (List ℕ)) (got : List ℕ) (left : Option (List ℕ)) → left ≡ file → file ≢ None → got ≡ [] → IsGot file got left
IsGot-start None got left h held e = absurd (held refl)
IsGot-start (Some bytes) got left h held e =
    let P : Option (List ℕ) → Type 0 = λ l. IsGot (Some bytes) got l in
    subst P (sym h) (rw e refl)

pub IsGot-more : (file : Option (List ℕ)) (got : List ℕ) (left : Option (List ℕ)) (n : ℕ) (buffer : List ℕ) → IsGot file got left → WhereTold left (λ bytes. take n buffer ≡ take n bytes) → IsGot file (got ++ take n buffer) (option_map (drop n) left)
IsGot-more file got None n buffer h given = absurd h
IsGot-more file got (Some rest) n buffer h given =
    rw (given rest refl) (h ∙ ap Some (ap (λ xs. got ++ xs) (sym (take-append-drop n rest)) ∙ sym (append_assoc got (take n rest) (drop n rest))))

pub IsGot-end : (file : Option (List ℕ)) (got : List ℕ) (left : Option (List ℕ)) (n : ℕ) → n ≡ 0 → IsGot file got left → WhereTold left (λ bytes. (n ≡ 0) ↔ (bytes ≡ [])) → file ≡ Some got
IsGot-end file got None n e h end = absurd h
IsGot-end file got (Some rest) n e h end = h ∙ ap Some (ap (λ xs. got ++ xs) ((end rest refl).0 e) ∙ append-nil got)

pub IsGot-longer : (file : Option (List ℕ)) (got : List ℕ) (left : Option (List ℕ)) (n limit : ℕ) → IsGot file got left → WhereTold left (λ bytes. n ≤ length bytes) → limit - length got < n → (bytes : List ℕ) → file ≡ Some bytes → limit < length bytes
IsGot-longer file got None n limit h within more bytes is = absurd h
IsGot-longer file got (Some rest) n limit h within more bytes is =
    let same : bytes ≡ got ++ rest = cc in
    let fits : n ≤ length rest = within rest refl in
    omega (arith, ap length same, length-append got rest)

pub IsGot-held : (file : Option (List ℕ)) (got : List ℕ) (left : Option (List ℕ)) → IsGot file got left → file ≢ None
IsGot-held None got None h = absurd h
IsGot-held None got (Some rest) h = absurd cc
IsGot-held (Some bytes) got left h = λ none. absurd cc
