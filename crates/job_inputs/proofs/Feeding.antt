-- A file that is fed in pieces.
use Rattle.std.proofs.Common.{◌≡◌, ◌≢◌, ◌↔◌, ℕ, zero, suc, ◌+◌, ◌-◌, ◌<◌, ◌≤◌, true, false, cond, nat_lt, List, [], ◌∷◌, ◌++◌, length, take, drop, Option, None, Some, option_map, Result, Ok, Err, refl, ap, sym, subst, ◌∙◌, arith, append_assoc, append-nil, length-append, length-take}
use Rattle.std.proofs.lemmas.List.{take-append-drop}
use Rattle.std.proofs.lemmas.Bool.Decides.{nat_tests}
use Rattle.sdc_base.specs.Answers.{Fails}
use Rattle.sdc_base.specs.Steps.{map_fault}
use Rattle.sdc_base.specs.WhereTold.{WhereTold}
use Rattle.microdata.specs.Feeding.{ReaderView, HasRead, fed_of}
use Rattle.microdata.specs.Laws.{FaultsStand}
use Rattle.microdata.specs.Microdata.{records_of}
use Rattle.microdata.specs.declared.faults.RowWhy.{RowWhy}
use Rattle.microdata.specs.declared.layout.Layout.{Layout}
use Rattle.microdata.specs.declared.records.Records.{Records}
use Rattle.job_inputs.specs.Inputs.{long_file_fault, records_in}
use Rattle.job_inputs.specs.ReadFiles.{limit, row_fault}
use Rattle.job_inputs.specs.declared.file_ref.FileRef.TheVariants as file
use Rattle.job_inputs.specs.declared.faults.Fault.{Fault}
use Rattle.job_inputs.specs.declared.faults.Fault.TheVariants as fault

-- so many bytes of the file were fed, and the others are left
pub record IsFed (layout : Layout) (bytes : List ℕ) (reader : ReaderView) (left : Option (List ℕ)) (taken : ℕ) : Type 0 where
  pub got : List ℕ
  pub rest : List ℕ
  pub is_left : left ≡ Some rest
  pub whole : bytes ≡ got ++ rest
  pub read : HasRead reader layout got
  pub count : length got ≡ taken

pub fed-start : (layout : Layout) (bytes : List ℕ) (reader : ReaderView) (left : Option (List ℕ)) → left ≡ Some bytes → HasRead reader layout [] → IsFed layout bytes reader left 0
fed-start layout bytes reader left is read = record { got = []; rest = bytes; is_left = is; whole = refl; read = read; count = refl }

-- the rest, after the front of what was read
cut-rest : (rest buffer : List ℕ) (n : ℕ) → take n buffer ≡ take n rest → rest ≡ take n buffer ++ drop n rest
cut-rest rest buffer n same = sym (take-append-drop n rest) ∙ ap (λ (xs : List ℕ). xs ++ drop n rest) (sym same)

whole-cut : (got rest front behind bytes : List ℕ) → bytes ≡ got ++ rest → rest ≡ front ++ behind → bytes ≡ (got ++ front) ++ behind
whole-cut got rest front behind bytes whole cut = whole ∙ ap (λ (xs : List ℕ). got ++ xs) cut ∙ sym (append_assoc got front behind)

pub fed-more : (layout : Layout) (bytes : List ℕ) (old new : ReaderView) (left : Option (List ℕ)) (taken n : ℕ) (buffer : List ℕ) → IsFed layout bytes old left taken
    → WhereTold left (λ rest. n ≤ length rest) → WhereTold left (λ rest. take n buffer ≡ take n rest)
    → ((got : List ℕ) → HasRead old layout got → HasRead new layout (got ++ take n buffer)) → IsFed layout bytes new (option_map (drop n) left) (taken + n)
fed-more layout bytes old new left taken n buffer fed within given goes =
    let same = given fed.rest fed.is_left in
    let fits : n ≤ length fed.rest = within fed.rest fed.is_left in
    let long : length (take n buffer) ≡ n = ap length same ∙ omega (arith, length-take {A = ℕ}, fits) in
    record {
      got = fed.got ++ take n buffer;
      rest = drop n fed.rest;
      is_left = ap (option_map (drop n)) fed.is_left;
      whole = whole-cut fed.got fed.rest (take n buffer) (drop n fed.rest) bytes fed.whole (cut-rest fed.rest buffer n same);
      read = goes fed.got fed.read;
      count = length-append fed.got (take n buffer) ∙ omega (arith, fed.count, long);
    }

pub fed-end : (layout : Layout) (bytes : List ℕ) (reader : ReaderView) (left : Option (List ℕ)) (taken n : ℕ) → IsFed layout bytes reader left taken → n ≡ 0 → WhereTold left (λ rest. (n ≡ 0) ↔ (rest ≡ []))
    → HasRead reader layout bytes × (length bytes ≡ taken)
fed-end layout bytes reader left taken n fed none end =
    let nothing : fed.rest ≡ [] = (end fed.rest fed.is_left).0 none in
    let all : fed.got ≡ bytes = sym (fed.whole ∙ ap (λ (xs : List ℕ). fed.got ++ xs) nothing ∙ append-nil fed.got) in
    (subst (λ (xs : List ℕ). HasRead reader layout xs) all fed.read, ap length (sym all) ∙ fed.count)

-- ---- a fault of the first bytes, whatever follows

first-of : (k : ℕ) (front behind : List ℕ) → length front ≤ k → take k (front ++ behind) ≡ front ++ take (k - length front) behind
first-of k [] behind h = let all : k - 0 ≡ k = omega arith in ap (λ (n : ℕ). take n behind) (sym all)
first-of zero (b ∷ front) behind h = absurd (omega (arith, h))
first-of (suc k) (b ∷ front) behind h =
    let less : suc k - suc (length front) ≡ k - length front = omega arith in
    ap (λ (xs : List ℕ). b ∷ xs) (first-of k front behind (omega (arith, h))) ∙ ap (λ (n : ℕ). b ∷ (front ++ take n behind)) (sym less)

fault-in : FaultsStand → (layout : Layout) (front behind : List ℕ) (at : ℕ × RowWhy) → length front ≤ limit → fed_of layout front ≡ Err at → records_in layout (Some (front ++ behind)) ≡ Err (row_fault at)
fault-in law layout front behind at short faulty =
    let later = first-of limit front behind short in
    let early : fed_of layout (take limit (front ++ behind)) ≡ Err at = ap (fed_of layout) later ∙ (law layout front (take (limit - length front) behind) at faulty).0 in
    elim (nat_lt limit (length (front ++ behind))) as (λ t. cond t (long_file_fault (fed_of layout (take limit (front ++ behind)))) (map_fault row_fault (records_of layout (front ++ behind))) ≡ Err (row_fault at)) [
      | true ↦ rw early refl
      | false ↦ rw ((law layout front behind at faulty).1) refl
    ]

fault-of : (o : Option Fault) (told : Result (Unit {0}) (ℕ × RowWhy)) (meant : Result Records Fault) → Fails o (map_fault row_fault told) → ((at : ℕ × RowWhy) → told ≡ Err at → meant ≡ Err (row_fault at)) → Fails o meant
fault-of None told meant fails same = tt
fault-of (Some one) (Ok x) meant fails same = absurd cc
fault-of (Some one) (Err at) meant fails same = let is : row_fault at ≡ one = cc in same at refl ∙ ap Err is

take-shorter : (m n : ℕ) (xs : List ℕ) → m ≤ n → take m xs ≡ take m (take n xs)
take-shorter zero n xs less = refl
take-shorter (suc m) zero xs less = absurd (omega (arith, less))
take-shorter (suc m) (suc n) [] less = refl
take-shorter (suc m) (suc n) (x ∷ xs) less = ap (λ (ys : List ℕ). x ∷ ys) (take-shorter m n xs (omega (arith, less)))

shorter : (m n : ℕ) (xs ys : List ℕ) → m ≤ n → take n xs ≡ take n ys → take m xs ≡ take m ys
shorter m n xs ys less same = take-shorter m n xs less ∙ ap (take m) same ∙ sym (take-shorter m n ys less)

is-beyond : (n : ℕ) → limit < n → nat_lt limit n ≡ true
is-beyond n h = grind (arith, nat_tests)

not-beyond : (n : ℕ) → n ≤ limit → nat_lt limit n ≡ false
not-beyond n h = grind (arith, nat_tests)

is-fine : (told : Result (Unit {0}) (ℕ × RowWhy)) → map_fault row_fault told ≡ Ok tt → told ≡ Ok tt
is-fine (Ok x) h = refl
is-fine (Err at) h = absurd cc

pub fed-faulty : FaultsStand → (layout : Layout) (bytes : List ℕ) (reader : ReaderView) (left : Option (List ℕ)) (taken n m : ℕ) (buffer : List ℕ) (o : Option Fault) → IsFed layout bytes reader left taken
    → WhereTold left (λ rest. n ≤ length rest) → WhereTold left (λ rest. take n buffer ≡ take n rest) → m ≤ n → taken + m ≤ limit
    → ((got : List ℕ) → HasRead reader layout got → Fails o (map_fault row_fault (fed_of layout (got ++ take m buffer)))) → Fails o (records_in layout (Some bytes))
fed-faulty law layout bytes reader left taken n m buffer o fed within given less short fails =
    let same : take m buffer ≡ take m fed.rest = shorter m n buffer fed.rest less (given fed.rest fed.is_left) in
    let fits : n ≤ length fed.rest = within fed.rest fed.is_left in
    let long : length (take m buffer) ≡ m = ap length same ∙ omega (arith, length-take {A = ℕ}, fits, less) in
    let front = fed.got ++ take m buffer in
    let whole : bytes ≡ front ++ drop m fed.rest = whole-cut fed.got fed.rest (take m buffer) (drop m fed.rest) bytes fed.whole (cut-rest fed.rest buffer m same) in
    let inside : length front ≤ limit = omega (arith, length-append fed.got (take m buffer), fed.count, long, short) in
    subst (λ (xs : List ℕ). Fails o (records_in layout (Some xs))) (sym whole)
    (fault-of o (fed_of layout front) (records_in layout (Some (front ++ drop m fed.rest))) (fails fed.got fed.read) (λ at faulty. fault-in law layout front (drop m fed.rest) at inside faulty))

-- ---- a file that is too long

pub fed-long : (layout : Layout) (bytes : List ℕ) (reader : ReaderView) (left : Option (List ℕ)) (taken n : ℕ) (buffer : List ℕ) → IsFed layout bytes reader left taken
    → WhereTold left (λ rest. n ≤ length rest) → WhereTold left (λ rest. take n buffer ≡ take n rest) → limit - taken < n → taken ≤ limit
    → ((got : List ℕ) → HasRead reader layout got → map_fault row_fault (fed_of layout (got ++ take (limit - taken) buffer)) ≡ Ok tt) → records_in layout (Some bytes) ≡ Err (fault.TooLong file.Microdata)
fed-long layout bytes reader left taken n buffer fed within given more short fine =
    let m = limit - taken in
    let same : take m buffer ≡ take m fed.rest = shorter m n buffer fed.rest (omega (arith, more)) (given fed.rest fed.is_left) in
    let fits : n ≤ length fed.rest = within fed.rest fed.is_left in
    let long : length (take m buffer) ≡ m = ap length same ∙ omega (arith, length-take {A = ℕ}, fits, more) in
    let front = fed.got ++ take m buffer in
    let whole : bytes ≡ front ++ drop m fed.rest = whole-cut fed.got fed.rest (take m buffer) (drop m fed.rest) bytes fed.whole (cut-rest fed.rest buffer m same) in
    let inside : length front ≡ limit = omega (arith, length-append fed.got (take m buffer), fed.count, long, short) in
    let beyond : nat_lt limit (length bytes) ≡ true = is-beyond (length bytes) (omega (arith, ap length fed.whole, length-append fed.got fed.rest, fed.count, fits, more, short)) in
    let none-more : limit - length front ≡ 0 = omega (arith, inside) in
    let first : take limit bytes ≡ front = ap (take limit) whole ∙ first-of limit front (drop m fed.rest) (omega (arith, inside)) ∙ ap (λ (k : ℕ). front ++ take k (drop m fed.rest)) none-more ∙ append-nil front in
    let fine-first : fed_of layout (take limit bytes) ≡ Ok tt = ap (fed_of layout) first ∙ is-fine (fed_of layout front) (fine fed.got fed.read) in
    rw (beyond, fine-first) refl

-- ---- a whole file

pub whole-read : (layout : Layout) (bytes : List ℕ) (e : Option Fault) → length bytes ≤ limit → Fails e (map_fault row_fault (records_of layout bytes)) → Fails e (records_in layout (Some bytes))
whole-read layout bytes e short fails = rw (not-beyond (length bytes) short) fails

pub whole-is : (layout : Layout) (bytes : List ℕ) (records : Records) → length bytes ≤ limit → map_fault row_fault (records_of layout bytes) ≡ Ok records → records_in layout (Some bytes) ≡ Ok records
whole-is layout bytes records short is = rw (not-beyond (length bytes) short) is

-- what is refused of the whole file, and what is read of it, is what the file holds
pub file-refused : (o : Option Fault) (layout : Layout) (held : Option (List ℕ)) → held ≢ None
    → ((bytes : List ℕ) → held ≡ Some bytes → (length bytes ≤ limit) × Fails o (map_fault row_fault (records_of layout bytes))) → Fails o (records_in layout held)
file-refused o layout None there h = absurd (there refl)
file-refused o layout (Some bytes) there h = let whole = h bytes refl in whole-read layout bytes o whole.0 whole.1

pub file-read : (records : Records) (layout : Layout) (held : Option (List ℕ)) → held ≢ None
    → ((bytes : List ℕ) → held ≡ Some bytes → (length bytes ≤ limit) × (map_fault row_fault (records_of layout bytes) ≡ Ok records)) → records_in layout held ≡ Ok records
file-read records layout None there h = absurd (there refl)
file-read records layout (Some bytes) there h = let whole = h bytes refl in whole-is layout bytes records whole.0 whole.1

-- a fault of the fed bytes is one of the file
pub fed-stops : (layout : Layout) (held : Option (List ℕ)) (o : Option Fault) → held ≢ None → ((bytes : List ℕ) → held ≡ Some bytes → Fails o (records_in layout (Some bytes))) → Fails o (records_in layout held)
fed-stops layout None o there h = absurd (there refl)
fed-stops layout (Some bytes) o there h = h bytes refl
