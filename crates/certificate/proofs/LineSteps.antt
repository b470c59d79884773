-- Lines that are read one after the other.
use Rattle.std.proofs.Common.{◌≡◌, ℕ, ◌+◌, ◌<◌, ◌==◌, true, false, cond, List, [], ◌∷◌, ◌++◌, length, take, Result, Ok, Err, refl, ap, sym, arith, append_assoc}
use Rattle.std.specs.Prelude.{not}
use Rattle.std.specs.List.{list_any, before_first, after_first, onto_first, position_or_len}
use Rattle.std.specs.Str.{bytes_eq}
use Rattle.std.proofs.lemmas.List.{append-nil}
use Rattle.sdc_base.specs.Answers.{Fails}
use Rattle.sdc_base.specs.Steps.{◌>>=◌}
use Rattle.certificate.specs.declared.faults.CertWhy.{CertWhy}
use Rattle.certificate.specs.declared.faults.CertWhy.TheVariants.{Shape}
use Rattle.certificate.specs.declared.faults.CertError.{CertError}
use Rattle.certificate.specs.declared.faults.CertError.TheVariants as cert_error
use Rattle.plain_text.specs.declared.stop.Stop.{Stop}
use Rattle.plain_text.specs.declared.stop.Stop.TheVariants as stop
use Rattle.plain_text.specs.Stops.{why_of}
use Rattle.certificate.specs.Faults.{cert_fault_of, at_line, error_of}
use Rattle.certificate.specs.Remainder.{Remainder}
use Rattle.certificate.specs.Pieces.{pieces}
use Rattle.certificate.specs.LineReadings.{item_of}
use Rattle.certificate.specs.Certificates.{next_line, is_next, version_of, first_version, end_at, item_at, items_from}
use Rattle.certificate.proofs.PieceList.{piece_last, piece_first, piece_head, next-take}

-- an error of a line keeps its fault when the line's number is put to it
pub fails_at : {Y : Type 0} (line : ℕ) (e : Stop CertWhy) (read : Result Y CertWhy) → Fails (why_of e) read → Fails (cert_fault_of (error_of line e)) (at_line line read)
fails_at line stop.Memory read h = tt
fails_at line (stop.Fault why) read h = rw h refl

-- the same, where the line takes no memory
pub fails_with : {Y : Type 0} (line : ℕ) (why : CertWhy) (read : Result Y CertWhy) → read ≡ Err why → at_line line read ≡ Err (line, why)
fails_with line why read h = rw h refl

-- ---- the next line

pub line_open : (given : ℕ) (bytes : List ℕ) → list_any (λ b. b == 10) bytes ≡ false → 0 < length bytes → next_line given (pieces 10 bytes) ≡ Err (given + 1, Shape)
line_open given [] h some = absurd (omega (arith, some))
line_open given (b ∷ bytes) h some = rw (piece_last 10 (b ∷ bytes) h) refl

line-more : (given : ℕ) (line : List ℕ) (lines : List (List ℕ)) → 0 < length lines → next_line given (line ∷ lines) ≡ Ok (line, record { given = given + 1; lines = lines })
line-more given line [] some = absurd (omega (arith, some))
line-more given line (next ∷ lines) some = refl

pub pieces-some : (mark : ℕ) (text : List ℕ) → 0 < length (pieces mark text)
pieces-some mark text = let head = piece_head mark text in omega (arith, ap length head.1)

pub line_first : (given : ℕ) (bytes : List ℕ) → list_any (λ b. b == 10) bytes ≡ true
    → next_line given (pieces 10 bytes) ≡ Ok (before_first (λ b. b == 10) bytes, record { given = given + 1; lines = pieces 10 (after_first (λ b. b == 10) bytes) })
line_first given bytes h = rw (piece_first 10 bytes h) (line-more given _ _ (pieces-some 10 (after_first (λ b. b == 10) bytes)))

pub next_by_head : (word bytes : List ℕ) → is_next word (pieces 10 bytes) ≡ bytes_eq (before_first (λ b. b == 32) (before_first (λ b. b == 10) bytes)) word
next_by_head word bytes = let head = piece_head 10 bytes in rw head.1 refl

pub over_more : (given : ℕ) (bytes : List ℕ) → 0 < length bytes → end_at given (pieces 10 bytes) ≡ Err (given + 1, Shape)
over_more given [] some = absurd (omega (arith, some))
over_more given (b ∷ bytes) some =
    let head = piece_head 10 bytes in
    elim (b == 10) as (λ t. end_at given (cond t ([] ∷ pieces 10 bytes) (onto_first b (pieces 10 bytes))) ≡ Err (given + 1, Shape)) [
      | true ↦ rw head.1 refl
      | false ↦ rw head.1 refl
    ]

-- ---- lines by one word

-- what was read before, and what is still read
abbrev pub with_items : {A F : Type 0} → List A → Result (List A × Remainder) F → Result (List A × Remainder) F
with_items front (Ok read) = Ok (front ++ read.0, read.1)
with_items front (Err why) = Err why

regroup : {A F : Type 0} (front : List A) (x : A) (read : Result (List A × Remainder) F) → with_items front (read >>= λ items. Ok (x ∷ items.0, items.1)) ≡ with_items (front ++ x ∷ []) read
regroup {A} {F} front x (Ok read) = ap (λ (all : List A). Ok (all, read.1)) (simp append_assoc)
regroup front x (Err why) = refl

pub item-and-left : {A F : Type 0} (read : Result A F) (left next : Remainder) (item : A) → ◌≡◌ {A = Result (A × Remainder) F} (read >>= λ x. Ok (x, left)) (Ok (item, next)) → (read ≡ Ok item) × (next ≡ left)
item-and-left {A} {F} (Ok x) left next item h = let pair : ◌≡◌ {A = A × Remainder} (x, left) (item, next) = cc in (ap (λ (p : A × Remainder). Ok p.0) pair, sym (ap (λ (p : A × Remainder). p.1) pair))
item-and-left (Err why) left next item h = absurd cc

pub items_go_on : {A : Type 0} (word : List ℕ) (read : List (List ℕ) → Result A CertWhy) (front : List A) (given : ℕ) (lines : List (List ℕ)) (item : A) (next : Remainder)
    → is_next word lines ≡ true → item_at word read (record { given = given; lines = lines }) ≡ Ok (item, next)
    → with_items (front ++ item ∷ []) (items_from word read next.given next.lines) ≡ with_items front (items_from word read given lines)
unfolding item_at items_from
items_go_on word read front given [] item next named is = absurd cc
items_go_on word read front given (line ∷ []) item next named is = absurd cc
items_go_on word read front given (line ∷ second ∷ lines) item next named is =
    let both = item-and-left (at_line (given + 1) (item_of word read line)) (record { given = given + 1; lines = second ∷ lines }) next item is in
    rw (named, both.0, both.1) (sym (regroup front item (items_from word read (given + 1) (second ∷ lines))))

pub items_stop : {A : Type 0} (word : List ℕ) (read : List (List ℕ) → Result A CertWhy) (front : List A) (given : ℕ) (lines : List (List ℕ)) (fault : ℕ × CertWhy)
    → is_next word lines ≡ true → item_at word read (record { given = given; lines = lines }) ≡ Err fault
    → with_items front (items_from word read given lines) ≡ Err fault
unfolding items_from
items_stop word read front given [] fault named is = absurd cc
items_stop word read front given (line ∷ lines) fault named is = rw (named, is) refl

pub items_end : {A : Type 0} (word : List ℕ) (read : List (List ℕ) → Result A CertWhy) (front : List A) (given : ℕ) (lines : List (List ℕ))
    → is_next word lines ≡ false → with_items front (items_from word read given lines) ≡ Ok (front, record { given = given; lines = lines })
unfolding items_from
items_end {A} word read front given [] named = ap (λ (all : List A). Ok (all, record { given = given; lines = [] })) (append-nil front)
items_end {A} word read front given (line ∷ lines) named = rw named (ap (λ (all : List A). Ok (all, record { given = given; lines = line ∷ lines })) (append-nil front))

-- ---- the first line

pub version_by_head : (bytes : List ℕ) → 0 < length bytes → first_version (pieces 10 bytes) ≡ version_of (before_first (λ b. b == 10) bytes)
version_by_head [] some = absurd (omega (arith, some))
version_by_head (b ∷ bytes) some =
    let head = piece_head 10 bytes in
    let front = next-take (position_or_len (λ b. b == 10) bytes) b bytes in
    elim (b == 10) as (λ t. first_version (cond t ([] ∷ pieces 10 bytes) (onto_first b (pieces 10 bytes))) ≡ version_of (take (cond (not t) (1 + position_or_len (λ b. b == 10) bytes) 0) (b ∷ bytes))) [
      | true ↦ rw head.1 refl
      | false ↦ rw (head.1, front) refl
    ]

-- ---- an error at a line, and fewer lines behind one

pub items_fail : {A : Type 0} (e : CertError) (word : List ℕ) (read : List (List ℕ) → Result A CertWhy) (front : List A) (given : ℕ) (lines : List (List ℕ))
    → is_next word lines ≡ true → Fails (cert_fault_of e) (item_at word read (record { given = given; lines = lines })) → Fails (cert_fault_of e) (with_items front (items_from word read given lines))
items_fail cert_error.Memory word read front given lines named h = tt
items_fail (cert_error.At line why) word read front given lines named h = items_stop word read front given lines (line, why) named h

pub item_smaller : {A : Type 0} (word : List ℕ) (read : List (List ℕ) → Result A CertWhy) (given : ℕ) (lines : List (List ℕ)) (item : A) (next : Remainder)
    → item_at word read (record { given = given; lines = lines }) ≡ Ok (item, next) → length next.lines < length lines
unfolding item_at
item_smaller word read given [] item next is = absurd cc
item_smaller word read given (line ∷ []) item next is = absurd cc
item_smaller word read given (line ∷ second ∷ lines) item next is =
    let both = item-and-left (at_line (given + 1) (item_of word read line)) (record { given = given + 1; lines = second ∷ lines }) next item is in
    rw both.1 (omega arith)
