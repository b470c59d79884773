-- The lines of places, read one after another.
use Rattle.std.proofs.Common.{◌≡◌, ℕ, suc, ◌+◌, ◌-◌, ◌<◌, ◌≤◌, true, false, cond, List, [], ◌∷◌, ◌++◌, length, map, filter, drop, Option, None, Some, Result, Ok, Err, arith, refl, ap, sym, ◌∙◌, append_assoc, append-nil, length-append}
use Rattle.std.specs.List.{flat_map, range_with_len}
use Rattle.std.proofs.lemmas.List.{drop_more, drop_all, map-id}
use Rattle.sdc_base.specs.Answers.{Fails}
use Rattle.sdc_base.specs.Steps.{◌>>=◌}
use Rattle.sdc_base.specs.CutTrees.{is_within}
use Rattle.sdc_base.specs.Cells.{places, trees_of}
use Rattle.release_writer.specs.ReleaseReading.{ReleaseSoFar, LinePlace, read_place, read_places}
use Rattle.release_writer.specs.LineChoices.{Template}
use Rattle.release_writer.specs.Sheets.{places_below}
use Rattle.release_writer.proofs.BegunPlaces.{next_tree, no_dimension}

pub step-end : {A F : Type 0} (r : Result A F) → (r >>= λ x. Ok x) ≡ r
step-end (Ok x) = refl
step-end (Err e) = refl

step-step : {A B C F : Type 0} (r : Result A F) (f : A → Result B F) (g : B → Result C F) → ((r >>= f) >>= g) ≡ (r >>= λ x. f x >>= g)
step-step (Ok x) f g = refl
step-step (Err e) f g = refl

step-same : {A B F : Type 0} (r : Result A F) (f g : A → Result B F) → ((x : A) → f x ≡ g x) → (r >>= f) ≡ (r >>= g)
step-same (Ok x) f g h = h x
step-same (Err e) f g h = refl

-- the lines of some places, and then those of others
pub read-more : (form : Template) (reading : ReleaseSoFar) (xs ys : List (List ℕ)) → read_places form reading (xs ++ ys) ≡ (read_places form reading xs >>= λ next. read_places form next ys)
read-more form reading [] ys = refl
read-more form reading (x ∷ xs) ys =
    step-same (read_place form reading x) (λ next. read_places form next (xs ++ ys)) (λ next. read_places form next xs >>= λ last. read_places form last ys) (λ next. read-more form next xs ys)
    ∙ sym (step-step (read_place form reading x) (λ next. read_places form next xs) (λ last. read_places form last ys))

-- the places that begin with this one and go on with a code from here on
abbrev pub places_from : Template → List ℕ → ℕ → List (List ℕ)
places_from form place code =
    flat_map (λ c. map (λ rest. place ++ c ∷ rest) (places (trees_of form.book.trees (drop (length place + 1) form.table))))
    (filter (is_within (next_tree form.book.trees form.table place)) (range_with_len code (length (next_tree form.book.trees form.table place).tree - code)))

map-joined : (f : List ℕ → List ℕ) (xs ys : List (List ℕ)) → map f (xs ++ ys) ≡ map f xs ++ map f ys
map-joined f [] ys = refl
map-joined f (x ∷ xs) ys = ap (λ t. f x ∷ t) (map-joined f xs ys)

map-twice : (place : List ℕ) (code : ℕ) (rests : List (List ℕ)) → map (λ rest. place ++ rest) (map (λ rest. code ∷ rest) rests) ≡ map (λ rest. place ++ code ∷ rest) rests
map-twice place code [] = refl
map-twice place code (rest ∷ rests) = ap (λ t. (place ++ code ∷ rest) ∷ t) (map-twice place code rests)

spread : (place : List ℕ) (rests : List (List ℕ)) (codes : List ℕ) → map (λ rest. place ++ rest) (flat_map (λ code. map (λ rest. code ∷ rest) rests) codes) ≡ flat_map (λ code. map (λ rest. place ++ code ∷ rest) rests) codes
spread place rests [] = refl
spread place rests (code ∷ codes) =
    map-joined (λ rest. place ++ rest) (map (λ rest. code ∷ rest) rests) (flat_map (λ code. map (λ rest. code ∷ rest) rests) codes)
    ∙ ap (λ t. t ++ map (λ rest. place ++ rest) (flat_map (λ code. map (λ rest. code ∷ rest) rests) codes)) (map-twice place code rests)
    ∙ ap (λ t. map (λ rest. place ++ code ∷ rest) rests ++ t) (spread place rests codes)

longer : (place : List ℕ) (code : ℕ) (rests : List (List ℕ)) → map (λ rest. place ++ code ∷ rest) rests ≡ map (λ rest. (place ++ code ∷ []) ++ rest) rests
longer place code [] = refl
longer place code (rest ∷ rests) = ap (λ t. t ∷ map (λ r. place ++ code ∷ r) rests) (sym (append_assoc place (code ∷ []) rest)) ∙ ap (λ t. ((place ++ code ∷ []) ++ rest) ∷ t) (longer place code rests)

-- all places begin with the empty one
pub below-all : (form : Template) → places_below form [] ≡ places (trees_of form.book.trees form.table)
below-all form = map-id (places (trees_of form.book.trees form.table))

-- a whole place is the only one
pub below-whole : (form : Template) (place : List ℕ) → length form.table ≤ length place → places_below form place ≡ place ∷ []
below-whole form place h =
    ap (λ left. map (λ rest. place ++ rest) (places (trees_of form.book.trees left))) (drop_all (length place) form.table h)
    ∙ ap (λ whole. whole ∷ []) (append-nil place)

-- a shorter one goes on with the codes from the first on
pub below-from : (form : Template) (place : List ℕ) → length place < length form.table → places_below form place ≡ places_from form place 0
below-from form place h =
    let cut = next_tree form.book.trees form.table place in
    let size = length cut.tree in
    let rests = places (trees_of form.book.trees (drop (length place + 1) form.table)) in
    let all : size ≡ size - 0 = omega arith in
    ap (λ left. map (λ rest. place ++ rest) (places (trees_of form.book.trees left))) (drop_more form.table (length place) no_dimension h)
    ∙ spread place rests (filter (is_within cut) (range_with_len 0 size))
    ∙ ap (λ n. flat_map (λ c. map (λ rest. place ++ c ∷ rest) rests) (filter (is_within cut) (range_with_len 0 n))) all

-- the next code, whether it is kept or not
from-by : (form : Template) (place : List ℕ) (code : ℕ) → code < length (next_tree form.book.trees form.table place).tree
    → places_from form place code ≡ flat_map (λ c. map (λ rest. place ++ c ∷ rest) (places (trees_of form.book.trees (drop (length place + 1) form.table))))
    (filter (is_within (next_tree form.book.trees form.table place)) (code ∷ range_with_len (code + 1) (length (next_tree form.book.trees form.table place).tree - (code + 1))))
from-by form place code h =
    let cut = next_tree form.book.trees form.table place in
    let size = length cut.tree in
    let rests = places (trees_of form.book.trees (drop (length place + 1) form.table)) in
    let some : size - code ≡ suc (size - (code + 1)) = omega (arith, h) in
    ap (λ n. flat_map (λ c. map (λ rest. place ++ c ∷ rest) rests) (filter (is_within cut) (range_with_len code n))) some

-- with one code, and then with those from the next on
pub from-next : (form : Template) (place : List ℕ) (code : ℕ) → code < length (next_tree form.book.trees form.table place).tree → is_within (next_tree form.book.trees form.table place) code ≡ true
    → places_from form place code ≡ places_below form (place ++ code ∷ []) ++ places_from form place (code + 1)
from-next form place code h kept =
    let cut = next_tree form.book.trees form.table place in
    let rests = places (trees_of form.book.trees (drop (length place + 1) form.table)) in
    let left = filter (is_within cut) (range_with_len (code + 1) (length cut.tree - (code + 1))) in
    from-by form place code h
    ∙ ap (λ b. flat_map (λ c. map (λ rest. place ++ c ∷ rest) rests) (cond b (code ∷ left) left)) kept
    ∙ ap (λ t. t ++ places_from form place (code + 1)) (longer place code rests ∙ ap (λ n. map (λ rest. (place ++ code ∷ []) ++ rest) (places (trees_of form.book.trees (drop n form.table)))) (sym (length-append place (code ∷ []))))

-- a code that the table doesn't have is passed over
pub from-passed : (form : Template) (place : List ℕ) (code : ℕ) → code < length (next_tree form.book.trees form.table place).tree → is_within (next_tree form.book.trees form.table place) code ≡ false → places_from form place code ≡ places_from form place (code + 1)
from-passed form place code h passed =
    let cut = next_tree form.book.trees form.table place in
    let rests = places (trees_of form.book.trees (drop (length place + 1) form.table)) in
    let left = filter (is_within cut) (range_with_len (code + 1) (length cut.tree - (code + 1))) in
    from-by form place code h ∙ ap (λ b. flat_map (λ c. map (λ rest. place ++ c ∷ rest) rests) (cond b (code ∷ left) left)) passed

-- behind the last code there is none
pub from-end : (form : Template) (place : List ℕ) (code : ℕ) → length (next_tree form.book.trees form.table place).tree ≤ code → places_from form place code ≡ []
from-end form place code h =
    let cut = next_tree form.book.trees form.table place in
    let size = length cut.tree in
    let none : size - code ≡ 0 = omega (arith, h) in
    ap (λ n. flat_map (λ c. map (λ rest. place ++ c ∷ rest) (places (trees_of form.book.trees (drop (length place + 1) form.table)))) (filter (is_within cut) (range_with_len code n))) none

-- after the lines of one code the others are read
pub code-read : (form : Template) (now next : ReleaseSoFar) (place : List ℕ) (code : ℕ) (whole : Result ReleaseSoFar LinePlace)
    → code < length (next_tree form.book.trees form.table place).tree → is_within (next_tree form.book.trees form.table place) code ≡ true
    → read_places form now (places_from form place code) ≡ whole → read_places form now (places_below form (place ++ code ∷ [])) ≡ Ok next → read_places form next (places_from form place (code + 1)) ≡ whole
code-read form now next place code whole small kept before read =
    sym (ap (λ r. r >>= λ last. read_places form last (places_from form place (code + 1))) read)
    ∙ sym (read-more form now (places_below form (place ++ code ∷ [])) (places_from form place (code + 1)))
    ∙ ap (λ xs. read_places form now xs) (sym (from-next form place code small kept))
    ∙ before

-- a bad line among those of one code is the first bad line of all
pub code-bad : (form : Template) (now : ReleaseSoFar) (place : List ℕ) (code : ℕ) (whole : Result ReleaseSoFar LinePlace) (fault : Option LinePlace)
    → code < length (next_tree form.book.trees form.table place).tree → is_within (next_tree form.book.trees form.table place) code ≡ true
    → read_places form now (places_from form place code) ≡ whole → Fails fault (read_places form now (places_below form (place ++ code ∷ []))) → Fails fault whole
code-bad form now place code whole None small kept before bad = tt
code-bad form now place code whole (Some fault) small kept before bad =
    sym before
    ∙ ap (λ xs. read_places form now xs) (from-next form place code small kept)
    ∙ read-more form now (places_below form (place ++ code ∷ [])) (places_from form place (code + 1))
    ∙ ap (λ r. r >>= λ last. read_places form last (places_from form place (code + 1))) bad
