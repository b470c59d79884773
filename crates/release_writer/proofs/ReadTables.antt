-- The tables of a release, read one after another.
use Rattle.std.proofs.Common.{◌≡◌, ℕ, zero, suc, ◌+◌, ◌<◌, ◌≤◌, Bool, List, [], ◌∷◌, length, drop, get_or, slice_get, Option, None, Some, Result, Ok, ℤ, arith, refl, ap, sym, ◌∙◌}
use Rattle.std.proofs.lemmas.List.{drop_more, drop_all}
use Rattle.sdc_base.specs.Answers.{Fails}
use Rattle.sdc_base.specs.Steps.{◌>>=◌}
use Rattle.sdc_base.specs.declared.dimension.Dimension.{Dimension}
use Rattle.linked_tables.specs.BookViews.{BookView}
use Rattle.release_writer.specs.ReleaseReading.{LinePlace, read_table, read_tables}

drop-at : {X : Type 0} (xs : List X) (t : ℕ) (x : X) → slice_get xs t ≡ Some x → drop t xs ≡ x ∷ drop (t + 1) xs
drop-at [] t x h = absurd (grind (arith, h))
drop-at (y ∷ xs) zero x h = grind (arith, h)
drop-at (y ∷ xs) (suc t) x h =
    let next : suc t + 1 ≡ suc (t + 1) = omega arith in
    rw next (drop-at xs t x h)

drop-here : {X : Type 0} (xs : List X) (t : ℕ) (x : X) → t < length xs → x ≡ get_or xs t x → drop t xs ≡ x ∷ drop (t + 1) xs
drop-here xs t x h is = drop_more xs t x h ∙ ap (λ y. y ∷ drop (t + 1) xs) (sym is)

-- the table of this number is read, and then those behind it
abbrev pub one_and_rest : BookView → ℕ → Bool → ℕ → List (List Dimension) → List (List (List ℕ)) → List (List ℕ) → List (Option ℤ) → List Dimension → List (List ℕ) → List ℕ → Result (List (Option ℤ)) LinePlace
one_and_rest book decimals rounded t tables names files shown table own bytes =
    read_table (record { book = book; t = t; table = table; decimals = decimals; rounded = rounded }) own bytes shown >>= λ next. read_tables book decimals rounded (t + 1) tables names files next

opened : (book : BookView) (decimals : ℕ) (rounded : Bool) (t : ℕ) (tables : List (List Dimension)) (names : List (List (List ℕ))) (files : List (List ℕ)) (shown : List (Option ℤ)) (table : List Dimension) (own : List (List ℕ)) (bytes : List ℕ)
    → slice_get tables t ≡ Some table → t < length names → own ≡ get_or names t own → t < length files → bytes ≡ get_or files t bytes
    → read_tables book decimals rounded t (drop t tables) (drop t names) (drop t files) shown ≡ one_and_rest book decimals rounded t (drop (t + 1) tables) (drop (t + 1) names) (drop (t + 1) files) shown table own bytes
unfolding read_tables
opened book decimals rounded t tables names files shown table own bytes at long is more has =
    rw (drop-at tables t table at, drop-here names t own long is, drop-here files t bytes more has) refl

-- a table that is read leaves those behind it
pub tables-next : (book : BookView) (decimals : ℕ) (rounded : Bool) (t : ℕ) (tables : List (List Dimension)) (names : List (List (List ℕ))) (files : List (List ℕ)) (shown next : List (Option ℤ)) (table : List Dimension) (own : List (List ℕ)) (bytes : List ℕ) (whole : Result (List (Option ℤ)) LinePlace)
    → slice_get tables t ≡ Some table → t < length names → own ≡ get_or names t own → t < length files → bytes ≡ get_or files t bytes
    → read_tables book decimals rounded t (drop t tables) (drop t names) (drop t files) shown ≡ whole
    → read_table (record { book = book; t = t; table = table; decimals = decimals; rounded = rounded }) own bytes shown ≡ Ok next
    → read_tables book decimals rounded (t + 1) (drop (t + 1) tables) (drop (t + 1) names) (drop (t + 1) files) next ≡ whole
tables-next book decimals rounded t tables names files shown next table own bytes whole at long is more has before read =
    sym (ap (λ r. r >>= λ last. read_tables book decimals rounded (t + 1) (drop (t + 1) tables) (drop (t + 1) names) (drop (t + 1) files) last) read)
    ∙ sym (opened book decimals rounded t tables names files shown table own bytes at long is more has)
    ∙ before

-- a table's first bad line is that of all
pub tables-bad : (book : BookView) (decimals : ℕ) (rounded : Bool) (t : ℕ) (tables : List (List Dimension)) (names : List (List (List ℕ))) (files : List (List ℕ)) (shown : List (Option ℤ)) (table : List Dimension) (own : List (List ℕ)) (bytes : List ℕ) (whole : Result (List (Option ℤ)) LinePlace) (fault : Option LinePlace)
    → slice_get tables t ≡ Some table → t < length names → own ≡ get_or names t own → t < length files → bytes ≡ get_or files t bytes
    → read_tables book decimals rounded t (drop t tables) (drop t names) (drop t files) shown ≡ whole
    → Fails fault (read_table (record { book = book; t = t; table = table; decimals = decimals; rounded = rounded }) own bytes shown)
    → Fails fault whole
tables-bad book decimals rounded t tables names files shown table own bytes whole None at long is more has before bad = tt
tables-bad book decimals rounded t tables names files shown table own bytes whole (Some fault) at long is more has before bad =
    sym before
    ∙ opened book decimals rounded t tables names files shown table own bytes at long is more has
    ∙ ap (λ r. r >>= λ last. read_tables book decimals rounded (t + 1) (drop (t + 1) tables) (drop (t + 1) names) (drop (t + 1) files) last) bad

-- behind the last table all is read
pub tables-end : (book : BookView) (decimals : ℕ) (rounded : Bool) (t : ℕ) (tables : List (List Dimension)) (names : List (List (List ℕ))) (files : List (List ℕ)) (shown : List (Option ℤ)) → length tables ≤ t → read_tables book decimals rounded t (drop t tables) names files shown ≡ Ok shown
unfolding read_tables
tables-end book decimals rounded t tables names files shown h = rw (drop_all t tables h) refl
