-- Faults have the numbers of their records.
use Rattle.std.proofs.Common.{◌≡◌, ℕ, ◌+◌, nat_lt, nat_le, Bool, true, false, cond, List, [], ◌∷◌, ◌++◌, length, map, filter, Result, Ok, Err, pos, refl, ap, sym, ◌∙◌, subst, arith, append_assoc, append-nil, inl, inr}
use Rattle.std.specs.List.{AllByRecursion}
use Rattle.sdc_base.specs.Lines.{lines}
use Rattle.sdc_base.specs.Steps.{◌>>=◌}
use Rattle.sdc_base.proofs.StepLemmas.{bind_ok, bind_err}
use Rattle.sdc_base.specs.declared.rows.Row.{Row}
use Rattle.microdata.specs.Closing.{closed_of, row_of, rows_of}
use Rattle.microdata.specs.Faults.{at_record}
use Rattle.microdata.specs.Fields.{has_no_response, value_of, weight_of}
use Rattle.microdata.specs.Layouts.{measures_of}
use Rattle.microdata.specs.Meaning.{is_record, IsNumberOfRecord, FaultsAreNumbered}
use Rattle.microdata.specs.Microdata.{records_of, closed_records}
use Rattle.microdata.specs.OneRecord.{variables_say, response_says, record_says, line_says, lines_say, with_row, with_skipped, no_records}
use Rattle.microdata.specs.declared.closing.ClosedVariable.{ClosedVariable}
use Rattle.microdata.specs.declared.faults.RowWhy.{RowWhy}
use Rattle.microdata.specs.declared.faults.RowWhy.TheVariants.{TooLong, TooMany, Short}
use Rattle.microdata.specs.declared.layout.Measures.{Measures}
use Rattle.microdata.specs.KeptRows.{KeptRow}
use Rattle.microdata.specs.declared.record.ReaderProgress.{ReaderProgress}
use Rattle.microdata.specs.declared.records.Records.{Records}
use Rattle.microdata.proofs.Kept.{value_of_ok, same-value}
use Rattle.microdata.proofs.LevelCodes.{passed}

-- the records so far, each with its number
record IsCounted (before : List (List ℕ)) (so_far : ReaderProgress) : Type 0 where
  pub number : so_far.number ≡ length (filter is_record before)
  pub rows : AllByRecursion (λ kept. IsNumberOfRecord before kept.number) so_far.rows

number-more : (lines more : List (List ℕ)) (number : ℕ) → IsNumberOfRecord lines number → IsNumberOfRecord (lines ++ more) number
number-more lines more number h = (h.0, h.1, h.2 ++ more, ap (λ all. all ++ more) h.3 ∙ append_assoc h.0 (h.1 ∷ h.2) more, h.4, h.5)

rows-more : (lines more : List (List ℕ)) (rows : List KeptRow) → AllByRecursion (λ kept. IsNumberOfRecord lines kept.number) rows → AllByRecursion (λ kept. IsNumberOfRecord (lines ++ more) kept.number) rows
rows-more lines more [] h = tt
rows-more lines more (row ∷ rows) h = (number-more lines more row.number h.0, rows-more lines more rows h.1)

rows-last : (lines : List (List ℕ)) (rows : List KeptRow) (row : KeptRow) → AllByRecursion (λ kept. IsNumberOfRecord lines kept.number) rows → IsNumberOfRecord lines row.number → AllByRecursion (λ kept. IsNumberOfRecord lines kept.number) (rows ++ row ∷ [])
rows-last lines [] row h one = (one, tt)
rows-last lines (first ∷ rows) row h one = (h.0, rows-last lines rows row h.1 one)

filter-last : (before : List (List ℕ)) (b : ℕ) (line : List ℕ) → length (filter is_record (before ++ (b ∷ line) ∷ [])) ≡ length (filter is_record before) + 1
filter-last [] b line = refl
filter-last ([] ∷ before) b line = filter-last before b line
filter-last ((c ∷ other) ∷ before) b line = let rest = filter-last before b line in omega (arith, rest)

filter-empty : (before : List (List ℕ)) → length (filter is_record (before ++ [] ∷ [])) ≡ length (filter is_record before)
filter-empty [] = refl
filter-empty ([] ∷ before) = filter-empty before
filter-empty ((c ∷ other) ∷ before) = let rest = filter-empty before in omega (arith, rest)

here : (before : List (List ℕ)) (b : ℕ) (line : List ℕ) (number : ℕ) → number ≡ length (filter is_record before) → IsNumberOfRecord (before ++ (b ∷ line) ∷ []) (number + 1)
here before b line number is = (before, b ∷ line, [], refl, refl, ap (λ n. n + 1) is)

response-counted : (m : Measures) (before : List (List ℕ)) (so_far next : ReaderProgress) (b : ℕ) (line : List ℕ) → IsCounted before so_far → response_says m so_far (b ∷ line) ≡ Ok next → IsCounted (before ++ (b ∷ line) ∷ []) next
unfolding response_says
response-counted m before so_far next b line counted h =
    let v = bind_ok (value_of m.response (b ∷ line)) _ next h in
    let w = bind_ok (weight_of m.weight (b ∷ line)) _ next v.2 in
    let c = bind_ok (variables_say so_far.variables (b ∷ line)) _ next w.2 in
    let row : KeptRow = record { number = so_far.number + 1; places = c.0.1; value = pos v.0; weight = w.0 } in
    subst (IsCounted (before ++ (b ∷ line) ∷ [])) (value_of_ok (with_row so_far c.0.0 row) next c.2) (record {
      number = ap (λ n. n + 1) counted.number ∙ sym (filter-last before b line);
      rows = rows-last (before ++ (b ∷ line) ∷ []) so_far.rows row (rows-more before ((b ∷ line) ∷ []) so_far.rows counted.rows) (here before b line so_far.number counted.number);
    })

record-counted : (m : Measures) (before : List (List ℕ)) (so_far next : ReaderProgress) (b : ℕ) (line : List ℕ) → IsCounted before so_far → record_says m so_far (b ∷ line) ≡ Ok next → IsCounted (before ++ (b ∷ line) ∷ []) next
unfolding record_says
record-counted m before so_far next b line counted h =
    let x = passed TooLong (nat_lt 1000 (length (b ∷ line))) _ next h in
    let y = passed TooMany (nat_le 1000000 so_far.number) _ next x.1 in
    let z = passed Short (nat_lt (length (b ∷ line)) m.needed) _ next y.1 in
    by (has_no_response m.response (b ∷ line)) z.1
  where
    by : (skipped : Bool) → cond {A = Result ReaderProgress RowWhy} skipped (Ok (with_skipped so_far)) (response_says m so_far (b ∷ line)) ≡ Ok next → IsCounted (before ++ (b ∷ line) ∷ []) next
    by true e = subst (IsCounted (before ++ (b ∷ line) ∷ [])) (value_of_ok (with_skipped so_far) next e) (record { number = ap (λ n. n + 1) counted.number ∙ sym (filter-last before b line); rows = rows-more before ((b ∷ line) ∷ []) so_far.rows counted.rows })
    by false e = response-counted m before so_far next b line counted e

line-counted : (m : Measures) (before : List (List ℕ)) (so_far next : ReaderProgress) (line : List ℕ) → IsCounted before so_far → line_says m so_far line ≡ Ok next → IsCounted (before ++ line ∷ []) next
line-counted m before so_far next [] counted h =
    subst (IsCounted (before ++ [] ∷ [])) (value_of_ok so_far next h) (record { number = counted.number ∙ sym (filter-empty before); rows = rows-more before ([] ∷ []) so_far.rows counted.rows })
line-counted m before so_far next (b ∷ line) counted h = record-counted m before so_far next b line counted (same-value (so_far.number + 1) (record_says m so_far (b ∷ line)) next h)

fault-at : {A : Type 0} (number at : ℕ) (why : RowWhy) (read : Result A RowWhy) → at_record number read ≡ Err (at, why) → number ≡ at
fault-at number at why (Ok x) h = cc
fault-at number at why (Err other) h = let pair : ◌≡◌ {A = ℕ × RowWhy} (number, other) (at, why) = cc in ap (λ (p : ℕ × RowWhy). p.0) pair

line-numbered : (m : Measures) (before : List (List ℕ)) (so_far : ReaderProgress) (line : List ℕ) (number : ℕ) (why : RowWhy) → IsCounted before so_far → line_says m so_far line ≡ Err (number, why) → IsNumberOfRecord (before ++ line ∷ []) number
line-numbered m before so_far [] number why counted h = cc
line-numbered m before so_far (b ∷ line) number why counted h = subst (IsNumberOfRecord (before ++ (b ∷ line) ∷ [])) (fault-at (so_far.number + 1) number why (record_says m so_far (b ∷ line)) h) (here before b line so_far.number counted.number)

lines-counted : (m : Measures) (before rest : List (List ℕ)) (so_far last : ReaderProgress) → IsCounted before so_far → lines_say m so_far rest ≡ Ok last → IsCounted (before ++ rest) last
unfolding lines_say
lines-counted m before [] so_far last counted h = subst (λ (all : List (List ℕ)). IsCounted all last) (sym (append-nil before)) (subst (IsCounted before) (value_of_ok so_far last h) counted)
lines-counted m before (line ∷ rest) so_far last counted h =
    let a = bind_ok (line_says m so_far line) _ last h in
    subst (λ (all : List (List ℕ)). IsCounted all last) (append_assoc before (line ∷ []) rest) (lines-counted m (before ++ line ∷ []) rest a.0 last (line-counted m before so_far a.0 line counted a.1) a.2)

lines-numbered : (m : Measures) (before rest : List (List ℕ)) (so_far : ReaderProgress) (number : ℕ) (why : RowWhy) → IsCounted before so_far → lines_say m so_far rest ≡ Err (number, why) → IsNumberOfRecord (before ++ rest) number
unfolding lines_say
lines-numbered m before [] so_far number why counted h = cc
lines-numbered m before (line ∷ rest) so_far number why counted h =
    let later = λ (next : ReaderProgress) (counts : IsCounted (before ++ line ∷ []) next) (said : lines_say m next rest ≡ Err (number, why)). lines-numbered m (before ++ line ∷ []) rest next number why counts said in
    subst (λ (all : List (List ℕ)). IsNumberOfRecord all number) (append_assoc before (line ∷ []) rest)
    (elim (bind_err (line_says m so_far line) (λ next. lines_say m next rest) (number, why) h) [
      | inl stops ↦ number-more (before ++ line ∷ []) rest number (line-numbered m before so_far line number why counted stops)
      | inr next ↦ later next.0 (line-counted m before so_far next.0 line counted next.1) next.2
    ])

rows-numbered : (all : List (List ℕ)) (closed : List ClosedVariable) (kept : List KeptRow) (number : ℕ) (why : RowWhy) → AllByRecursion (λ kept. IsNumberOfRecord all kept.number) kept → rows_of closed kept ≡ Err (number, why) → IsNumberOfRecord all number
unfolding rows_of
rows-numbered all closed [] number why counted h = cc
rows-numbered all closed (one ∷ kept) number why counted h =
    let later = λ (said : rows_of closed kept ≡ Err (number, why)). rows-numbered all closed kept number why counted.1 said in
    elim (bind_err (at_record one.number (row_of closed one)) (λ row. rows_of closed kept >>= λ rows. Ok (row ∷ rows)) (number, why) h) [
      | inl stops ↦ subst (IsNumberOfRecord all) (fault-at one.number number why (row_of closed one) stops) counted.0
      | inr next ↦ later (rest-stops (rows_of closed kept) next.0 next.2)
    ]
  where
    rest-stops : (read : Result (List Row) (ℕ × RowWhy)) (row : Row) → (read >>= λ rows. Ok (row ∷ rows)) ≡ Err (number, why) → read ≡ Err (number, why)
    rest-stops (Ok rows) row h = cc
    rest-stops (Err fault) row h = h

pub faults_are_numbered : FaultsAreNumbered
unfolding records_of closed_records
faults_are_numbered layout bytes number why h =
    let first : IsCounted [] (no_records layout) = record { number = refl; rows = tt } in
    elim (bind_err (lines_say (measures_of layout) (no_records layout) (lines bytes)) closed_records (number, why) h) [
      | inl stops ↦ lines-numbered (measures_of layout) [] (lines bytes) (no_records layout) number why first stops
      | inr next ↦
          let counted = lines-counted (measures_of layout) [] (lines bytes) (no_records layout) next.0 first next.1 in
          rows-numbered (lines bytes) (map closed_of next.0.variables) next.0.rows number why counted.rows (closing-stops next.0 (rows_of (map closed_of next.0.variables) next.0.rows) next.2)
    ]
  where
    closing-stops : (so_far : ReaderProgress) (read : Result (List Row) (ℕ × RowWhy)) → ◌>>=◌ {B = Records} read (λ rows. Ok (record { trees = map (λ (closed : ClosedVariable). closed.tree) (map closed_of so_far.variables); rows = rows; skipped = so_far.skipped })) ≡ Err (number, why) → read ≡ Err (number, why)
    closing-stops so_far (Ok rows) h = cc
    closing-stops so_far (Err fault) h = ap Err (same-fault fault (number, why) h)
      where
        same-fault : (a b : ℕ × RowWhy) → ◌≡◌ {A = Result Records (ℕ × RowWhy)} (Err a) (Err b) → a ≡ b
        same-fault a b h = cc
