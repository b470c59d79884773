-- The tables of a release, one after another.
use Rattle.std.proofs.Common.{◌≡◌, ℕ, zero, suc, ◌+◌, ◌<◌, ◌≤◌, List, [], ◌∷◌, ◌++◌, length, map, take, refl, ap, sym, ◌∙◌, arith, add-one, Option, ℤ}
use Rattle.std.proofs.lemmas.List.{take_all}
use Rattle.std.specs.Prelude.{slice_index_or}
use Rattle.sdc_base.specs.Records.{Name}
use Rattle.sdc_base.specs.declared.dimension.Dimension.{Dimension}
use Rattle.job_lang.specs.declared.job.OutputLine.{OutputLine}
use Rattle.job_lang.specs.declared.job.TableLine.{TableLine}
use Rattle.job_inputs.specs.Tables.{names_of}
use Rattle.job_run.specs.Releases.{table_of, tables_from}
use Rattle.job_inputs.specs.declared.inputs.Inputs.{Inputs}
use Rattle.job_run.specs.declared.put.FilePut.{FilePut}
use Rattle.job_inputs.specs.declared.file_ref.FileRef.TheVariants as file

-- table t of a release
abbrev pub put_at : Inputs → (Name → Option ℤ) → ℕ → TableLine → OutputLine → FilePut
put_at inputs shown t line output = record { file = file.Table t; name = output.file; bytes = table_of inputs shown t (names_of line) }

one-more : (inputs : Inputs) (shown : Name → Option ℤ) (from k : ℕ) (lines : List TableLine) (outputs : List OutputLine) (d : TableLine) (e : OutputLine) → k < length lines → length outputs ≡ length lines
    → tables_from inputs shown from (take (suc k) lines) (take (suc k) outputs) ≡ tables_from inputs shown from (take k lines) (take k outputs) ++ put_at inputs shown (from + k) (slice_index_or lines k d) (slice_index_or outputs k e) ∷ []
one-more inputs shown from k [] outputs d e inside many = absurd (omega (arith, inside))
one-more inputs shown from k (line ∷ lines) [] d e inside many = absurd (omega (arith, many))
one-more inputs shown from zero (line ∷ lines) (output ∷ outputs) d e inside many =
    let here : from ≡ from + 0 = omega arith in
    ap (λ (t : ℕ). put_at inputs shown t line output ∷ []) here
one-more inputs shown from (suc k) (line ∷ lines) (output ∷ outputs) d e inside many =
    let here : (from + 1) + k ≡ from + suc k = omega arith in
    ap (λ (puts : List FilePut). put_at inputs shown from line output ∷ puts)
    (one-more inputs shown (from + 1) k lines outputs d e (omega (arith, inside)) (omega (arith, many))
    ∙ ap (λ (t : ℕ). tables_from inputs shown (from + 1) (take k lines) (take k outputs) ++ put_at inputs shown t (slice_index_or lines k d) (slice_index_or outputs k e) ∷ []) here)

-- one table more
pub tables-more : (inputs : Inputs) (shown : Name → Option ℤ) (k : ℕ) (lines : List TableLine) (outputs : List OutputLine) (line : TableLine) (output : OutputLine) → k < length lines → length outputs ≡ length lines
    → line ≡ slice_index_or lines k line → output ≡ slice_index_or outputs k output
    → tables_from inputs shown 0 (take (k + 1) lines) (take (k + 1) outputs) ≡ tables_from inputs shown 0 (take k lines) (take k outputs) ++ put_at inputs shown k line output ∷ []
tables-more inputs shown k lines outputs line output inside many is at =
    let here : 0 + k ≡ k = omega arith in
    rw (add-one) (one-more inputs shown 0 k lines outputs line output inside many
    ∙ ap (λ (t : ℕ). tables_from inputs shown 0 (take k lines) (take k outputs) ++ put_at inputs shown t (slice_index_or lines k line) (slice_index_or outputs k output) ∷ []) here
    ∙ ap (λ (l : TableLine). tables_from inputs shown 0 (take k lines) (take k outputs) ++ put_at inputs shown k l (slice_index_or outputs k output) ∷ []) (sym is)
    ∙ ap (λ (o : OutputLine). tables_from inputs shown 0 (take k lines) (take k outputs) ++ put_at inputs shown k line o ∷ []) (sym at))

-- all tables
pub tables-all : (inputs : Inputs) (shown : Name → Option ℤ) (k : ℕ) (lines : List TableLine) (outputs : List OutputLine) → length lines ≤ k → length outputs ≡ length lines
    → tables_from inputs shown 0 (take k lines) (take k outputs) ≡ tables_from inputs shown 0 lines outputs
tables-all inputs shown k lines outputs past many =
    ap (λ (ls : List TableLine). tables_from inputs shown 0 ls (take k outputs)) (take_all k lines past)
    ∙ ap (λ (os : List OutputLine). tables_from inputs shown 0 lines os) (take_all k outputs (omega (arith, past, many)))

same-length : {X : Type 0} (f : X → ℕ) (xs : List X) → length (map f xs) ≡ length xs
same-length f [] = refl
same-length f (x ∷ xs) = ap suc (same-length f xs)

-- as many of these as of those
pub as-many : (tables : List (List Dimension)) (lines : List TableLine) → map (λ (places : List Dimension). length places) tables ≡ map (λ (t : TableLine). length t.variables) lines → length tables ≡ length lines
as-many tables lines same = sym (same-length (λ (places : List Dimension). length places) tables) ∙ ap length same ∙ same-length (λ (t : TableLine). length t.variables) lines

-- a table has as many places as its line names
pub same-width : (tables : List (List Dimension)) (lines : List TableLine) (k : ℕ) (line : TableLine) → map (λ (places : List Dimension). length places) tables ≡ map (λ (t : TableLine). length t.variables) lines → k < length lines → line ≡ slice_index_or lines k line
    → length line.variables ≡ length (slice_index_or tables k [])
same-width tables [] k line same inside is = absurd (omega (arith, inside))
same-width [] (first ∷ lines) k line same inside is = absurd cc
same-width (places ∷ tables) (first ∷ lines) zero line same inside is =
    let heads : length places ≡ length first.variables = cc in
    ap (λ (l : TableLine). length l.variables) is ∙ sym heads
same-width (places ∷ tables) (first ∷ lines) (suc k) line same inside is =
    let tails : map (λ (places : List Dimension). length places) tables ≡ map (λ (t : TableLine). length t.variables) lines = cc in
    same-width tables lines k line tails (omega (arith, inside)) is
