-- The names of tables, for the places of a bound job.
use Rattle.std.proofs.Common.{◌≡◌, ℕ, zero, suc, ◌+◌, ◌<◌, List, [], ◌∷◌, length, map, refl, ap, sym, arith}
use Rattle.std.specs.Prelude.{slice_index_or}
use Rattle.sdc_base.specs.declared.dimension.Dimension.{Dimension}
use Rattle.job_lang.specs.declared.job.TableLine.{TableLine}
use Rattle.job_inputs.proofs.FieldSteps.{one-longer}
use Rattle.job_inputs.specs.Tables.{names_of}

-- there are names for each table
pub names-each : (tables : List (List Dimension)) (lines : List TableLine) → map (λ (dimensions : List Dimension). length dimensions) tables ≡ map (λ (t : TableLine). length t.variables) lines → length (map names_of lines) ≡ length tables
names-each [] [] same = refl
names-each [] (line ∷ lines) same = absurd cc
names-each (dimensions ∷ tables) [] same = absurd cc
names-each (dimensions ∷ tables) (line ∷ lines) same =
    let tails : map (λ (dimensions : List Dimension). length dimensions) tables ≡ map (λ (t : TableLine). length t.variables) lines = cc in
    ap suc (names-each tables lines tails)

-- one for each of its variables and one for the response
pub names-fit : (tables : List (List Dimension)) (lines : List TableLine) (t : ℕ) → map (λ (dimensions : List Dimension). length dimensions) tables ≡ map (λ (t : TableLine). length t.variables) lines → t < length tables
    → length (slice_index_or (map names_of lines) t []) ≡ length (slice_index_or tables t []) + 1
names-fit [] lines t same inside = absurd (omega (arith, inside))
names-fit (dimensions ∷ tables) [] t same inside = absurd cc
names-fit (dimensions ∷ tables) (line ∷ lines) zero same inside =
    let heads : length dimensions ≡ length line.variables = cc in
    one-longer line.variables line.response (length dimensions) (sym heads)
names-fit (dimensions ∷ tables) (line ∷ lines) (suc t) same inside =
    let tails : map (λ (dimensions : List Dimension). length dimensions) tables ≡ map (λ (t : TableLine). length t.variables) lines = cc in
    names-fit tables lines t tails (omega (arith, inside))
