-- Faults behind the numbers of their records.
use Rattle.std.proofs.Common.{ℕ, Result, refl}
use Rattle.sdc_base.specs.Answers.{Fails}
use Rattle.plain_text.specs.Stops.{why_of}
use Rattle.microdata.specs.Faults.{row_fault_of, at_record, error_of}
use Rattle.microdata.specs.declared.faults.RowWhy.{RowWhy}
use Rattle.plain_text.specs.declared.stop.Stop.{Stop}
use Rattle.plain_text.specs.declared.stop.Stop.TheVariants as stop

-- an error of a record keeps its fault when the record's number is put to it
pub fails_at : {Y : Type 0} (number : ℕ) (e : Stop RowWhy) (read : Result Y RowWhy) → Fails (why_of e) read → Fails (row_fault_of (error_of number e)) (at_record number read)
fails_at number stop.Memory read h = tt
fails_at number (stop.Fault why) read h = rw h refl
