-- Questions about hidden cells without an answer as stops.
use Rattle.std.proofs.Common.{◌≢◌, Bool, List, Err}
use Rattle.sdc_base.specs.Signs.{AreSigns}
use Rattle.sdc_base.specs.declared.system.System.{System}
use Rattle.interval_audit.specs.declared.answer.AskFault.{AskFault}
use Rattle.interval_audit.specs.declared.answer.AskFault.TheVariants as ask
use Rattle.interval_audit.specs.WalkLimits.{HasNoWalk}
use Rattle.cell_intervals.specs.IntervalFaults.{IsFaultOf}
use Rattle.cell_intervals.specs.Laws.{SizeIsLarge}
use Rattle.linked_tables.specs.BookCells.{IsBook}
use Rattle.relations.specs.Holding.{IsSystemOf}
use Rattle.relations.proofs.SignedTables.{one_or_two_way_has_signs}
use Rattle.job_inputs.specs.declared.settled.ClassifiedJob.{ClassifiedJob}
use Rattle.published_tables.specs.TableFiles.{ComesFrom}
use Rattle.published_tables.specs.TableIntervals.{AreIntervalsStuckAt, intervals_of_tables}
use Rattle.published_tables.specs.TableStops.{question_stop}

-- a question without an answer says why there are no intervals
stuck_at : (job : ClassifiedJob) (system : System) (flags : List Bool) (why : AskFault) → why ≢ ask.Memory → IsBook job.book → IsSystemOf job.book system → IsFaultOf system job.cells flags job.described.job.steps why → SizeIsLarge → ((signs : List Bool) → AreSigns system.relations signs → HasNoWalk why)
    → AreIntervalsStuckAt job flags why
stuck_at job system flags why not_memory is_book is fault size signed = record {
  system = system;
  system_is = is;
  not_memory = not_memory;
  fault = fault;
  large = λ cell at. size system job.cells flags job.described.job.steps cell why not_memory at;
  signed = λ shape. (let signs = one_or_two_way_has_signs job.book system shape is_book is in signed signs.0 signs.1);
}

-- and stops the run
pub question_stops : (job : ClassifiedJob) (system : System) (flags : List Bool) (e : AskFault) → IsBook job.book → IsSystemOf job.book system → IsFaultOf system job.cells flags job.described.job.steps e → SizeIsLarge → ((signs : List Bool) → AreSigns system.relations signs → HasNoWalk e)
    → ComesFrom intervals_of_tables job flags (Err (question_stop e))
question_stops job system flags ask.Memory is_book is fault size signed = tt
question_stops job system flags (ask.Work walk) is_book is fault size signed = stuck_at job system flags (ask.Work walk) (λ same. absurd cc) is_book is fault size signed
question_stops job system flags (ask.Wide walk place) is_book is fault size signed = stuck_at job system flags (ask.Wide walk place) (λ same. absurd cc) is_book is fault size signed
question_stops job system flags (ask.Size question hidden) is_book is fault size signed = stuck_at job system flags (ask.Size question hidden) (λ same. absurd cc) is_book is fault size signed
