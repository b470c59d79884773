use Rattle.std.proofs.Common.{◌≡◌, ◌+◌, ◌++◌, length, take}
use Rattle.job_run.specs.Books.{shown_by}
use Rattle.job_run.specs.Releases.{tables_from}
use Rattle.job_inputs.specs.TabulatedBooks.{IsBookOf}
use Rattle.job_inputs.specs.declared.inputs.Inputs.{Inputs}
use Rattle.job_run.proofs.release_texts.add_tables.Given as goal

abbrev pub invariant-tables : goal.invariant-tables
invariant-tables l = record {
  puts : (inputs : Inputs) → inputs.described ≡ l.fn.described → IsBookOf inputs l.fn.book
      → l.puts ≡ l.fn.puts ++ tables_from inputs (shown_by inputs l.fn.shown) 0 (take l.t l.fn.described.job.tables) (take l.t l.fn.described.job.outputs);
  each : length l.puts ≡ length l.fn.puts + l.t;
}
