use Rattle.std.proofs.Common.{sym, List, ℕ, subst, Result, Option}
use Rattle.sdc_base.specs.Answers.{Gives}
use Rattle.microdata.specs.Faults.{row_fault_of}
use Rattle.microdata.specs.Feeding.{ReaderView, HasRead, IsKeptOf}
use Rattle.microdata.specs.Keeping.{IsReadyReader}
use Rattle.microdata.specs.Microdata.{records_behind}
use Rattle.microdata.specs.OneRecord.{no_records}
use Rattle.microdata.specs.declared.faults.RowError.{RowError}
use Rattle.microdata.specs.declared.faults.RowWhy.{RowWhy}
use Rattle.microdata.specs.declared.records.Records.{Records}
use Rattle.microdata.proofs.Cuts.{all-fails, all-read}
use Rattle.microdata.proofs.reader.Reader.finish.Goals as goal

pub returns-in-Some-clause-exact : goal.returns-in-Some-clause-exact
returns-in-Some-clause-exact c =
    λ layout bytes read.
    let r : ReaderView = record { measures = c.self.inside.measures; so_far = c.self.inside.so_far; begun = c.self.inside.begun.items; error = c.self.inside.error } in
    let h : HasRead r layout bytes = subst (λ (r : ReaderView). HasRead r layout bytes) (sym c.self.view_is) read in
    all-fails r layout bytes c.in-Some.error h.measures (subst (λ (e : Option RowError). IsKeptOf e r.measures (no_records layout) bytes r.so_far r.begun) c.in-Some.is h.kept)

pub returns-clause-exact : goal.returns-clause-exact
returns-clause-exact c =
    λ layout bytes read.
    let r : ReaderView = record { measures = c.self.inside.measures; so_far = c.self.inside.so_far; begun = c.self.inside.begun.items; error = c.self.inside.error } in
    let h : HasRead r layout bytes = subst (λ (r : ReaderView). HasRead r layout bytes) (sym c.self.view_is) read in
    let ready = subst (λ (e : Option RowError). IsReadyReader e r.measures r.so_far r.begun) c.in_default.is c.self.invariant in
    subst (λ (meant : Result Records (ℕ × RowWhy)). Gives row_fault_of (λ records. records) c.read_out.result meant) (sym (all-read r layout bytes c.in_default.is h ready.1))
    (subst (λ (last : List ℕ). Gives row_fault_of (λ records. records) c.read_out.result (records_behind c.self.inside.measures c.self.inside.so_far last)) c.deref.ensures.value c.read_out.ensures.exact)
