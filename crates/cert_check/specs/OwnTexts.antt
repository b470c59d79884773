-- A certificate judged with the tables that hide exactly its own hidden set, and the tables of a release with those of
-- another set (own).
use Rattle.std.specs.Prelude.{ℕ, Bool, List, [], ◌∷◌, Result}
use Rattle.sdc_base.specs.Steps.{◌>>=◌}
use Rattle.sdc_base.specs.declared.dimension.Dimension.{Dimension}
use Rattle.certificate.specs.declared.certificate.Certificate.{Certificate}
use Rattle.linked_tables.specs.BookViews.{BookView}
use Rattle.cert_check.specs.declared.case.Case.{Case}
use Rattle.cert_check.specs.declared.faults.CheckFault.{CheckFault}
use Rattle.cert_check.specs.Counts.{counts_fault}
use Rattle.cert_check.specs.Methods.{method_fault}
use Rattle.cert_check.specs.HiddenSet.{hidden_set, permitted_fault}
use Rattle.cert_check.specs.ReleaseLines.{hiding_text, tables_fault}
use Rattle.cert_check.specs.FirstFault.{shown_fault}

-- the texts of tables, each with its names, in which each cell shows its truth, unless it is hidden
abbrev pub hiding_texts : BookView → List Bool → ℕ → List (List Dimension) → List (List (List ℕ)) → List (List ℕ)
hiding_texts book flags decimals (table ∷ tables) (names ∷ others) =
    hiding_text book flags decimals table names ∷ hiding_texts book flags decimals tables others
hiding_texts book flags decimals tables names = []

-- the hidden set of a certificate
abbrev pub own_set : Case → Certificate → List Bool
own_set case c = hidden_set case.system.now.cells c.hidden

-- the tables that hide exactly these cells
abbrev pub own_texts : Case → Certificate → List (List ℕ)
own_texts case c =
    hiding_texts case.book.now (own_set case c) case.decimals case.book.now.tables case.names.now

-- the first fault of a certificate that lies in no table
abbrev pub certificate_fault : Case → Certificate → Result (Unit {0}) CheckFault
certificate_fault case c =
    counts_fault case.system.now c >>= λ _.
    method_fault case.method c >>= λ _.
    permitted_fault case.cells.now (own_set case c) >>= λ _.
    shown_fault case (own_set case c) c

-- the first fault of the tables of a release, which are to hide exactly the cells of this set
abbrev pub release_fault : Case → List Bool → List (List ℕ) → Result (Unit {0}) CheckFault
release_fault case flags release =
    tables_fault case.book.now flags case.decimals 0 case.book.now.tables case.names.now release
