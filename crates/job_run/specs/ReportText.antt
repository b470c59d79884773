-- What a run prints of its report, and the status it ends with (own).
use Rattle.std.specs.Prelude.{ℕ, ◌+◌, List, [], ◌∷◌, ◌++◌, codes, decimal, flat_map, Option, None, Some}
use Rattle.std.specs.Fmt.{signed_decimal}
use Rattle.sdc_base.specs.Forms.{Term}
use Rattle.sdc_base.specs.Sides.{side_word}
use Rattle.sdc_base.specs.declared.side.Side.{Side}
use Rattle.certificate.specs.Texts.{pair_token}
use Rattle.worlds.specs.declared.multipliers.Multipliers.{Multipliers}
use Rattle.job_inputs.specs.FaultTexts.{fault_text}
use Rattle.job_inputs.specs.FileTexts.{file_text}
use Rattle.job_run.specs.CheckTexts.{check_text}
use Rattle.job_run.specs.GuardTexts.{guard_text}
use Rattle.job_run.specs.declared.report.Stuck.{Stuck}
use Rattle.job_run.specs.declared.report.Stuck.TheVariants as stuck
use Rattle.job_run.specs.declared.report.Summary.{Summary}
use Rattle.job_run.specs.declared.report.Report.{Report}
use Rattle.job_run.specs.declared.report.Report.TheVariants as report

-- the status of a report
abbrev pub status_of : Report → ℕ
status_of (report.Released summary) = 0
status_of report.Accepted = 0
status_of (report.Intervals cells) = 0
status_of (report.Audited primary exposed) = 0
status_of (report.Demo demo) = 0
status_of report.Migrated = 0
status_of report.Usage = 1
status_of (report.Refused reason) = 2
status_of (report.Cannot cell side multipliers) = 3
status_of (report.CannotAgainst row cell side multipliers) = 3
status_of report.NoRounding = 3
status_of (report.NotAccepted why) = 3
status_of (report.NotGuarded why) = 3
status_of (report.Undecided why repairs shown against) = 4
status_of (report.ReadFault f) = 5
status_of (report.WriteFault f) = 6
status_of report.Memory = 7

-- the numbers of a release
abbrev pub summary_text : Summary → List ℕ
summary_text s =
    decimal s.records ++ (codes " records, "
    ++ (decimal s.skipped ++ (codes " skipped, "
    ++ (decimal s.passed_over ++ (codes " passed over, "
    ++ (decimal s.cells ++ (codes " cells, "
    ++ (decimal s.primary ++ (codes " primary, "
    ++ (decimal s.hidden ++ codes " hidden"))))))))))

-- the numbers of a demonstration's release
abbrev pub demo_numbers_text : Summary → List ℕ
demo_numbers_text s =
    decimal s.records ++ (codes " records, "
    ++ (decimal s.skipped ++ (codes " skipped, "
    ++ (decimal s.cells ++ (codes " cells, "
    ++ (decimal s.primary ++ (codes " primary, "
    ++ (decimal s.hidden ++ codes " hidden"))))))))

-- the status of a demonstration, and the numbers of its release
abbrev pub demo_text : ℕ → Option Summary → List ℕ
demo_text status None = decimal status
demo_text status (Some s) = decimal status ++ (codes ", " ++ demo_numbers_text s)

-- a cell and a side
abbrev pub cell_text : ℕ → Side → List ℕ
cell_text cell side = codes "cell " ++ (decimal cell ++ (codes " " ++ side_word side))

-- why a question stopped short, and of which cell it is; or after how many nodes a search did
abbrev pub stuck_text : Stuck → List ℕ
stuck_text (stuck.Work walk) = codes "work, "
    ++ (cell_text walk.question.cell walk.question.side
    ++ (codes ", " ++ (decimal walk.tableau.improved ++ codes " steps")))
stuck_text (stuck.Wide walk place) = codes "wide, " ++ cell_text walk.question.cell walk.question.side
stuck_text (stuck.Size question hidden) = codes "size, "
    ++ (cell_text question.cell question.side ++ (codes ", " ++ (decimal hidden ++ codes " hidden")))
stuck_text (stuck.Nodes nodes) = codes "nodes, " ++ decimal nodes

-- a relation with its number, behind a space
abbrev pub term_text : Term → List ℕ
term_text term = codes " " ++ pair_token term

-- the den of multipliers, and each relation that has one with its number
abbrev pub multipliers_text : Multipliers → List ℕ
multipliers_text multipliers =
    codes "multipliers " ++ (signed_decimal multipliers.den ++ flat_map term_text multipliers.by_relation)

-- the first line of a report that a cell can't be protected, with its end
abbrev pub cannot_line : ℕ → Side → List ℕ
cannot_line cell side = codes "cannot protect " ++ (cell_text cell side ++ 10 ∷ [])

-- the same where it can't be guarded against the contributor at a row, which is numbered from 1
abbrev pub cannot_against_line : ℕ → ℕ → Side → List ℕ
cannot_against_line row cell side =
    codes "cannot protect " ++ (cell_text cell side ++ (codes " from row " ++ (decimal (row + 1) ++ 10 ∷ [])))

-- the numbers of an audit
abbrev pub audit_line : ℕ → ℕ → List ℕ
audit_line primary exposed =
    codes "audited: " ++ (decimal primary ++ (codes " primary, " ++ (decimal exposed ++ codes " exposed")))

-- the report's lines without the end of the last
abbrev pub report_line : Report → List ℕ
report_line (report.Released summary) = codes "released: " ++ summary_text summary
report_line report.Accepted = codes "accepted"
report_line (report.Intervals cells) = codes "intervals: " ++ (decimal cells ++ codes " cells")
report_line (report.Audited primary exposed) = audit_line primary exposed
report_line (report.Demo demo) = codes "demo: status " ++ demo_text demo.status demo.summary
report_line report.Migrated = codes "migrated"
report_line report.Usage =
    codes "usage: argus run JOB | check JOB | intervals JOB OUT | demo SEED RECORDS | migrate OLD NEW | audit JOB OUT"
report_line (report.Refused reason) = codes "refused: " ++ fault_text reason
report_line (report.Cannot cell side multipliers) = cannot_line cell side ++ multipliers_text multipliers
report_line (report.CannotAgainst row cell side multipliers) =
    cannot_against_line row cell side ++ multipliers_text multipliers
report_line report.NoRounding = codes "no rounding"
report_line (report.NotAccepted why) = codes "not accepted: " ++ check_text why
report_line (report.NotGuarded why) = codes "not guarded: " ++ guard_text why
report_line (report.Undecided why repairs shown against) = codes "undecided: " ++ stuck_text why
report_line (report.ReadFault f) = codes "read fault: " ++ file_text f
report_line (report.WriteFault f) = codes "write fault: " ++ file_text f
report_line report.Memory = codes "memory"

-- the report as it is printed: one line, two where a cell can't be protected or guarded, each ended by LF
abbrev pub report_text : Report → List ℕ
report_text r = report_line r ++ 10 ∷ []
