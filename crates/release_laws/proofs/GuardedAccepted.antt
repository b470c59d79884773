-- Releases with extra cells are judged in one way, and what guarding writes is accepted.
use Rattle.std.proofs.Common.{◌≡◌, ℕ, Bool, List, length, Option, Result, Ok, refl, ap, sym, ◌∙◌, subst}
use Rattle.sdc_base.specs.Steps.{◌>>=◌, map_fault}
use Rattle.sdc_base.specs.declared.cell.Cell.{Cell}
use Rattle.sdc_base.specs.declared.system.System.{System}
use Rattle.attackers.specs.ExtraFaults.{extra_fault}
use Rattle.sdc_base.specs.HiddenSets.{hide_cells}
use Rattle.sdc_base.specs.declared.dimension.Dimension.{Dimension}
use Rattle.attackers.specs.declared.faults.ExtraFault.{ExtraFault}
use Rattle.cert_check.proofs.Accepted.{tables_good}
use Rattle.cert_check.proofs.OwnTables.{as_many_texts, own_case, texts_themselves}
use Rattle.cert_check.proofs.Written.{texts_pass}
use Rattle.cert_check.specs.Cases.{IsCase}
use Rattle.cert_check.specs.FirstFault.{acceptance_fault}
use Rattle.cert_check.specs.HiddenSet.{hidden_set}
use Rattle.cert_check.specs.OwnTexts.{hiding_texts, own_set, own_texts, release_fault}
use Rattle.cert_check.specs.declared.case.Case.{Case}
use Rattle.cert_check.specs.declared.faults.CheckFault.{CheckFault}
use Rattle.certificate.specs.declared.certificate.Certificate.{Certificate}
use Rattle.certificate.specs.declared.extra.Extra.{Extra}
use Rattle.linked_tables.specs.BookCells.{cells as cells_in}
use Rattle.release_writer.specs.ReadingLaws.{AreTexts}
use Rattle.release_writer.specs.ShownCells.{open_truth}
use Rattle.repair.specs.HidingOrder.{protected_case}
use Rattle.job_check.proofs.Judgements.{none-stops}
use Rattle.job_check.specs.GuardedReleases.{guarded_fault, larger_set}
use Rattle.job_check.specs.declared.stop.CheckStop.{CheckStop}
use Rattle.job_check.specs.declared.stop.CheckStop.TheVariants as stop
use Rattle.release_laws.proofs.OneJudgement.{RestAlike, rest-alike, judged-alike, texts-alike, one-cells, one-system, of-case}
use Rattle.release_laws.proofs.OneSoles.{one-soles}
use Rattle.release_laws.proofs.OneText.{texts-same}
use Rattle.release_laws.proofs.Speaking.{protection-is-accepted, speaks}
use Rattle.release_laws.specs.Laws.{GuardingIsAccepted, GuardsAreJudgedInOneWay}

-- ---- in one way

-- the first fault of a release with extra cells, by what it rests on
abbrev guarded_by : Result (Unit {0}) CheckFault → Result (Unit {0}) CheckFault → Result (Unit {0}) ExtraFault → Result (Unit {0}) CheckStop
guarded_by signed texts guards = map_fault stop.NotAccepted signed >>= λ _. map_fault stop.NotAccepted texts >>= λ _. map_fault stop.NotGuarded guards

-- the hidden set of a certificate is the same
own-sets : (one other : Case) (c : Certificate) → RestAlike one other → own_set one c ≡ own_set other c
own-sets one other c alike = ap (λ (s : System). hidden_set s.cells c.hidden) alike.system

-- so are the texts of that set
own-alike : (one other : Case) (c : Certificate) → RestAlike one other → own_texts one c ≡ own_texts other c
own-alike one other c alike =
    ap (λ (flags : List Bool). hiding_texts one.book.now flags one.decimals one.book.now.tables one.names.now) (own-sets one other c alike)
    ∙ ap (λ (n : ℕ). hiding_texts one.book.now (own_set other c) n one.book.now.tables one.names.now) alike.decimals
    ∙ ap (λ (all : List (List (List ℕ))). hiding_texts one.book.now (own_set other c) other.decimals one.book.now.tables all) alike.names
    ∙ ap (λ (all : List (List Dimension)). hiding_texts one.book.now (own_set other c) other.decimals all other.names.now) alike.book.tables
    ∙ texts-same one.book.now other.book.now (own_set other c) other.decimals other.book.now.tables other.names.now alike.book

guarded-alike : (one other : Case) (soles others : List (Option ℕ)) (tables : List (List ℕ)) (c : Certificate) (extra : Extra) → RestAlike one other → soles ≡ others → guarded_fault one soles tables c extra ≡ guarded_fault other others tables c extra
guarded-alike one other soles others tables c extra alike same =
    let signed : acceptance_fault one (own_texts one c) c ≡ acceptance_fault other (own_texts other c) c = judged-alike one other (own_texts one c) c alike ∙ ap (λ (texts : List (List ℕ)). acceptance_fault other texts c) (own-alike one other c alike) in
    let larger : larger_set one c extra ≡ larger_set other c extra = ap (λ (flags : List Bool). hide_cells flags extra.cells) (own-sets one other c alike) in
    let texts : release_fault one (larger_set one c extra) tables ≡ release_fault other (larger_set other c extra) tables =
    texts-alike one other tables (larger_set one c extra) alike ∙ ap (λ (flags : List Bool). release_fault other flags tables) larger in
    let guards : extra_fault (protected_case one.system.now one.cells.now) soles (own_set one c) c.worlds extra ≡ extra_fault (protected_case other.system.now other.cells.now) others (own_set other c) c.worlds extra =
    ap (λ (s : System). extra_fault (protected_case s one.cells.now) soles (own_set one c) c.worlds extra) alike.system
    ∙ ap (λ (cells : List Cell). extra_fault (protected_case other.system.now cells) soles (own_set one c) c.worlds extra) alike.cells
    ∙ ap (λ (all : List (Option ℕ)). extra_fault (protected_case other.system.now other.cells.now) all (own_set one c) c.worlds extra) same
    ∙ ap (λ (flags : List Bool). extra_fault (protected_case other.system.now other.cells.now) others flags c.worlds extra) (own-sets one other c alike) in
    ap (λ (r : Result (Unit {0}) CheckFault). guarded_by r (release_fault one (larger_set one c extra) tables) (extra_fault (protected_case one.system.now one.cells.now) soles (own_set one c) c.worlds extra)) signed
    ∙ ap (λ (r : Result (Unit {0}) CheckFault). guarded_by (acceptance_fault other (own_texts other c) c) r (extra_fault (protected_case one.system.now one.cells.now) soles (own_set one c) c.worlds extra)) texts
    ∙ ap (λ (r : Result (Unit {0}) ExtraFault). guarded_by (acceptance_fault other (own_texts other c) c) (release_fault other (larger_set other c extra) tables) r) guards

pub guards-in-one-way : GuardsAreJudgedInOneWay
guards-in-one-way settled one other soles others tables c extra is are fits fit own also =
    let alike : RestAlike one other = rest-alike settled one other tables is are fits fit in
    guarded-alike one other soles others tables c extra alike
    (one-soles one.book.now other.book.now settled.inputs.records.rows soles others alike.book.trees alike.book.tables own.one_each also.one_each own.are_soles also.are_soles)

-- ---- what guarding has written

-- the texts of a set hide its cells
texts-of-set : (case : Case) (tables : List (List ℕ)) (c : Certificate) (flags : List Bool) → IsCase case tables → own_set case c ≡ flags
    → AreTexts case.book.now case.decimals (open_truth case.book.now.marks flags) case.book.now.tables case.names.now (own_texts case c)
texts-of-set case tables c flags fits same =
    subst (λ (set : List Bool). AreTexts case.book.now case.decimals (open_truth case.book.now.marks set) case.book.now.tables case.names.now (own_texts case c)) same
    (tables_good case.book.now (own_set case c) case.decimals 0 case.book.now.tables case.names.now (own_texts case c) fits.names.lists
    (as_many_texts case.book.now (own_set case c) case.decimals case.book.now.tables case.names.now fits.names.lists) (texts_themselves case.book.now (own_set case c) case.decimals 0 case.book.now.tables case.names.now))

pub guarding-is-accepted : GuardingIsAccepted
guarding-is-accepted settled prices protected certificate extra case soles tables g is fits hides are texts =
    let own = own_texts case certificate in
    let owned : IsCase case own = own_case case tables certificate fits in
    let protects = of-case settled g.job g.system prices protected certificate case g.job_is g.system_is g.protects is in
    let set : own_set case certificate ≡ protected.hidden.flags = (speaks case tables prices protected certificate fits protects).hidden in
    let cells : g.job.cells ≡ case.cells.now = one-cells settled g.job is.job g.job_is is.job_is ∙ sym is.cells in
    let system : g.system ≡ case.system.now = one-system settled g.job g.system case g.job_is g.system_is is in
    let trees : g.job.book.trees ≡ case.book.now.trees = g.job_is.book.trees ∙ sym is.job_is.book.trees ∙ sym is.book.trees in
    let all : g.job.book.tables ≡ case.book.now.tables = g.job_is.book.tables ∙ sym is.job_is.book.tables ∙ sym is.book.tables in
    let names : cells_in case.book.now ≡ cells_in g.job.book = rw (trees, all) refl in
    let each : length g.soles ≡ length (cells_in g.job.book) =
    g.one_each ∙ ap length cells ∙ fits.each_cell ∙ sym (ap (λ (s : System). s.cells) system) ∙ g.system_is.cells in
    let same : g.soles ≡ soles = one-soles g.job.book case.book.now settled.inputs.records.rows g.soles soles trees all each are.one_each g.are_soles are.are_soles in
    let signed : acceptance_fault case own certificate ≡ Ok tt = protection-is-accepted case own prices protected certificate owned hides protects (texts-of-set case tables certificate protected.hidden.flags fits set) in
    let shown : release_fault case (larger_set case certificate extra) tables ≡ Ok tt =
    texts_pass case.book.now (larger_set case certificate extra) case.decimals 0 case.book.now.tables case.names.now tables
    (subst (λ (flags : List Bool). AreTexts case.book.now case.decimals (open_truth case.book.now.marks (hide_cells flags extra.cells)) case.book.now.tables case.names.now tables) (sym set) texts) in
    let guards : extra_fault (protected_case case.system.now case.cells.now) soles (own_set case certificate) certificate.worlds extra ≡ Ok tt =
    subst (λ (s : System). extra_fault (protected_case s case.cells.now) soles (own_set case certificate) certificate.worlds extra ≡ Ok tt) system
    (subst (λ (cs : List Cell). extra_fault (protected_case g.system cs) soles (own_set case certificate) certificate.worlds extra ≡ Ok tt) cells
    (subst (λ (ones : List (Option ℕ)). extra_fault (protected_case g.system g.job.cells) ones (own_set case certificate) certificate.worlds extra ≡ Ok tt) same
    (subst (λ (flags : List Bool). extra_fault (protected_case g.system g.job.cells) g.soles flags certificate.worlds extra ≡ Ok tt) (sym set) g.no_fault))) in
    none-stops case soles tables certificate extra (own_set case certificate) (larger_set case certificate extra) signed refl refl shown guards
