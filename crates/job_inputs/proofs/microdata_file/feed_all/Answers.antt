use Rattle.std.proofs.Common.{◌≡◌, ℕ, ◌+◌, ◌-◌, ◌≤◌, ◌++◌, take, Ok, subst, ◌∙◌, arith}
use Rattle.std.proofs.lemmas.Result.{err_from_is_err_and}
use Rattle.sdc_base.specs.Steps.{map_fault}
use Rattle.microdata.specs.Feeding.{HasRead, fed_of}
use Rattle.job_inputs.specs.ReadFiles.{limit, row_fault}
use Rattle.plain_text.specs.Stops.{why_of}
use Rattle.office_io.proofs.Shelves.{only-read-on, filled}
use Rattle.job_inputs.proofs.Causes.{stop-fails, contents-cause}
use Rattle.job_inputs.proofs.Feeding.{fed-more, fed-end, fed-faulty, fed-long}
use Rattle.job_inputs.proofs.microdata_file.feed_all.Goals as goal

pub returns-then-ended-clause-reads_all : goal.returns-then-ended-clause-reads_all
returns-then-ended-clause-reads_all g c = λ layout bytes left read.
    let end = fed-end layout bytes c.pieces.reader _ c.pieces.taken c.in-Ok.n (c.pieces.invariant.fed layout bytes left read) c.if-ended.true c.in-Ok.ensures.given.end in
    (end.0, omega (arith, end.1, c.pieces.invariant.short))

pub returns-in_err-feed_piece-clause-told : goal.returns-in_err-feed_piece-clause-told
returns-in_err-feed_piece-clause-told g c =
    let p = err_from_is_err_and c.from_residual.result c.from_residual.ensures.1 in
    let most = c.min-within.ensures in
    rw (p.1, p.2) (λ layout bytes left read. stop-fails c.in_err-feed_piece.field-0.0 _
    (fed-faulty c.faults_stand.ensures layout bytes c.pieces.reader _ c.pieces.taken c.in-Ok.n c.min-within.result c.read.new.buffer (why_of c.in_err-feed_piece.field-0.0)
    (c.pieces.invariant.fed layout bytes left read) c.in-Ok.ensures.given.within c.in-Ok.ensures.given.given (omega (arith, most)) (omega (arith, most, c.pieces.invariant.short))
    (λ got has. c.in_err-feed_piece.ensures.exact layout got has)))

pub returns-in_err-feed_piece-clause-cause : goal.returns-in_err-feed_piece-clause-cause
returns-in_err-feed_piece-clause-cause g c =
    let p = err_from_is_err_and c.from_residual.result c.from_residual.ensures.1 in
    rw (p.1, p.2) (contents-cause c.in_err-feed_piece.field-0.0 _ _ c.in_err-feed_piece.ensures.contents)

pub returns-then-beyond-clause-told : goal.returns-then-beyond-clause-told
returns-then-beyond-clause-told g c = λ layout bytes left read.
    let most = c.min-within.ensures in
    let here : c.min-within.result ≡ limit - c.pieces.taken = omega (arith, most, c.if-beyond.true) in
    fed-long layout bytes c.pieces.reader _ c.pieces.taken c.in-Ok.n c.read.new.buffer (c.pieces.invariant.fed layout bytes left read) c.in-Ok.ensures.given.within c.in-Ok.ensures.given.given
    (omega (arith, here, c.if-beyond.true)) c.pieces.invariant.short
    (λ got has. subst (λ (m : ℕ). map_fault row_fault (fed_of layout (got ++ take m c.read.new.buffer)) ≡ Ok tt) here (c.in_ok-feed_piece.ensures.exact layout got has))

pub pieces-preserved : goal.pieces-preserved
pieces-preserved g c =
    let most = c.min-within.ensures in
    let all : c.min-within.result ≡ c.in-Ok.n = omega (arith, most, c.if-beyond.false) in
    let short : c.pieces.taken + c.in-Ok.n ≤ limit = omega (arith, most, all, c.pieces.invariant.short) in
    record {
      short = short;
      count = omega (arith, c.in-Ok.ensures.given.taken, c.pieces.invariant.count, short);
      each_takes = omega (arith, c.in-Ok.ensures.once.reads, c.pieces.invariant.each_takes, c.if-ended.false);
      empty = filled c.in-Ok.n _ _ (omega (arith, c.if-ended.false)) c.in-Ok.ensures.given.empty ∙ c.pieces.invariant.empty;
      fed = λ layout bytes left read.
          rw c.in-Ok.ensures.given.rest
          (fed-more layout bytes c.pieces.reader c.feed_piece.new.reader _ c.pieces.taken c.in-Ok.n c.read.new.buffer (c.pieces.invariant.fed layout bytes left read) c.in-Ok.ensures.given.within c.in-Ok.ensures.given.given
          (λ got has. subst (λ (m : ℕ). HasRead c.feed_piece.new.reader layout (got ++ take m c.read.new.buffer)) all (c.in_ok-feed_piece.ensures.fed layout got has)));
      some = λ layout read. let before = c.pieces.invariant.some layout read in (before.0 ++ take c.min-within.result c.read.new.buffer, c.in_ok-feed_piece.ensures.fed layout before.0 before.1);
      last = c.in-Ok.ensures.once.last ∙ c.pieces.invariant.last;
      only_read = only-read-on _ _ _ c.pieces.invariant.only_read c.in-Ok.ensures.only_read;
    }
