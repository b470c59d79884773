use Rattle.std.proofs.Common.{arith, ap, ◌∙◌, length, ℕ, take, length-append, length-take}
use Rattle.office_io.proofs.Told.{IsGot-start, IsGot-more, IsGot-end, IsGot-longer, IsGot-held}
use Rattle.office_io.proofs.Shelves.{only-read-on, filled}
use Rattle.office_io.proofs.reading.read_all.Goals as goal

pub pieces-init : goal.pieces-init
pieces-init g c = record {
  got = omega arith;
  taken = omega (arith, c.in-Ok.ensures.begun.none_taken);
  reads = omega (arith, c.in-Ok.ensures.begun.none_read);
  empty = c.in-Ok.ensures.begun.none_empty;
  left = λ fs told. IsGot-start _ _ _ (c.in-Ok.ensures.chosen.found fs told) (c.in-Ok.ensures.chosen.held fs told) c.new-bytes.ensures.items;
  last = c.in-Ok.ensures.begun.last;
  only_read = c.in-Ok.ensures.only_read;
}

pub returns-then-ended-clause-whole_file : goal.returns-then-ended-clause-whole_file
returns-then-ended-clause-whole_file g c = record {
  file = λ fs told. IsGot-end _ _ _ _ c.if-ended.true (c.pieces.invariant.left fs told) c.in-Ok-read.ensures.given.end;
  short = c.pieces.invariant.got;
  taken = omega (arith, c.pieces.invariant.taken, c.in-Ok-read.ensures.given.taken, c.if-ended.true, c.pieces.invariant.got);
}

pub returns-then-beyond-clause-longer : goal.returns-then-beyond-clause-longer
returns-then-beyond-clause-longer g c = λ _. record {
  held = λ fs told. IsGot-held _ _ _ (c.pieces.invariant.left fs told);
  longer = λ fs told bytes is. IsGot-longer _ _ _ _ _ (c.pieces.invariant.left fs told) c.in-Ok-read.ensures.given.within (omega arith) bytes is;
}

pub pieces-preserved : goal.pieces-preserved
pieces-preserved g c =
    let items = c.in_ok-add_piece.ensures.ok in
    let got_more = ap length items ∙ length-append c.pieces.bytes.items (take c.in-Ok-read.n c.read.new.buffer) in
    let given = c.in-Ok-read.ensures.given in
    record {
      got = omega (arith, got_more, length-take {A = ℕ});
      taken = omega (arith, got_more, length-take {A = ℕ}, given.taken, given.fits, c.pieces.invariant.taken);
      reads = omega (arith, got_more, length-take {A = ℕ}, given.fits, c.pieces.invariant.reads, c.in-Ok-read.ensures.once.reads);
      empty = filled c.in-Ok-read.n _ _ (omega (arith, c.if-ended.false)) given.empty ∙ c.pieces.invariant.empty;
      left = λ fs told. rw (items, given.rest) (IsGot-more _ _ _ _ _ (c.pieces.invariant.left fs told) given.given);
      last = λ fs told. c.in-Ok-read.ensures.once.last ∙ c.pieces.invariant.last fs told;
      only_read = only-read-on _ _ _ c.pieces.invariant.only_read c.in-Ok-read.ensures.only_read;
    }
