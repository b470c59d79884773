use Rattle.std.proofs.Common.{refl}
use Rattle.certificate.proofs.extra_writing.add_need_head.Goals as goal

pub returns-clause-text : goal.returns-clause-text
returns-clause-text c = rw (c.in_ok-add.ensures, c.as_bytes.ensures.value, c.in_ok-head.ensures.ok, c.from.ensures) refl
