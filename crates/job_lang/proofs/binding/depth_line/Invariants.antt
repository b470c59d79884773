use Rattle.std.proofs.Common.{◌≡◌, drop}
use Rattle.std.specs.Prelude.{find}
use Rattle.job_lang.specs.Binding.{is_depth_for}
use Rattle.job_lang.proofs.binding.depth_line.Given as goal

abbrev pub invariant-loop-line : goal.invariant-loop-line
invariant-loop-line l = find (is_depth_for l.place l.name) (drop l.line-index l.depths) ≡ find (is_depth_for l.place l.name) l.depths
