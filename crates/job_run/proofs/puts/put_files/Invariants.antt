use Rattle.std.proofs.Common.{◌≡◌, ◌<◌, ◌≤◌, option_map, take}
use Rattle.sdc_base.specs.Counts.{count_after}
use Rattle.job_run.specs.Puts.{put_all}
use Rattle.job_run.proofs.puts.put_files.Given as goal

abbrev pub invariant-loop-next : goal.invariant-loop-next
invariant-loop-next g l = record {
  done : (g.T.Tray.state l.tray).files ≡ option_map (λ out. put_all out (take l.next-index l.puts)) (g.T.Tray.state l.fn.tray).files;
  none : l.next-index ≡ 0 → g.T.Tray.state l.tray ≡ g.T.Tray.state l.fn.tray;
  once : 0 < l.next-index → (g.T.Tray.state l.tray).puts ≡ count_after (g.T.Tray.state l.fn.tray).puts l.next-index;
  faults : (g.T.Tray.state l.fn.tray).faults ≤ (g.T.Tray.state l.tray).faults;
}
