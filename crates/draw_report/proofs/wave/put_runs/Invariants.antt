use Rattle.std.proofs.Common.{take}
use Rattle.std.specs.List.{flat_map}
use Rattle.draw_report.specs.Paper.{Adds}
use Rattle.draw_report.specs.Element.{written}
use Rattle.draw_report.specs.Wave.{run_path}
use Rattle.draw_report.proofs.wave.put_runs.Given as goal

abbrev pub invariant-loop-run : goal.invariant-loop-run
invariant-loop-run l =
    Adds l.fn.out l.out (flat_map (λ p. written (run_path l.scale p)) (take l.run-index l.runs))
