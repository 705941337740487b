use Rattle.std.proofs.Common.{map, sym}
use Rattle.std.specs.List.{flat_map}
use Rattle.draw_report.specs.Element.{all_written, written}
use Rattle.draw_report.specs.Wave.{run_path}
use Rattle.draw_report.proofs.Texts.{adds_all, adds_item, adds_same, nodes_map}
use Rattle.draw_report.proofs.wave.put_runs.Goals as goal

pub loop-run-preserved : goal.loop-run-preserved
loop-run-preserved c =
    adds_item (λ p. written (run_path c.args.scale p)) c.args.runs.now c.loop-run.run-index _
    c.args.out.now c.loop-run.out c.put_run.new.out c.loop-run-test.true c.loop-run.invariant
    c.put_run.ensures

pub returns : goal.returns
returns c =
    adds_same c.args.out.now c.loop-run.out
    (flat_map (λ p. written (run_path c.args.scale p)) c.args.runs.now)
    (all_written (map (run_path c.args.scale) c.args.runs.now))
    (sym (nodes_map (run_path c.args.scale) c.args.runs.now))
    (adds_all (λ p. written (run_path c.args.scale p)) c.args.runs.now c.loop-run.run-index
    c.args.out.now c.loop-run.out c.loop-run-test.false c.loop-run.invariant)
