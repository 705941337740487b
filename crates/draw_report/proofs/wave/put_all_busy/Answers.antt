use Rattle.draw_report.specs.Wave.{late_words}
use Rattle.draw_report.proofs.Texts.{words_all}
use Rattle.draw_report.proofs.wave.put_all_busy.Goals as goal

pub returns : goal.returns
returns c =
    words_all (late_words c.args.scale) c.args.runs.now c.loop-run.run-index c.args.out.now
    c.loop-run.out c.loop-run-test.false c.loop-run.invariant
