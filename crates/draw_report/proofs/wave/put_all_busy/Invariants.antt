use Rattle.std.proofs.Common.{take}
use Rattle.std.specs.List.{flat_map}
use Rattle.draw_report.specs.Paper.{Adds}
use Rattle.draw_report.specs.Element.{words_text}
use Rattle.draw_report.specs.Wave.{late_words}
use Rattle.draw_report.proofs.wave.put_all_busy.Given as goal

abbrev pub invariant-loop-run : goal.invariant-loop-run
invariant-loop-run l =
    Adds l.fn.out l.out (flat_map (λ p. words_text (late_words l.scale p))
    (take l.run-index l.runs))
