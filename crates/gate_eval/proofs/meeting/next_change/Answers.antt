use Rattle.std.proofs.Common.{◌≡◌, map, take, min, ap, sym, ◌∙◌, arith}
use Rattle.std.proofs.lemmas.List.{take_all}
use Rattle.step_values.specs.Cell.{values}
use Rattle.skew_algebra.specs.Wave.{cell_at}
use Rattle.gate_eval.proofs.Few.{same_more, same_value}
use Rattle.gate_eval.proofs.meeting.next_change.Goals as goal

pub loop-wave-preserved : goal.loop-wave-preserved
loop-wave-preserved g c =
    let end : c.min-end.result ≡ min c.loop-wave.next c.same_until.result = grind arith in
    let so_far = c.loop-wave.invariant in
    let behind = so_far.behind in
    let within = so_far.within in
    let here = c.same_until.ensures.behind in
    record {
      behind = omega (arith, end, behind, here);
      within = omega (arith, end, within);
      same = λ p after before.
          same_more g.W.CyclicWave.cells c.args.waves.now c.loop-wave.wave-index c.args.slot p c.wave-item.result (omega arith) c.wave-item.is
          (so_far.same p after (omega (arith, end, before)))
          (same_value (g.W.CyclicWave.cells c.wave-item.result) c.args.slot c.same_until.result p c.same_until.ensures after (omega (arith, end, before)));
    }

pub returns-clause-same : goal.returns-clause-same
returns-clause-same g c = λ p after before.
    let all : take c.loop-wave.wave-index c.args.waves.now ≡ c.args.waves.now = take_all c.loop-wave.wave-index c.args.waves.now (omega arith) in
    sym (ap (map (λ w. cell_at values (g.W.CyclicWave.cells w) p)) all)
    ∙ c.loop-wave.invariant.same p after before
    ∙ ap (map (λ w. cell_at values (g.W.CyclicWave.cells w) c.args.slot)) all
