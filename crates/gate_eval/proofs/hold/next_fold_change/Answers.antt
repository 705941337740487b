use Rattle.std.proofs.Common.{◌≡◌, min, arith}
use Rattle.step_values.specs.Cell.{values}
use Rattle.skew_algebra.specs.Wave.{fold}
use Rattle.gate_eval.proofs.Few.{same_next}
use Rattle.gate_eval.proofs.Folding.{same_folds}
use Rattle.gate_eval.proofs.hold.next_fold_change.Goals as goal

pub loop-pin-preserved : goal.loop-pin-preserved
loop-pin-preserved g c =
    let end : c.min-end.result ≡ min c.loop-pin.next c.same_fold_until.result = grind arith in
    let so_far = c.loop-pin.invariant in
    let behind = so_far.behind in
    let within = so_far.within in
    let here = c.same_fold_until.ensures.behind in
    record {
      behind = omega (arith, end, behind, here);
      within = omega (arith, end, within);
      same = λ p after before.
          same_next (λ q. fold values q.wave p)
          (λ q. fold values q.wave c.args.slot)
          c.args.pins.now c.loop-pin.pin-index c.pin-item.result (omega arith) c.pin-item.is
          (so_far.same p after (omega (arith, end, before)))
          (c.same_fold_until.ensures.same p after (omega (arith, end, before)));
    }

pub returns-clause-same : goal.returns-clause-same
returns-clause-same g c = λ p after before.
    same_folds c.args.pins.now c.loop-pin.pin-index c.args.slot p (λ q. q.wave) (omega arith)
    (c.loop-pin.invariant.same p after before)
