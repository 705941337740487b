use Rattle.std.proofs.Common.{◌≡◌, true, false, map, take, rules, arith, subst}
use Rattle.step_values.specs.Cell.{values}
use Rattle.skew_algebra.specs.Wave.{is_steady}
use Rattle.gate_eval.specs.Meeting.{movers}
use Rattle.gate_eval.proofs.Scanned.{Keeps, kept_two}
use Rattle.gate_eval.proofs.meeting.kept_skew.Goals as goal

pub returns-then-moves-clause-kept : goal.returns-then-moves-clause-kept
returns-then-moves-clause-kept g c =
    let moves : is_steady values c.pin-item.result.wave.cells ≡ false = search rules in
    let h : Keeps (movers values (map (λ p. p.wave) (take c.loop-pin.pin-index c.args.pins.now))) true c.loop-pin.skew =
    subst (λ b. Keeps (movers values (map (λ p. p.wave) (take c.loop-pin.pin-index c.args.pins.now))) b c.loop-pin.skew) c.if-moves.true c.loop-pin.invariant.so_far in
    kept_two values (λ p. p.wave) c.args.pins.now c.loop-pin.pin-index c.pin-item.result (omega arith) c.pin-item.is
    c.loop-pin.skew moves h
