use Rattle.std.proofs.Common.{◌<◌, ◌≤◌, ◌&&◌, ◌∙◌, Bool, not, length, sym, arith}
use Rattle.fixpoint_engine.specs.Settled.{marked_in}
use Rattle.fixpoint_engine.specs.Waves.{waves_of}
use Rattle.flat_circuit.specs.declared.instance.Pin.{Pin}
use Rattle.drawing_notes.specs.Passing.{changes_on}
use Rattle.drawing_notes.specs.Unmarked.{target_in}
use Rattle.drawing_notes.proofs.Ranging.{here_first, not_here, nowhere}
use Rattle.drawing_notes.proofs.case_gates.first_other.Goals as goal

pub returns-then-is_moving_other : goal.returns-then-is_moving_other
returns-then-is_moving_other g c =
    let test : Pin → Bool = λ p. not (target_in (marked_in c.args.clocks.now) p.target) && changes_on (waves_of c.args.waves.now) p.target in
    let below : c.loop-place.place < length c.args.pins.now = omega (arith, c.loop-place-test.true) in
    sym (here_first test c.args.pins.now _ c.loop-place.place below c.loop-place.invariant (sym c.is_moving_other.ensures ∙ c.if-is_moving_other.true))

pub loop-place-preserved : goal.loop-place-preserved
loop-place-preserved g c =
    let test : Pin → Bool = λ p. not (target_in (marked_in c.args.clocks.now) p.target) && changes_on (waves_of c.args.waves.now) p.target in
    let below : c.loop-place.place < length c.args.pins.now = omega (arith, c.loop-place-test.true) in
    not_here test c.args.pins.now _ c.loop-place.place below c.loop-place.invariant (sym c.is_moving_other.ensures ∙ c.if-is_moving_other.false)

pub returns : goal.returns
returns g c =
    let test : Pin → Bool = λ p. not (target_in (marked_in c.args.clocks.now) p.target) && changes_on (waves_of c.args.waves.now) p.target in
    let past : length c.args.pins.now ≤ c.loop-place.place = omega (arith, c.loop-place-test.false) in
    nowhere test c.args.pins.now c.loop-place.place past c.loop-place.invariant
