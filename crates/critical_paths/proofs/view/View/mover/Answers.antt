use Rattle.std.proofs.Common.{◌≡◌, ◌+◌, length, sym, ap, subst, ◌∙◌, arith}
use Rattle.fixpoint_engine.specs.Waves.{waves_of}
use Rattle.critical_paths.specs.Cause.{held_pin}
use Rattle.critical_paths.proofs.Cutting.{gone}
use Rattle.critical_paths.proofs.Ending.{AreMovers, held_moves, held_within, moving, none_move, one_moves, one_rests, only_mover, only_near}
use Rattle.critical_paths.proofs.view.View.mover.Goals.{then-is_moving, else-is_moving}
use Rattle.critical_paths.proofs.view.View.mover.Goals as goal

pub returns-then-is_some : goal.returns-then-is_some
returns-then-is_some g c =
    let circuit = c.args.self.now.circuit.now in
    let ws = waves_of c.args.self.now.waves.now in
    let j = c.args.asked.element.now in
    record {
      is = held_moves c.args.held (held_pin circuit ws j) (moving circuit ws j (length j.pins))
          (sym c.is_some.ensures ∙ c.if-is_some.true)
          c.requires.held;
      within = held_within circuit ws j c.args.held c.requires.held;
    }

pub loop-place-init : goal.loop-place-init
loop-place-init g c = none_move c.args.self.now.circuit.now
    (waves_of c.args.self.now.waves.now) c.args.asked.element.now

pub loop-place-preserved : goal.loop-place-preserved
loop-place-preserved g c =
    let circuit = c.args.self.now.circuit.now in
    let ws = waves_of c.args.self.now.waves.now in
    let j = c.args.asked.element.now in
    let n = c.loop-place.place in
    let old = c.loop-place.moving in
    elim c.if-is_moving.branch [
      | then-is_moving w ↦
          subst (AreMovers circuit ws j (n + 1)) (sym w.moving-is)
          (one_moves circuit ws j n old w.with-moving.result
          (sym c.is_moving.ensures ∙ w.if-is_moving.true)
          w.with-moving.ensures.first w.with-moving.ensures.others c.loop-place.invariant)
      | else-is_moving w ↦
          subst (AreMovers circuit ws j (n + 1)) (sym w.moving-is)
          (one_rests circuit ws j n old
          (sym c.is_moving.ensures ∙ w.if-is_moving.false) c.loop-place.invariant)
    ]

pub returns : goal.returns
returns g c =
    let circuit = c.args.self.now.circuit.now in
    let ws = waves_of c.args.self.now.waves.now in
    let j = c.args.asked.element.now in
    let long = ap length c.as_slice-pins.ensures in
    let past = c.loop-place-test.false in
    let within = c.loop-place.auto.place-end in
    let all : c.loop-place.place ≡ length j.pins = omega (arith, long, past, within) in
    let are = subst (λ n. AreMovers circuit ws j n c.loop-place.moving) all c.loop-place.invariant
    in
    let none = sym c.requires.held
    ∙ gone c.args.held (sym c.is_some.ensures ∙ c.if-is_some.false) in
    record {
      is = only_mover circuit ws j (length j.pins) c.loop-place.moving c.only.result
          (held_pin circuit ws j) are c.only.ensures none;
      within = only_near circuit ws j
          (length j.pins) c.loop-place.moving c.only.result are c.only.ensures;
    }
