use Rattle.std.proofs.Common.{refl, sym, ap, ◌∙◌}
use Rattle.std.specs.Option.{option_and_then}
use Rattle.scald_base.specs.Time.{period}
use Rattle.fixpoint_engine.specs.Waves.{waves_of}
use Rattle.critical_paths.specs.Path.{before_arc}
use Rattle.critical_paths.specs.Tick.{slot_of}
use Rattle.critical_paths.specs.Views.{before_of}
use Rattle.critical_paths.proofs.Cutting.{left, taken}
use Rattle.critical_paths.proofs.view.View.or_else.Goals as goal

pub returns-then-is_some : goal.returns-then-is_some
returns-then-is_some g c =
    λ s two.
    taken (before_of (period c.args.self.now.circuit.now.header)) c.args.ended _ _
    (sym c.is_some.ensures ∙ c.if-is_some.true) refl

pub returns-then-is_some-2 : goal.returns-then-is_some-2
returns-then-is_some-2 g c =
    let noted = before_of (period c.args.self.now.circuit.now.header) in
    λ s two.
    left noted c.args.ended _ _ _ (sym c.is_some.ensures ∙ c.if-is_some.false) refl
    (taken noted c.in_ok-cut.cut _ _ (sym c.is_some-2.ensures ∙ c.if-is_some-2.true)
    (c.in_ok-cut.ensures s two))

pub returns : goal.returns
returns g c =
    let circuit = c.args.self.now.circuit.now in
    let asked = c.args.asked in
    let noted = before_of (period circuit.header) in
    let through = before_arc circuit (waves_of c.args.self.now.waves.now) asked.element.now
    asked.corner (slot_of (period circuit.header) asked.tick) in
    λ s two.
    left noted c.args.ended _ _ _ (sym c.is_some.ensures ∙ c.if-is_some.false) refl
    (left noted c.in_ok-cut.cut _ _ _ (sym c.is_some-2.ensures ∙ c.if-is_some-2.false)
    (c.in_ok-cut.ensures s two)
    (c.through_some-rest.ensures
    ∙ ap (option_and_then through) (c.in_ok-free.ensures s two)))
