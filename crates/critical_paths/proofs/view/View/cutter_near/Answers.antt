use Rattle.std.proofs.Common.{sym, ◌∙◌}
use Rattle.scald_base.specs.Time.{period}
use Rattle.critical_paths.specs.Views.{before_of}
use Rattle.critical_paths.proofs.Cutting.{left, taken}
use Rattle.critical_paths.proofs.view.View.cutter_near.Goals as goal

pub returns-then-is_some : goal.returns-then-is_some
returns-then-is_some g c =
    λ s two.
    taken (before_of (period c.args.self.now.circuit.now.header)) c.in_ok-here.here _ _
    (sym c.is_some.ensures ∙ c.if-is_some.true) (c.in_ok-here.ensures s two)

pub returns-then-is_some-2 : goal.returns-then-is_some-2
returns-then-is_some-2 g c =
    let noted = before_of (period c.args.self.now.circuit.now.header) in
    λ s two.
    left noted c.in_ok-here.here _ _ _ (sym c.is_some.ensures ∙ c.if-is_some.false)
    (c.in_ok-here.ensures s two)
    (taken noted c.in_ok-before.before _ _ (sym c.is_some-2.ensures ∙ c.if-is_some-2.true)
    (c.in_ok-before.ensures s two))

pub returns : goal.returns
returns g c =
    let noted = before_of (period c.args.self.now.circuit.now.header) in
    λ s two.
    left noted c.in_ok-here.here _ _ _ (sym c.is_some.ensures ∙ c.if-is_some.false)
    (c.in_ok-here.ensures s two)
    (left noted c.in_ok-before.before _ _ _ (sym c.is_some-2.ensures ∙ c.if-is_some-2.false)
    (c.in_ok-before.ensures s two) (c.in_ok-after.ensures s two))
