use Rattle.std.proofs.Common.{sym, ◌∙◌}
use Rattle.scald_base.specs.Time.{period}
use Rattle.critical_paths.specs.Views.{before_of}
use Rattle.critical_paths.proofs.Cutting.{left, taken}
use Rattle.critical_paths.proofs.view.View.cut.Goals as goal

pub returns-then-is_some : goal.returns-then-is_some
returns-then-is_some g c =
    λ s two.
    taken (before_of (period c.args.self.now.circuit.now.header)) c.in_ok-by_fall.by_fall _ _
    (sym c.is_some.ensures ∙ c.if-is_some.true)
    (c.in_ok-by_fall.ensures s two)

pub returns : goal.returns
returns g c =
    λ s two.
    left (before_of (period c.args.self.now.circuit.now.header)) c.in_ok-by_fall.by_fall _ _ _
    (sym c.is_some.ensures ∙ c.if-is_some.false)
    (c.in_ok-by_fall.ensures s two) (c.in_ok-by_rise.ensures s two)
