use Rattle.std.proofs.Common.{refl, sym, ◌∙◌}
use Rattle.critical_paths.specs.Views.{arc_with_word}
use Rattle.critical_paths.proofs.Cutting.{left, or_found, taken}
use Rattle.critical_paths.proofs.view.View.free.Goals as goal

pub returns-then-is_some : goal.returns-then-is_some
returns-then-is_some g c =
    λ s two.
    taken arc_with_word c.or-found.result _ _ (sym c.is_some.ensures ∙ c.if-is_some.true)
    (or_found arc_with_word c.args.rise c.args.fall _ _ _ c.or-found.ensures refl refl)

pub returns : goal.returns
returns g c =
    λ s two.
    left arc_with_word c.or-found.result _ _ _ (sym c.is_some.ensures ∙ c.if-is_some.false)
    (or_found arc_with_word c.args.rise c.args.fall _ _ _ c.or-found.ensures refl refl)
    (c.in_ok-inner.ensures s two)
