use Rattle.std.proofs.Common.{◌≡◌, List, map, rules, ap, Result, ◌∙◌}
use Rattle.std.specs.Prelude.{IfOk}
use Rattle.std.specs.List.{AllZip}
use Rattle.std.proofs.lemmas.Result.{IfOk-weaker}
use Rattle.wave_core.proofs.Slots.{mapped}
use Rattle.step_values.specs.declared.value.Value.{Value}
use Rattle.step_values.specs.Cell.{values}
use Rattle.skew_algebra.specs.Wave.{folded}
use Rattle.draw_report.specs.Wave.{step_in}
use Rattle.draw_report.proofs.wave.steps_of.Goals as goal

steps_mapped : {X E : Type 0} (r : Result X E) (cells : X → List Value) (xs all : List Value)
    (R : Value → Value → Type 0) → ((x y : Value) → R x y → y ≡ step_in x) → xs ≡ all →
    IfOk r (λ w. AllZip R xs (cells w)) → IfOk r (λ w. cells w ≡ map step_in all)
steps_mapped r cells xs all R is same zipped =
    IfOk-weaker r (λ w. AllZip R xs (cells w)) (λ w. cells w ≡ map step_in all)
    (λ w z. mapped R step_in xs (cells w) is z ∙ ap (map step_in) same) zipped

pub returns : goal.returns
returns g c =
    steps_mapped c.map.result g.W.CyclicWave.cells _ (folded values c.args.wave.now) _
    (λ x y h. search rules) c.in_ok-fold.ensures.wave c.map.ensures
