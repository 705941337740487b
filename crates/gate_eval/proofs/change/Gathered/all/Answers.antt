use Rattle.std.proofs.Common.{◌≡◌, length, map, sym, ap, ◌∙◌}
use Rattle.std.specs.List.{zip}
use Rattle.std.proofs.lemmas.Result.{IfOk-weaker}
use Rattle.wave_core.specs.Slots.{slots}
use Rattle.wave_core.proofs.Slots.{length_slots}
use Rattle.step_values.specs.declared.value.Value.{Value}
use Rattle.step_values.specs.Steps.{join}
use Rattle.skew_algebra.specs.Wave.{skewed}
use Rattle.gate_eval.specs.Window.{window, found_at}
use Rattle.gate_eval.proofs.Gathering.{found_slots}
use Rattle.gate_eval.proofs.change.Gathered.all.Goals as goal

pub joined-requires : goal.joined-requires
joined-requires g c =
    c.requires.one
    ∙ sym (ap length c.in_ok-window.ensures
    ∙ length_slots (length (g.W.CyclicWave.cells c.args.self.now.last)) (window (skewed (g.W.CyclicWave.cells c.args.self.now.last) c.args.self.now.skew) c.args.d))

pub returns : goal.returns
returns g c =
    let seen = g.W.CyclicWave.cells c.args.self.now.seen in
    let made = g.W.CyclicWave.cells c.in_ok-window.window in
    let last = skewed (g.W.CyclicWave.cells c.args.self.now.last) c.args.self.now.skew in
    IfOk-weaker c.joined.result
    (λ w. g.W.CyclicWave.cells w ≡ map (λ (q : Value × Value). join q.0 q.1) (zip seen made))
    (λ w. g.W.CyclicWave.cells w ≡ slots (length seen) (found_at seen last c.args.d))
    (λ w e. found_slots seen made last c.args.d (g.W.CyclicWave.cells w) c.requires.one c.in_ok-window.ensures e)
    c.joined.ensures
