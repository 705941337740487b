use Rattle.std.proofs.Common.{◌≡◌, ℕ, ◌-◌, ◌↔◌, Bool, true, IsTrue, arith, sym, ap, ap₂, ◌∙◌}
use Rattle.std.specs.Prelude.{◌&&◌}
use mathlib.Core.Bool.{beq}
use Rattle.std.proofs.lemmas.Bool.Decides.{same_from_decides}
use Rattle.step_values.specs.declared.value.Value.{Value}
use Rattle.skew_algebra.specs.Wave.{Wave}
use Rattle.flat_circuit.specs.Circuit.{Circuit}
use Rattle.flat_circuit.specs.Name.{net_at}
use Rattle.fixpoint_engine.specs.Same.{same_wave, same_wave_decides}
use Rattle.fixpoint_engine.specs.Waves.{Waves, waves_of}
use Rattle.draw_report.specs.Row.{is_alike, is_clock}
use Rattle.draw_report.proofs.Places.{net_inside}
use Rattle.draw_report.proofs.row.is_alike.Goals as goal

-- two nets of which both are clocks or neither
alike_is : (c : Circuit) (ws : Waves) (place b n : ℕ) (x y r : Bool) (w v : Wave Value) →
    b ≡ net_at c.order (place - 1) → n ≡ net_at c.order place → x ≡ is_clock c b →
    y ≡ is_clock c n → beq x y ≡ true → w ≡ ws b → v ≡ ws n → (IsTrue r ↔ (w ≡ v)) →
    r ≡ is_alike c ws place
alike_is c ws place b n x y r w v at_b at_n is_x is_y same is_w is_v decides =
    let here : r ≡ same_wave w v =
    same_from_decides r (same_wave w v) decides (same_wave_decides w v) in
    let clocks : beq (is_clock c b) (is_clock c n) ≡ true =
    ap₂ beq (sym is_x) (sym is_y) ∙ same in
    here ∙ ap₂ same_wave is_w is_v
    ∙ sym (ap (λ (t : Bool). t && same_wave (ws b) (ws n)) clocks)
    ∙ ap₂ (λ (p q : ℕ). beq (is_clock c p) (is_clock c q) && same_wave (ws p) (ws q)) at_b at_n

pub is_clock-requires-clause-inside : goal.is_clock-requires-clause-inside
is_clock-requires-clause-inside g c =
    net_inside c.args.c.now c.saturating_sub.result c.net_at-before.result c.known.ensures
    (omega arith) c.net_at-before.ensures

pub is_clock-requires-2-clause-inside : goal.is_clock-requires-2-clause-inside
is_clock-requires-2-clause-inside g c =
    net_inside c.args.c.now c.args.place c.net_at-net.result c.known.ensures c.requires.inside
    c.net_at-net.ensures

pub at-requires : goal.at-requires
at-requires g c =
    let inside = net_inside c.args.c.now c.saturating_sub.result c.net_at-before.result
    c.known.ensures (omega arith) c.net_at-before.ensures in
    let all = c.requires.fit.each_net in
    omega (arith, inside, all)

pub at-requires-then-is_clock : goal.at-requires-then-is_clock
at-requires-then-is_clock g c =
    let inside = net_inside c.args.c.now c.args.place c.net_at-net.result c.known.ensures
    c.requires.inside c.net_at-net.ensures in
    let all = c.requires.fit.each_net in
    omega (arith, inside, all)

pub returns-then-is_clock : goal.returns-then-is_clock
returns-then-is_clock g c =
    alike_is c.args.c.now (waves_of c.args.waves.now) c.args.place c.net_at-before.result
    c.net_at-net.result c.is_clock.result c.is_clock-2.result c.same.result c.at.result.now
    c.at-then-is_clock.result.now
    (c.net_at-before.ensures ∙ ap (net_at c.args.c.now.order) c.saturating_sub.ensures)
    c.net_at-net.ensures c.is_clock.ensures c.is_clock-2.ensures c.if-is_clock.true c.at.ensures
    c.at-then-is_clock.ensures c.same.ensures
