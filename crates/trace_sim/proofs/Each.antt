-- What is drawn one after another, one more.
use Rattle.std.proofs.Common.{◌≡◌, ℕ, false, List, [], ◌∷◌, ◌++◌, refl, ap, sym, ◌∙◌}
use Rattle.rand_core.specs.Stream.{Stream}
use Rattle.vector_names.specs.declared.bits.Target.TheVariants.{Net as OnNet}
use Rattle.flat_circuit.specs.declared.instance.Pin.{Pin}
use Rattle.flat_circuit.specs.declared.net.Net.{Net}
use Rattle.flat_circuit.specs.Run.{WireFits, WiresFit}
use Rattle.trace_sim.specs.Draw.{Draw, draw_each}

-- after all of them, the last
pub at_last : {X Y : Type 0} (draw : X → Draw Y) (xs : List X) (x : X) (s : Stream) →
    draw_each draw (xs ++ x ∷ []) s
    ≡ ((draw_each draw xs s).0 ++ (draw x (draw_each draw xs s).1).0 ∷ [], (draw x (draw_each draw xs s).1).1)
at_last draw [] x s = refl
at_last draw (z ∷ zs) x s = ap (λ p. ((draw z s).0 ∷ p.0, p.1)) (at_last draw zs x (draw z s).1)

pub each_more : {X Y : Type 0} (draw : X → Draw Y) (xs : List X) (x : X) (s later after : Stream) (ys : List Y) (y : Y) →
    (ys, later) ≡ draw_each draw xs s → (y, after) ≡ draw x later →
    (ys ++ y ∷ [], after) ≡ draw_each draw (xs ++ x ∷ []) s
each_more draw xs x s later after ys y so_far one =
    ap (λ q. (ys ++ q.0 ∷ [], q.1)) one
    ∙ ap (λ p. (p.0 ++ (draw x p.1).0 ∷ [], (draw x p.1).1)) so_far ∙ sym (at_last draw xs x s)

pub wires_more : (nets : List Net) (pins : List Pin) (wires : List ℕ) (pin : Pin) (wire : ℕ) →
    WiresFit nets pins wires → WireFits nets pin.target wire → WiresFit nets (pins ++ pin ∷ []) (wires ++ wire ∷ [])
wires_more nets [] [] pin wire fit one = (one, tt)
wires_more nets [] (w ∷ ws) pin wire fit one = absurd fit
wires_more nets (p ∷ ps) [] pin wire fit one = absurd fit
wires_more nets (p ∷ ps) (w ∷ ws) pin wire fit one = (fit.0, wires_more nets ps ws pin wire fit.1 one)

-- what stands for the pin past the last
abbrev pub no_pin : Pin
no_pin = record { target = OnNet 0; inverted = false; hold = false }
