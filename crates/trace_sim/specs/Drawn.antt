-- What a seed draws of a run: delays, offsets of clocks and free bits, in this order.
use Rattle.std.specs.Prelude.{◌≡◌, ℕ, ◌+◌, Bool, List, length, is_none, slice_get, Option, Some, None, if◌then◌else◌}
use Rattle.scald_base.specs.Time.{Bounds, Header}
use Rattle.scald_base.specs.Fitting.{skew_of}
use Rattle.scald_base.specs.declared.assertion.AssertSpec.{AssertSpec}
use Rattle.scald_base.specs.declared.assertion.AssertSpec.TheVariants.{None as Unasserted, Precision, Clock, Stable}
use Rattle.vector_names.specs.declared.bits.Target.{Target}
use Rattle.vector_names.specs.declared.bits.Target.TheVariants.{Net as OnNet, Constant}
use Rattle.element_kinds.specs.declared.kind.Kind.{Kind}
use Rattle.element_kinds.specs.declared.form.Form.{Form}
use Rattle.element_kinds.specs.declared.form.Form.TheVariants.{Gate, Change, Register, Latch as Enabled, Checker}
use Rattle.element_kinds.specs.Kinds.{form_of}
use Rattle.flat_circuit.specs.declared.split.Split.{Split}
use Rattle.flat_circuit.specs.declared.instance.Pin.{Pin}
use Rattle.flat_circuit.specs.declared.instance.Instance.{Instance}
use Rattle.flat_circuit.specs.declared.net.Net.{Net}
use Rattle.flat_circuit.specs.Split.{two_delays}
use Rattle.flat_circuit.specs.Circuit.{Circuit, wire_at}
use Rattle.trace_sim.specs.Choice.{PickFits}
use Rattle.trace_sim.specs.Draw.{Draw, draw_from, draw_each, draw_bits}

-- ---- delays

-- a rise and a fall delay, and those of the wires to the pins
abbrev pub Pick : Type 0
Pick = (ℕ × ℕ) × List ℕ

abbrev pub delays_of : Pick → ℕ × ℕ
delays_of pick = pick.0

abbrev pub wires_of : Pick → List ℕ
wires_of pick = pick.1

-- one delay is both
abbrev pub draw_one : Bounds → Draw (ℕ × ℕ)
draw_one d s = let one = draw_from d.min d.max s in ((one.0, one.0), one.1)

-- By the form of a kind. A change function and a checker have no delay, and no word is taken for
-- it.
abbrev pub draw_delay : Form → Bounds → Draw (ℕ × ℕ)
draw_delay Gate d s = draw_one d s
draw_delay Change d s = ((0, 0), s)
draw_delay (Register forced) d s = draw_one d s
draw_delay (Enabled forced) d s = draw_one d s
draw_delay (Checker check) d s = ((0, 0), s)

-- the rise before the fall
abbrev pub draw_delays : Kind → Bounds → Option Split → Draw (ℕ × ℕ)
draw_delays kind d None s = draw_delay (form_of kind) d s
draw_delays kind d (Some two) s =
    let rise = draw_from two.rise.min two.rise.max s in
    let fall = draw_from two.fall.min two.fall.max rise.1 in
    ((rise.0, fall.0), fall.1)

-- no word is taken for a constant
abbrev pub draw_wire : List Net → Target → Draw ℕ
draw_wire nets (OnNet i) s = draw_from (wire_at nets i).min (wire_at nets i).max s
draw_wire nets (Constant b) s = (0, s)

abbrev pub draw_pick : List Net → Instance → Draw Pick
draw_pick nets i s =
    let delays = draw_delays i.kind i.delay (two_delays i.kind i.split) s in
    let wires = draw_each (λ (p : Pin). draw_wire nets p.target) i.pins delays.1 in
    ((delays.0, wires.0), wires.1)

-- picks of the first so many instances that are within the bounds
pub record ArePicks (c : Circuit) (count : ℕ) (delays : List (ℕ × ℕ))
    (wires : List (List ℕ)) : Type 0 where
  pub each_delays : length delays ≡ count
  pub each_wires : length wires ≡ count
  pub fit : (k : ℕ) (i : Instance) (pick : ℕ × ℕ) (row : List ℕ) →
      slice_get c.instances k ≡ Some i →
      slice_get delays k ≡ Some pick → slice_get wires k ≡ Some row → PickFits c i pick row

-- ---- offsets

-- How much later a clock comes than its earliest: its offset from -a to b, and a. Only a `.P` clock
-- takes a word.
abbrev pub draw_shift : Header → AssertSpec → Draw ℕ
draw_shift h Unasserted s = (0, s)
draw_shift h (Precision c) s = draw_from 0 ((skew_of c h.pskew).0 + (skew_of c h.pskew).1) s
draw_shift h (Clock c) s = (0, s)
draw_shift h (Stable spans) s = (0, s)

-- of a net that nothing drives
abbrev pub draw_offset : Header → Option Net → Draw ℕ
draw_offset h None s = (0, s)
draw_offset h (Some net) s = if is_none net.driver then draw_shift h net.spec s else (0, s)

-- ---- all of it

-- The picks at each instance; and for each net in name order how much later it comes, and a free
-- bit for each tick.
pub record Drawn : Type 0 where
  pub picks : List Pick
  pub shifts : List ℕ
  pub free : List (List Bool)

abbrev pub draw_run : Circuit → ℕ → Draw Drawn
draw_run c ticks s =
    let picks = draw_each (draw_pick c.nets) c.instances s in
    let shifts = draw_each (λ (n : ℕ). draw_offset c.header (slice_get c.nets n)) c.order picks.1 in
    let free = draw_each (λ (n : ℕ). draw_bits ticks) c.order shifts.1 in
    (record { picks = picks.0; shifts = shifts.0; free = free.0 }, free.1)
