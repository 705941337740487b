use Rattle.std.proofs.Common.{◌≡◌, ◌≤◌, length, map, arith, sym, ap, ◌∙◌}
use Rattle.std.specs.List.{zip}
use Rattle.std.proofs.lemmas.Result.{IfOk-weaker}
use Rattle.scald_base.specs.Time.{Bounds}
use Rattle.wave_core.specs.Slots.{slots}
use Rattle.step_values.specs.declared.value.Value.{Value}
use Rattle.step_values.specs.Cell.{values}
use Rattle.skew_algebra.specs.Wave.{skewed}
use Rattle.skew_algebra.proofs.Moves.{length_later}
use Rattle.flat_circuit.specs.Split.{either_delay}
use Rattle.gate_eval.specs.Split.{split_value}
use Rattle.gate_eval.specs.SplitWindow.{edges_after, edges_from, output_of}
use Rattle.gate_eval.specs.Window.{window}
use Rattle.gate_eval.proofs.SplitSlots.{split_slots, window_long, made_long, zipped_long}
use Rattle.gate_eval.proofs.split.late_by_two.Goals as goal

pub bits-requires-clause-rise : goal.bits-requires-clause-rise
bits-requires-clause-rise g c =
    let cells = g.W.CyclicWave.cells in
    let whole = cells c.args.wave.now in
    let either_is = c.in_ok-either.ensures ∙ ap (λ (d : Bounds). slots (length whole) (window (skewed whole 0) d)) c.either.ensures in
    let rise_long = window_long (cells c.in_ok-rise.rise) whole c.args.s.now.rise c.in_ok-rise.ensures in
    rise_long ∙ sym (window_long (cells c.in_ok-either.either) whole (either_delay c.args.s.now) either_is)

pub bits-requires-clause-fall : goal.bits-requires-clause-fall
bits-requires-clause-fall g c =
    let cells = g.W.CyclicWave.cells in
    let whole = cells c.args.wave.now in
    let either_is = c.in_ok-either.ensures ∙ ap (λ (d : Bounds). slots (length whole) (window (skewed whole 0) d)) c.either.ensures in
    let fall_long = window_long (cells c.in_ok-fall.fall) whole c.args.s.now.fall c.in_ok-fall.ensures in
    fall_long ∙ sym (window_long (cells c.in_ok-either.either) whole (either_delay c.args.s.now) either_is)

pub all_edges-requires : goal.all_edges-requires
all_edges-requires g c =
    let cells = g.W.CyclicWave.cells in
    let whole = cells c.args.wave.now in
    let rise_long = window_long (cells c.in_ok-rise.rise) whole c.args.s.now.rise c.in_ok-rise.ensures in
    let fall_long = window_long (cells c.in_ok-fall.fall) whole c.args.s.now.fall c.in_ok-fall.ensures in
    rise_long ∙ sym fall_long

pub edges_left-requires : goal.edges_left-requires
edges_left-requires g c =
    let cells = g.W.CyclicWave.cells in
    let whole = cells c.args.wave.now in
    let either_is = c.in_ok-either.ensures ∙ ap (λ (d : Bounds). slots (length whole) (window (skewed whole 0) d)) c.either.ensures in
    let rise_long = window_long (cells c.in_ok-rise.rise) whole c.args.s.now.rise c.in_ok-rise.ensures in
    let fall_long = window_long (cells c.in_ok-fall.fall) whole c.args.s.now.fall c.in_ok-fall.ensures in
    let bits_long = made_long c.args.s.now whole (cells c.in_ok-either.either) (cells c.in_ok-rise.rise) (cells c.in_ok-fall.fall)
    (cells c.in_ok-bits.bits) either_is c.in_ok-bits.ensures in
    let before_long = ap length c.in_ok-before.ensures ∙ length_later values (cells c.in_ok-bits.bits) 1 ∙ bits_long in
    let edges_long = zipped_long edges_after (cells c.in_ok-rise.rise) (cells c.in_ok-fall.fall) (cells c.in_ok-edges.edges)
    (length whole) c.in_ok-edges.ensures rise_long fall_long in
    before_long ∙ sym edges_long

pub outputs-requires : goal.outputs-requires
outputs-requires g c =
    let cells = g.W.CyclicWave.cells in
    let whole = cells c.args.wave.now in
    let either_is = c.in_ok-either.ensures ∙ ap (λ (d : Bounds). slots (length whole) (window (skewed whole 0) d)) c.either.ensures in
    let rise_long = window_long (cells c.in_ok-rise.rise) whole c.args.s.now.rise c.in_ok-rise.ensures in
    let fall_long = window_long (cells c.in_ok-fall.fall) whole c.args.s.now.fall c.in_ok-fall.ensures in
    let bits_long = made_long c.args.s.now whole (cells c.in_ok-either.either) (cells c.in_ok-rise.rise) (cells c.in_ok-fall.fall)
    (cells c.in_ok-bits.bits) either_is c.in_ok-bits.ensures in
    let before_long = ap length c.in_ok-before.ensures ∙ length_later values (cells c.in_ok-bits.bits) 1 ∙ bits_long in
    let edges_long = zipped_long edges_after (cells c.in_ok-rise.rise) (cells c.in_ok-fall.fall) (cells c.in_ok-edges.edges)
    (length whole) c.in_ok-edges.ensures rise_long fall_long in
    bits_long
    ∙ sym (zipped_long edges_from (cells c.in_ok-before.before) (cells c.in_ok-edges.edges) (cells c.in_ok-left.left)
    (length whole) c.in_ok-left.ensures before_long edges_long)

pub returns : goal.returns
returns g c =
    let cells = g.W.CyclicWave.cells in
    let whole = cells c.args.wave.now in
    let either_is = c.in_ok-either.ensures ∙ ap (λ (d : Bounds). slots (length whole) (window (skewed whole 0) d)) c.either.ensures in
    let some : 2 ≤ length whole = (g.met.W.CyclicWave.sized c.args.wave.now).shortest in
    IfOk-weaker c.outputs.result
    (λ w. cells w ≡ map (λ (q : Value × Value). output_of q.0 q.1) (zip (cells c.in_ok-bits.bits) (cells c.in_ok-left.left)))
    (λ w. cells w ≡ slots (length whole) (split_value c.args.s.now whole))
    (λ w e. split_slots c.args.s.now whole (cells c.in_ok-either.either) (cells c.in_ok-rise.rise) (cells c.in_ok-fall.fall)
    (cells c.in_ok-bits.bits) (cells c.in_ok-before.before) (cells c.in_ok-edges.edges) (cells c.in_ok-left.left) (cells w)
    (omega (arith, some)) c.known.ensures.ordered c.known-2.ensures.ordered either_is c.in_ok-rise.ensures c.in_ok-fall.ensures
    c.in_ok-bits.ensures c.in_ok-before.ensures c.in_ok-edges.ensures c.in_ok-left.ensures e)
    c.outputs.ensures
