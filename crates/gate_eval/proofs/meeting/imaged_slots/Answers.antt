use Rattle.std.proofs.Common.{◌≡◌, ◌++◌, ◌+◌, ◌-◌, ℕ, List, map, length, rules, sym, ap, ◌∙◌, arith}
use Rattle.std.specs.Prelude.{replicate}
use Rattle.std.proofs.lemmas.Result.{IfOk-weaker}
use Rattle.wave_core.specs.Slots.{slots}
use Rattle.wave_core.proofs.Slots.{length_slots, period_length}
use Rattle.step_values.specs.declared.value.Value.{Value}
use Rattle.step_values.specs.Cell.{values}
use Rattle.skew_algebra.specs.Wave.{cell_at}
use Rattle.gate_eval.proofs.Few.{slots_fill}
use Rattle.gate_eval.proofs.meeting.imaged_slots.Goals as goal

pub changes-init : goal.changes-init
changes-init g c = record { so_far = search rules; within = omega arith }

pub changes-preserved : goal.changes-preserved
changes-preserved g c =
    let made = λ (p : ℕ). g.I.Image.value_of c.args.image.now (map (λ u. cell_at values (g.W.CyclicWave.cells u) p) c.args.waves.now) in
    let behind = c.next_change-next.ensures.behind in
    let here : g.I.Image.value_of c.args.image.now (map (λ u. cell_at values (g.W.CyclicWave.cells u) c.changes.slot) c.args.waves.now) ≡ c.value-made.result =
    sym (c.value-made.ensures ∙ ap (g.I.Image.value_of c.args.image.now) (c.deref.ensures.value ∙ c.in_ok-read_slot.ensures)) in
    let end : c.changes.slot + (c.next_change-next.result - c.changes.slot) ≡ c.next_change-next.result = omega (arith, behind) in
    record {
      so_far = c.in_ok-push_slots.ensures
          ∙ ap (λ (l : List Value). l ++ replicate (c.next_change-next.result - c.changes.slot) c.value-made.result) c.changes.invariant.so_far
          ∙ slots_fill (c.next_change-next.result - c.changes.slot) c.changes.slot made c.value-made.result
          (λ p after before. ap (g.I.Image.value_of c.args.image.now) (c.next_change-next.ensures.same p after (omega (arith, before, end))) ∙ here)
          ∙ ap (λ (m : ℕ). slots m made) end;
      within = c.next_change-next.ensures.within;
    }

pub from_slots-requires : goal.from_slots-requires
from_slots-requires g c =
    let made = λ (p : ℕ). g.I.Image.value_of c.args.image.now (map (λ u. cell_at values (g.W.CyclicWave.cells u) p) c.args.waves.now) in
    let within = c.changes.invariant.within in
    let end : c.changes.slot ≡ c.args.period = omega (arith, within) in
    let all : c.deref-2.result.now ≡ slots c.args.period made = c.deref-2.ensures.value ∙ c.changes.invariant.so_far ∙ ap (λ (n : ℕ). slots n made) end in
    period_length c.deref-2.result.now c.args.period (ap length all ∙ length_slots c.args.period made) c.requires.period

pub returns : goal.returns
returns g c =
    let made = λ (p : ℕ). g.I.Image.value_of c.args.image.now (map (λ u. cell_at values (g.W.CyclicWave.cells u) p) c.args.waves.now) in
    let within = c.changes.invariant.within in
    let end : c.changes.slot ≡ c.args.period = omega (arith, within) in
    let all : c.deref-2.result.now ≡ slots c.args.period made = c.deref-2.ensures.value ∙ c.changes.invariant.so_far ∙ ap (λ (n : ℕ). slots n made) end in
    IfOk-weaker c.from_slots.result (λ w. g.W.CyclicWave.cells w ≡ c.deref-2.result.now) (λ w. g.W.CyclicWave.cells w ≡ slots c.args.period made)
    (λ w e. e ∙ all) c.from_slots.ensures
