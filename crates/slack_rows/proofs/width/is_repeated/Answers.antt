use Rattle.std.proofs.Common.{◌≡◌, ℕ, ◌+◌, ◌-◌, ◌%◌, Bool, true, false, not, ◌&&◌, refl, sym, ap, subst, ◌∙◌, arith, below_more}
use Rattle.std.proofs.lemmas.Bool.{and_from}
use Rattle.step_values.specs.declared.value.Value.{Value}
use Rattle.step_values.specs.Steps.{has, is_quiet}
use Rattle.step_values.specs.Cell.{values}
use Rattle.wave_core.proofs.Places.{round_cell}
use Rattle.fixpoint_engine.specs.Pins.{read}
use Rattle.slack_rows.proofs.Listed.{any_found, any_nowhere}
use Rattle.slack_rows.proofs.width.is_repeated.Goals as goal
use Rattle.slack_rows.proofs.width.is_repeated.Goals.{else-may_rise-via-then-may_rise+then-may_fall+else-not-quiet, else-may_rise-via-then-may_rise+else-may_fall, else-may_rise-via-else-may_rise}

abbrev again : Value → Value → Bool
again v next = has v false true && (has v true false && not (is_quiet next))

first_false : (a b c : Bool) → a ≡ false → (a && (b && c)) ≡ false
first_false a b c is = ap (λ (x : Bool). x && (b && c)) is

second_false : (a b c : Bool) → b ≡ false → (a && (b && c)) ≡ false
second_false true b c is = ap (λ (x : Bool). x && c) is
second_false false b c is = refl

third_false : (a b c : Bool) → c ≡ false → (a && (b && c)) ≡ false
third_false true true c is = is
third_false true false c is = refl
third_false false b c is = refl

pub returns-then-not-quiet : goal.returns-then-not-quiet
returns-then-not-quiet g c =
    let cells = g.W.CyclicWave.cells c.args.wave.now in
    let t : ℕ = c.args.pulse.0 + c.loop-place.place in
    let less = c.loop-place-test.true in
    let now = round_cell values cells c.period-period.result t (t % c.period-period.result) c.at-value.result c.period-period.ensures refl c.at-value.ensures in
    let next = round_cell values cells c.period-period.result (t + 1) ((t + 1) % c.period-period.result) c.at-next.result c.period-period.ensures refl c.at-next.ensures in
    sym (any_found (λ u. again (read cells u) (read cells (u + 1))) c.args.pulse.1 c.args.pulse.0 t (omega arith) (omega (arith, less))
    ((λ i. again (now i) (next i))
    ∙ and_from (has c.at-value.result false true) (has c.at-value.result true false && not (is_quiet c.at-next.result)) (sym c.may_rise.ensures ∙ c.if-may_rise.true)
    (and_from (has c.at-value.result true false) (not (is_quiet c.at-next.result)) (sym c.may_fall.ensures ∙ c.if-may_fall.true)
    (ap not (sym c.quiet.ensures ∙ c.if-not-quiet.true)))))

pub loop-place-preserved : goal.loop-place-preserved
loop-place-preserved g c =
    let cells = g.W.CyclicWave.cells c.args.wave.now in
    let t : ℕ = c.args.pulse.0 + c.loop-place.place in
    let now = round_cell values cells c.period-period.result t (t % c.period-period.result) c.at-value.result c.period-period.ensures refl c.at-value.ensures in
    let next = round_cell values cells c.period-period.result (t + 1) ((t + 1) % c.period-period.result) c.at-next.result c.period-period.ensures refl c.at-next.ensures in
    let v = c.at-value.result in
    let w' = c.at-next.result in
    below_more _ _ c.loop-place.invariant ((λ i. again (now i) (next i)) ∙ elim c.else-may_rise.branch [
      | else-may_rise-via-then-may_rise+then-may_fall+else-not-quiet w ↦
          third_false (has v false true) (has v true false) (not (is_quiet w')) (ap not (sym w.quiet.ensures ∙ w.if-not-quiet.false))
      | else-may_rise-via-then-may_rise+else-may_fall w ↦
          second_false (has v false true) (has v true false) (not (is_quiet w')) (sym w.may_fall.ensures ∙ w.if-may_fall.false)
      | else-may_rise-via-else-may_rise w ↦
          first_false (has v false true) (has v true false) (not (is_quiet w')) (sym c.may_rise.ensures ∙ w.if-may_rise.false)
    ])

pub returns : goal.returns
returns g c =
    let cells = g.W.CyclicWave.cells c.args.wave.now in
    let past = c.loop-place-test.false in
    sym (any_nowhere (λ u. again (read cells u) (read cells (u + 1))) c.args.pulse.1 c.args.pulse.0
    (λ k from below.
    let at : c.args.pulse.0 + (k - c.args.pulse.0) ≡ k = omega (arith, from) in
    subst (λ (u : ℕ). again (read cells u) (read cells (u + 1)) ≡ false) at (c.loop-place.invariant (k - c.args.pulse.0) (omega (arith, past, from, below)))))
