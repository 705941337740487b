use Rattle.std.proofs.Common.{◌≡◌, ℕ, true, false, Option, length, refl, sym, ap, subst, ◌∙◌, arith}
use Rattle.step_values.specs.declared.value.Value.{Value}
use Rattle.step_values.specs.Steps.{has}
use Rattle.fixpoint_engine.specs.Pins.{read}
use Rattle.fixpoint_engine.proofs.ReadSlots.{read_at}
use Rattle.critical_paths.specs.declared.direction.Direction.TheVariants.{Change, Rise}
use Rattle.critical_paths.specs.Event.{events}
use Rattle.slack_rows.specs.Limit.{still_after, still_before, finding_still}
use Rattle.slack_rows.specs.Slack.{finding_of}
use Rattle.slack_rows.specs.Views.{Tells}
use Rattle.slack_rows.specs.declared.slack.Slacks.{Slacks}
use Rattle.slack_rows.proofs.Findings.{still_end, still_more, still_same}
use Rattle.slack_rows.proofs.quiet.quiet_slacks.Goals as goal
use Rattle.slack_rows.proofs.quiet.quiet_slacks.Goals.{then-may_rise, else-may_rise}

pub loop-slot-preserved : goal.loop-slot-preserved
loop-slot-preserved g c =
    let clock = g.W.CyclicWave.cells c.args.clock.now in
    let input = g.W.CyclicWave.cells c.args.input.now in
    let p = c.period-slot-end.ensures in
    let less = c.loop-slot-test.true in
    let same = c.requires in
    let slot = c.loop-slot.slot in
    let here : has (read clock slot) false true ≡ has c.at.result false true =
    ap (λ (v : Value). has v false true) (read_at clock slot slot c.at.result refl (omega (arith, p, less)) c.at.ensures) in
    elim c.if-may_rise.branch [
      | then-may_rise w ↦
          let rises : has (read clock slot) false true ≡ true = here ∙ sym c.may_rise.ensures ∙ w.if-may_rise.true in
          record {
            before = still_more (length clock) (still_before (length clock) (events Change (read input))) (events Rise (read clock)) slot
                c.loop-slot.all.before w.finding.result c.if-may_rise.all.before rises c.loop-slot.invariant.before
                (subst (λ (o : Option ℕ). Tells (length clock) w.finding.result (finding_of 1 Change (finding_still o)))
                (w.quiet_before.ensures ∙ ap (λ (n : ℕ). still_before n (events Change (read input)) slot) same) (w.finding.ensures (length clock)))
                (ap (λ (all : Slacks). all.before) w.all-is ∙ w.lesser-all.ensures.before);
            after = still_more (length clock) (still_after (length clock) (events Change (read input))) (events Rise (read clock)) slot
                c.loop-slot.all.after w.finding-then-may_rise.result c.if-may_rise.all.after rises c.loop-slot.invariant.after
                (subst (λ (o : Option ℕ). Tells (length clock) w.finding-then-may_rise.result (finding_of 1 Change (finding_still o)))
                (w.quiet_after.ensures ∙ ap (λ (n : ℕ). still_after n (events Change (read input)) slot) same) (w.finding-then-may_rise.ensures (length clock)))
                (ap (λ (all : Slacks). all.after) w.all-is ∙ w.lesser-all.ensures.after);
          }
      | else-may_rise w ↦
          let stays : has (read clock slot) false true ≡ false = here ∙ sym c.may_rise.ensures ∙ w.if-may_rise.false in
          record {
            before = still_same (length clock) (still_before (length clock) (events Change (read input))) (events Rise (read clock)) slot
                c.loop-slot.all.before c.if-may_rise.all.before stays c.loop-slot.invariant.before (ap (λ (all : Slacks). all.before) w.all-is);
            after = still_same (length clock) (still_after (length clock) (events Change (read input))) (events Rise (read clock)) slot
                c.loop-slot.all.after c.if-may_rise.all.after stays c.loop-slot.invariant.after (ap (λ (all : Slacks). all.after) w.all-is);
          }
    ]

pub returns-clause-after : goal.returns-clause-after
returns-clause-after g c =
    let clock = g.W.CyclicWave.cells c.args.clock.now in
    let input = g.W.CyclicWave.cells c.args.input.now in
    let p = c.period-slot-end.ensures in
    let past = c.loop-slot-test.false in
    let most = c.loop-slot.auto.slot-end in
    still_end (length clock) (still_after (length clock) (events Change (read input))) (events Rise (read clock)) c.loop-slot.slot
    c.loop-slot.all.after (omega (arith, p, past, most)) c.loop-slot.invariant.after
