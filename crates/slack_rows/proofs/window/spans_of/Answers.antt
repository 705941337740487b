use Rattle.std.proofs.Common.{◌≡◌, ℕ, ◌+◌, ◌-◌, ◌%◌, ◌<◌, ◌≤◌, [], ◌++◌, map, length, refl, sym, ap, subst, ◌∙◌, arith}
use Rattle.std.specs.Prelude.{filter_map}
use Rattle.std.specs.List.{cons_option, range_with_len}
use Rattle.std.specs.Option.{option_map}
use Rattle.fixpoint_engine.specs.Pins.{read}
use Rattle.critical_paths.specs.Views.{ticks_of_region}
use Rattle.slack_rows.specs.Watch.{fall_of, span_at}
use Rattle.slack_rows.proofs.Checkers.{folds_repeat}
use Rattle.slack_rows.proofs.Falling.{slot_after, slot_before, spans_same, spans_with}
use Rattle.slack_rows.proofs.window.spans_of.Goals as goal
use Rattle.slack_rows.proofs.window.spans_of.Goals.{in-Some+in_ok-push, in_default}

pub loop-slot-init : goal.loop-slot-init
loop-slot-init g c =
    let cells = g.W.CyclicWave.cells c.args.clock.now in
    let p : ℕ = length cells in
    let clock = read cells in
    let first : c.period-period.result - 1 ≡ (0 + (p - 1)) % p =
    slot_before p c.period-period.result c.requires.shortest c.period-period.ensures in
    record {
      spans = c.new-spans.ensures;
      before = subst (λ (q : ℕ). option_map (λ high. q + high) c.high_after-before.result ≡ fall_of p clock q)
          first c.high_after-before.ensures.is;
    }

pub loop-slot-preserved : goal.loop-slot-preserved
loop-slot-preserved g c =
    let cells = g.W.CyclicWave.cells c.args.clock.now in
    let p : ℕ = length cells in
    let clock = read cells in
    let slot = c.loop-slot.slot in
    let long : 2 ≤ p = c.requires.shortest in
    let period : c.period-period.result ≡ p = c.period-period.ensures in
    let test = c.loop-slot-test.true in
    let below : slot < p = omega (arith, test, period) in
    let cyclic : (t : ℕ) → clock (t + p) ≡ clock t =
    folds_repeat p (record { cells = cells; skew = 0 }) refl in
    record {
      spans = elim c.match-span_from.branch [
        | in-Some+in_ok-push w ↦
            spans_with p long clock cyclic slot ((slot + (p - 1)) % p) c.loop-slot.before c.high_after-high.result
            c.span_from.result c.loop-slot.spans c.match-span_from.spans below refl c.high_after-high.ensures.is
            c.loop-slot.invariant.before c.span_from.ensures c.loop-slot.invariant.spans
            (w.spans-is ∙ w.in_ok-push.ensures.ok ∙ ap (λ found. c.loop-slot.spans ++ cons_option found []) (sym w.in-Some.is))
        | in_default w ↦
            spans_with p long clock cyclic slot ((slot + (p - 1)) % p) c.loop-slot.before c.high_after-high.result
            c.span_from.result c.loop-slot.spans c.match-span_from.spans below refl c.high_after-high.ensures.is
            c.loop-slot.invariant.before c.span_from.ensures c.loop-slot.invariant.spans
            (w.spans-is ∙ spans_same p long clock cyclic c.loop-slot.spans ∙ ap (λ found. c.loop-slot.spans ++ cons_option found []) (sym w.in_default.is))
      ];
      before = subst (λ (q : ℕ). option_map (λ high. q + high) c.high_after-high.result ≡ fall_of p clock q)
          (sym (slot_after p slot below)) c.high_after-high.ensures.is;
    }

pub returns : goal.returns
returns g c =
    let cells = g.W.CyclicWave.cells c.args.clock.now in
    let p : ℕ = length cells in
    let period : c.period-period.result ≡ p = c.period-period.ensures in
    let past = c.loop-slot-test.false in
    let within = c.loop-slot.auto.slot-end in
    let all : c.loop-slot.slot ≡ p = omega (arith, period, past, within) in
    c.loop-slot.invariant.spans
    ∙ ap (λ (n : ℕ). map ticks_of_region (filter_map (span_at p (read cells)) (range_with_len 0 n))) all
