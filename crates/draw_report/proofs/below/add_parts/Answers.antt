use Rattle.std.proofs.Common.{◌≡◌, ℕ, ◌+◌, ◌-◌, Bool, true, false, List, ◌++◌, arith, ap₂, sym, ◌∙◌}
use mathlib.Core.Bool.{beq}
use Rattle.std.proofs.lemmas.Bool.{not-false, not-true}
use Rattle.flat_circuit.specs.Circuit.{Circuit}
use Rattle.draw_report.specs.declared.row.Row.{Row}
use Rattle.draw_report.specs.Below.{is_below, is_like_last, parts}
use Rattle.draw_report.specs.Row.{cut}
use Rattle.draw_report.proofs.Cutting.{goes_on, stops}
use Rattle.draw_report.proofs.below.add_parts.Goals.{then-before-here+in_ok-push, else-before-here}
use Rattle.draw_report.proofs.below.add_parts.Goals as goal

-- whether a net is like the one before it, as the two were looked at
like : (c : Circuit) (path : List ℕ) (place : ℕ) (before here same : Bool) →
    before ≡ is_below c path (place - 1) → here ≡ is_below c path place →
    beq before here ≡ same → is_like_last c path place ≡ same
like c path place before here same was is test = sym (ap₂ beq was is) ∙ test

pub loop-place-preserved : goal.loop-place-preserved
loop-place-preserved c =
    let circuit = c.args.c.now in
    let path = c.args.path.now in
    let test = is_like_last circuit path in
    let place : ℕ = c.loop-place.place in
    let count : ℕ = c.args.row.to in
    let all : List Row = c.args.out.now ++ parts circuit path c.args.row in
    record {
      after = (let before = c.loop-place.invariant.after in omega (arith, before));
      all =
          elim c.if-before-here.branch as (λ _. c.if-before-here.out
          ++ cut test c.if-before-here.from (place + 1) (count - (place + 1)) ≡ all) [
            | then-before-here+in_ok-push w ↦
                ap₂ (λ (rows : List Row) (from : ℕ). rows
                ++ cut test from (place + 1) (count - (place + 1)))
                w.out-is w.from-is
                ∙ stops test c.loop-place.from place count c.loop-place.out w.push.new.self all
                (omega arith)
                (like circuit path place c.in_ok-before.before c.in_ok-here.here false
                c.in_ok-before.ensures c.in_ok-here.ensures
                (not-true (beq c.in_ok-before.before c.in_ok-here.here) w.if-before-here.true))
                w.in_ok-push.ensures.ok c.loop-place.invariant.all
            | else-before-here w ↦
                ap₂ (λ (rows : List Row) (from : ℕ). rows
                ++ cut test from (place + 1) (count - (place + 1)))
                w.out-is w.from-is
                ∙ goes_on test c.loop-place.from place count c.loop-place.out all (omega arith)
                (like circuit path place c.in_ok-before.before c.in_ok-here.here true
                c.in_ok-before.ensures c.in_ok-here.ensures
                (not-false (beq c.in_ok-before.before c.in_ok-here.here) w.if-before-here.false))
                c.loop-place.invariant.all
          ];
    }
