use Rattle.std.proofs.Common.{◌≡◌, None, map, rules, arith, sym, ap, ◌∙◌}
use Rattle.std.specs.Prelude.{is_none}
use Rattle.step_values.specs.Cell.{values}
use Rattle.skew_algebra.specs.Wave.{cell_at}
use Rattle.gate_eval.specs.Hold.{disturber}
use Rattle.gate_eval.proofs.Found.{first_some_some, first_some_nowhere, below_run, none_is, none_not}
use Rattle.gate_eval.proofs.hold.is_held.Goals as goal

pub changes-preserved : goal.changes-preserved
changes-preserved g c =
    below_run (λ k. disturber c.args.kind c.args.marked (map (λ w. cell_at values (g.W.CyclicWave.cells w) k) c.args.folds.now) ≡ None) c.changes.slot _ c.changes.invariant
    (λ k above below. ap (disturber c.args.kind c.args.marked) (c.next_change-slot.ensures.same k above below)
    ∙ sym c.disturber_among.ensures ∙ none_is c.disturber_among.result (search rules))

pub returns-then-is_some : goal.returns-then-is_some
returns-then-is_some g c =
    sym (first_some_some (λ slot. disturber c.args.kind c.args.marked (map (λ w. cell_at values (g.W.CyclicWave.cells w) slot) c.args.folds.now)) c.args.period 0 c.changes.slot
    (omega arith) (omega arith) (ap is_none (sym c.disturber_among.ensures) ∙ none_not c.disturber_among.result (search rules)))

pub returns : goal.returns
returns g c =
    sym (ap is_none (first_some_nowhere (λ slot. disturber c.args.kind c.args.marked (map (λ w. cell_at values (g.W.CyclicWave.cells w) slot) c.args.folds.now)) c.args.period 0
    (λ k below. c.changes.invariant k (omega arith))))
