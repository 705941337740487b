use Rattle.std.proofs.Common.{ℕ, ◌-◌, ◌<◌, ◌≤◌}
use Rattle.run_clauses.specs.Meaning.{Bits, NoneStepsAt, Puts}
use Rattle.run_clauses.proofs.change.put_steps.Given as goal

abbrev pub invariant-loop-ticks : goal.invariant-loop-ticks
invariant-loop-ticks l =
    Puts
    (λ (bits : Bits). (k : ℕ) → k < l.ticks → l.fn.delay.min ≤ k →
    NoneStepsAt l.net l.pins (l.net.tick - k) bits) l.fn.some.items l.some.items
