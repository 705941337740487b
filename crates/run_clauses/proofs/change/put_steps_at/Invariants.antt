use Rattle.std.proofs.Common.{◌≡◌, ℕ, ◌<◌, false}
use Rattle.run_clauses.specs.declared.fact.Fact.TheVariants.{Step}
use Rattle.run_clauses.specs.Meaning.{Bits, Puts}
use Rattle.run_clauses.proofs.change.put_steps_at.Given as goal

abbrev pub invariant-loop-pin : goal.invariant-loop-pin
invariant-loop-pin l =
    Puts (λ (bits : Bits). (p : ℕ) → p < l.pin → bits (Step l.net.instance p l.tick) ≡ false)
    l.fn.some.items l.some.items
