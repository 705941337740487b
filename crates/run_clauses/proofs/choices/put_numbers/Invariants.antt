use Rattle.std.proofs.Common.{◌≡◌, ℕ, ◌<◌, ◌≤◌, false}
use Rattle.run_clauses.specs.Choices.{choosing}
use Rattle.run_clauses.specs.Meaning.{Bits, Puts}
use Rattle.run_clauses.proofs.choices.put_numbers.Given as goal

abbrev pub invariant-loop-number : goal.invariant-loop-number
invariant-loop-number l =
    Puts
    (λ (bits : Bits). (n : ℕ) → n < l.number → l.fn.range.from ≤ n →
    bits (choosing l.fact n) ≡ false)
    l.fn.some.items l.some.items
