use Rattle.std.proofs.Common.{◌≡◌, map}
use Rattle.std.specs.Prelude.{slice_get}
use Rattle.std.specs.List.{range_with_len}
use Rattle.draw_report.specs.Row.{asserts_in}
use Rattle.draw_report.proofs.clock.asserted.Given as goal

abbrev pub invariant-loop-number : goal.invariant-loop-number
invariant-loop-number l =
    l.clocks ≡ map (λ n. asserts_in (slice_get l.c.nets n)) (range_with_len 0 l.number)
