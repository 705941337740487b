use Rattle.std.proofs.Common.{◌≡◌, ◌-◌, ◌*◌, drop, ◌+ℤ◌}
use Rattle.critical_paths.specs.Known.{IsNear, ticks_along}
use Rattle.critical_paths.proofs.path.ticks_from.Given as goal

abbrev pub invariant-loop-place : goal.invariant-loop-place
invariant-loop-place l =
    record {
      sum : l.ticks +ℤ ticks_along (drop l.place l.chain.entries)
          ≡ ticks_along (drop l.first l.chain.entries);
      near : IsNear (131072 * (l.place - l.first)) l.ticks;
    }
