use Rattle.std.proofs.Common.{length, ◌-◌, ◌≡◌, ◌≤◌, ◌+◌}
use Rattle.std.specs.Io.KnownBytes.{Consumes}
use Rattle.scald_base.proofs.transfer.read_all.Given as goal

abbrev pub invariant-more : goal.invariant-more
invariant-more g l = record {
  moved : Consumes (g.S.Source.left l.fn.source) (g.S.Source.left l.source) l.all;
  within : length l.all ≤ l.fn.limit;
  limit : l.past ≡ l.fn.limit + 1;
  steady : g.S.Source.faults l.source ≡ g.S.Source.faults l.fn.source;
}

abbrev pub decreases-more : goal.decreases-more
decreases-more g l = l.past - length l.all
