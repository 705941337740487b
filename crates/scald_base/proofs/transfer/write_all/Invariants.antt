use Rattle.std.proofs.Common.{length, take, ◌-◌, ◌≡◌, ◌≤◌}
use Rattle.std.specs.Io.KnownBytes.{Appends}
use Rattle.scald_base.proofs.transfer.write_all.Given as goal

abbrev pub invariant-more : goal.invariant-more
invariant-more g l = record {
  moved : Appends (g.K.Sink.taken l.fn.sink) (g.K.Sink.taken l.sink) (take l.written l.bytes);
  within : l.written ≤ length l.bytes;
  steady : g.K.Sink.faults l.sink ≡ g.K.Sink.faults l.fn.sink;
}

abbrev pub decreases-more : goal.decreases-more
decreases-more g l = length l.bytes - l.written
