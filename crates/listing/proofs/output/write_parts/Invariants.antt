use Rattle.std.proofs.Common.{◌≡◌, take}
use Rattle.std.specs.Io.KnownBytes.{Appends}
use Rattle.listing.specs.Output.{text_of}
use Rattle.listing.proofs.output.write_parts.Given as goal

abbrev pub invariant-parts : goal.invariant-parts
invariant-parts g l = record {
  moved : Appends (g.K.Sink.taken l.fn.sink) (g.K.Sink.taken l.sink)
      (text_of l.kept (take l.part-index l.parts));
  steady : g.K.Sink.faults l.sink ≡ g.K.Sink.faults l.fn.sink;
}
