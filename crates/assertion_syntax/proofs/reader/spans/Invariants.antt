use Rattle.std.proofs.Common.{◌+◌, ◌≤◌, length}
use Rattle.assertion_syntax.proofs.SpansSoFar.{GoesOn}
use Rattle.assertion_syntax.proofs.reader.spans.Given as goal

abbrev pub invariant-spans : goal.invariant-spans
invariant-spans l = record {
  room : length l.spans + length l.rest ≤ length l.text;
  onward : GoesOn l.text l.spans l.rest;
}

abbrev pub decreases-spans : goal.decreases-spans
decreases-spans l = length l.rest
