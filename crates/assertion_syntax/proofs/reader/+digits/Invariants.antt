use Rattle.std.proofs.Common.{length}
use Rattle.assertion_syntax.proofs.reader.+digits.Given as goal

abbrev pub decreases-digits : goal.decreases-digits
decreases-digits l = length l.rest.now
