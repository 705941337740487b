use Rattle.std.proofs.Common.{arith}
use Rattle.listing.proofs.Numbers.{outputs_and_checkers}
use Rattle.listing.proofs.count.counts_of.Goals as goal

pub returns-clause-checkers : goal.returns-clause-checkers
returns-clause-checkers c = omega (arith, c.output_count-outputs.ensures, c.instance_count.ensures, outputs_and_checkers c.args.c.now.instances)
