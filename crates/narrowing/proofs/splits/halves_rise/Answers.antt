use Rattle.std.proofs.Common.{sym}
use Rattle.flat_circuit.specs.declared.split.Split.{Split}
use Rattle.narrowing.proofs.Splitting.{splits_two}
use Rattle.narrowing.proofs.splits.halves_rise.Goals as goal

pub returns-then-may_split : goal.returns-then-may_split
returns-then-may_split c both =
    splits_two c.args.i.now (λ (s : Split). s.rise) c.in-Some.split c.args.least c.args.last c.args.first c.args.greatest
    (sym c.if-may_split.ensures) c.in-Some.is (c.are_halves.ensures both)
