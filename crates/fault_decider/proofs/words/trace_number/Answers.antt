use Rattle.std.proofs.Common.{◌∙◌, sym}
use Rattle.std.proofs.lemmas.Slice.Eq.{bytes_eq-Decides}
use Rattle.fault_decider.proofs.Greatest.{number_greatest}
use Rattle.fault_decider.proofs.words.trace_number.Goals as goal

pub returns-then-eq-clause-is : goal.returns-then-eq-clause-is
returns-then-eq-clause-is c =
    number_greatest c.args.digits.now
    ((bytes_eq-Decides c.args.digits.now c.as_slice.result.now).0 (sym c.if-eq.ensures) ∙ c.as_slice.ensures)
