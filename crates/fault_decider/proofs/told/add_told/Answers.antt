use Rattle.std.proofs.lemmas.Result.{on_ok_weaker}
use Rattle.fault_decider.proofs.told.add_told.Goals as goal

pub returns : goal.returns
returns c =
    on_ok_weaker c.add_lines.result
    (λ told. record { said = told.0; are = told.1; text = told.2; counted = c.in_ok-count.ensures })
    c.add_lines.ensures
