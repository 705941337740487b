use Rattle.std.proofs.Common.{Bool, Option, ap, ◌∙◌}
use Rattle.gate_eval.specs.Hold.{is_settled}
use Rattle.gate_eval.proofs.hold.is_closed.Goals as goal

pub returns-in-None : goal.returns-in-None
returns-in-None c = ap (λ (closes : Option Bool). is_settled closes c.args.v) c.in-None.ensures

pub returns-in-Some : goal.returns-in-Some
returns-in-Some c =
    c.stays_at.ensures ∙ ap (λ (closes : Option Bool). is_settled closes c.args.v) c.in-Some.ensures
