use Rattle.std.proofs.Common.{subst, sym}
use Rattle.std.proofs.lemmas.Result.{on_ok_weaker}
use Rattle.narrowing.specs.declared.constraint.Constraint.{Constraint}
use Rattle.run_clauses.specs.World.{StaysAt}
use Rattle.run_clauses.proofs.broken.add_break.Goals as goal

pub returns-in-Instance : goal.returns-in-Instance
returns-in-Instance c =
    on_ok_weaker c.add_form.result
    (subst
    (λ (x : Constraint).
    StaysAt c.args.c.now x c.args.printed c.args.formula.now c.add_form.new.formula)
    (sym c.in-Instance.is))
    c.add_form.ensures

pub returns-in-Pulse : goal.returns-in-Pulse
returns-in-Pulse c =
    on_ok_weaker c.add_width.result
    (subst
    (λ (x : Constraint).
    StaysAt c.args.c.now x c.args.printed c.args.formula.now c.add_width.new.formula)
    (sym c.in-Pulse.is))
    c.add_width.ensures

pub returns-in-Net : goal.returns-in-Net
returns-in-Net c =
    on_ok_weaker c.add_asserted.result
    (subst
    (λ (x : Constraint).
    StaysAt c.args.c.now x c.args.printed c.args.formula.now c.add_asserted.new.formula)
    (sym c.in-Net.is))
    c.add_asserted.ensures
