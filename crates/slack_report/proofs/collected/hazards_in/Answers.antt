use Rattle.std.proofs.Common.{◌∙◌, ℕ, Bool, false, List, replicate, sym, ap, subst, arith}
use Rattle.fixpoint_engine.specs.Waves.{waves_of}
use Rattle.slack_report.specs.Hazards.{AreMarked}
use Rattle.slack_report.proofs.Hazards.{all_marked, none_marked}
use Rattle.slack_report.proofs.collected.hazards_in.Goals as goal

pub loop-number-init : goal.loop-number-init
loop-number-init g c =
    let ws = waves_of c.args.waves.now in
    let circuit = c.args.c.now in
    subst (λ (marks : List Bool). AreMarked circuit ws marks 0)
    (ap (λ (n : ℕ). replicate n false) (sym c.instance_count.ensures) ∙ sym c.in_ok-found.ensures)
    (none_marked circuit ws)

pub returns : goal.returns
returns g c =
    all_marked c.args.c.now (waves_of c.args.waves.now) c.loop-number.found _
    c.loop-number.invariant
    (omega (arith, c.loop-number-test.false, c.instance_count-number-end.ensures))
