use Rattle.std.proofs.Common.{◌∙◌}
use Rattle.critical_paths.proofs.Keys.{entered}
use Rattle.critical_paths.proofs.path.Paths.give_number.Goals as goal

pub returns-clause-met : goal.returns-clause-met
returns-clause-met c = c.in_ok-insert.ensures.entries ∙ entered c.args.self.now.met.entries
    c.args.stop c.args.number c.requires
