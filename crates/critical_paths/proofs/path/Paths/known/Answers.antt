use Rattle.std.proofs.Common.{◌∙◌}
use Rattle.critical_paths.proofs.Places.{known_is}
use Rattle.critical_paths.proofs.path.Paths.known.Goals as goal

pub returns : goal.returns
returns c = c.copied.ensures ∙ c.get.ensures.value
    ∙ known_is c.args.self.now.known.entries c.args.place
