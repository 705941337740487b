use Rattle.std.proofs.Common.{◌∙◌, ◌+◌, ap, cond, length}
use Rattle.std.specs.Prelude.{is_some}
use Rattle.critical_paths.proofs.Places.{known_is, set_is}
use Rattle.critical_paths.proofs.path.Paths.set_known.Goals as goal

pub returns-clause-known : goal.returns-clause-known
returns-clause-known c = set_is c.args.self.now.known.entries _ c.args.place c.args.known
    c.in_ok-insert.ensures.updates.0

pub returns-clause-count : goal.returns-clause-count
returns-clause-count c =
    c.in_ok-insert.ensures.len
    ∙ ap (λ o. length c.args.self.now.known.entries + cond (is_some o) 0 1)
    (c.in_ok-insert.ensures.old ∙ known_is c.args.self.now.known.entries c.args.place)
