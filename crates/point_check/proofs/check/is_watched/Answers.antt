use Rattle.std.proofs.Common.{sym, ◌∙◌}
use Rattle.std.proofs.lemmas.Bool.{or_from}
use Rattle.std.specs.Prelude.{is_some}
use Rattle.element_kinds.specs.Kinds.{checks_points}
use Rattle.fixpoint_engine.specs.Waves.{marked_pin}
use Rattle.point_check.proofs.Watched.{unmarked}
use Rattle.point_check.proofs.check.is_watched.Goals as goal

pub returns-else-may_be_marked : goal.returns-else-may_be_marked
returns-else-may_be_marked c =
    let j = c.args.instance.now in
    c.if-may_be_marked.false
    ∙ sym (or_from (checks_points j.kind) (is_some (marked_pin j))
    (sym c.checks_points.ensures ∙ c.if-checks_points.false)
    (unmarked j.kind j.pins c.requires (sym c.may_be_marked.ensures ∙ c.if-may_be_marked.false)))
