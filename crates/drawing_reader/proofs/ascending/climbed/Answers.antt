use Rattle.std.proofs.Common.{[], ◌∷◌}
use Rattle.drawing_tree.specs.Tree.{statement_of}
use Rattle.drawing_grammar.specs.declared.declared.Kind.TheVariants.{Label}
use Rattle.drawing_grammar.specs.DoubleNames.{declaration, statement_labels}
use Rattle.drawing_reader.proofs.Labels.{label_of, no_label}
use Rattle.drawing_reader.proofs.Climbing.{climbs_one, climbs_none, climbs_as}
use Rattle.drawing_reader.proofs.ascending.climbed.Goals as goal

pub returns-else-not-is_behind : goal.returns-else-not-is_behind
returns-else-not-is_behind c = λ scope.
    climbs_as scope c.args.last.now c.as_slice-label.result.now (declaration scope Label c.as_slice-label.result.now c.in-Use.u.place ∷ []) (statement_labels scope (statement_of c.args.statement.now))
    (label_of scope c.in-Use.u c.args.statement.now c.as_slice-label.result.now c.in-Use.is c.as_slice-label.ensures)
    (climbs_one scope c.args.last.now c.as_slice-label.result.now c.in-Use.u.place (c.is_behind.ensures c.if-not-is_behind.false))

pub returns-in-Wire : goal.returns-in-Wire
returns-in-Wire c = λ scope.
    climbs_as scope c.args.last.now c.args.last.now [] (statement_labels scope (statement_of c.args.statement.now))
    (no_label scope c.in-Wire.field-0 c.args.statement.now c.in-Wire.is) (climbs_none scope c.args.last.now)
