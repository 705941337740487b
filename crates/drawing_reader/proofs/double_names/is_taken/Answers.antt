use Rattle.drawing_reader.proofs.Keys.{not_scope, not_kind, taken_test}
use Rattle.drawing_reader.proofs.double_names.is_taken.Goals as goal

pub returns-then-scope-ne0 : goal.returns-then-scope-ne0
returns-then-scope-ne0 c = not_scope c.args.scope c.args.kind c.args.name.now c.if-scope-ne0.true

pub returns-in-Macro : goal.returns-in-Macro
returns-in-Macro c = taken_test c.args.scope c.args.kind c.args.name.now c.is_kind_name.result c.if-scope-ne0.false c.in-Macro.is c.is_kind_name.ensures

pub returns-in_default : goal.returns-in_default
returns-in_default c = not_kind c.args.scope c.args.kind c.args.name.now c.in_default.not-Macro
