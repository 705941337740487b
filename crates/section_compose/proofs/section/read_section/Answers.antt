use Rattle.std.proofs.Common.{subst}
use Rattle.drawing_tree.specs.Tree.{drawing_of}
use Rattle.macro_expander.specs.Stands.{IsStopOf}
use Rattle.section_compose.specs.Drawn.{undrawn, unexpanded}
use Rattle.section_compose.proofs.section.read_section.Goals as goal

pub returns-in-Err-clause-refused : goal.returns-in-Err-clause-refused
returns-in-Err-clause-refused c r e = undrawn (c.in-Err.ensures.refused r e)

pub returns-in-Err-expanded-clause-refused : goal.returns-in-Err-expanded-clause-refused
returns-in-Err-expanded-clause-refused c r e =
    let drawing = drawing_of c.in-Ok.drawing in
    unexpanded drawing c.in-Ok.ensures.drawn (subst (IsStopOf drawing) e c.in-Err-expanded.ensures)

pub returns-in-Err-finish-clause-refused : goal.returns-in-Err-finish-clause-refused
returns-in-Err-finish-clause-refused c r e =
    let drawing = drawing_of c.in-Ok.drawing in
    unexpanded drawing c.in-Ok.ensures.drawn
    (subst (IsStopOf drawing) e (c.in-Err-finish.ensures drawing c.in-Ok-expanded.ensures))
