use Rattle.std.proofs.Common.{◌++◌, List, ap, sym, ◌∙◌}
use Rattle.drawing_tree.specs.Tree.{statements_of}
use Rattle.macro_expander.specs.Flat.{deepest}
use Rattle.drawing_omissions.specs.declared.spread.Finding.{Finding}
use Rattle.drawing_omissions.specs.Walk.{in_all}
use Rattle.drawing_omissions.proofs.Whole.{all_spreads, no_spreads}
use Rattle.drawing_omissions.proofs.walk.spreads.Goals as goal

pub returns-in-Err-Refused : goal.returns-in-Err-Refused
returns-in-Err-Refused c = c.new-found.ensures ∙ sym (no_spreads c.args.drawing.now c.in-Err-Refused.field-0 c.in-Err-Refused.field-0-0 c.in-Err-Refused.field-0-is c.in-Err-Refused.ensures)

pub returns : goal.returns
returns c =
    c.in_ok-in_statements.ensures
    ∙ ap (λ (s : List Finding). s ++ in_all c.in_ok-library.library deepest (statements_of c.deref.result.now) c.top-top.result) c.new-found.ensures
    ∙ all_spreads c.args.drawing.now c.period-period.result c.in_ok-library.library c.in-Ok.consts c.in_ok-copied_env.field-0 c.top-top.result c.deref.result.now
    c.period-period.ensures.is c.in-Ok.ensures c.in_ok-library.ensures c.top-top.ensures c.in_ok-copied_env.ensures c.deref.ensures.value
