use Rattle.std.proofs.lemmas.Result.{err_from_is_err_and}
use Rattle.std.proofs.Common.{◌∙◌}
use Rattle.std.proofs.lemmas.List.{length-map}
use Rattle.drawing_tree.specs.Tree.{assignment_of, drawing_of}
use Rattle.macro_expander.proofs.Whole.{consts_stop, top_is, well_formed_fits, library_is, body_fits, body_stops, expansion_is}
use Rattle.macro_expander.proofs.circuit.expanded.Goals as goal

pub body-requires-clause-library : goal.body-requires-clause-library
body-requires-clause-library c =
    library_is c.args.drawing.now c.period-period.result c.in_ok-library.library c.period-period.ensures.is c.in_ok-consts.consts c.in_ok-consts.ensures
    c.in_ok-library.ensures c.new.result c.new.ensures c.top-top.result (top_is c.top-top.ensures c.in_ok-copied_env.ensures) c.deref.result.now c.deref.ensures.value
    (well_formed_fits (drawing_of c.args.drawing.now) c.requires)

pub body-requires-clause-fits : goal.body-requires-clause-fits
body-requires-clause-fits c =
    body_fits c.args.drawing.now c.period-period.result c.in_ok-library.library c.period-period.ensures.is c.in_ok-consts.consts c.in_ok-consts.ensures
    c.in_ok-library.ensures c.new.result c.new.ensures c.top-top.result (top_is c.top-top.ensures c.in_ok-copied_env.ensures) c.deref.result.now c.deref.ensures.value
    (well_formed_fits (drawing_of c.args.drawing.now) c.requires)

pub constants-requires : goal.constants-requires
constants-requires c = c.requires.const_places ∙ length-map c.args.drawing.now.consts assignment_of

pub returns-in_err-consts : goal.returns-in_err-consts
returns-in_err-consts c =
    let p = err_from_is_err_and c.from_residual.result c.from_residual.ensures.1 in
    rw (p.1, p.2) (consts_stop c.args.drawing.now c.in_err-consts.field-0.0 c.in_err-consts.ensures)

pub returns-in_err-body : goal.returns-in_err-body
returns-in_err-body c =
    let p = err_from_is_err_and c.from_residual-in_err-body.result c.from_residual-in_err-body.ensures.1 in
    rw (p.1, p.2) (body_stops c.args.drawing.now c.period-period.result c.in_ok-library.library c.period-period.ensures.is c.in_ok-consts.consts c.in_ok-consts.ensures
    c.in_ok-library.ensures c.new.result c.new.ensures c.top-top.result (top_is c.top-top.ensures c.in_ok-copied_env.ensures) c.deref.result.now c.deref.ensures.value
    c.in_err-body.field-0.0 c.in_err-body.ensures)

pub returns : goal.returns
returns c =
    expansion_is c.args.drawing.now c.period-period.result c.in_ok-library.library c.period-period.ensures.is c.in_ok-consts.consts c.in_ok-consts.ensures
    c.in_ok-library.ensures c.new.result c.new.ensures c.top-top.result (top_is c.top-top.ensures c.in_ok-copied_env.ensures) c.deref.result.now c.deref.ensures.value
    c.body.new.expansion c.in_ok-body.ensures
