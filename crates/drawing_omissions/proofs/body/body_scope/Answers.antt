use Rattle.drawing_omissions.proofs.Bodies.{body_is}
use Rattle.drawing_omissions.proofs.body.body_scope.Goals as goal

pub returns : goal.returns
returns c =
    body_is c.args.scope.now c.args.label.now c.args.inside c.extend.new.self c.as_slice.result.now c.new.result c.in_ok-formals.formals
    c.in_ok-path.path c.in_ok-path.ensures c.in_ok-extend.ensures.ok c.as_slice.ensures c.new.ensures c.in_ok-formals.ensures
