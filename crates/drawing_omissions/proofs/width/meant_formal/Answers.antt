use Rattle.std.specs.Option.{option_copied}
use Rattle.drawing_omissions.proofs.Bodies.{local_formal}
use Rattle.drawing_omissions.proofs.width.meant_formal.Goals as goal

pub returns : goal.returns
returns c =
    local_formal c.args.scope.now c.args.name.now (option_copied c.find.result) c.if-name.false (rw c.as_slice.ensures at c.find.ensures.first)
