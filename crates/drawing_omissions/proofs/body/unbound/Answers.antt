use Rattle.drawing_omissions.proofs.Bodies.{unbound_run}
use Rattle.drawing_omissions.proofs.body.unbound.Goals as goal

pub of-requires : goal.of-requires
of-requires c =
    unbound_run c.args.inside.now.ins c.args.inside.now.outs c.new-formals.result c.add_unbound.new.formals c.add_unbound-2.new.formals
    c.requires.ins c.requires.outs c.new-formals.ensures
    (rw c.as_slice.ensures at c.in_ok-add_unbound.ensures) (rw c.as_slice-2.ensures at c.in_ok-add_unbound-2.ensures)
