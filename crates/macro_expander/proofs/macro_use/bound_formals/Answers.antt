use Rattle.macro_expander.proofs.Ranges.{inputs_have_runs, outputs_have_runs}
use Rattle.macro_expander.proofs.macro_use.bound_formals.Goals as goal

pub of-requires : goal.of-requires
of-requires c =
    outputs_have_runs c.in_ok-formals.formals c.args.inside.now.outs c.args.wires.now.outs c.in_ok-formals-2.formals
    (inputs_have_runs c.args.inside.now.ins c.args.wires.now.ins c.in_ok-formals.formals
    c.requires.ins (rw (c.in_ok-room.ensures, c.as_slice.ensures, c.as_slice-2.ensures) at c.in_ok-formals.ensures))
    c.requires.outs (rw (c.as_slice-3.ensures, c.as_slice-4.ensures) at c.in_ok-formals-2.ensures)
