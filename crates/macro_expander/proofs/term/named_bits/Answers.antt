use Rattle.std.proofs.Common.{sym}
use Rattle.macro_expander.proofs.Formals.{named_formal, named_net}
use Rattle.macro_expander.proofs.term.named_bits.Goals as goal

pub returns-in-Some : goal.returns-in-Some
returns-in-Some c = named_formal c.args.expansion.now c.args.scope.now c.args.name.now c.args.ends
    c.args.place c.in-Some.bound.now c.formal_term.result c.requires.exists (sym c.in-Some.ensures.first) c.formal_term.ensures

pub returns-in-None : goal.returns-in-None
returns-in-None c = named_net c.args.expansion.now c.args.scope.now c.args.name.now c.args.ends c.args.place
    c.fresh_bits.new.expansion c.fresh_bits.result (sym c.in-None.ensures.first) (rw c.as_slice.ensures at c.fresh_bits.ensures)
