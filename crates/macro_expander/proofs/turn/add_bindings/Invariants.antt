use Rattle.std.proofs.Common.{◌≡◌, ◌++◌, take}
use Rattle.macro_expander.proofs.turn.add_bindings.Given as goal

abbrev pub invariant-loop-given : goal.invariant-loop-given
invariant-loop-given l = l.env ≡ l.fn.env ++ take l.given-index l.more
