use Rattle.std.proofs.Common.{◌∙◌, not, ap}
use Rattle.flat_circuit.specs.declared.net.Net.{Net}
use Rattle.section_compose.specs.Same.{same_assertion}
use Rattle.section_compose.proofs.Alike.{tells_same}
use Rattle.section_compose.proofs.rules.asserts_otherwise.Goals as goal

pub returns-in-Some : goal.returns-in-Some
returns-in-Some c =
    ap not (tells_same c.args.net.now.spec c.in-Some.other.now.spec c.is_same_assertion.result (rw (c.or.ensures, c.or-in-Some.ensures) at c.is_same_assertion.ensures))
    ∙ c.in-Some.ensures.tells (λ (other : Net). not (same_assertion c.args.net.now.spec other.spec))

pub returns-in-None : goal.returns-in-None
returns-in-None c = c.in-None.ensures.tells (λ (other : Net). not (same_assertion c.args.net.now.spec other.spec))
