use Rattle.std.proofs.Common.{subst}
use Rattle.std.proofs.lemmas.Result.{err_from_is_err_and}
use Rattle.flat_circuit.specs.declared.instance.Instance.{Instance}
use Rattle.macro_expander.specs.Numbered.{names_in, state_of, instance_of, GivesDone, Failed}
use Rattle.macro_expander.specs.Primitives.{adding}
use Rattle.macro_expander.proofs.Adding.{bit_added, bit_refused}
use Rattle.macro_expander.proofs.instance_bits.add_bit.Goals as goal

pub returns-in_err-instance-2-clause-done : goal.returns-in_err-instance-2-clause-done
returns-in_err-instance-2-clause-done c =
    let p = err_from_is_err_and c.from_residual-in_err-instance-2.result c.from_residual-in_err-instance-2.ensures.1 in
    rw (p.1, p.2)
    (subst (λ (j : Instance). Failed c.in_err-instance-2.field-0.0 (adding (instance_of (names_in c.args.expansion.now) j) (state_of c.args.expansion.now))) c.in_ok-instance.ensures
    (bit_refused c.args.expansion.now c.in_ok-instance.instance c.known.ensures c.in_err-instance-2.field-0.0 c.in_err-instance-2.ensures.refused.1))

pub returns-clause-done : goal.returns-clause-done
returns-clause-done c =
    subst (λ (j : Instance). GivesDone c.args.expansion.now (record { statements = c.args.expansion.now.statements; builder = c.instance-2.new.self })
    (adding (instance_of (names_in c.args.expansion.now) j) (state_of c.args.expansion.now))) c.in_ok-instance.ensures
    (bit_added c.args.expansion.now c.in_ok-instance.instance c.known.ensures c.instance-2.new.self c.in_ok-instance-2.field-0 c.in_ok-instance-2.ensures.given)
