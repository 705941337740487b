use Rattle.std.proofs.Common.{◌≡◌, ℕ, Some, arith, false, get_or, slice_get, subst}
use Rattle.std.proofs.lemmas.Option.{slice_get-get_or}
use Rattle.flat_circuit.specs.declared.case.CaseValue.{CaseValue}
use Rattle.run_clauses.proofs.undriven.value_in.Goals as goal

pub returns-then-value-net : goal.returns-then-value-net
returns-then-value-net c =
    let i = c.loop-value.value-index in
    let none : CaseValue = record { net = 0; one = false } in
    let value : CaseValue = get_or c.args.values.now i none in
    record {
      place = i;
      at = subst
          (λ (n : ℕ). slice_get c.args.values.now i ≡ Some (record { net = n; one = value.one }))
          (omega arith) (slice_get-get_or c.args.values.now i none c.loop-value-test.true);
    }
