use Rattle.std.proofs.Common.{List, ℕ, MatchBool, subst}
use Rattle.flat_circuit.specs.declared.case.CaseValue.{CaseValue}
use Rattle.flat_circuit.specs.Stable.{IsStable}
use Rattle.flat_circuit.proofs.stability.stable.Goals as goal

pub returns-then-are_numbers_of_nets : goal.returns-then-are_numbers_of_nets
returns-then-are_numbers_of_nets c =
    subst (λ (cases : List (List CaseValue)). MatchBool c.are_as_their_numbers.result (IsStable c.args.c.now cases c.args.numbers.now) (¬ (IsStable c.args.c.now cases c.args.numbers.now)))
    c.as_slice-cases.ensures
    (subst (λ (k : List ℕ). MatchBool c.are_as_their_numbers.result (IsStable c.args.c.now c.as_slice-cases.result.now k) (¬ (IsStable c.args.c.now c.as_slice-cases.result.now k)))
    c.as_slice-classes.ensures c.are_as_their_numbers.ensures)

pub returns-else-are_numbers_of_nets : goal.returns-else-are_numbers_of_nets
returns-else-are_numbers_of_nets c =
    subst (λ (cases : List (List CaseValue)). MatchBool c.are_alike_in_pairs.result (IsStable c.args.c.now cases c.args.numbers.now) (¬ (IsStable c.args.c.now cases c.args.numbers.now)))
    c.as_slice-cases.ensures
    (subst (λ (k : List ℕ). MatchBool c.are_alike_in_pairs.result (IsStable c.args.c.now c.as_slice-cases.result.now k) (¬ (IsStable c.args.c.now c.as_slice-cases.result.now k)))
    c.as_slice-classes.ensures c.are_alike_in_pairs.ensures)
