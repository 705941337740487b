use Rattle.std.proofs.Common.{◌∙◌, arith, rules, sym}
use Rattle.std.proofs.lemmas.Result.{on_ok_weaker}
use Rattle.run_clauses.proofs.Inputs.{none_if_empty}
use Rattle.run_clauses.proofs.undriven.add_stable.Goals as goal

pub returns-then-is_empty : goal.returns-then-is_empty
returns-then-is_empty c =
    let none = none_if_empty c.args.spans.now (sym c.is_empty.ensures ∙ c.if-is_empty.true) in
    on_ok_weaker c.add_same.result (λ adds bits is before. adds bits (is.always none) before)
    c.add_same.ensures

pub returns : goal.returns
returns c =
    on_ok_weaker c.add_same-2.result
    (λ adds bits is before. adds bits (is.still (omega arith) (search rules)) before)
    c.add_same-2.ensures
