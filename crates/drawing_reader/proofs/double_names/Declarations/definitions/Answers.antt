use Rattle.std.proofs.Common.{◌++◌, map}
use Rattle.std.proofs.lemmas.Result.{err_from_is_err_and}
use Rattle.std.proofs.Common.{ℕ, ◌+◌, drop, arith, subst}
use Rattle.drawing_tree.specs.Tree.{macro_of}
use Rattle.drawing_grammar.specs.DoubleNames.{head_declared, labels, macros_declared, Declares, IsStopAt}
use Rattle.drawing_grammar.proofs.Doubles.{goes_on, stop_there}
use Rattle.drawing_reader.proofs.Labels.{next_macro}
use Rattle.drawing_reader.proofs.double_names.Declarations.definitions.Goals as goal

pub returns-in_err-definition : goal.returns-in_err-definition
returns-in_err-definition c =
    let p = err_from_is_err_and c.from_residual.result c.from_residual.ensures.1 in
    let i = c.definitions.definition-index in
    let ms = c.args.definitions.now in
    let m = macro_of c.definition-item.result in
    rw (p.1, p.2) (stop_there c.args.self.now c.definitions.self (macros_declared 0 (map macro_of ms) c.args.heads.now) (macros_declared i (map macro_of (drop i ms)) c.definitions.rest.now)
    (head_declared i m c.in-Some.head.now ++ labels i m.body) (macros_declared (i + 1) (map macro_of (drop (i + 1) ms)) c.in-Some.more.now) c.in_err-definition.field-0.0
    c.definitions.invariant.1 (next_macro ms i c.definition-item.result c.definitions.rest.now
    c.in-Some.head.now c.in-Some.more.now c.definitions-test.true c.definition-item.is c.in-Some.ensures.cases.0)
    (let F : ℕ → Type 0 = λ n. IsStopAt c.definitions.self (head_declared n m c.in-Some.head.now ++ labels n m.body) c.in_err-definition.field-0.0 in
    subst F c.definitions.invariant.0 c.in_err-definition.ensures))

pub definitions-preserved : goal.definitions-preserved
definitions-preserved c =
    let i = c.definitions.definition-index in
    let ms = c.args.definitions.now in
    let m = macro_of c.definition-item.result in
    let same = c.definitions.invariant.0 in (
      omega arith,
      goes_on c.args.self.now c.definitions.self c.definition.new.self (macros_declared 0 (map macro_of ms) c.args.heads.now) (macros_declared i (map macro_of (drop i ms)) c.definitions.rest.now)
          (head_declared i m c.in-Some.head.now ++ labels i m.body) (macros_declared (i + 1) (map macro_of (drop (i + 1) ms)) c.in-Some.more.now)
          c.definitions.invariant.1 (next_macro ms i c.definition-item.result c.definitions.rest.now
          c.in-Some.head.now c.in-Some.more.now c.definitions-test.true c.definition-item.is c.in-Some.ensures.cases.0)
          (let F : ℕ → Type 0 = λ n. Declares c.definitions.self c.definition.new.self (head_declared n m c.in-Some.head.now ++ labels n m.body) in subst F same c.in_ok-definition.ensures),
    )
