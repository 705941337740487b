use Rattle.std.proofs.Common.{[], ◌∷◌, ◌++◌, map}
use Rattle.std.proofs.lemmas.Result.{err_from_is_err_and}
use Rattle.drawing_tree.specs.Tree.{assignment_of, formal_of}
use Rattle.drawing_grammar.specs.declared.declared.Kind.TheVariants.{Macro}
use Rattle.drawing_grammar.specs.DoubleNames.{declaration, parameters, formals}
use Rattle.drawing_grammar.proofs.Doubles.{stop_first, stop_later, given_later}
use Rattle.drawing_reader.proofs.double_names.Declarations.head.Goals as goal

pub returns-in_err-declare : goal.returns-in_err-declare
returns-in_err-declare c =
    let p = err_from_is_err_and c.from_residual.result c.from_residual.ensures.1 in
    let m = c.args.definition.now in let h = c.args.head.now in let scope = c.args.scope in
    let rest = parameters scope (map assignment_of m.params) h.parameters ++ (formals scope (map formal_of m.ins) h.ins ++ formals scope (map formal_of m.outs) h.outs) in
    rw (p.1, p.2) (stop_first c.args.self.now (declaration 0 Macro m.name m.place ∷ []) rest c.in_err-declare.field-0.0 (rw c.as_slice.ensures at c.in_err-declare.ensures))

pub returns-in_err-parameters : goal.returns-in_err-parameters
returns-in_err-parameters c =
    let p = err_from_is_err_and c.from_residual-in_err-parameters.result c.from_residual-in_err-parameters.ensures.1 in
    let m = c.args.definition.now in let h = c.args.head.now in let scope = c.args.scope in let s = c.in_err-parameters.field-0.0 in
    let params = parameters scope (map assignment_of m.params) h.parameters in
    let signals = formals scope (map formal_of m.ins) h.ins ++ formals scope (map formal_of m.outs) h.outs in
    rw (p.1, p.2) (stop_later c.args.self.now c.declare.new.self (declaration 0 Macro m.name m.place ∷ []) (params ++ signals) s (rw c.as_slice.ensures at c.in_ok-declare.ensures)
    (stop_first c.declare.new.self params signals s (rw (c.as_slice-2.ensures, c.as_slice-3.ensures) at c.in_err-parameters.ensures)))

pub returns-in_err-formals : goal.returns-in_err-formals
returns-in_err-formals c =
    let p = err_from_is_err_and c.from_residual-in_err-formals.result c.from_residual-in_err-formals.ensures.1 in
    let m = c.args.definition.now in let h = c.args.head.now in let scope = c.args.scope in let s = c.in_err-formals.field-0.0 in
    let params = parameters scope (map assignment_of m.params) h.parameters in
    let ins = formals scope (map formal_of m.ins) h.ins in
    let outs = formals scope (map formal_of m.outs) h.outs in
    rw (p.1, p.2) (stop_later c.args.self.now c.declare.new.self (declaration 0 Macro m.name m.place ∷ []) (params ++ (ins ++ outs)) s (rw c.as_slice.ensures at c.in_ok-declare.ensures)
    (stop_later c.declare.new.self c.parameters.new.self params (ins ++ outs) s (rw (c.as_slice-2.ensures, c.as_slice-3.ensures) at c.in_ok-parameters.ensures)
    (stop_first c.parameters.new.self ins outs s (rw (c.as_slice-4.ensures, c.as_slice-5.ensures) at c.in_err-formals.ensures))))

pub returns : goal.returns
returns c =
    let m = c.args.definition.now in let h = c.args.head.now in let scope = c.args.scope in let r = c.formals-2.result in let last = c.formals-2.new.self in
    let params = parameters scope (map assignment_of m.params) h.parameters in
    let ins = formals scope (map formal_of m.ins) h.ins in
    let outs = formals scope (map formal_of m.outs) h.outs in
    given_later r c.args.self.now c.declare.new.self last (declaration 0 Macro m.name m.place ∷ []) (params ++ (ins ++ outs)) (rw c.as_slice.ensures at c.in_ok-declare.ensures)
    (given_later r c.declare.new.self c.parameters.new.self last params (ins ++ outs) (rw (c.as_slice-2.ensures, c.as_slice-3.ensures) at c.in_ok-parameters.ensures)
    (given_later r c.parameters.new.self c.formals.new.self last ins outs (rw (c.as_slice-4.ensures, c.as_slice-5.ensures) at c.in_ok-formals.ensures)
    (rw (c.as_slice-6.ensures, c.as_slice-7.ensures) at c.formals-2.ensures)))
