use Rattle.std.proofs.Common.{List, ◌++◌, sym, ap, ◌∙◌, ℕ}
use Rattle.std.specs.List.{flat_map}
use Rattle.std.proofs.lemmas.List.{take_all}
use Rattle.drawing_tree.specs.declared.statement.Assign.{Assign}
use Rattle.drawing_tree.specs.Tree.{assignment_of}
use Rattle.drawing_tree.specs.Canonical.{constant_line}
use Rattle.drawing_tree.proofs.Joined.{each_map}
use Rattle.drawing_tree.proofs.drawing_text.add_constants.Goals as goal

pub returns : goal.returns
returns c =
    let constants = c.args.constants.now in
    let line = λ (a : Assign). constant_line (assignment_of a) in
    c.constants.invariant
    ∙ ap (λ (lines : List ℕ). c.args.out.now ++ lines)
    (ap (flat_map line) (take_all c.constants.constant-index constants c.constants-test.false)
    ∙ sym (each_map constant_line assignment_of constants))
