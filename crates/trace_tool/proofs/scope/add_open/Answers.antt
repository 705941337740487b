use Rattle.std.proofs.Common.{append_assoc}
use Rattle.std.specs.Prelude.{codes}
use Rattle.listing.proofs.Parts.{three_ok}
use Rattle.trace_tool.specs.Scope.{open_line}
use Rattle.trace_tool.specs.Variable.{reference}
use Rattle.trace_tool.proofs.scope.add_open.Goals as goal

pub returns : goal.returns
returns c =
    let name = c.args.scope.now in
    three_ok c.extend-2.result c.args.out.now c.extend.new.self c.add_reference.new.out c.extend-2.new.self
    (codes "$scope module ") (reference name) (codes " $end\n") (open_line name)
    (append_assoc (codes "$scope module ") (reference name) (codes " $end\n"))
    c.in_ok-extend.ensures.ok c.in_ok-add_reference.ensures c.extend-2.ensures.ok
