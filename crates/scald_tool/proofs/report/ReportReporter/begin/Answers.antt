use Rattle.std.proofs.Common.{◌∙◌, ◌++◌, refl, sym, ap, append-nil, List, ℕ, arith}
use Rattle.listing.specs.Head.{head}
use Rattle.scald_tool.proofs.report.ReportReporter.begin.Goals as goal

pub add_head-requires : goal.add_head-requires
add_head-requires c = c.new-lines.ensures.are c.args.circuit.now

pub returns-clause-holds : goal.returns-clause-holds
returns-clause-holds c = record {
  mode_is = refl;
  base_is = refl;
  lines =
      c.in_ok-add_head.ensures.text
      ∙ ap (λ (bytes : List ℕ). bytes ++ head c.args.version c.args.circuit.now) c.new-lines.ensures.text
      ∙ sym (append-nil (head c.args.version c.args.circuit.now));
  count = refl;
}

pub returns-clause-ready : goal.returns-clause-ready
returns-clause-ready c = record { are = c.in_ok-add_head.ensures.are; few = omega arith }
