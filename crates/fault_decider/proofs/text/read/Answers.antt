use Rattle.std.proofs.Common.{ap, subst, sym}
use Rattle.drawing_tree.specs.Tree.{Drawing, drawing_of}
use Rattle.macro_expander.specs.Stands.{IsStopOf}
use Rattle.timing_analysis.specs.Drawn.{undrawn, unexpanded}
use Rattle.program_call.proofs.Replies.{subject_drawn}
use Rattle.fault_decider.proofs.text.read.Goals as goal

pub returns-in-Err-clause-refused : goal.returns-in-Err-clause-refused
returns-in-Err-clause-refused c r e = undrawn (c.in-Err.ensures.refused r e)

pub returns-in-Err-expanded-clause-refused : goal.returns-in-Err-expanded-clause-refused
returns-in-Err-expanded-clause-refused c r e =
    let d = drawing_of c.in-Ok.drawing in
    unexpanded d c.in-Ok.ensures.drawn (subst (IsStopOf d) e c.in-Err-expanded.ensures)

pub returns-in-Err-circuit_of-clause-refused : goal.returns-in-Err-circuit_of-clause-refused
returns-in-Err-circuit_of-clause-refused c r e =
    c.in-Err-circuit_of.ensures.refused c.args.text.now r c.in-Ok.ensures.drawn e

pub returns-clause-read : goal.returns-clause-read
returns-clause-read c =
    let d = drawing_of c.in-Ok.drawing in
    let subject = c.in_ok-subject.subject in
    let by = subject_drawn c.args.text.now d c.in-Ok-circuit_of.drawn.circuit subject.circuit
    c.in-Ok-circuit_of.drawn.cases subject.cases
    c.in_ok-subject.ensures.circuit c.in_ok-subject.ensures.cases
    (c.in-Ok-circuit_of.ensures.drawn c.args.text.now c.in-Ok.ensures.drawn) in
    record {
      draws = by.draws;
      kept_is = ap (λ (e : Drawing). e.version) (sym by.drawing);
      is = c.in_ok-subject.ensures.is;
    }
