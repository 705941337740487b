use Rattle.std.proofs.Common.{refl}
use Rattle.drawing_tree.specs.Tree.{drawing_of}
use Rattle.macro_expander.specs.Stands.{IsCircuitOf}
use Rattle.timing_analysis.proofs.Reading.{expansion_refusal, cases_refusal, cases_are}
use Rattle.timing_analysis.proofs.Reading.{listed_exist}
use Rattle.timing_analysis.proofs.drawn.circuit_of.Goals as goal

pub returns-in-Err-clause-refused : goal.returns-in-Err-clause-refused
returns-in-Err-clause-refused c text r draws e =
    let d = drawing_of c.args.drawing in
    expansion_refusal text d c.in-Err.stop r draws (c.in-Err.ensures d c.requires) e

pub returns-clause-refused : goal.returns-clause-refused
returns-clause-refused c text r draws e =
    let d = drawing_of c.args.drawing in
    cases_refusal text d c.in-Ok.circuit
    (record {
      drawn = draws;
      circuit = c.in-Ok.ensures d c.requires;
      is_circuit =
          c.known.ensures;
    })
    c.in-Err-check_cases.stop r
    (rw c.written_cases-written.ensures at c.in-Err-check_cases.ensures.is) e

pub returns-in-Ok-check_cases-clause-drawn : goal.returns-in-Ok-check_cases-clause-drawn
returns-in-Ok-check_cases-clause-drawn c text draws =
    let d = drawing_of c.args.drawing in
    let circuit : IsCircuitOf d c.in-Ok.circuit = c.in-Ok.ensures d c.requires in
    let cases = rw c.written_cases-written.ensures at c.in-Ok-check_cases.ensures.is in
    record {
      draws = record {
        drawing = d;
        draws = record { drawn = draws; circuit = circuit; is_circuit = c.known.ensures };
        are = cases_are circuit.state d _ (cases circuit.state circuit.stands);
        listed = c.in-Ok-check_cases.ensures.listed;
      };
      drawing = refl;
    }

pub returns-in-Ok-check_cases-clause-exist : goal.returns-in-Ok-check_cases-clause-exist
returns-in-Ok-check_cases-clause-exist c = listed_exist _ _ c.in-Ok-check_cases.ensures.listed
