use Rattle.std.proofs.lemmas.Result.{IfOk-weaker, IfErr-weaker}
use Rattle.drawing_tree.specs.Tree.{drawing_of}
use Rattle.timing_analysis.proofs.Reading.{expansion_refusal, text_refusal}
use Rattle.timing_analysis.proofs.drawn.read_circuit.Goals as goal

pub returns-in-Err-clause-refused : goal.returns-in-Err-clause-refused
returns-in-Err-clause-refused c r e = text_refusal c.args.text.now c.in-Err.stop r c.in-Err.ensures.refused e

pub returns-in-Err-expanded-clause-refused : goal.returns-in-Err-expanded-clause-refused
returns-in-Err-expanded-clause-refused c r e =
    expansion_refusal c.args.text.now (drawing_of c.in-Ok.drawing) c.in-Err-expanded.stop r
    c.in-Ok.ensures.drawn c.in-Err-expanded.ensures e

pub returns-in-Ok-expanded-clause-drawn : goal.returns-in-Ok-expanded-clause-drawn
returns-in-Ok-expanded-clause-drawn c =
    IfOk-weaker c.circuit_of.result _ _
    (λ drawn by. (by c.args.text.now c.in-Ok.ensures.drawn).draws) c.circuit_of.ensures.drawn

pub returns-in-Ok-expanded-clause-refused : goal.returns-in-Ok-expanded-clause-refused
returns-in-Ok-expanded-clause-refused c =
    IfErr-weaker c.circuit_of.result _ _
    (λ stop refused r e. refused c.args.text.now r c.in-Ok.ensures.drawn e)
    c.circuit_of.ensures.refused
