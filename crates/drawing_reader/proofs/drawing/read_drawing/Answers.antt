use Rattle.drawing_reader.proofs.Given.{formed, again, at_token, placed, only_drawing, only_refusal}
use Rattle.drawing_reader.proofs.drawing.read_drawing.Goals as goal

pub returns-clause-formed : goal.returns-clause-formed
returns-clause-formed c = formed c.args.text.now c.args.tokens c.judged_drawing.result c.requires c.judged_drawing.ensures.drawn

pub returns-clause-again : goal.returns-clause-again
returns-clause-again c = again c.args.text.now c.args.tokens c.judged_drawing.result c.requires c.judged_drawing.ensures.drawn

pub returns-clause-at_token : goal.returns-clause-at_token
returns-clause-at_token c = at_token c.args.text.now c.args.tokens c.judged_drawing.result c.judged_drawing.ensures.refused

pub returns-clause-placed : goal.returns-clause-placed
returns-clause-placed c = placed c.args.text.now c.args.tokens c.judged_drawing.result c.requires c.judged_drawing.ensures.refused

pub returns-clause-only_drawing : goal.returns-clause-only_drawing
returns-clause-only_drawing c = only_drawing c.args.text.now c.args.tokens c.judged_drawing.result c.judged_drawing.ensures.drawn c.judged_drawing.ensures.refused

pub returns-clause-only_refusal : goal.returns-clause-only_refusal
returns-clause-only_refusal c = only_refusal c.args.text.now c.args.tokens c.judged_drawing.result c.judged_drawing.ensures.drawn c.judged_drawing.ensures.refused
