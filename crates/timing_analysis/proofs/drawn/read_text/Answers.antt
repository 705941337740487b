use Rattle.timing_analysis.proofs.Reading.{token_refusal, drawing_refusal}
use Rattle.timing_analysis.proofs.drawn.read_text.Goals as goal

pub returns-in-Err-clause-refused : goal.returns-in-Err-clause-refused
returns-in-Err-clause-refused c r e = token_refusal _ _ r c.in-Err.ensures.refused e

pub returns-in-Err-read_drawing-clause-refused : goal.returns-in-Err-read_drawing-clause-refused
returns-in-Err-read_drawing-clause-refused c r e = drawing_refusal _ _ _ r c.in-Ok.ensures.found c.in-Err-read_drawing.ensures.refused e
