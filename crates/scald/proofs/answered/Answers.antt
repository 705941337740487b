use Rattle.scald.proofs.answered.Goals as goal

pub returns : goal.returns
returns g c = record { answer = c.answer_to-answer.result; call = c.answer_to-answer.ensures.call; ended = c.end.ensures }
