use Rattle.drawing_reader.proofs.Lone.{lone_behind}
use Rattle.drawing_reader.proofs.cursor.Cursor.lone_number.Goals as goal

pub returns-clause-found : goal.returns-clause-found
returns-clause-found c = λ rest. lone_behind c.args.self.now c.bump-token.new.self c.bump-token.result (c.starts.ensures.yes (cc)) c.bump-token.ensures.taken
    c.bump-token.ensures.operators (c.operator_follows.ensures.factors (cc)) (c.operator_follows.ensures.terms (cc)) rest
