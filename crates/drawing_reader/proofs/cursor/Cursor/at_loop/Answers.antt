use Rattle.std.proofs.Common.{refl}
use Rattle.drawing_reader.proofs.cursor.Cursor.at_loop.Goals as goal

pub returns-in-First : goal.returns-in-First
returns-in-First c = rw c.in-First.is refl

pub returns-in-Second : goal.returns-in-Second
returns-in-Second c = rw c.in-Second.is c.at_for.ensures
