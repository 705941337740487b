use Rattle.drawing_notes.proofs.Promised.{notes_are_lawful}
use Rattle.drawing_notes.proofs.program.NotesProgramReplier.laws.Goals as goal

pub returns : goal.returns
returns c = notes_are_lawful
