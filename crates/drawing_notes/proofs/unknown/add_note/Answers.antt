use Rattle.std.proofs.lemmas.Result.{on_ok_weaker}
use Rattle.drawing_notes.specs.Unknown.{unknown_line}
use Rattle.drawing_notes.proofs.unknown.add_note.Goals as goal

pub returns : goal.returns
unfolding unknown_line
returns c = on_ok_weaker c.add.result (λ adds. rw (c.from.ensures, c.from-2.ensures, c.net_piece.ensures) at adds) c.add.ensures
