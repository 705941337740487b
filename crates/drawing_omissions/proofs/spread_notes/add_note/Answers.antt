use Rattle.std.proofs.lemmas.Result.{on_ok_weaker}
use Rattle.drawing_omissions.specs.Spread.{spread_line}
use Rattle.drawing_omissions.proofs.spread_notes.add_note.Goals as goal

pub returns : goal.returns
unfolding spread_line
returns c = on_ok_weaker c.add.result (λ adds. rw (c.from.ensures, c.from-2.ensures, c.as_slice.ensures) at adds) c.add.ensures
