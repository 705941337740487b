use Rattle.std.proofs.Common.{ℕ, sym, subst, Option}
use Rattle.std.proofs.lemmas.Result.{on_ok_weaker}
use Rattle.drawing_omissions.specs.Lines.{Adds}
use Rattle.drawing_notes.specs.Unmarked.{unmarked_line, unmarked_on}
use Rattle.drawing_notes.proofs.unmarked.add_unmarked_on.Goals as goal

pub returns : goal.returns
unfolding unmarked_line
returns c =
    on_ok_weaker c.add.result (λ adds.
    subst (λ (o : Option ℕ). Adds c.args.notes.now c.add.new.self (unmarked_on c.args.c.now c.args.number c.args.place o)) (sym c.in-Some.is)
    (rw (c.instance_piece.ensures, c.net_piece.ensures) at adds)) c.add.ensures
