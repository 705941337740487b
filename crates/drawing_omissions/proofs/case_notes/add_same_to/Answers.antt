use Rattle.std.proofs.Common.{ℕ, sym, subst, Option}
use Rattle.std.proofs.lemmas.Result.{on_ok_weaker}
use Rattle.drawing_omissions.specs.Lines.{Adds}
use Rattle.drawing_omissions.specs.CaseNotes.{same_line, same_to}
use Rattle.drawing_omissions.proofs.case_notes.add_same_to.Goals as goal

pub returns : goal.returns
unfolding same_line
returns c =
    on_ok_weaker c.add.result (λ adds.
    subst (λ (o : Option ℕ). Adds c.args.notes.now c.add.new.self (same_to c.args.place o)) (sym c.in-Some.is)
    (rw (c.in_ok-number.ensures, c.in_ok-same.ensures) at adds)) c.add.ensures
