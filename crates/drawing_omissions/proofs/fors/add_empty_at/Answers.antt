use Rattle.std.proofs.Common.{sym, subst, ◌∙◌}
use Rattle.std.proofs.lemmas.Result.{on_ok_weaker}
use Rattle.drawing_omissions.specs.Lines.{Adds}
use Rattle.drawing_omissions.specs.Fors.{empty_line}
use Rattle.drawing_omissions.proofs.Adding.{adds_none}
use Rattle.drawing_omissions.proofs.Spotting.{empty_none, empty_noted}
use Rattle.drawing_omissions.proofs.fors.add_empty_at.Goals as goal

pub returns-then-not-is_empty : goal.returns-then-not-is_empty
returns-then-not-is_empty c = λ found r t.
    subst (Adds c.args.notes.now c.args.notes.now) (sym (empty_none found c.args.place (sym (c.is_empty.ensures found r t) ∙ c.if-not-is_empty.true))) (adds_none c.args.notes.now)

pub returns : goal.returns
unfolding empty_line
returns c =
    on_ok_weaker c.add.result (λ adds found r t.
    subst (Adds c.args.notes.now c.add.new.self) (sym (empty_noted found c.args.place (sym (c.is_empty.ensures found r t) ∙ c.if-not-is_empty.false)))
    (rw (c.from.ensures, c.from-2.ensures) at adds)) c.add.ensures
