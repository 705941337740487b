use Rattle.std.proofs.Common.{ℕ, List, Option, subst}
use Rattle.std.proofs.lemmas.Result.{on_ok_weaker}
use Rattle.drawing_omissions.specs.Lines.{Adds}
use Rattle.drawing_omissions.specs.CaseNotes.{sames}
use Rattle.drawing_omissions.proofs.Doubled.{cases_added}
use Rattle.drawing_omissions.proofs.case_notes.add_cases.Goals as goal

pub returns : goal.returns
returns c =
    on_ok_weaker c.add_open.result
    (λ more. cases_added c.args.cases.now c.in_ok-firsts.firsts.items c.in_ok-is_open.is_open c.args.notes.now c.add_sames.new.notes c.add_open.new.notes
    c.in_ok-firsts.ensures c.in_ok-is_open.ensures
    (subst (λ (fs : List (Option ℕ)). Adds c.args.notes.now c.add_sames.new.notes (sames fs)) c.deref.ensures.value c.in_ok-add_sames.ensures) more) c.add_open.ensures
