use Rattle.std.proofs.Common.{sym, subst, ap, length, ◌∙◌}
use Rattle.drawing_omissions.specs.Lines.{Adds}
use Rattle.drawing_notes.specs.Unclocked.{AreActs}
use Rattle.drawing_notes.specs.Unmarked.{first_at, unmarked_by}
use Rattle.drawing_notes.proofs.Reporting.{single_added}
use Rattle.drawing_notes.proofs.report.add_single.Goals as goal

pub add_unclocked-requires : goal.add_unclocked-requires
add_unclocked-requires c = ap length c.deref.ensures.value ∙ c.requires.1.each_instance

pub add_unmarked-requires : goal.add_unmarked-requires
add_unmarked-requires c = ap length c.deref-2.ensures.value ∙ c.requires.1.gates.each_instance

pub returns : goal.returns
returns c =
    let circuit = c.args.c.now in
    single_added circuit c.args.so_far.now _ _ _ _ _ _
    (λ cases holds. c.in_ok-add_unclocked.ensures cases (subst (AreActs circuit cases) (sym c.deref.ensures.value) holds.acts))
    c.in_ok-add_idle.ensures c.in_ok-add_unchecked.ensures
    (subst (λ firsts. Adds c.add_unchecked.new.notes c.add_unmarked.new.notes (unmarked_by circuit (first_at firsts))) c.deref-2.ensures.value c.in_ok-add_unmarked.ensures)
    c.in_ok-add_unread.ensures
