use Rattle.std.proofs.Common.{◌*◌, ◌^◌, ℕ, List, length, sym, subst, ap, arith, Option, ◌∙◌}
use Rattle.drawing_notes.specs.declared.launched.Arrival.{Arrival}
use Rattle.drawing_notes.specs.Arrivals.{AreUpTo, arrival_at}
use Rattle.drawing_notes.specs.Common.{common, skew_at}
use Rattle.drawing_notes.specs.Late.{late}
use Rattle.drawing_omissions.specs.Lines.{Adds}
use Rattle.drawing_notes.specs.Loops.{loops}
use Rattle.drawing_notes.specs.Parts.{AreInside, together}
use Rattle.drawing_notes.proofs.Reporting.{paths_added}
use Rattle.drawing_notes.proofs.Small.{up_to_weaker}
use Rattle.drawing_notes.proofs.report.add_paths.Goals as goal

pub add_late-requires : goal.add_late-requires
add_late-requires c =
    let paths = c.requires.1.paths in
    let circuit = c.args.c.now in
    subst (AreUpTo (131070 * 2 ^ 32)) (sym c.deref.ensures.value)
    (up_to_weaker (131070 * length circuit.nets) (131070 * 2 ^ 32) c.args.so_far.now.paths.latest.items (omega (arith, c.known.ensures.few_nets)) paths.small)

pub add_loops-requires-clause-each_net : goal.add_loops-requires-clause-each_net
add_loops-requires-clause-each_net c = ap length c.deref-2.ensures.value ∙ c.requires.1.paths.each_part

pub add_loops-requires-clause-inside : goal.add_loops-requires-clause-inside
add_loops-requires-clause-inside c = subst (AreInside (length c.args.c.now.nets)) (sym c.deref-2.ensures.value) c.requires.1.paths.inside

pub add_common-requires : goal.add_common-requires
add_common-requires c = ap length c.deref-3.ensures.value ∙ c.requires.1.paths.each_instance

pub returns : goal.returns
returns c =
    let circuit = c.args.c.now in
    paths_added circuit c.args.so_far.now _ _ _ _ _
    (subst (λ (latest : List (Option Arrival)). Adds c.args.notes.now c.add_late.new.notes (late circuit (arrival_at latest))) c.deref.ensures.value c.in_ok-add_late.ensures)
    (subst (λ (parts : List (Option ℕ)). Adds c.add_late.new.notes c.add_loops.new.notes (loops circuit (together parts))) c.deref-2.ensures.value c.in_ok-add_loops.ensures)
    c.in_ok-append.ensures
    (subst (λ (ticks : List ℕ). Adds c.append.new.self c.add_common.new.notes (common circuit (skew_at ticks))) c.deref-3.ensures.value c.in_ok-add_common.ensures)
