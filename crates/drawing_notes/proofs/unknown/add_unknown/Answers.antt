use Rattle.std.proofs.Common.{sym, subst}
use Rattle.std.specs.List.{filter}
use Rattle.std.proofs.lemmas.Result.{on_ok_weaker}
use Rattle.fixpoint_engine.specs.Waves.{waves_of}
use Rattle.drawing_omissions.specs.Lines.{Adds}
use Rattle.drawing_omissions.proofs.Adding.{adds_none}
use Rattle.drawing_notes.specs.Unknown.{has_unknown}
use Rattle.drawing_notes.proofs.Counting.{none_counted, some_counted}
use Rattle.drawing_notes.proofs.unknown.add_unknown.Goals as goal

pub returns-in-Some : goal.returns-in-Some
returns-in-Some g c =
    on_ok_weaker c.add_note.result (λ adds. subst (Adds c.args.notes.now c.add_note.new.notes)
    (sym (some_counted c.args.c.now c.args.number (filter (has_unknown (waves_of c.args.waves.now)) c.args.c.now.order) c.count-counted.result
    c.in-Some.first c.in-Some.is c.count-counted.ensures)) adds) c.add_note.ensures

pub returns-in-None : goal.returns-in-None
returns-in-None g c =
    subst (Adds c.args.notes.now c.args.notes.now)
    (sym (none_counted c.args.c.now c.args.number (filter (has_unknown (waves_of c.args.waves.now)) c.args.c.now.order) c.count-counted.result
    c.in-None.is c.count-counted.ensures)) (adds_none c.args.notes.now)
