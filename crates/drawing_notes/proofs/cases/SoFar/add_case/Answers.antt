use Rattle.std.proofs.Common.{drop, length, arith}
use Rattle.std.specs.Vec.{with_items}
use Rattle.std.proofs.lemmas.Result.{on_ok_weaker}
use Rattle.drawing_omissions.proofs.Written.{written_back}
use Rattle.drawing_notes.specs.declared.cases.SoFar.{SoFar}
use Rattle.drawing_notes.proofs.Gathering.{case_more}
use Rattle.drawing_notes.proofs.cases.SoFar.add_case.Goals as goal

pub returns : goal.returns
returns g c =
    let old = c.args.self.now in
    let marks = c.add_acts.new.acts in
    let new : SoFar = record {
      acts = with_items old.acts marks;
      unknown = c.add_unknown.new.notes;
      gates = c.add_case.new.self;
      paths = c.add_case-2.new.self;
    } in
    let long = c.in_ok-add_acts.ensures.long in
    let each = c.requires.ready.1.each_instance in
    on_ok_weaker c.add_unknown.result (λ adds cases one numbered waves holds.
    case_more c.args.c.now c.args.waves.now c.args.number cases one numbered waves old new marks
    (written_back marks (drop (length marks) old.acts.items) old.acts.len (omega (arith, long, each, old.acts.ok.0)))
    long (rw c.deref_mut.ensures.value at c.in_ok-add_acts.ensures.acts) adds c.add_case.ensures c.in_ok-add_case.ensures holds) c.add_unknown.ensures
