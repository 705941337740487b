use Rattle.std.proofs.Common.{◌≡◌, ◌∙◌, drop, length, refl, ap, arith}
use Rattle.std.specs.Vec.{with_items}
use Rattle.drawing_notes.specs.declared.case_gates.CaseGates.{CaseGates}
use Rattle.drawing_notes.proofs.Gathering.{gates_more}
use Rattle.drawing_omissions.proofs.Written.{written_back}
use Rattle.drawing_notes.proofs.case_gates.CaseGates.add_case.Goals as goal

pub add_firsts-requires-clause-long : goal.add_firsts-requires-clause-long
add_firsts-requires-clause-long g c = ap length c.deref_mut.ensures.value ∙ c.requires.ready.1.each_instance

pub returns : goal.returns
returns g c = λ cases one waves holds.
    let circuit = c.args.c.now in
    let old = c.args.self.now in
    let firsts = c.add_firsts.new.firsts in
    let new : CaseGates = record { clocks = old.clocks; timed = old.timed; firsts = with_items old.firsts firsts } in
    let long : length firsts ≡ length circuit.instances = c.add_firsts.ensures.long in
    let each = holds.each_instance in
    gates_more circuit cases one old new firsts refl refl
    (written_back firsts (drop (length firsts) old.firsts.items) old.firsts.len (omega (arith, long, each, old.firsts.ok.0)))
    long (λ before. (rw c.deref_mut.ensures.value at c.add_firsts.ensures.firsts) cases one waves before) holds
