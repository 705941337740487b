use Rattle.std.proofs.Common.{◌++◌, [], List, ℕ, ap, append-nil, ◌∙◌}
use Rattle.std.proofs.lemmas.Result.{on_ok_weaker}
use Rattle.flat_circuit.specs.declared.fault.Fault.{Fault}
use Rattle.fixpoint_engine.specs.Waves.{waves_of}
use Rattle.listing.specs.declared.case.Mode.TheVariants.{Faults}
use Rattle.listing.specs.Case.{case_line, case_lines}
use Rattle.fault_decider.proofs.report.add_head.Goals as goal

pub returns : goal.returns
returns c =
    let h = c.args.head in
    on_ok_weaker c.write_case.result
    (λ is.
    is
    ∙ ap
    (λ (fs : List Fault).
    c.args.out.now
    ++ case_lines c.args.c.now Faults h.number h.base h.rounds h.tick (waves_of c.args.waves.now) fs)
    c.new-none.ensures
    ∙ ap (λ (text : List ℕ). c.args.out.now ++ text)
    (append-nil (case_line h.number h.base h.rounds h.tick ++ [])
    ∙ append-nil (case_line h.number h.base h.rounds h.tick)))
    c.write_case.ensures.ok
