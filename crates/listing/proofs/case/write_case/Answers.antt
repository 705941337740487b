use Rattle.std.proofs.Common.{◌++◌, refl, ap}
use Rattle.scald_base.proofs.Device.{at_err}
use Rattle.fixpoint_engine.specs.Waves.{waves_of}
use Rattle.listing.specs.Case.{case_line, case_lines, shown_faults, shown_waves}
use Rattle.listing.proofs.Parts.{three_first, three_second, three_err}
use Rattle.listing.proofs.case.write_case.Goals as goal

pub returns-in_err-add_case-clause-err : goal.returns-in_err-add_case-clause-err
returns-in_err-add_case-clause-err g c =
    let a = c.args in
    let h = c.args.head in
    let all = waves_of a.waves.now in
    at_err c.from_residual.result
    (three_first a.out.now c.add_case.new.out (case_line h.number h.base h.rounds h.tick)
    (shown_waves a.c.now a.mode all) (shown_faults a.c.now a.mode a.faults.now)
    (case_lines a.c.now a.mode h.number h.base h.rounds h.tick all a.faults.now) refl c.in_err-add_case.ensures.err)

pub returns-in_err-add_shown_waves-clause-err : goal.returns-in_err-add_shown_waves-clause-err
returns-in_err-add_shown_waves-clause-err g c =
    let a = c.args in
    let h = c.args.head in
    let all = waves_of a.waves.now in
    at_err c.from_residual-in_err-add_shown_waves.result
    (three_second a.out.now c.add_case.new.out c.add_shown_waves.new.out (case_line h.number h.base h.rounds h.tick)
    (shown_waves a.c.now a.mode all) (shown_faults a.c.now a.mode a.faults.now)
    (case_lines a.c.now a.mode h.number h.base h.rounds h.tick all a.faults.now) refl
    c.in_ok-add_case.ensures.ok c.in_err-add_shown_waves.ensures.err)

pub returns-clause-err : goal.returns-clause-err
returns-clause-err g c =
    let a = c.args in
    let h = c.args.head in
    let all = waves_of a.waves.now in
    three_err c.add_shown_faults.result a.out.now c.add_case.new.out c.add_shown_waves.new.out c.add_shown_faults.new.out
    (case_line h.number h.base h.rounds h.tick) (shown_waves a.c.now a.mode all) (shown_faults a.c.now a.mode c.as_slice.result.now)
    (case_lines a.c.now a.mode h.number h.base h.rounds h.tick all a.faults.now)
    (ap (λ faults. case_line h.number h.base h.rounds h.tick ++ shown_waves a.c.now a.mode all ++ shown_faults a.c.now a.mode faults)
    c.as_slice.ensures)
    c.in_ok-add_case.ensures.ok c.in_ok-add_shown_waves.ensures.ok c.add_shown_faults.ensures.err
