use Rattle.std.proofs.Common.{refl, arith}
use Rattle.scald_base.proofs.Device.{at_err}
use Rattle.listing.specs.Run.{runs_text}
use Rattle.listing.proofs.Parts.{lacks_all}
use Rattle.listing.proofs.Runs.{all_written, rest_text, run_stopped, run_written, runs_are}
use Rattle.listing.proofs.run.add_runs.Goals as goal

pub runs-init : goal.runs-init
runs-init g c =
    let cells = g.W.CyclicWave.cells c.args.wave.now in
    record {
      ended = g.met.W.CyclicWave.none_end c.args.wave.now;
      few = omega arith;
      within = omega arith;
      written = lacks_all c.args.out.now (rest_text cells 0) (runs_text cells) refl;
    }

pub returns-in_err-add_run-clause-err : goal.returns-in_err-add_run-clause-err
returns-in_err-add_run-clause-err g c =
    let cells = g.W.CyclicWave.cells c.args.wave.now in
    let found = c.run_after-value in
    at_err c.from_residual.result
    (run_stopped c.args.out.now c.runs.out c.add_run.new.out (runs_text cells) cells c.runs.slot found.result.1 found.result.0
    found.ensures.cell found.ensures.end c.in_err-add_run.ensures.err c.runs.invariant.written)

pub runs-preserved : goal.runs-preserved
runs-preserved g c =
    let cells = g.W.CyclicWave.cells c.args.wave.now in
    let found = c.run_after-value in
    let until = found.ensures.end in
    record {
      ended = found.ensures.next;
      few = (let before = c.runs.invariant.few in let on = until.behind in omega (arith, before, on));
      within = until.within;
      written = run_written c.args.out.now c.runs.out c.add_run.new.out (runs_text cells) cells c.runs.slot found.result.1 found.result.0
          found.ensures.cell until c.in_ok-add_run.ensures.ok c.runs.invariant.written;
    }

pub returns-clause-ok : goal.returns-clause-ok
returns-clause-ok g c =
    let cells = g.W.CyclicWave.cells c.args.wave.now in
    let p = c.period-period.ensures in
    all_written c.args.out.now c.runs.out (runs_text cells) cells c.runs.slot (omega (arith, p)) c.runs.invariant.written

pub returns-clause-are : goal.returns-clause-are
returns-clause-are g c = runs_are (g.W.CyclicWave.cells c.args.wave.now)

pub returns-in_err-add_run-clause-are : goal.returns-in_err-add_run-clause-are
returns-in_err-add_run-clause-are g c = runs_are (g.W.CyclicWave.cells c.args.wave.now)
