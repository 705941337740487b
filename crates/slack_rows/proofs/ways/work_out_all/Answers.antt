use Rattle.std.proofs.Common.{◌≡◌, ℕ, below_more, arith, subst, Some}
use Rattle.std.specs.Prelude.{slice_get}
use Rattle.std.proofs.lemmas.Option.{slice_get_within}
use Rattle.fixpoint_engine.specs.Waves.{waves_of}
use Rattle.slack_rows.specs.declared.guard.Guard.{Guard}
use Rattle.slack_rows.specs.Arrived.{AreWorkedOut, place_on}
use Rattle.slack_rows.proofs.Launching.{goes_none, goes_then}
use Rattle.slack_rows.proofs.Pathing.{stays_worked}
use Rattle.slack_rows.proofs.ways.work_out_all.Goals as goal

pub loop-number-init : goal.loop-number-init
loop-number-init g c = record {
  goes = goes_none c.args.view.now.circuit.now (waves_of c.args.view.now.waves.now) c.args.paths.now c.requires.knows;
  known = λ k e below at. absurd (omega (arith, below));
  stays = λ q is. is;
}

pub loop-number-preserved : goal.loop-number-preserved
loop-number-preserved g c =
    let so = c.loop-number.invariant in
    let corner = c.args.corner in
    let pin = c.args.held.pin in
    let edges = c.args.edges.now in
    record {
      goes = goes_then c.args.view.now.circuit.now (waves_of c.args.view.now.waves.now) c.args.paths.now c.loop-number.paths _ so.goes c.in_ok-work_out.ensures.paths;
      known = λ k e below.
          below_more (λ (n : ℕ). (e : Guard) → slice_get edges n ≡ Some e → AreWorkedOut c.work_out.new.paths.known.entries (place_on e.net corner pin.target))
          c.loop-number.number
          (λ n less e at. stays_worked c.loop-number.paths.known.entries c.work_out.new.paths.known.entries (place_on e.net corner pin.target) c.in_ok-work_out.ensures.stays (so.known n e less at))
          (λ e at. subst (λ (x : Guard). AreWorkedOut c.work_out.new.paths.known.entries (place_on x.net corner pin.target))
          (let is : c.guard_at-edge.result ≡ e = let found = c.guard_at-edge.ensures in cc in is)
          c.in_ok-work_out.ensures.known) k below e;
      stays = λ q is. c.in_ok-work_out.ensures.stays q (so.stays q is);
    }

pub returns-clause-known : goal.returns-clause-known
returns-clause-known g c = λ k e at.
    let within = slice_get_within c.args.edges.now k e at in
    let test = c.loop-number-test.false in
    c.loop-number.invariant.known k e (omega (arith, within, test)) at
