use Rattle.std.proofs.Common.{◌≤◌, length, ◌∙◌}
use Rattle.critical_paths.proofs.Finding.{with_region, without_region}
use Rattle.critical_paths.proofs.region.slots_of.Goals as goal
use Rattle.critical_paths.proofs.region.slots_of.Goals.{in-Some+in_ok-push, in_default}

pub runs-preserved : goal.runs-preserved
runs-preserved g c =
    let test = c.args.test in
    let cells = g.W.CyclicWave.cells c.args.wave.now in
    let long : 2 ≤ length cells = (g.met.W.CyclicWave.sized c.args.wave.now).shortest in
    let same = c.same_until-slot.ensures in
    record {
      within = same.within;
      found = elim c.match-region_at.branch [
        | in-Some+in_ok-push w ↦
            with_region test cells long c.runs.slot c.same_until-slot.result w.in-Some.region
            c.runs.regions c.match-region_at.regions same
            w.in-Some.ensures c.runs.invariant.found (w.regions-is ∙ w.in_ok-push.ensures.ok)
        | in_default w ↦
            w.regions-is
            ∙ without_region test cells long c.runs.slot c.same_until-slot.result c.runs.regions
            same w.in_default.ensures c.runs.invariant.found
      ];
    }
