use Rattle.std.proofs.Common.{arith, ◌≡◌, ◌+◌, length}
use Rattle.run_wave.specs.Run.{cells_of}
use Rattle.run_wave.proofs.Runs.{length_cells_of_more, single_slots, slots_within}
use Rattle.run_wave.proofs.run_list.RunList.run_with.Goals as goal

pub overflow_add-end : goal.overflow_add-end
overflow_add-end g c =
    let rs = c.args.self.now.runs.items in
    let within = slots_within rs c.loop-place.place c.index.result.now (omega arith) c.index.ensures in
    let counted = c.args.self.now.counted in
    let before = c.loop-place.invariant.before in
    omega (arith, within, counted, before)

pub returns-then-slot-end-clause-end : goal.returns-then-slot-end-clause-end
returns-then-slot-end-clause-end g c =
    let more = length_cells_of_more c.args.self.now.runs.items c.loop-place.place c.index.result.now (omega arith) c.index.ensures in
    omega (arith, more, c.loop-place.invariant.before)

pub loop-place-preserved : goal.loop-place-preserved
loop-place-preserved g c =
    let more = length_cells_of_more c.args.self.now.runs.items c.loop-place.place c.index.result.now (omega arith) c.index.ensures in
    record {
      before = omega (arith, more, c.loop-place.invariant.before);
      reached = omega (arith, c.if-slot-end.false);
    }

pub returns-then-len-from-clause-begun : goal.returns-then-len-from-clause-begun
returns-then-len-from-clause-begun g c =
    let rs = c.args.self.now.runs.items in
    let counted = c.args.self.now.counted in
    let each : length rs ≡ length (cells_of rs) = omega (arith, counted) in
    let begun = single_slots rs c.from-then-len-from.result c.args.self.now.is_runs each (omega (arith, each, c.requires)) in
    omega (arith, begun)

pub returns-then-len-from-clause-end : goal.returns-then-len-from-clause-end
returns-then-len-from-clause-end g c =
    let rs = c.args.self.now.runs.items in
    let counted = c.args.self.now.counted in
    let each : length rs ≡ length (cells_of rs) = omega (arith, counted) in
    let end = single_slots rs (c.from-then-len-from.result + 1) c.args.self.now.is_runs each (omega (arith, each, c.requires)) in
    omega (arith, end)
