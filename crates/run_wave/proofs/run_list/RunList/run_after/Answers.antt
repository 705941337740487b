use Rattle.std.proofs.Common.{arith, ◌+◌}
use Rattle.run_wave.proofs.Runs.{length_cells_of_more, slots_within, some_width}
use Rattle.run_wave.proofs.Search.{in_run, run_ends, run_is_there}
use Rattle.run_wave.proofs.run_list.RunList.run_after.Goals as goal

pub index-run-requires : goal.index-run-requires
index-run-requires g c =
    let there = run_is_there c.args.self.now.runs.items c.args.runs c.args.slot c.requires.slot c.requires.runs in
    omega (arith, there, c.args.self.now.runs.ok.0)

pub overflow_add-result : goal.overflow_add-result
overflow_add-result g c =
    let rs = c.args.self.now.runs.items in
    let there = run_is_there rs c.args.runs c.args.slot c.requires.slot c.requires.runs in
    let within = slots_within rs c.args.runs c.index-run.result.now there c.index-run.ensures in
    let counted = c.args.self.now.counted in
    let ended = c.requires.runs in
    omega (arith, within, counted, ended)

pub returns-clause-cell : goal.returns-clause-cell
returns-clause-cell g c =
    let rs = c.args.self.now.runs.items in
    let there = run_is_there rs c.args.runs c.args.slot c.requires.slot c.requires.runs in
    let more = length_cells_of_more rs c.args.runs c.index-run.result.now there c.index-run.ensures in
    let some = some_width rs c.args.runs c.index-run.result.now there c.index-run.ensures c.args.self.now.is_runs in
    let ended = c.requires.runs in
    in_run rs c.args.runs c.args.slot c.index-run.result.now there c.index-run.ensures (omega (arith, ended)) (omega (arith, ended, more, some))

pub returns-clause-end : goal.returns-clause-end
returns-clause-end g c =
    let rs = c.args.self.now.runs.items in
    let there = run_is_there rs c.args.runs c.args.slot c.requires.slot c.requires.runs in
    let more = length_cells_of_more rs c.args.runs c.index-run.result.now there c.index-run.ensures in
    let some = some_width rs c.args.runs c.index-run.result.now there c.index-run.ensures c.args.self.now.is_runs in
    let ended = c.requires.runs in
    run_ends rs c.args.runs c.args.slot (c.args.slot + c.index-run.result.now.width) there c.args.self.now.is_runs (omega (arith, ended)) (omega (arith, some)) (omega (arith, ended, more))

pub returns-clause-next : goal.returns-clause-next
returns-clause-next g c =
    let rs = c.args.self.now.runs.items in
    let there = run_is_there rs c.args.runs c.args.slot c.requires.slot c.requires.runs in
    let more = length_cells_of_more rs c.args.runs c.index-run.result.now there c.index-run.ensures in
    let ended = c.requires.runs in
    omega (arith, ended, more)
