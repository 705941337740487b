use Rattle.std.proofs.Common.{◌++◌}
use Rattle.draw_report.specs.declared.grid.Ruled.TheVariants.{Periods, Steps, Units}
use Rattle.draw_report.specs.Grid.{ruled_path, tick_numbers, unit_numbers}
use Rattle.draw_report.proofs.Texts.{nodes_two}
use Rattle.draw_report.proofs.grid.put_grid.Goals as goal

pub returns : goal.returns
returns c =
    let v = c.args.view in
    let h = c.args.height in
    let last = nodes_two c.put_ruled-3.new.out c.put_ticks.new.out c.put_units.new.out
    (tick_numbers v) (unit_numbers v) c.put_ticks.ensures c.put_units.ensures in
    let periods = nodes_two c.put_ruled-2.new.out c.put_ruled-3.new.out c.put_units.new.out
    (ruled_path v h Periods) (tick_numbers v ++ unit_numbers v) c.put_ruled-3.ensures last in
    let units = nodes_two c.put_ruled.new.out c.put_ruled-2.new.out c.put_units.new.out
    (ruled_path v h Units) (ruled_path v h Periods ++ (tick_numbers v ++ unit_numbers v))
    c.put_ruled-2.ensures periods in
    nodes_two c.args.out.now c.put_ruled.new.out c.put_units.new.out (ruled_path v h Steps)
    (ruled_path v h Units ++ (ruled_path v h Periods ++ (tick_numbers v ++ unit_numbers v)))
    c.put_ruled.ensures units
