use Rattle.std.proofs.Common.{◌≡◌, ◌*◌, length, arith}
use Rattle.wave_core.proofs.Turned.{line_at, length_line}
use Rattle.wave_core.proofs.slot_wave.SlotWave.cell_before.Goals as goal

pub offset_bounds-line-slot : goal.offset_bounds-line-slot
offset_bounds-line-slot g c =
    let long : length c.args.line.now ≡ 2 * length c.args.self.now.cells.items =
    length_line g.T.Cell.kind c.args.self.now.cells.items c.args.line.now c.args.back c.requires.line in
    omega (arith, long)

pub bounds-line-slot : goal.bounds-line-slot
bounds-line-slot g c =
    let long : length c.args.line.now ≡ 2 * length c.args.self.now.cells.items =
    length_line g.T.Cell.kind c.args.self.now.cells.items c.args.line.now c.args.back c.requires.line in
    omega (arith, long)

pub returns : goal.returns
returns g c =
    line_at g.T.Cell.kind c.args.self.now.cells.items c.args.line.now c.args.back c.args.slot c.index-line-slot.result c.requires.line c.requires.near c.index-line-slot.is
