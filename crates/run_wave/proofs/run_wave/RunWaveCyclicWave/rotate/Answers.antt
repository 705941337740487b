use Rattle.std.proofs.Common.{arith, ◌≡◌, ◌-◌, ◌%◌, ◌<◌, ◌∙◌, length, ap}
use Rattle.std.proofs.lemmas.Result.{IfOk-weaker}
use Rattle.wave_core.specs.Slots.{later}
use Rattle.run_wave.specs.Run.{cells_of}
use Rattle.run_wave.proofs.Turned.{turned_cells, unturned}
use Rattle.run_wave.proofs.run_wave.RunWaveCyclicWave.rotate.Goals as goal

pub returns-then-first-period : goal.returns-then-first-period
returns-then-first-period g c =
    let xs = cells_of c.args.self.now.list.runs.items in
    let some : 0 < length xs = let shortest = c.args.self.now.sized.shortest in omega (arith, shortest) in
    let whole : c.args.self.now.list.slots - c.args.by % c.args.self.now.list.slots ≡ c.args.self.now.list.slots = c.if-first-period.true in
    IfOk-weaker c.copy.result (λ w. cells_of w.list.runs.items ≡ xs) (λ w. cells_of w.list.runs.items ≡ later g.T.Cell.kind xs c.args.by)
    (λ w e. e ∙ unturned g.T.Cell.kind xs c.args.self.now.list.slots c.args.by c.args.self.now.list.counted some whole)
    c.copy.ensures

pub returns : goal.returns
returns g c =
    let xs = cells_of c.args.self.now.list.runs.items in
    let some : 0 < length xs = let shortest = c.args.self.now.sized.shortest in omega (arith, shortest) in
    turned_cells g.T.Cell.kind xs (cells_of c.in_ok-list.list.runs.items) (cells_of c.push_from.new.self.runs.items) (cells_of c.push_until.new.self.runs.items)
    c.args.self.now.list.slots c.args.by c.args.self.now.list.counted some (ap cells_of c.in_ok-list.ensures) c.in_ok-push_from.ensures c.in_ok-push_until.ensures
