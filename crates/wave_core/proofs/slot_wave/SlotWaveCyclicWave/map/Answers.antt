use Rattle.std.proofs.Common.{◌≡◌, ◌+◌, ◌++◌, [], ◌∷◌, length, take, get_or, arith, rules, ap, ◌∙◌, sym, subst}
use Rattle.std.specs.List.{AllZip}
use Rattle.std.proofs.lemmas.List.{take_all}
use Rattle.wave_core.proofs.Slots.{related_push, length_related, period_length}
use Rattle.wave_core.proofs.slot_wave.SlotWaveCyclicWave.map.Goals as goal

pub loop-cell-preserved : goal.loop-cell-preserved
loop-cell-preserved g c =
    let cells = c.args.self.now.cells.items in
    let pushed : c.push.new.self.items ≡ c.loop-cell.cells.items ++ c.f.result ∷ [] = search rules in
    let is : c.cell-item.result ≡ get_or cells c.loop-cell.cell-index c.cell-item.result = search rules in
    subst (λ l. AllZip (λ x d. g.F.Fn.post c.args.f (x, tt) d) (take (c.loop-cell.cell-index + 1) cells) l) (sym pushed)
    (related_push (λ x d. g.F.Fn.post c.args.f (x, tt) d) cells c.loop-cell.cells.items c.loop-cell.cell-index c.cell-item.result c.f.result
    (omega arith) is (search rules) c.loop-cell.invariant)

pub invariant_of-result : goal.invariant_of-result
invariant_of-result g c =
    let cells = c.args.self.now.cells.items in
    let all : take c.loop-cell.cell-index cells ≡ cells = take_all c.loop-cell.cell-index cells (omega arith) in
    let n : length c.loop-cell.cells.items ≡ length cells =
    length_related (λ x d. g.F.Fn.post c.args.f (x, tt) d) (take c.loop-cell.cell-index cells) c.loop-cell.cells.items c.loop-cell.invariant ∙ ap length all in
    record { sized = period_length c.loop-cell.cells.items (length cells) n c.args.self.now.sized }

pub returns : goal.returns
returns g c =
    let cells = c.args.self.now.cells.items in
    let all : take c.loop-cell.cell-index cells ≡ cells = take_all c.loop-cell.cell-index cells (omega arith) in
    subst (λ l. AllZip (λ x d. g.F.Fn.post c.args.f (x, tt) d) l c.loop-cell.cells.items) all c.loop-cell.invariant
