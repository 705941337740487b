use Rattle.std.proofs.Common.{◌≡◌, ◌<◌, ℕ, length, arith, sym, ap, ◌∙◌}
use Rattle.wave_core.specs.Slots.{folded}
use Rattle.wave_core.proofs.Turned.{folded_none, folded_one}
use Rattle.wave_core.proofs.slot_wave.SlotWave.is_own_fold.Goals as goal

pub returns-then-back-eq0 : goal.returns-then-back-eq0
returns-then-back-eq0 g c =
    let none : c.args.back ≡ 0 = omega arith in
    λ t. ap (λ (n : ℕ). folded g.T.Cell.kind c.args.self.now.cells.items n) none ∙ folded_none g.T.Cell.kind c.args.self.now.cells.items

pub returns-else-back-eq0 : goal.returns-else-back-eq0
returns-else-back-eq0 g c =
    let cells = c.args.self.now.cells.items in
    let first = c.index.result.now in
    let some : 0 < length cells = let p = c.args.self.now.sized.shortest in omega arith in
    λ t. folded_one g.T.Cell.kind g.met.T.Cell.laws cells (λ v. g.T.PartialEq.eq v first) first c.args.back some
    (λ v e. g.met.T.Cell.laws.same_is v first (sym (g.met.T.Cell.equal v first) ∙ e)) (sym c.all_are.ensures ∙ t)
