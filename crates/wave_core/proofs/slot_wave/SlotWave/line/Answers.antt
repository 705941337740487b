use Rattle.std.proofs.Common.{◌≡◌, ◌++◌, [], rules, ap, ◌∙◌}
use Rattle.wave_core.specs.Slots.{later}
use Rattle.wave_core.proofs.Turned.{line_later}
use Rattle.wave_core.proofs.slot_wave.SlotWave.line.Goals as goal

pub returns : goal.returns
returns g c =
    let k = g.T.Cell.kind in
    let cells = c.args.self.now.cells.items in
    let empty : c.in_ok-line.line.items ≡ [] = search rules in
    c.in_ok-push_later-2.ensures
    ∙ ap (λ l. l ++ later k cells c.args.back) (c.in_ok-push_later.ensures ∙ ap (λ l. l ++ later k cells c.args.back) empty)
    ∙ line_later k cells c.args.back
