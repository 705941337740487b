use Rattle.std.proofs.Common.{◌≡◌, ◌-◌, ◌%◌, ◌<◌, ◌≤◌, ◌++◌, length, take, drop, rules, arith, refl, ap, ◌∙◌}
use Rattle.std.proofs.lemmas.List.{append_assoc, length-drop, take_all}
use Rattle.wave_core.proofs.Turned.{taken, turned_later}
use Rattle.wave_core.proofs.slot_wave.SlotWave.push_later.Goals as goal

pub returns : goal.returns
returns g c =
    let cells = c.args.self.now.cells.items in
    let long : c.len-period.result ≡ length cells = search rules in
    let some : 0 < length cells = let p = c.args.self.now.sized.shortest in omega arith in
    let rest : length (drop (c.len-period.result - c.args.by % c.len-period.result) c.deref.result.now) ≤ length c.deref.result.now - (c.len-period.result - c.args.by % c.len-period.result) =
    let n : length (drop (c.len-period.result - c.args.by % c.len-period.result) c.deref.result.now)
    ≡ length c.deref.result.now - (c.len-period.result - c.args.by % c.len-period.result) =
    length-drop (c.len-period.result - c.args.by % c.len-period.result) c.deref.result.now in omega (arith, n) in
    let first : c.extend_from_slice.new.self.items ≡ c.args.cells.now.items ++ drop (c.len-period.result - c.args.by % c.len-period.result) cells =
    c.in_ok-extend_from_slice.ensures.items
    ∙ ap (λ l. c.args.cells.now.items ++ l)
    (take_all (length c.deref.result.now - (c.len-period.result - c.args.by % c.len-period.result))
    (drop (c.len-period.result - c.args.by % c.len-period.result) c.deref.result.now) rest
    ∙ ap (drop (c.len-period.result - c.args.by % c.len-period.result)) c.deref.ensures.value) in
    let second : c.extend_from_slice-2.new.self.items ≡ c.extend_from_slice.new.self.items ++ take (c.len-period.result - c.args.by % c.len-period.result) cells =
    c.in_ok-extend_from_slice-2.ensures.items
    ∙ ap (λ l. c.extend_from_slice.new.self.items ++ l) (taken _ (c.len-period.result - c.args.by % c.len-period.result) _ cells (omega arith) c.deref-2.ensures.value) in
    second
    ∙ ap (λ l. l ++ take (c.len-period.result - c.args.by % c.len-period.result) cells) first
    ∙ append_assoc c.args.cells.now.items (drop (c.len-period.result - c.args.by % c.len-period.result) cells) (take (c.len-period.result - c.args.by % c.len-period.result) cells)
    ∙ ap (λ l. c.args.cells.now.items ++ l) (turned_later g.T.Cell.kind cells c.len-period.result c.args.by (c.len-period.result - c.args.by % c.len-period.result) long some refl)
