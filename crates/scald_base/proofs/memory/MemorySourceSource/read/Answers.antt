use Rattle.std.proofs.Common.{◌≡◌, ◌-◌, ℕ, List, length, min, take, drop, ap, sym, ◌∙◌}
use Rattle.scald_base.proofs.Device.{gives_next, rest_of}
use Rattle.scald_base.proofs.memory.MemorySourceSource.read.Goals as goal

pub returns-clause-gives : goal.returns-clause-gives
returns-clause-gives c =
    let before = c.self.inside in
    let n = c.min-count.result in
    let left : List ℕ = c.args.self.now.left in
    let is_rest : left ≡ drop before.given before.bytes = ap (λ s. s.left) (sym c.self.view_is) in
    let slice : take (length c.as_slice.result.now - before.given) (drop before.given c.as_slice.result.now) ≡ left = rw c.as_slice.ensures (rest_of before.given before.bytes ∙ sym is_rest) in
    let copied : c.copy_from_slice.new.self ≡ take n left = c.copy_from_slice.ensures.after ∙ ap (take n) slice in
    let count : n ≡ min before.piece (min (length c.args.room.now) (length left)) =
    c.min-count.ensures ∙ ap (min before.piece) (c.min.ensures ∙ ap (λ l. min (length c.args.room.now) (length l)) slice) in
    gives_next before.bytes left c.args.room.now c.copy_from_slice.new.self before.given before.piece n is_rest copied count c.self.invariant.1
