use Rattle.std.proofs.Common.{◌≡◌, ◌+◌, ◌-◌, ◌<◌, ◌≤◌, ◌++◌, [], ◌∷◌, length, min, rules, arith, sym, ap, ◌∙◌}
use Rattle.wave_core.specs.Slots.{slots, fold_at}
use Rattle.wave_core.specs.Fold.{span, tails}
use Rattle.wave_core.proofs.Fold.{first_of_block, other_of_block, ahead_next, span_one, length_tails}
use Rattle.wave_core.proofs.Slots.{slots_push}
use Rattle.wave_core.proofs.slot_wave.SlotWave.push_block.Goals as goal

pub offset_bounds-tails-back : goal.offset_bounds-tails-back
offset_bounds-tails-back g c =
    let long : length c.args.tails.now ≡ c.args.back + 1 =
    ap length c.requires.tails ∙ length_tails g.T.Cell.kind c.args.self.now.cells.items c.args.back (length c.args.cells.now.items) in
    omega (arith, long)

pub bounds-tails-back : goal.bounds-tails-back
bounds-tails-back g c =
    let long : length c.args.tails.now ≡ c.args.back + 1 =
    ap length c.requires.tails ∙ length_tails g.T.Cell.kind c.args.self.now.cells.items c.args.back (length c.args.cells.now.items) in
    omega (arith, long)

pub offset_bounds-tails-from : goal.offset_bounds-tails-from
offset_bounds-tails-from g c =
    let long : length c.args.tails.now ≡ c.args.back + 1 =
    ap length c.requires.tails ∙ length_tails g.T.Cell.kind c.args.self.now.cells.items c.args.back (length c.args.cells.now.items) in
    omega (arith, long)

pub bounds-tails-from : goal.bounds-tails-from
bounds-tails-from g c =
    let long : length c.args.tails.now ≡ c.args.back + 1 =
    ap length c.requires.tails ∙ length_tails g.T.Cell.kind c.args.self.now.cells.items c.args.back (length c.args.cells.now.items) in
    omega (arith, long)

pub loop-slot-init : goal.loop-slot-init
loop-slot-init g c =
    let k = g.T.Cell.kind in
    let cells = c.args.self.now.cells.items in
    let from = c.len-from.result in
    let begin : from ≡ length c.args.cells.now.items = search rules in
    let some : 0 < length cells = omega arith in
    let ts : c.args.tails.now ≡ tails k cells c.args.back from = c.requires.tails ∙ ap (tails k cells c.args.back) (sym begin) in
    let so_far : c.args.cells.now.items ≡ slots from (fold_at k cells c.args.back) =
    c.requires.so_far ∙ ap (λ n. slots n (fold_at k cells c.args.back)) (sym begin) in
    let first : c.index-tails-back.result ≡ fold_at k cells c.args.back from =
    first_of_block k g.met.T.Cell.laws cells c.args.tails.now c.args.back from c.index-tails-back.result some ts c.index-tails-back.is in
    let pushed : c.push.new.self.items ≡ c.args.cells.now.items ++ c.index-tails-back.result ∷ [] = search rules in
    let none : 0 ≡ from + 1 - (from + 1) = omega arith in
    record {
      so_far = pushed ∙ slots_push from (fold_at k cells c.args.back) c.args.cells.now.items c.index-tails-back.result so_far first;
      ahead = c.cell_before-joined.ensures ∙ span_one k cells c.args.back (from + (c.args.back + 1))
          ∙ ap (span k cells c.args.back (from + (c.args.back + 1))) none;
    }

pub loop-slot-preserved : goal.loop-slot-preserved
loop-slot-preserved g c =
    let k = g.T.Cell.kind in
    let cells = c.args.self.now.cells.items in
    let from = c.len-from.result in
    let slot = c.loop-slot.slot in
    let begin : from ≡ length c.args.cells.now.items = search rules in
    let some : 0 < length cells = omega arith in
    let after : from < slot = omega arith in
    let end : c.min-end.result ≡ min (from + (c.args.back + 1)) c.len.result = grind arith in
    let within : slot ≤ from + c.args.back = omega arith in
    let ts : c.args.tails.now ≡ tails k cells c.args.back from = c.requires.tails ∙ ap (tails k cells c.args.back) (sym begin) in
    let here : c.join.result ≡ fold_at k cells c.args.back slot =
    other_of_block k g.met.T.Cell.laws cells c.args.tails.now c.args.back from slot c.index-tails-from.result c.loop-slot.joined c.join.result
    some after within ts c.index-tails-from.is c.loop-slot.invariant.ahead c.join.ensures in
    let pushed : c.push-in-loop-slot.new.self.items ≡ c.loop-slot.cells.items ++ c.join.result ∷ [] = search rules in
    record {
      so_far = pushed ∙ slots_push slot (fold_at k cells c.args.back) c.loop-slot.cells.items c.join.result c.loop-slot.invariant.so_far here;
      ahead = ahead_next k cells c.args.back from slot c.loop-slot.joined c.cell_before.result c.join-joined.result after
          c.loop-slot.invariant.ahead c.cell_before.ensures c.join-joined.ensures;
    }

pub returns : goal.returns
returns g c =
    let begin : c.len-from.result ≡ length c.args.cells.now.items = search rules in
    let least : c.min-end.result ≡ min (c.len-from.result + (c.args.back + 1)) c.len.result = search rules in
    let end : c.loop-slot.slot ≡ min (length c.args.cells.now.items + (c.args.back + 1)) (length c.args.self.now.cells.items) = omega arith in
    rw end at c.loop-slot.invariant.so_far
