use Rattle.std.proofs.Common.{◌≡◌, nat_le, true, false, length, map, rules, sym}
use Rattle.std.specs.List.{zip}
use Rattle.std.proofs.lemmas.Result.{IfOk-weaker}
use Rattle.wave_core.specs.Slots.{slots}
use Rattle.step_values.specs.declared.value.Value.{Value}
use Rattle.gate_eval.specs.SplitWindow.{own_bits, both_end, slow_rise_bits, slow_fall_bits, bits_at}
use Rattle.gate_eval.proofs.Seen.{if_mapped}
use Rattle.gate_eval.proofs.SplitSlots.{slow_rise_made, slow_fall_made, own_made, zipped_long}
use Rattle.gate_eval.proofs.split.bits.Goals as goal

pub zip-requires-clause-periods : goal.zip-requires-clause-periods
zip-requires-clause-periods g c =
    let cells = g.W.CyclicWave.cells in
    sym (zipped_long (both_end true) (cells c.args.rise.now) (cells c.args.fall.now) (cells c.in_ok-both.both)
    (length (cells c.args.either.now)) c.in_ok-both.ensures c.requires.rise c.requires.fall)

pub returns-then-s : goal.returns-then-s
returns-then-s g c =
    let cells = g.W.CyclicWave.cells in
    let either = cells c.args.either.now in
    let rise = cells c.args.rise.now in
    let fall = cells c.args.fall.now in
    let both = cells c.in_ok-both.both in
    let is_slow : nat_le c.args.s.now.fall.max c.args.s.now.rise.min ≡ true = search rules in
    IfOk-weaker c.zip.result (λ w. cells w ≡ map (λ (q : Value × Value). slow_rise_bits q.0 q.1) (zip either both))
    (λ w. cells w ≡ slots (length either) (bits_at c.args.s.now either rise fall))
    (λ w e. slow_rise_made c.args.s.now either rise fall c.requires.rise c.requires.fall both (cells w) is_slow c.in_ok-both.ensures e)
    (if_mapped c.zip.result cells (λ (q : Value × Value). slow_rise_bits q.0 q.1) (zip either both) _ (λ x y h. search rules) c.zip.ensures)

pub zip-requires-then-s-2-clause-periods : goal.zip-requires-then-s-2-clause-periods
zip-requires-then-s-2-clause-periods g c =
    let cells = g.W.CyclicWave.cells in
    sym (zipped_long (both_end false) (cells c.args.rise.now) (cells c.args.fall.now) (cells c.in_ok-both-2.both)
    (length (cells c.args.either.now)) c.in_ok-both-2.ensures c.requires.rise c.requires.fall)

pub returns-then-s-2 : goal.returns-then-s-2
returns-then-s-2 g c =
    let cells = g.W.CyclicWave.cells in
    let either = cells c.args.either.now in
    let rise = cells c.args.rise.now in
    let fall = cells c.args.fall.now in
    let both = cells c.in_ok-both-2.both in
    let not_rise : nat_le c.args.s.now.fall.max c.args.s.now.rise.min ≡ false = search rules in
    let is_slow : nat_le c.args.s.now.rise.max c.args.s.now.fall.min ≡ true = search rules in
    IfOk-weaker c.zip-then-s-2.result (λ w. cells w ≡ map (λ (q : Value × Value). slow_fall_bits q.0 q.1) (zip either both))
    (λ w. cells w ≡ slots (length either) (bits_at c.args.s.now either rise fall))
    (λ w e. slow_fall_made c.args.s.now either rise fall c.requires.rise c.requires.fall both (cells w) not_rise is_slow c.in_ok-both-2.ensures e)
    (if_mapped c.zip-then-s-2.result cells (λ (q : Value × Value). slow_fall_bits q.0 q.1) (zip either both) _ (λ x y h. search rules) c.zip-then-s-2.ensures)

pub returns : goal.returns
returns g c =
    let cells = g.W.CyclicWave.cells in
    let either = cells c.args.either.now in
    let rise = cells c.args.rise.now in
    let fall = cells c.args.fall.now in
    let not_rise : nat_le c.args.s.now.fall.max c.args.s.now.rise.min ≡ false = search rules in
    let not_fall : nat_le c.args.s.now.rise.max c.args.s.now.fall.min ≡ false = search rules in
    IfOk-weaker c.map.result (λ w. cells w ≡ map own_bits either)
    (λ w. cells w ≡ slots (length either) (bits_at c.args.s.now either rise fall))
    (λ w e. own_made c.args.s.now either rise fall c.requires.rise c.requires.fall (cells w) not_rise not_fall e)
    (if_mapped c.map.result cells own_bits either _ (λ x y h. search rules) c.map.ensures)
