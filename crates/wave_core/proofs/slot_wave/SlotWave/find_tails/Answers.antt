use Rattle.std.proofs.Common.{◌≡◌, ◌+◌, ◌++◌, [], ◌∷◌, rules, arith, ◌∙◌}
use Rattle.wave_core.specs.Fold.{tail, tails}
use Rattle.wave_core.proofs.Fold.{tail_last, tail_first}
use Rattle.wave_core.proofs.Slots.{slots_push}
use Rattle.wave_core.proofs.slot_wave.SlotWave.find_tails.Goals as goal

pub loop-n-init : goal.loop-n-init
loop-n-init g c =
    let k = g.T.Cell.kind in
    let cells = c.args.self.now.cells.items in
    let last : c.cell_before-joined.result ≡ tail k cells c.args.back c.args.from 0 =
    c.cell_before-joined.ensures ∙ tail_last k cells c.args.back c.args.from in
    let empty : c.clear.new.self.items ≡ [] = c.clear.ensures.items in
    let pushed : c.push.new.self.items ≡ c.clear.new.self.items ++ c.cell_before-joined.result ∷ [] = search rules in
    record {
      so_far = pushed ∙ (λ i. empty i ++ last i ∷ []);
      last = last;
    }

pub loop-n-preserved : goal.loop-n-preserved
loop-n-preserved g c =
    let k = g.T.Cell.kind in
    let cells = c.args.self.now.cells.items in
    let last : c.join-joined.result ≡ tail k cells c.args.back c.args.from (c.loop-n.n + 1) =
    c.join-joined.ensures ∙ (λ i. k.join (c.cell_before.ensures i) (c.loop-n.invariant.last i))
    ∙ tail_first k g.met.T.Cell.laws cells c.args.back c.args.from c.loop-n.n (omega arith) in
    let pushed : c.push-in-loop-n.new.self.items ≡ c.loop-n.tails.items ++ c.join-joined.result ∷ [] = search rules in
    record {
      so_far = pushed ∙ slots_push (c.loop-n.n + 1) (tail k cells c.args.back c.args.from) c.loop-n.tails.items c.join-joined.result c.loop-n.invariant.so_far last;
      last = last;
    }

pub returns : goal.returns
unfolding tails
returns g c =
    let end : c.loop-n.n ≡ c.args.back = omega arith in
    rw end at c.loop-n.invariant.so_far
