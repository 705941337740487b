use Rattle.std.proofs.Common.{arith, ◌≡◌, ◌≤◌, ◌<◌, ◌+◌, ◌-◌, length, min, refl, ap, sym, ◌∙◌}
use Rattle.std.proofs.lemmas.Result.{IfOk-weaker}
use Rattle.wave_core.proofs.Slots.{length_slots}
use Rattle.wave_core.specs.Slots.{fold_at, folded}
use Rattle.run_wave.specs.Run.{cells_of}
use Rattle.run_wave.proofs.Turned.{folded_none}
use Rattle.run_wave.proofs.Doubled.{doubled_step}
use Rattle.run_wave.proofs.Wide.{wide_folded}
use Rattle.run_wave.proofs.run_wave.RunWaveCyclicWave.fold.Goals as goal

pub returns-then-back-eq0 : goal.returns-then-back-eq0
returns-then-back-eq0 g c =
    let k = g.T.Cell.kind in
    let xs = cells_of c.args.self.now.list.runs.items in
    let shortest = c.args.self.now.sized.shortest in
    let none : c.args.back ≡ 0 = c.if-back-eq0.true in
    IfOk-weaker c.copy.result (λ w. cells_of w.list.runs.items ≡ xs) (λ w. cells_of w.list.runs.items ≡ folded k xs c.args.back)
    (λ w e. e ∙ folded_none k xs (omega (arith, shortest)) ∙ ap (folded k xs) (sym none))
    c.copy.ensures

pub joined_later-requires-clause-below : goal.joined_later-requires-clause-below
joined_later-requires-clause-below g c =
    let counted = c.args.self.now.list.counted in
    omega (arith, counted, c.requires)

pub returns-then-are_wide : goal.returns-then-are_wide
returns-then-are_wide g c =
    let xs = cells_of c.args.self.now.list.runs.items in
    IfOk-weaker c.joined_later.result _ (λ w. cells_of w.list.runs.items ≡ folded g.T.Cell.kind xs c.args.back)
    (λ w e. e ∙ wide_folded g.T.Cell.kind g.met.T.Cell.laws c.args.self.now.list.runs.items c.args.back (c.are_wide.ensures c.if-are_wide.true) c.requires)
    c.joined_later.ensures

pub joined_later-requires-2-clause-below : goal.joined_later-requires-2-clause-below
joined_later-requires-2-clause-below g c =
    let counted = c.args.self.now.list.counted in
    omega (arith, counted, c.requires, c.if-back-eq0.false)

pub loop-reach-init : goal.loop-reach-init
loop-reach-init g c =
    let k = g.T.Cell.kind in
    let xs = cells_of c.args.self.now.list.runs.items in
    let shortest = c.args.self.now.sized.shortest in
    record {
      so_far = doubled_step k g.met.T.Cell.laws xs xs (cells_of c.in_ok-wave.wave.list.runs.items) 0 1 1 (omega (arith, shortest))
          (omega arith) (omega arith) (folded_none k xs (omega (arith, shortest))) c.in_ok-wave.ensures;
      within = omega (arith, c.if-back-eq0.false);
    }

pub joined_later-requires-in-loop-reach-clause-below : goal.joined_later-requires-in-loop-reach-clause-below
joined_later-requires-in-loop-reach-clause-below g c =
    let xs = cells_of c.args.self.now.list.runs.items in
    let by : c.min-by.result ≡ min (c.loop-reach.reach + 1) (c.args.back - c.loop-reach.reach) = grind arith in
    let long : length (cells_of c.loop-reach.wave.list.runs.items) ≡ length xs =
    ap length c.loop-reach.invariant.so_far ∙ length_slots (length xs) (fold_at g.T.Cell.kind xs c.loop-reach.reach) in
    let counted = c.loop-reach.wave.list.counted in
    omega (arith, by, long, counted, c.requires)

pub loop-reach-preserved : goal.loop-reach-preserved
loop-reach-preserved g c =
    let shortest = c.args.self.now.sized.shortest in
    let by : c.min-by.result ≡ min (c.loop-reach.reach + 1) (c.args.back - c.loop-reach.reach) = grind arith in
    let more : c.loop-reach.reach < c.args.back = omega arith in
    let within : c.loop-reach.reach + c.min-by.result ≤ c.args.back = omega (arith, by, more) in
    record {
      so_far = doubled_step g.T.Cell.kind g.met.T.Cell.laws (cells_of c.args.self.now.list.runs.items) (cells_of c.loop-reach.wave.list.runs.items)
          (cells_of c.in_ok-wave-2.wave.list.runs.items) c.loop-reach.reach c.min-by.result (c.loop-reach.reach + c.min-by.result)
          (omega (arith, shortest)) (omega (arith, by)) refl c.loop-reach.invariant.so_far c.in_ok-wave-2.ensures;
      within = within;
    }
