use Rattle.std.proofs.Common.{arith, ◌≡◌, ◌++◌, ◌∷◌, [], length, take, sym, ap, ◌∙◌}
use Rattle.run_wave.specs.Run.{cells_of}
use Rattle.std.proofs.lemmas.List.{take_all, take_more, length-take}
use Rattle.wave_core.proofs.Slots.{period_length}
use Rattle.run_wave.proofs.run_wave.RunWaveCyclicWave.from_slots.Goals as goal

pub push-requires : goal.push-requires
push-requires g c =
    let long = ap length c.loop-cell.invariant ∙ length-take c.loop-cell.cell-index c.args.slots.now in
    let counted = c.loop-cell.list.counted in
    let longest = c.requires.longest in
    omega (arith, long, counted, longest)

pub loop-cell-preserved : goal.loop-cell-preserved
loop-cell-preserved g c =
    let slots = c.args.slots.now in
    let x = c.cell-item.result in
    c.in_ok-push.ensures ∙ ap (λ l. l ++ x ∷ []) c.loop-cell.invariant ∙ ap (λ y. take c.loop-cell.cell-index slots ++ y ∷ []) c.cell-item.is
    ∙ sym (take_more slots c.loop-cell.cell-index x (omega arith))

pub invariant_of-result : goal.invariant_of-result
invariant_of-result g c =
    let all : take c.loop-cell.cell-index c.args.slots.now ≡ c.args.slots.now = take_all c.loop-cell.cell-index c.args.slots.now (omega arith) in
    record { sized = period_length (cells_of c.loop-cell.list.runs.items) (length c.args.slots.now) (ap length (c.loop-cell.invariant ∙ all)) c.requires }

pub returns : goal.returns
returns g c =
    let all : take c.loop-cell.cell-index c.args.slots.now ≡ c.args.slots.now = take_all c.loop-cell.cell-index c.args.slots.now (omega arith) in
    c.loop-cell.invariant ∙ all
