use Rattle.std.proofs.Common.{◌≡◌, ◌++◌, [], ◌∷◌, rules, sym, ◌∙◌, arith}
use Rattle.std.proofs.lemmas.Option.{get_or_from_slice_get}
use Rattle.step_values.specs.Cell.{values}
use Rattle.step_values.specs.declared.value.Value.TheVariants.{U}
use Rattle.skew_algebra.specs.Wave.{cell_at}
use Rattle.gate_eval.proofs.Scanned.{map_next}
use Rattle.gate_eval.proofs.meeting.read_slot.Goals as goal

pub loop-wave-preserved : goal.loop-wave-preserved
loop-wave-preserved g c =
    let pushed : c.push.new.self.items ≡ c.loop-wave.found.items ++ c.at.result ∷ [] = search rules in
    pushed
    ∙ map_next (λ w. cell_at values (g.W.CyclicWave.cells w) c.args.slot) c.args.waves.now c.loop-wave.wave-index c.wave-item.result c.loop-wave.found.items c.at.result
    (omega arith) c.wave-item.is c.loop-wave.invariant
    (sym (get_or_from_slice_get (g.W.CyclicWave.cells c.wave-item.result) c.args.slot c.at.result U c.at.ensures))
