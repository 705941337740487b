use Rattle.std.proofs.Common.{◌∙◌, ◌++◌, ◌∷◌, [], sym}
use Rattle.fixpoint_engine.proofs.Growing.{grows_trans}
use Rattle.fixpoint_engine.proofs.TableByNumber.{known_more, waves_more, next_item, number_below}
use Rattle.fixpoint_engine.proofs.numbers.numbers_of.Goals as goal

pub loop-wave-preserved : goal.loop-wave-preserved
loop-wave-preserved g c =
    let w = c.in_ok-copy.field-0 in
    let g = c.in_ok-number.ensures.grows in
    let at = c.in_ok-number.ensures.means in
    let old = c.loop-wave.table in
    let new = c.number.new.self in
    record {
      grows = grows_trans c.args.table.now old new c.loop-wave.invariant.grows g;
      known = known_more old new c.loop-wave.numbers c.push.new.self c.in_ok-number.number g c.loop-wave.invariant.known
          (number_below new w c.in_ok-number.number at) c.in_ok-push.ensures.ok;
      same = waves_more old new c.loop-wave.numbers c.push.new.self c.in_ok-number.number w g c.loop-wave.invariant.known at c.in_ok-push.ensures.ok
          ∙ (λ i. c.loop-wave.invariant.same i ++ (c.in_ok-copy.ensures ∙ c.wave-item.is) i ∷ [])
          ∙ sym (next_item c.args.waves.now c.loop-wave.wave-index c.wave-item.result c.loop-wave-test.true);
    }
