use Rattle.std.proofs.Common.{◌∙◌, sym}
use Rattle.fixpoint_engine.proofs.Growing.{grows_trans}
use Rattle.fixpoint_engine.proofs.TableByNumber.{known_more, number_below, number_reads, renumbered_more}
use Rattle.fixpoint_engine.proofs.evaluations.Evaluations.take_in.Goals as goal

pub loop-number-preserved : goal.loop-number-preserved
loop-number-preserved g c =
    let old = c.loop-number.self in
    let new = c.number.new.self in
    let n = c.in_ok-given.given in
    let w = c.in_ok-wave.wave in
    let before = c.loop-number.invariant in
    let given = c.in_ok-given.ensures in
    record {
      grows = grows_trans c.args.self.now old new before.grows given.grows;
      known = known_more old new c.loop-number.here c.push.new.self n given.grows before.known (number_below new w n given.means) c.in_ok-push.ensures.ok;
      same = renumbered_more c.args.table.now old new c.args.numbers.now c.loop-number.here c.push.new.self c.loop-number.number-index n w c.loop-number-test.true
          given.grows before.known given.means c.in_ok-push.ensures.ok
          (c.in_ok-wave.ensures ∙ sym (number_reads c.args.table.now c.wave.result.now _ c.wave.ensures)) before.same;
    }
