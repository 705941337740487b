use Rattle.std.proofs.Common.{◌∙◌, map, ap}
use Rattle.std.proofs.lemmas.List.{take_all}
use Rattle.fixpoint_engine.specs.Table.{wave_at, waves_at}
use Rattle.fixpoint_engine.specs.Members.{for_classes}
use Rattle.fixpoint_engine.specs.Worklist.{changed}
use Rattle.fixpoint_engine.proofs.Added.{known_of}
use Rattle.fixpoint_engine.proofs.Members.{classes_applied}
use Rattle.fixpoint_engine.proofs.changes.apply_classes.Goals as goal

pub loop-change-preserved : goal.loop-change-preserved
loop-change-preserved c =
    let index = c.loop-change.change-index in
    let before = c.loop-change.invariant in
    record {
      long = c.apply_class.ensures.each_net ∙ before.long;
      known = λ table old new. c.apply_class.ensures.known table (before.known table old new)
          (known_of (λ ch. ch.number) table c.args.changes.now index (record { net = 0; number = 0 }) c.loop-change-test.true new);
      changed = λ table. classes_applied (λ ch. (ch.net, wave_at table ch.number)) c.args.classes.now c.args.changes.now index (record { net = 0; number = 0 })
          (waves_at table c.args.numbers.now) (waves_at table c.loop-change.numbers) (waves_at table c.apply_class.new.numbers) c.loop-change-test.true
          (before.changed table) (c.apply_class.ensures.changed table);
    }

pub returns-clause-changed : goal.returns-clause-changed
returns-clause-changed c table =
    c.loop-change.invariant.changed table
    ∙ ap (λ chs. changed (waves_at table c.args.numbers.now) (for_classes c.args.classes.now (map (λ ch. (ch.net, wave_at table ch.number)) chs)))
    (take_all c.loop-change.change-index c.args.changes.now c.loop-change-test.false)
