use Rattle.std.proofs.Common.{get_or}
use Rattle.fixpoint_engine.proofs.Places.{own_default}
use Rattle.fixpoint_engine.proofs.Members.{class_more}
use Rattle.fixpoint_engine.proofs.class_changes.for_classes.Goals as goal

pub add_class-requires : goal.add_class-requires
add_class-requires c = c.requires c.loop-change.change-index (record { net = 0; number = 0 }) c.loop-change-test.true

pub loop-change-preserved : goal.loop-change-preserved
loop-change-preserved c = λ read.
    let index = c.loop-change.change-index in
    class_more (λ ch. (ch.net, read ch.number)) c.args.classes.now c.args.changes.now index (get_or c.args.changes.now index (record { net = 0; number = 0 })) _ _
    c.loop-change-test.true (own_default c.args.changes.now index (record { net = 0; number = 0 }) c.loop-change-test.true) (c.loop-change.invariant read) (c.in_ok-add_class.ensures read)
