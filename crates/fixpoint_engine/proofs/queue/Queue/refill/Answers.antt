use Rattle.std.proofs.Common.{◌∙◌, ◌&&◌, sym, ap, false, length, map, take, get_or}
use Rattle.std.proofs.Math.Bool.{and-false}
use Rattle.std.proofs.lemmas.List.{length-replicate}
use Rattle.flat_circuit.specs.Circuit.{driver}
use Rattle.fixpoint_engine.specs.Settled.{marked_in}
use Rattle.fixpoint_engine.specs.Members.{is_evaluated}
use Rattle.fixpoint_engine.proofs.Listening.{hears_none, taken_more, heard_more}
use Rattle.fixpoint_engine.proofs.Places.{own_default}
use Rattle.fixpoint_engine.proofs.Waiting.{unmarked}
use Rattle.fixpoint_engine.proofs.queue.Queue.refill.Goals as goal

pub loop-change-init : goal.loop-change-init
loop-change-init c = record {
  each_net = ap length c.clear.ensures.marks ∙ length-replicate (length c.args.self.now.marks) false ∙ c.requires.each_net;
  due = λ i. ap (λ marks. marked_in marks i) c.clear.ensures.marks ∙ unmarked (length c.args.self.now.marks) i
      ∙ sym (ap (λ b. is_evaluated c.args.active.now c.args.classes.now i && b) (hears_none (driver c.args.c.now i))
      ∙ and-false (is_evaluated c.args.active.now c.args.classes.now i));
}

pub loop-change-preserved : goal.loop-change-preserved
loop-change-preserved c = record {
  each_net = c.in_ok-add_hearers.ensures.each_net ∙ c.loop-change.invariant.each_net;
  due = λ i. heard_more (driver c.args.c.now i) (is_evaluated c.args.active.now c.args.classes.now i)
      (map (λ ch. ch.net) (take c.loop-change.change-index c.args.changes.now)) _ (get_or c.args.changes.now c.loop-change.change-index (record { net = 0; number = 0 })).net
      (marked_in c.loop-change.self.marks i) (marked_in c.add_hearers.new.self.marks i)
      (taken_more (λ ch. ch.net) c.args.changes.now c.loop-change.change-index (get_or c.args.changes.now c.loop-change.change-index (record { net = 0; number = 0 })) c.loop-change-test.true
      (own_default c.args.changes.now c.loop-change.change-index (record { net = 0; number = 0 }) c.loop-change-test.true))
      (c.loop-change.invariant.due i) (c.in_ok-add_hearers.ensures.marks i);
}
