use Rattle.std.proofs.Common.{◌≡◌, ◌∙◌, ◌&&◌, ◌==◌, length, take, get_or, ap, arith, Some}
use Rattle.std.proofs.lemmas.List.{take_all}
use Rattle.flat_circuit.specs.Circuit.{driver}
use Rattle.flat_circuit.specs.Alike.{class_of}
use Rattle.fixpoint_engine.specs.Hearers.{row_of}
use Rattle.fixpoint_engine.specs.Members.{is_evaluated, leads_in}
use Rattle.fixpoint_engine.specs.Settled.{marked_in}
use Rattle.fixpoint_engine.specs.Work.{hears_in}
use Rattle.fixpoint_engine.specs.Worklist.{among}
use Rattle.fixpoint_engine.proofs.Listening.{adds_same}
use Rattle.fixpoint_engine.proofs.Rows.{hearer_below, among_at, adds_one_more, all_heard}
use Rattle.fixpoint_engine.proofs.queue.Queue.add_firsts.Goals as goal

pub add_active-requires : goal.add_active-requires
add_active-requires c =
    let row = row_of c.args.hearers.now c.args.first in
    let long : length c.of_first-net-items.result.now ≡ length row = ap length c.of_first-net-items.ensures in
    let at : get_or c.of_first-net-items.result.now c.loop-net.net-index 0 ≡ get_or row c.loop-net.net-index 0 = ap (λ r. get_or r c.loop-net.net-index 0) c.of_first-net-items.ensures in
    let there = hearer_below c.args.c.now c.args.classes.now c.args.hearers.now c.args.first (get_or row c.loop-net.net-index 0) c.requires.hearers c.requires.first
    (among_at row c.loop-net.net-index (omega (arith, long, c.loop-net-test.true))) in
    omega (arith, at, there, c.requires.each_net, c.loop-net.invariant.each_net)

pub loop-net-preserved : goal.loop-net-preserved
loop-net-preserved c =
    let row = row_of c.args.hearers.now c.args.first in
    let long : length c.of_first-net-items.result.now ≡ length row = ap length c.of_first-net-items.ensures in
    record {
      each_net = c.in_ok-add_active.ensures.each_net ∙ c.loop-net.invariant.each_net;
      marks = λ i. adds_one_more row c.loop-net.net-index i _ (marked_in c.args.active.now i) _ _ _ (omega (arith, long, c.loop-net-test.true))
          (ap (λ r. get_or r c.loop-net.net-index 0) c.of_first-net-items.ensures) (c.loop-net.invariant.marks i) (c.in_ok-add_active.ensures.marks i);
    }

pub returns : goal.returns
returns c =
    let row = row_of c.args.hearers.now c.args.first in
    let long : length c.of_first-net-items.result.now ≡ length row = ap length c.of_first-net-items.ensures in
    adds_same (λ i. marked_in c.args.active.now i && among (take c.loop-net.net-index row) i)
    (λ i. is_evaluated c.args.active.now (Some c.args.classes.now) i && hears_in (λ j. class_of c.args.classes.now c.args.first == class_of c.args.classes.now j) (driver c.args.c.now i))
    c.args.self.now c.loop-net.self c.loop-net.invariant
    (λ i. all_heard (marked_in c.args.active.now i) (leads_in (Some c.args.classes.now) i) _ _
    (ap (λ r. among r i) (take_all c.loop-net.net-index row (omega (arith, long, c.loop-net-test.false))) ∙ c.requires.hearers.are c.args.first i c.requires.first))
