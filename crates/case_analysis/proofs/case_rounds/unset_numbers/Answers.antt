use Rattle.std.proofs.Common.{◌≡◌, ◌∙◌, ◌+◌, ◌<◌, [], length, map, ap, arith}
use Rattle.std.specs.List.{range_with_len}
use Rattle.std.proofs.lemmas.List.{length-map, length_push}
use Rattle.fixpoint_engine.specs.Table.{wave_at, waves_at}
use Rattle.fixpoint_engine.specs.Waves.{waves_of}
use Rattle.fixpoint_engine.specs.Settled.{marked_in}
use Rattle.case_analysis.specs.Case.{case_start}
use Rattle.case_analysis.proofs.Start.{listed_is}
use Rattle.case_analysis.proofs.Cases.{past_set}
use Rattle.case_analysis.proofs.Numbered.{unset, unset_known, unset_more, unset_other, unset_reached}
use Rattle.case_analysis.proofs.case_rounds.unset_numbers.Goals as goal
use Rattle.case_analysis.proofs.case_rounds.unset_numbers.Goals.{then-has, else-has}

pub loop-net-preserved : goal.loop-net-preserved
loop-net-preserved c =
    let cone = c.args.cone.now in
    let before = c.args.before.now in
    let net = c.loop-net.net in
    let so_far = c.loop-net.invariant in
    let below : net < length before = omega (arith, c.loop-net-test.true, c.net_count-net-end.ensures, c.requires.each_net) in
    let is : c.if-has.push ≡ unset cone before c.args.unknown net = elim c.if-has.branch [
      | then-has w ↦ unset_reached cone before c.args.unknown net c.if-has.push c.has.result c.has.ensures w.if-has.true w.push-is
      | else-has w ↦ unset_other cone before c.args.unknown net c.if-has.push c.has.result c.has.ensures w.if-has.false w.push-is
    ] in
    record {
      known = λ table known inside. unset_known table cone before c.loop-net.numbers c.push.new.self c.args.unknown net c.if-has.push below
          c.in_ok-push.ensures.ok is known inside (so_far.known table known inside);
      is = λ table at. unset_more table cone before c.loop-net.numbers c.push.new.self c.args.unknown net c.if-has.push below
          c.in_ok-push.ensures.ok is c.args.c.now at (so_far.is table at);
      long = ap length c.in_ok-push.ensures.ok ∙ length_push c.loop-net.numbers c.if-has.push ∙ ap (λ n. n + 1) so_far.long;
    }

pub returns-clause-each_net : goal.returns-clause-each_net
returns-clause-each_net c =
    let long = c.loop-net.invariant.long in
    omega (arith, long, c.loop-net-test.false, c.loop-net.auto.net-end, c.net_count-net-end.ensures)

pub returns-clause-is : goal.returns-clause-is
returns-clause-is c table at i =
    let whole : c.loop-net.net ≡ length c.args.c.now.nets = omega (arith, c.loop-net-test.false, c.loop-net.auto.net-end, c.net_count-net-end.ensures) in
    let start = case_start c.args.c.now [] (marked_in c.args.cone.now) (waves_of (waves_at table c.args.before.now)) in
    let each : length (waves_at table c.args.before.now) ≡ length c.args.c.now.nets = length-map c.args.before.now (wave_at table) ∙ c.requires.each_net in
    listed_is start (length c.args.c.now.nets) (waves_at table c.loop-net.numbers)
    (c.loop-net.invariant.is table at ∙ ap (λ n. map start (range_with_len 0 n)) whole)
    (λ j past. past_set c.args.cone.now (waves_at table c.args.before.now) c.args.c.now j (omega (arith, c.requires.cone, past)) (omega (arith, each, past))) i
