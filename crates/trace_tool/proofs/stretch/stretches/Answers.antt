use Rattle.std.proofs.Common.{◌<◌, length, ap, sym, ◌∙◌, arith}
use Rattle.trace_tool.specs.declared.stretch.Stretch.{Stretch}
use Rattle.trace_tool.proofs.DumpCutting.{goes_on, stops}
use Rattle.trace_tool.proofs.stretch.stretches.Goals as goal
use Rattle.trace_tool.proofs.stretch.stretches.Goals.{then-not-follows+in_ok-push, else-not-follows}

pub loop-place-preserved : goal.loop-place-preserved
loop-place-preserved c =
    let below : c.loop-place.place < length c.args.c.now.nets = (let count = c.net_count-count.ensures in let inside = c.loop-place-test.true in omega (arith, count, inside)) in
    record {
      all = elim c.if-not-follows.branch [
        | then-not-follows+in_ok-push w ↦
            stops c.args.c.now c.loop-place.stretch c.if-not-follows.stretch c.loop-place.place (length c.args.c.now.nets) c.loop-place.found c.if-not-follows.found _
            below (sym c.follows.ensures ∙ w.if-not-follows.true) w.stretch-is
            (w.found-is ∙ w.in_ok-push.ensures.ok) c.loop-place.invariant.all
        | else-not-follows w ↦
            goes_on c.args.c.now c.loop-place.stretch c.if-not-follows.stretch c.loop-place.place (length c.args.c.now.nets) c.loop-place.found c.if-not-follows.found _
            below (sym c.follows.ensures ∙ w.if-not-follows.false) w.stretch-is w.found-is c.loop-place.invariant.all
      ];
      few = elim c.if-not-follows.branch [
        | then-not-follows+in_ok-push w ↦
            (let same = ap (λ (s : Stretch). s.number) w.stretch-is in let few = c.loop-place.invariant.few in omega (arith, same, few))
        | else-not-follows w ↦
            (let same = ap (λ (s : Stretch). s.number) w.stretch-is in let few = c.loop-place.invariant.few in omega (arith, same, few))
      ];
    }
