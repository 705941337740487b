use Rattle.std.proofs.Common.{◌≡◌, ◌∙◌, sym, ap, refl, arith, false, [], length, replicate}
use Rattle.std.proofs.lemmas.Grind.{common_steps}
use Rattle.std.proofs.lemmas.List.{length-set}
use Rattle.fixpoint_engine.specs.Worklist.{Queue}
use Rattle.fixpoint_engine.proofs.Waiting.{last_exists, take_last, same_queue, none_waits}
use Rattle.drawing_notes.proofs.found.Found.clear.Goals as goal

pub remove-requires : goal.remove-requires
remove-requires c = last_exists c.loop-net.self-inside.nets.items c.pop.new.self.items c.loop-net.self-inside.marks c.in-Some.net c.in-Some.ensures.items c.loop-net.invariant.queue

pub loop-net-preserved : goal.loop-net-preserved
loop-net-preserved c = record {
  queue = take_last c.loop-net.self-inside.nets.items c.pop.new.self.items c.loop-net.self-inside.marks
      c.remove.new.self c.in-Some.net c.in-Some.ensures.items c.remove.ensures c.loop-net.invariant.queue;
  each_net = ap length c.remove.ensures ∙ length-set c.loop-net.self-inside.marks c.in-Some.net false ∙ c.loop-net.invariant.each_net;
}

pub returns-clause-marks : goal.returns-clause-marks
returns-clause-marks c =
    let none : c.loop-net.self-inside.nets.items ≡ [] = grind (arith, common_steps, c.in_default.ensures.items, c.in_default.ensures.cases) in
    none_waits c.loop-net.self-inside.marks (same_queue c.loop-net.self-inside.nets.items [] c.loop-net.self-inside.marks c.loop-net.self-inside.marks (sym none) refl c.loop-net.invariant.queue)
    ∙ ap (λ n. replicate n false) (c.loop-net.invariant.each_net ∙ ap (λ (q : Queue). length q.marks) c.self.view_is)
