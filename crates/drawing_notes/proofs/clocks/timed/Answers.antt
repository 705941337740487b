use Rattle.std.proofs.Common.{Bool, List, sym, subst}
use Rattle.fixpoint_engine.specs.Settled.{marked_in}
use Rattle.drawing_notes.specs.Paths.{leads}
use Rattle.drawing_notes.specs.Unmarked.{TellsTimed, is_timing, is_gated}
use Rattle.drawing_notes.proofs.Gating.{found_from}
use Rattle.drawing_notes.proofs.clocks.timed.Goals as goal

pub returns : goal.returns
returns c =
    subst (λ (set : List Bool). TellsTimed c.args.c.now (marked_in set)) (sym c.into_set.ensures)
    (found_from (λ from i. leads c.args.c.now i from) (is_gated c.args.c.now) (is_timing c.args.c.now) c.args.gated.now c.net_count.result c.in_ok-found.found c.add_timing.new.found
    c.trace.new.self c.requires.1 c.in_ok-found.ensures c.in_ok-add_timing.ensures c.in_ok-trace.ensures.is)
