use Rattle.std.proofs.Common.{Bool, List, sym, subst}
use Rattle.fixpoint_engine.specs.Settled.{marked_in}
use Rattle.drawing_notes.specs.Paths.{leads}
use Rattle.drawing_notes.specs.Unmarked.{TellsClocks, is_clock, is_gated}
use Rattle.drawing_notes.proofs.Gating.{found_from}
use Rattle.drawing_notes.proofs.clocks.clocks.Goals as goal

pub returns : goal.returns
returns c =
    subst (λ (set : List Bool). TellsClocks c.args.c.now (marked_in set)) (sym c.into_set.ensures)
    (found_from (leads c.args.c.now) (is_gated c.args.c.now) (is_clock c.args.c.now) c.args.gated.now c.net_count.result c.in_ok-found.found c.add_clocks.new.found
    c.follow.new.self c.requires.1 c.in_ok-found.ensures c.in_ok-add_clocks.ensures c.in_ok-follow.ensures.is)
