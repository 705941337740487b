use Rattle.std.proofs.Common.{sym, arith}
use Rattle.scald_base.specs.Fitting.{skew_of}
use Rattle.assertion_syntax.proofs.Edges.{overlap_decided}
use Rattle.assertion_syntax.proofs.fitting.edges_overlap.Goals as goal

pub returns-in-Clock : goal.returns-in-Clock
returns-in-Clock c =
    rw c.in-Clock.is (overlap_decided c.in-Clock.clock c.args.h.now (skew_of c.in-Clock.clock c.args.h.now.cskew) c.are_near.result
    (omega (arith, c.known.ensures.shortest))
    (rw (sym c.skew-early.ensures) (rw (c.from.ensures, c.from-in-Clock.ensures) at c.are_near.ensures)))
