use Rattle.std.proofs.Common.{◌∙◌}
use Rattle.scald_base.proofs.Device.{at_err}
use Rattle.listing.proofs.Pieces.{wrote_more, wrote_all, stopped_in}
use Rattle.listing.proofs.output.write_parts.Goals as goal

pub parts-preserved : goal.parts-preserved
parts-preserved g c =
    let wrote = rw c.part_of.ensures at c.in_ok-write_all.ensures.ok in
    record {
      moved = wrote_more _ _ _ c.args.kept.now c.args.parts.now c.parts.part-index
          (record { from = 0; to = 0 }) c.parts-test.true c.parts.invariant.moved wrote;
      steady = c.in_ok-write_all.ensures.faults.steady ∙ c.parts.invariant.steady;
    }

pub returns-in_err-write_all-clause-err : goal.returns-in_err-write_all-clause-err
returns-in_err-write_all-clause-err g c =
    let front = rw c.part_of.ensures at c.in_err-write_all.ensures.err in
    at_err _ (stopped_in _ _ _ c.args.kept.now c.args.parts.now c.parts.part-index
    (record { from = 0; to = 0 }) c.parts-test.true c.parts.invariant.moved front)

pub returns-clause-ok : goal.returns-clause-ok
returns-clause-ok g c =
    wrote_all _ _ c.args.kept.now c.args.parts.now c.parts.part-index c.parts-test.false
    c.parts.invariant.moved
