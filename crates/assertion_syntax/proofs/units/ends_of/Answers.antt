use Rattle.std.proofs.Common.{ℕ}
use Rattle.std.proofs.lemmas.List.{length-replicate}
use Rattle.assertion_syntax.proofs.Covered.{no_ends, ends_more}
use Rattle.assertion_syntax.proofs.units.ends_of.Goals as goal

pub spans-init : goal.spans-init
spans-init c = record { size = length-replicate {A = ℕ} 4096 0; are = no_ends c.args.units 4096 }

pub spans-preserved : goal.spans-preserved
spans-preserved c = record {
  size = c.type_inv.ends;
  are = rw c.add.ensures (ends_more c.args.units c.spans.ends c.args.spans.now c.spans.span-index
      (record { lo = 0; hi = 0 }) c.spans.invariant.size c.requires.few c.requires.fit c.spans-test.true c.spans.invariant.are);
}
