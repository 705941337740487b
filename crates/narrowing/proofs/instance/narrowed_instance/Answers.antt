use Rattle.std.proofs.Common.{◌∙◌, ◌+◌, ap, arith, drop}
use Rattle.narrowing.specs.Narrowed.{by_parts}
use Rattle.narrowing.proofs.Fitting.{more_parts}
use Rattle.narrowing.proofs.instance.narrowed_instance.Goals as goal

pub loop-part-preserved : goal.loop-part-preserved
loop-part-preserved c =
    let one = c.narrow_by-fits.ensures.is c.if-not-fits.false in
    record {
      is = ap (λ x. by_parts c.args.k x (drop (c.loop-part.part-index + 1) c.args.parts.now)) one
          ∙ more_parts c.args.k c.loop-part.narrowed c.args.parts.now c.loop-part.part-index _ (omega arith)
          ∙ c.loop-part.invariant.is;
      fits = λ h nets fits. c.narrow_by-fits.ensures.fits h nets (c.loop-part.invariant.fits h nets fits) c.if-not-fits.false;
    }
