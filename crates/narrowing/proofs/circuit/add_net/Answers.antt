use Rattle.std.proofs.Common.{subst, sym}
use Rattle.scald_base.specs.Fitting.{Fits}
use Rattle.scald_base.specs.Time.{Header}
use Rattle.narrowing.proofs.circuit.add_net.Goals as goal

pub net-given-requires : goal.net-given-requires
net-given-requires c = subst (λ (h : Header). Fits h c.args.spec.now) (sym c.requires.header) c.requires.fits
