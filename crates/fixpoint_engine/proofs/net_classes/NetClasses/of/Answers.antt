use Rattle.std.proofs.Common.{◌≡◌, ℕ, List, length, sym, subst}
use Rattle.flat_circuit.specs.Stable.{IsStable}
use Rattle.fixpoint_engine.proofs.net_classes.NetClasses.of.Goals as goal

pub returns : goal.returns
returns c = record {
  stable =
      subst (λ (ks : List ℕ). (length ks ≡ length c.args.c.now.nets) × IsStable c.args.c.now
      c.args.cases.now ks) (sym c.in_ok-nets.ensures)
      (c.in_ok-numbers.ensures, c.if-not-stable.ensures);
  hearers = c.in_ok-hearers.ensures;
}
