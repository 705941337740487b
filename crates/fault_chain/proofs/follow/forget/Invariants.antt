use Rattle.std.proofs.Common.{◌≡◌, ℕ, drop, false, length}
use Rattle.std.specs.Prelude.{◌==◌}
use Rattle.std.specs.List.{list_any}
use Rattle.fixpoint_engine.specs.Settled.{marked_in}
use Rattle.fault_chain.specs.declared.chain.Link.{Link}
use Rattle.fault_chain.proofs.follow.forget.Given as goal

-- no net is marked but those of the links from here on
abbrev pub invariant-loop-link : goal.invariant-loop-link
invariant-loop-link l = record {
  long : length l.met ≡ length l.fn.met;
  others : (i : ℕ) → list_any (λ (one : Link). one.net == i) (drop l.link-index l.links) ≡ false → marked_in l.met i ≡ false;
}
