-- What is known of a chain while it is made.
use Rattle.std.specs.Prelude.{◌≡◌, ℕ, ◌==◌, Bool, false, List, length}
use Rattle.std.specs.List.{list_any}
use Rattle.fixpoint_engine.specs.Settled.{marked_in}
use Rattle.fault_chain.specs.declared.chain.Link.{Link}

-- There is a mark for each net, and no net was met but those of the links.
pub record HasMet (nets : ℕ) (links : List Link) (met : List Bool) : Type 0 where
  pub long : length met ≡ nets
  pub others : (i : ℕ) → list_any (λ (link : Link). link.net == i) links ≡ false →
      marked_in met i ≡ false
