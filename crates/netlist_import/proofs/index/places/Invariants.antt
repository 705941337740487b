use Rattle.std.proofs.Common.{◌≡◌, ◌≤◌, length, List, ℕ}
use Rattle.std.specs.Borrow.{Bor}
use Rattle.std.specs.Map.{lookup}
use Rattle.std.specs.Str.{bytes_eq}
use Rattle.netlist_import.specs.Index.{is_key}
use Rattle.netlist_import.proofs.Found.{place_from}
use Rattle.netlist_import.proofs.index.places.Given as goal

abbrev pub invariant-loop-place : goal.invariant-loop-place
invariant-loop-place g l = record {
  within : l.place ≤ length l.items;
  known : (name : Bor (List ℕ)) → lookup (is_key name) l.places.entries
      ≡ place_from l.place (λ x. bytes_eq (g.T.Named.name x) name.now) l.items;
}

abbrev pub decreases-loop-place : goal.decreases-loop-place
decreases-loop-place g l = l.place
