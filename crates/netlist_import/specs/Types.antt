-- The modules of a netlist by their names, and which of them are used.
use Rattle.std.specs.Prelude.{◌≡◌, ℕ, Bool, List}
use Rattle.std.specs.List.{list_any}
use Rattle.std.specs.Map.{lookup}
use Rattle.std.specs.Str.{bytes_eq}
use Rattle.std.specs.Borrow.{Bor}
use Rattle.netlist_import.specs.Index.{is_key}
use Rattle.netlist_import.specs.Netlist.{place_named}
use Rattle.netlist_import.specs.Fault.{is_used}
use Rattle.netlist_import.specs.declared.netlist.Cell.{Cell}
use Rattle.netlist_import.specs.declared.netlist.Module.{Module}

-- a cell is of this type
abbrev pub is_of : List ℕ → Cell → Bool
is_of name c = bytes_eq c.kind name

-- What finds modules gives for each name the place of its first module, and the types are those of
-- all cells.
pub record AreTypes (ms : List Module) (places : List (Bor (List ℕ) × ℕ))
    (used : List (Bor (List ℕ))) : Type 0 where
  pub places_known : (name : Bor (List ℕ)) → lookup (is_key name) places ≡ place_named name.now ms
  pub used_known : (name : Bor (List ℕ)) → list_any (is_key name) used ≡ is_used ms name.now
