use Rattle.std.proofs.Common.{◌≡◌, ◌||◌, ◌++◌, [], drop}
use Rattle.drawing_tree.specs.Canonical.{bracketed_if_some, formal_text}
use Rattle.netlist_import.specs.Body.{formals_named}
use Rattle.netlist_import.proofs.Bracketed.{is_any, rest_text}
use Rattle.netlist_import.proofs.head.add_formals.Given as goal

abbrev pub invariant-loop-place : goal.invariant-loop-place
invariant-loop-place l = record {
  some :
      is_any (formals_named l.direction l.ports l.names)
      ≡ (l.is_some || is_any (formals_named l.direction (drop l.place l.ports)
      (drop l.place l.names)));
  text :
      l.initial.out ++ bracketed_if_some l.before [] formal_text
      (formals_named l.direction l.ports l.names)
      ≡ l.out ++ rest_text l.is_some l.before formal_text
      (formals_named l.direction (drop l.place l.ports) (drop l.place l.names));
}
