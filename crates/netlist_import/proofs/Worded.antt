-- Labels and ports are words.
use Rattle.std.proofs.Common.{◌≡◌, ℕ, ◌+◌, ◌<◌, ◌^◌, Bool, true, false, cond, List, [], ◌∷◌, ◌++◌, length, map, codes, refl, sym, subst, ◌∙◌, arith, Option, Some, None}
use Rattle.std.specs.Prelude.{filter}
use Rattle.std.specs.List.{AllByRecursion}
use Rattle.std.proofs.lemmas.List.{append_assoc, append-nil, length-map, length_push, map-append}
use Rattle.std.proofs.lemmas.List.Elements.{All-from_recursion}
use Rattle.drawing_tree.specs.Tree as tree
use Rattle.drawing_tree.specs.WellFormed.{IsFreeWord, labels}
use Rattle.drawing_tree.proofs.Every.{every_append}
use Rattle.netlist_import.specs.declared.netlist.Direction.{Direction}
use Rattle.netlist_import.specs.declared.netlist.Direction.TheVariants.{Input, Output}
use Rattle.netlist_import.specs.declared.netlist.Port.{Port}
use Rattle.netlist_import.specs.declared.netlist.NetName.{NetName}
use Rattle.netlist_import.specs.declared.netlist.Cell.{Cell}
use Rattle.netlist_import.specs.declared.netlist.Module.{Module}
use Rattle.netlist_import.specs.declared.nets.Nets.{Nets}
use Rattle.netlist_import.specs.declared.outlets.Outlet.{Outlet}
use Rattle.netlist_import.specs.declared.shapes.Formal.{Formal}
use Rattle.netlist_import.specs.declared.shapes.Shape.{Shape}
use Rattle.netlist_import.specs.Words.{counted, word_of}
use Rattle.netlist_import.specs.Fresh.{fresh, names_after}
use Rattle.netlist_import.specs.Kinds.{formal_of, formals_of, has_bits, is_same_way}
use Rattle.netlist_import.specs.Nets.{Wanted, nets_wanted, no_nets, own_nets, own_wires, port_wanted, with_all, with_net, with_wanted}
use Rattle.netlist_import.specs.Body.{buffer_labels, buffers, cell_label, cell_labels, cells_written, formal_range, formals_named, hidden_after, listed, macro_of}
use Rattle.netlist_import.specs.Design.{empty_macro, formal_names}
use Rattle.netlist_import.specs.Good.{DeclaresWords, IsModest, outlets_of}
use Rattle.netlist_import.proofs.Named.{as_many_names}
use Rattle.netlist_import.proofs.WordBytes.{IsSpelled, fresh_word, spelled_counted, spelled_word}
use Rattle.netlist_import.proofs.GoodNames.{names_each}
use Rattle.netlist_import.proofs.Declared.{buffers_sub, cells_sub, each_buffer, each_labelled, labels_both, picked, some_picked, sub_all, sub_both}

-- ---- labels

spelled_label : (hidden : ℕ) (c : Cell) → hidden < 2 ^ 64 → IsSpelled (cell_label hidden c)
spelled_label hidden c small = at c.is_hidden
  where
    at : (b : Bool) → IsSpelled (cond b (counted (codes "c") hidden) (word_of c.name))
    at true = spelled_counted (codes "c") hidden small refl refl
    at false = spelled_word c.name

spelled_labels : (hidden : ℕ) (cells : List Cell) → hidden + length cells < 2 ^ 64 →
    AllByRecursion IsSpelled (cell_labels hidden cells)
unfolding cell_labels
spelled_labels hidden [] small = tt
spelled_labels hidden (c ∷ cs) small = (
  spelled_label hidden c (omega arith),
  spelled_labels (hidden_after hidden c) cs (after c.is_hidden),
)
  where
    after : (b : Bool) → cond b (hidden + 1) hidden + length cs < 2 ^ 64
    after true = omega arith
    after false = omega arith

spelled_buffers : (n : ℕ) (os : List Outlet) → n + length os < 2 ^ 64 →
    AllByRecursion IsSpelled (buffer_labels n os)
unfolding buffer_labels
spelled_buffers n [] small = tt
spelled_buffers n (o ∷ os) small = (
  spelled_counted (codes "thru") n (omega arith) refl refl,
  spelled_buffers (n + 1) os (omega arith),
)

all_labelled : (m : Module) (used : List (Option Shape)) →
    length m.cells + length (outlets_of m used) < 2 ^ 64 →
    AllByRecursion IsFreeWord (names_after [] (cell_labels 0 m.cells)
    ++ names_after (names_after [] (cell_labels 0 m.cells)) (buffer_labels 0 (outlets_of m used)))
all_labelled m used small =
    let cells = cell_labels 0 m.cells in
    let others = buffer_labels 0 (outlets_of m used) in
    let names = names_after [] cells in
    let some = each_labelled 0 m.cells in
    let more = each_buffer 0 (outlets_of m used) in
    let named = as_many_names [] cells in
    every_append IsFreeWord names (names_after names others)
    (names_each IsFreeWord IsSpelled fresh_word [] cells (omega arith)
    (spelled_labels 0 m.cells (omega arith)))
    (names_each IsFreeWord IsSpelled fresh_word names others (omega arith)
    (spelled_buffers 0 (outlets_of m used) (omega arith)))

-- ---- ports

-- The first names, one for each port, are words.
abbrev AreFirst : List Formal → List (List ℕ) → Type 0
AreFirst [] names = Unit {0}
AreFirst (f ∷ fs) [] = Unit {0}
AreFirst (f ∷ fs) (name ∷ names) = IsFreeWord name × AreFirst fs names

first_picked : (way : Direction) (fs : List Formal) (names : List (List ℕ)) → AreFirst fs names →
    AllByRecursion IsFreeWord (picked way fs names)
unfolding formals_named
first_picked way [] names all = tt
first_picked way (f ∷ fs) [] all = tt
first_picked way (f ∷ fs) (name ∷ names) all =
    at (is_same_way f.direction way) (first_picked way fs names all.1)
  where
    at : (b : Bool) → AllByRecursion IsFreeWord (picked way fs names) →
        AllByRecursion IsFreeWord (map (λ g. g.base)
        ((cond b (record { base = name; range = formal_range f.width } ∷ []) [])
        ++ formals_named way fs names))
    at true more = (all.0, more)
    at false more = more

-- Nets are named after those that are named already.
more_taken : (ws : List Wanted) (sizes : List ℕ) (s : Nets) →
    (rest : List (List ℕ)) × ((with_all ws sizes s).taken ≡ s.taken ++ rest)
unfolding with_all
more_taken [] sizes s = ([], sym (append-nil s.taken))
more_taken (None ∷ ws) [] s = ([], sym (append-nil s.taken))
more_taken (Some name ∷ ws) [] s = ([], sym (append-nil s.taken))
more_taken (None ∷ ws) (size ∷ sizes) s = more_taken ws sizes (with_wanted None size s)
more_taken (Some name ∷ ws) (size ∷ sizes) s =
    let here = fresh s.taken name in
    let more = more_taken ws sizes (with_net name size s) in
    (here ∷ more.0, more.1 ∙ append_assoc s.taken (here ∷ []) more.0)

-- The nets of ports are named first.
abbrev NamesPorts : List Port → List Wanted → List ℕ → Nets → Type 0
NamesPorts ports others sizes s =
    (rest : List (List ℕ)) × ((with_all (map port_wanted ports ++ others)
    (map (λ p. length p.bits) ports ++ sizes) s).taken ≡ s.taken ++ rest)
    × AreFirst (formals_of ports) rest

ports_first : (ports : List Port) (others : List Wanted) (sizes : List ℕ) (s : Nets) →
    length s.taken + length ports < 2 ^ 64 → NamesPorts ports others sizes s
unfolding with_all
ports_first [] others sizes s small =
    let more = more_taken others sizes s in (more.0, more.1, tt)
ports_first (p ∷ ports) others sizes s small =
    at (has_bits p) (λ t few. ports_first ports others sizes t few)
  where
    at : (b : Bool) →
        ((t : Nets) → length t.taken + length ports < 2 ^ 64 → NamesPorts ports others sizes t) →
        (rest : List (List ℕ)) × ((with_all (map port_wanted ports ++ others)
        (map (λ q. length q.bits) ports ++ sizes)
        (with_wanted (cond b (Some (word_of p.name)) None) (length p.bits) s)).taken
        ≡ s.taken ++ rest)
        × AreFirst (map formal_of (cond b (p ∷ filter has_bits ports) (filter has_bits ports))) rest
    at true next =
        let here = fresh s.taken (word_of p.name) in
        let longer : length (s.taken ++ here ∷ []) ≡ length s.taken + 1 =
        length_push s.taken here in
        let more = next (with_net (word_of p.name) (length p.bits) s) (omega arith) in (
          here ∷ more.0,
          more.1 ∙ append_assoc s.taken (here ∷ []) more.0,
          (fresh_word s.taken (word_of p.name) (omega arith) (spelled_word p.name), more.2),
        )
    at false next = next (with_wanted None (length p.bits) s) (omega arith)

-- ---- macros

pub modules_worded : (name : List ℕ) (m : Module) (used : List (Option Shape)) → IsModest m used →
    DeclaresWords (macro_of (record { name = name; ports = formals_of m.ports }) m used)
modules_worded name m used modest =
    let names = names_after [] (cell_labels 0 m.cells) in
    let cells = cells_written m.cells names used (own_nets m) in
    let more = names_after names (buffer_labels 0 (outlets_of m used)) in
    let written = buffers cells.nets.list more (outlets_of m used) in
    let fs = formals_of m.ports in
    let nets = modest.nets in
    let few : 0 + length m.ports < 2 ^ 64 = omega arith in
    let first = ports_first m.ports (nets_wanted (own_wires m) 0 (length m.ports) m.nets)
    (map (λ (n : NetName). length n.bits) m.nets) (no_nets (own_wires m)) few in
    let ports : AllByRecursion IsFreeWord (picked Input fs (own_nets m).taken
    ++ picked Output fs (own_nets m).taken) =
    subst (λ (ts : List (List ℕ)). AllByRecursion IsFreeWord (picked Input fs ts
    ++ picked Output fs ts)) (sym first.1)
    (every_append IsFreeWord (picked Input fs first.0) (picked Output fs first.0)
    (first_picked Input fs first.0 first.2) (first_picked Output fs first.0 first.2)) in
    let ins = formals_named Input fs (own_nets m).taken in
    let outs = formals_named Output fs (own_nets m).taken in
    record {
      labels_free = All-from_recursion IsFreeWord (labels (listed (cells.statements ++ written)))
          (subst (λ (ls : List (List ℕ)). AllByRecursion IsFreeWord ls)
          (sym (labels_both cells.statements written))
          (sub_all IsFreeWord (names ++ more) (labels (listed cells.statements)
          ++ labels (listed written))
          (sub_both names (labels (listed cells.statements)) more (labels (listed written))
          (cells_sub m.cells names used (own_nets m))
          (buffers_sub cells.nets.list more (outlets_of m used)))
          (all_labelled m used modest.cells)));
      ports_free = All-from_recursion IsFreeWord (map (λ f. f.base) (ins ++ outs))
          (subst (λ (ls : List (List ℕ)). AllByRecursion IsFreeWord ls)
          (sym (map-append (λ (f : tree.Formal). f.base) ins outs)) ports);
    }

spelled_ports : (fs : List Formal) → AllByRecursion IsSpelled (map (λ f. word_of f.name) fs)
spelled_ports [] = tt
spelled_ports (f ∷ fs) = (spelled_word f.name, spelled_ports fs)

pub cells_worded : (shape : Shape) → length shape.ports < 2 ^ 64 → DeclaresWords (empty_macro shape)
cells_worded shape small =
    let fs = shape.ports in
    let names = formal_names fs in
    let count = length-map fs (λ (f : Formal). word_of f.name) in
    let all = names_each IsFreeWord IsSpelled fresh_word [] (map (λ f. word_of f.name) fs)
    (omega arith) (spelled_ports fs) in
    let ins = formals_named Input fs names in
    let outs = formals_named Output fs names in
    record {
      labels_free = All-from_recursion IsFreeWord [] tt;
      ports_free = All-from_recursion IsFreeWord (map (λ f. f.base) (ins ++ outs))
          (subst (λ (ls : List (List ℕ)). AllByRecursion IsFreeWord ls)
          (sym (map-append (λ (f : tree.Formal). f.base) ins outs))
          (every_append IsFreeWord (picked Input fs names) (picked Output fs names)
          (some_picked IsFreeWord Input fs names all) (some_picked IsFreeWord Output fs names all)));
    }
