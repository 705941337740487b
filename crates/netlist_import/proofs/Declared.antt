-- No label and no port of a macro is declared twice.
use Rattle.std.proofs.Common.{◌≡◌, ℕ, suc, ◌+◌, ◌<◌, ◌^◌, Bool, true, false, cond, List, [], ◌∷◌, ◌++◌, length, map, refl, sym, ap, subst, ◌∙◌, arith, Option, Some, None, inl, inr}
use Rattle.std.specs.Prelude.{◌⊎◌}
use Rattle.std.specs.List.{AllByRecursion, IsDistinct}
use Rattle.std.specs.Str.{bytes_eq}
use Rattle.std.proofs.lemmas.List.{append_assoc, length_push, map-append}
use Rattle.drawing_tree.specs.Tree as tree
use Rattle.drawing_tree.specs.WellFormed.{labels, statement_labels}
use Rattle.netlist_import.specs.declared.netlist.Direction.{Direction}
use Rattle.netlist_import.specs.declared.netlist.Direction.TheVariants.{Input, Output}
use Rattle.netlist_import.specs.declared.netlist.Cell.{Cell}
use Rattle.netlist_import.specs.declared.netlist.Module.{Module}
use Rattle.netlist_import.specs.Fresh.{fresh, names_after}
use Rattle.netlist_import.specs.Kinds.{is_same_way}
use Rattle.netlist_import.specs.Nets.{Wanted, all_wanted, no_nets, own_nets, own_wires, widths, with_all, with_wanted}
use Rattle.netlist_import.specs.declared.nets.Nets.{Nets}
use Rattle.netlist_import.specs.Body.{buffer_labels, buffers, cell_labels, cell_written, cells_written, formal_range, formals_named, hidden_after, listed, macro_of}
use Rattle.netlist_import.specs.Good.{DeclaresOnce, IsModest, outlets_of}
use Rattle.netlist_import.specs.declared.nets.Net.{Net}
use Rattle.netlist_import.specs.declared.outlets.Outlet.{Outlet}
use Rattle.netlist_import.specs.declared.shapes.Shape.{Shape}
use Rattle.netlist_import.specs.declared.shapes.Formal.{Formal}
use Rattle.netlist_import.proofs.Distinct.{distinct_from, distinct_more, fresh_new, names_distinct, none_distinct}
use Rattle.netlist_import.proofs.Grown.{wanted_count}
use Rattle.netlist_import.proofs.Named.{as_many_names}
use Rattle.drawing_tree.proofs.Every.{every_append}

-- ---- some of a list, in its order

abbrev pub IsSub : List (List ℕ) → List (List ℕ) → Type 0
IsSub xs [] = xs ≡ []
IsSub xs (y ∷ ys) = IsSub xs ys ⊎ ((rest : List (List ℕ)) × (xs ≡ y ∷ rest) × IsSub rest ys)

sub_none : (ys : List (List ℕ)) → IsSub [] ys
sub_none [] = refl
sub_none (y ∷ ys) = inl (sub_none ys)

pub sub_all : (P : List ℕ → Type 0) (ys xs : List (List ℕ)) → IsSub xs ys → AllByRecursion P ys →
    AllByRecursion P xs
sub_all P [] xs s all = subst (λ (l : List (List ℕ)). AllByRecursion P l) (sym s) tt
sub_all P (y ∷ ys) xs (inl s) all = sub_all P ys xs s all.1
sub_all P (y ∷ ys) xs (inr s) all =
    subst (λ (l : List (List ℕ)). AllByRecursion P l) (sym s.1) (all.0, sub_all P ys s.0 s.2 all.1)

sub_distinct : (ys xs : List (List ℕ)) → IsSub xs ys → IsDistinct bytes_eq ys →
    IsDistinct bytes_eq xs
unfolding IsDistinct
sub_distinct [] xs s distinct = subst (λ (l : List (List ℕ)). IsDistinct bytes_eq l) (sym s) tt
sub_distinct (y ∷ ys) xs (inl s) distinct = sub_distinct ys xs s distinct.1
sub_distinct (y ∷ ys) xs (inr s) distinct =
    subst (λ (l : List (List ℕ)). IsDistinct bytes_eq l) (sym s.1)
    (sub_all (λ z. bytes_eq y z ≡ false) ys s.0 s.2 distinct.0, sub_distinct ys s.0 s.2 distinct.1)

pub sub_both : (ys xs vs us : List (List ℕ)) → IsSub xs ys → IsSub us vs → IsSub (xs ++ us) (ys ++ vs)
sub_both [] xs vs us s t = subst (λ (l : List (List ℕ)). IsSub (l ++ us) vs) (sym s) t
sub_both (y ∷ ys) xs vs us (inl s) t = inl (sub_both ys xs vs us s t)
sub_both (y ∷ ys) xs vs us (inr s) t =
    inr (s.0 ++ us, ap (λ (l : List (List ℕ)). l ++ us) s.1, sub_both ys s.0 vs us s.2 t)

-- ---- labels

pub labels_both : (ss ts : List tree.Statement) →
    labels (listed (ss ++ ts)) ≡ labels (listed ss) ++ labels (listed ts)
unfolding listed
labels_both [] ts = refl
labels_both (s ∷ ss) ts =
    ap (λ (ls : List (List ℕ)). statement_labels s ++ ls) (labels_both ss ts)
    ∙ sym (append_assoc (statement_labels s) (labels (listed ss)) (labels (listed ts)))

pub cells_sub : (cells : List Cell) (names : List (List ℕ)) (used : List (Option Shape)) (s : Nets) →
    IsSub (labels (listed (cells_written cells names used s).statements)) names
unfolding listed cells_written
cells_sub [] names used s = sub_none names
cells_sub (c ∷ cs) [] used s = refl
cells_sub (c ∷ cs) (name ∷ names) [] s = sub_none (name ∷ names)
cells_sub (c ∷ cs) (name ∷ names) (None ∷ used) s = inl (cells_sub cs names used s)
cells_sub (c ∷ cs) (name ∷ names) (Some shape ∷ used) s =
    let next = (cell_written c name (Some shape) s).nets in
    inr (
      labels (listed (cells_written cs names used next).statements),
      refl,
      cells_sub cs names
          used next,
    )

pub buffers_sub : (nets : List Net) (names : List (List ℕ)) (os : List Outlet) →
    IsSub (labels (listed (buffers nets names os))) names
unfolding listed buffers
buffers_sub nets [] os = refl
buffers_sub nets (name ∷ names) [] = sub_none (name ∷ names)
buffers_sub nets (name ∷ names) (o ∷ os) =
    inr (labels (listed (buffers nets names os)), refl, buffers_sub nets names os)

pub each_labelled : (hidden : ℕ) (cells : List Cell) → length (cell_labels hidden cells) ≡ length cells
unfolding cell_labels
each_labelled hidden [] = refl
each_labelled hidden (c ∷ cs) = ap (λ (n : ℕ). suc n) (each_labelled (hidden_after hidden c) cs)

pub each_buffer : (n : ℕ) (os : List Outlet) → length (buffer_labels n os) ≡ length os
unfolding buffer_labels
each_buffer n [] = refl
each_buffer n (o ∷ os) = ap (λ (k : ℕ). suc k) (each_buffer (n + 1) os)

-- ---- ports

-- The names that nets take differ.
taken_distinct : (ws : List Wanted) (sizes : List ℕ) (s : Nets) → IsDistinct bytes_eq s.taken →
    length s.taken + length ws < 2 ^ 64 → IsDistinct bytes_eq (with_all ws sizes s).taken
unfolding with_all
taken_distinct [] sizes s distinct small = distinct
taken_distinct (None ∷ ws) [] s distinct small = distinct
taken_distinct (Some name ∷ ws) [] s distinct small = distinct
taken_distinct (None ∷ ws) (size ∷ sizes) s distinct small =
    taken_distinct ws sizes (with_wanted None size s) distinct (omega arith)
taken_distinct (Some name ∷ ws) (size ∷ sizes) s distinct small =
    let here = fresh s.taken name in
    let next = distinct_more s.taken here distinct (fresh_new s.taken name (omega arith)) in
    let more : length (s.taken ++ here ∷ []) ≡ length s.taken + 1 = length_push s.taken here in
    taken_distinct ws sizes (with_wanted (Some name) size s) next (omega arith)

own_distinct : (m : Module) → length m.ports + length m.nets < 2 ^ 64 →
    IsDistinct bytes_eq (own_nets m).taken
own_distinct m small =
    let count = wanted_count m in
    let short : 0 + length (all_wanted m) < 2 ^ 64 = omega arith in
    taken_distinct (all_wanted m) (widths m) (no_nets (own_wires m)) none_distinct short

-- Some name ports that lead one way, the others ports that lead the other.
abbrev pub picked : Direction → List Formal → List (List ℕ) → List (List ℕ)
picked way fs names = map (λ f. f.base) (formals_named way fs names)

pub some_picked : (P : List ℕ → Type 0) (way : Direction) (fs : List Formal)
    (names : List (List ℕ)) → AllByRecursion P names → AllByRecursion P (picked way fs names)
unfolding formals_named
some_picked P way [] names all = tt
some_picked P way (f ∷ fs) [] all = tt
some_picked P way (f ∷ fs) (name ∷ names) all =
    at (is_same_way f.direction way) all (some_picked P way fs names all.1)
  where
    at : (b : Bool) → AllByRecursion P (name ∷ names) →
        AllByRecursion P (picked way fs names) →
        AllByRecursion P (map (λ g. g.base)
        ((cond b (record { base = name; range = formal_range f.width } ∷ []) [])
        ++ formals_named way fs names))
    at true all more = (all.0, more)
    at false all more = more

-- with one port more in front
abbrev at_way : Direction → Direction → Formal → List ℕ → List Formal → List (List ℕ) →
    List (List ℕ)
at_way way its f name fs names =
    map (λ g. g.base) ((cond (is_same_way its way)
    (record { base = name; range = formal_range f.width } ∷ []) []) ++ formals_named way fs names)

ports_distinct : (fs : List Formal) (names : List (List ℕ)) → IsDistinct bytes_eq names →
    IsDistinct bytes_eq (picked Input fs names ++ picked Output fs names)
unfolding formals_named IsDistinct
ports_distinct [] names distinct = tt
ports_distinct (f ∷ fs) [] distinct = tt
ports_distinct (f ∷ fs) (name ∷ names) distinct =
    at f.direction distinct (ports_distinct fs names distinct.1)
  where
    others : AllByRecursion (λ y. bytes_eq name y ≡ false) names →
        AllByRecursion (λ y. bytes_eq name y ≡ false) (picked Input fs names
        ++ picked Output fs names)
    others all =
        every_append (λ y. bytes_eq name y ≡ false) (picked Input fs names)
        (picked Output fs names)
        (some_picked (λ y. bytes_eq name y ≡ false) Input fs names all)
        (some_picked (λ y. bytes_eq name y ≡ false) Output fs names all)

    at : (way : Direction) → IsDistinct bytes_eq (name ∷ names) →
        IsDistinct bytes_eq (picked Input fs names ++ picked Output fs names) →
        IsDistinct bytes_eq (at_way Input way f name fs names ++ at_way Output way f name fs names)
    at Input distinct more = (others distinct.0, more)
    at Output distinct more =
        distinct_from (picked Input fs names) (picked Output fs names) name (others distinct.0) more

-- ---- a macro

labels_differ : (m : Module) (used : List (Option Shape)) →
    length m.cells + length (outlets_of m used) < 2 ^ 64 →
    IsDistinct bytes_eq (names_after [] (cell_labels 0 m.cells)
    ++ names_after (names_after [] (cell_labels 0 m.cells)) (buffer_labels 0 (outlets_of m used)))
labels_differ m used small =
    let cells = cell_labels 0 m.cells in
    let names = names_after [] cells in
    let some = each_labelled 0 m.cells in
    let more = each_buffer 0 (outlets_of m used) in
    let named = as_many_names [] cells in
    names_distinct names (buffer_labels 0 (outlets_of m used))
    (names_distinct [] cells none_distinct (omega arith)) (omega arith)

pub declared_once : (shape : Shape) (m : Module) (used : List (Option Shape)) → IsModest m used →
    DeclaresOnce (macro_of shape m used)
declared_once shape m used modest =
    let names = names_after [] (cell_labels 0 m.cells) in
    let cells = cells_written m.cells names used (own_nets m) in
    let more = names_after names (buffer_labels 0 (outlets_of m used)) in
    let written = buffers cells.nets.list more (outlets_of m used) in
    let ins = formals_named Input shape.ports (own_nets m).taken in
    let outs = formals_named Output shape.ports (own_nets m).taken in
    record {
      cells_differ = subst (λ (ls : List (List ℕ)). IsDistinct bytes_eq ls)
          (sym (labels_both cells.statements written))
          (sub_distinct (names ++ more) (labels (listed cells.statements)
          ++ labels (listed written))
          (sub_both names (labels (listed cells.statements)) more (labels (listed written))
          (cells_sub m.cells names used (own_nets m))
          (buffers_sub cells.nets.list more (outlets_of m used)))
          (labels_differ m used modest.cells));
      ports_differ = subst (λ (ls : List (List ℕ)). IsDistinct bytes_eq ls)
          (sym (map-append (λ (f : tree.Formal). f.base) ins outs))
          (ports_distinct shape.ports (own_nets m).taken (own_distinct m modest.nets));
    }
