-- What is written of a list from one place on, by what stands there and what comes after it.
use Rattle.std.proofs.Common.{◌≡◌, ℕ, ◌+◌, ◌<◌, ◌≤◌, true, false, List, [], ◌∷◌, length, get_or, drop, refl, sym, ap, ◌∙◌}
use Rattle.std.proofs.lemmas.List.{at_drop_all, drop_more}
use Rattle.netlist_import.specs.declared.netlist.Direction.{Direction}
use Rattle.netlist_import.specs.declared.netlist.Cell.{Cell}
use Rattle.netlist_import.specs.Kinds.{is_same_way}
use Rattle.netlist_import.specs.declared.nets.Nets.{Nets}
use Rattle.netlist_import.specs.Body.{before, connected, formal_range, formals_named, of_way, wires_at}
use Rattle.netlist_import.specs.declared.shapes.Formal.{Formal}

pub drop_here : {A : Type 0} (xs : List A) (i : ℕ) (x : A) → i < length xs → x ≡ get_or xs i x →
    drop i xs ≡ x ∷ drop (i + 1) xs
drop_here {A} xs i x h is = drop_more xs i x h ∙ ap (λ (y : A). y ∷ drop (i + 1) xs) (sym is)

module _ (cell : Cell) (way : Direction) (ports : List Formal) (i : ℕ) (p : Formal) (s : Nets) where
  pub connected_here : i < length ports → p ≡ get_or ports i p → is_same_way p.direction way
      ≡ true →
      connected cell (of_way way (drop i ports)) s
      ≡ before (wires_at cell p s) (connected cell (of_way way (drop (i + 1) ports))
      (wires_at cell p s).1)
  unfolding connected
  connected_here h is same = ap (λ (fs : List Formal). connected cell (of_way way fs) s)
      (drop_here ports i p h is) ∙ rw same refl

  pub connected_past : i < length ports → p ≡ get_or ports i p → is_same_way p.direction way
      ≡ false →
      connected cell (of_way way (drop i ports)) s
      ≡ connected cell (of_way way (drop (i + 1) ports)) s
  unfolding connected
  connected_past h is other = ap (λ (fs : List Formal). connected cell (of_way way fs) s)
      (drop_here ports i p h is) ∙ rw other refl

pub connected_end : (cell : Cell) (way : Direction) (ports : List Formal) (i : ℕ) (s : Nets) →
    length ports ≤ i →
    connected cell (of_way way (drop i ports)) s ≡ record { connections = []; nets = s }
unfolding connected
connected_end cell way ports i s h = at_drop_all
    (λ (fs : List Formal). connected cell (of_way way fs) s) ports i h

pub named_end : (way : Direction) (ports : List Formal) (names : List (List ℕ)) (i : ℕ) →
    length ports ≤ i →
    formals_named way (drop i ports) (drop i names) ≡ []
unfolding formals_named
named_end way ports names i h = at_drop_all (λ (ps : List Formal). formals_named way ps
    (drop i names)) ports i h

no_names_left : (way : Direction) (ports : List Formal) → formals_named way ports [] ≡ []
unfolding formals_named
no_names_left way [] = refl
no_names_left way (p ∷ ports) = refl

pub named_short : (way : Direction) (ports : List Formal) (names : List (List ℕ)) (i : ℕ) →
    length names ≤ i →
    formals_named way (drop i ports) (drop i names) ≡ []
named_short way ports names i h =
    at_drop_all (λ (ns : List (List ℕ)). formals_named way (drop i ports) ns) names i h
    ∙ no_names_left way (drop i ports)

module _ (way : Direction) (ports : List Formal) (names : List (List ℕ)) (i : ℕ) (p : Formal)
    (name : List ℕ) where
  both_named : i < length ports → p ≡ get_or ports i p → i < length names →
      name ≡ get_or names i name →
      formals_named way (drop i ports) (drop i names) ≡ formals_named way (p ∷ drop (i + 1) ports)
      (name ∷ drop (i + 1) names)
  both_named h is hn isn =
      ap (λ (ps : List Formal). formals_named way ps (drop i names)) (drop_here ports i p h is)
      ∙ ap (λ (ns : List (List ℕ)). formals_named way (p ∷ drop (i + 1) ports) ns)
      (drop_here names i name hn isn)

  pub named_here : i < length ports → p ≡ get_or ports i p → i < length names →
      name ≡ get_or names i name →
      is_same_way p.direction way ≡ true →
      formals_named way (drop i ports) (drop i names)
      ≡ record { base = name; range = formal_range p.width }
      ∷ formals_named way (drop (i + 1) ports) (drop (i + 1) names)
  unfolding formals_named
  named_here h is hn isn same = both_named h is hn isn ∙ rw same refl

  pub named_past : i < length ports → p ≡ get_or ports i p → i < length names →
      name ≡ get_or names i name →
      is_same_way p.direction way ≡ false →
      formals_named way (drop i ports) (drop i names) ≡ formals_named way (drop (i + 1) ports)
      (drop (i + 1) names)
  unfolding formals_named
  named_past h is hn isn other = both_named h is hn isn ∙ rw other refl
