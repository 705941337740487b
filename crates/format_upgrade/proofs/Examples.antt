-- Which selects stand in another order, and circuits that are the same or are not.
use Rattle.std.proofs.Common.{◌≡◌, ℕ, true, false, List, [], ◌∷◌, map, Option, Some, None, refl, ap, arith}
use Rattle.std.specs.Prelude.{codes}
use Rattle.scald_base.specs.Time.{Bounds, Header}
use Rattle.element_kinds.specs.Kinds.{kind_of}
use Rattle.flat_circuit.specs.Name.{Name}
use Rattle.macro_expander.specs.Named.{State}
use Rattle.macro_expander.specs.Primitives.{first_reversed}
use Rattle.format_upgrade.specs.Upgraded.{turned_selects}
use Rattle.format_upgrade.specs.SameCircuit.{SameCircuit, wire_named}

-- of a MUX4 with 6 connections and of a MUX8 with 11, and of no other use
turned_by_kind :
    turned_selects (kind_of (codes "MUX4")) 6 ∷ turned_selects (kind_of (codes "MUX8")) 11 ∷ turned_selects (kind_of (codes "MUX2")) 3
    ∷ turned_selects (kind_of (codes "MUX4")) 5 ∷ turned_selects (kind_of (codes "MUX8")) 6 ∷ turned_selects (kind_of (codes "AND")) 6
    ∷ turned_selects (kind_of (codes "MUX16")) 6 ∷ []
    ≡ 2 ∷ 3 ∷ 0 ∷ 0 ∷ 0 ∷ 0 ∷ 0 ∷ []
turned_by_kind = refl

reversed_by_count : map (λ n. first_reversed {X = ℕ} n (1 ∷ 2 ∷ 3 ∷ 4 ∷ [])) (0 ∷ 2 ∷ 3 ∷ []) ≡
    (1 ∷ 2 ∷ 3 ∷ 4 ∷ []) ∷ (2 ∷ 1 ∷ 3 ∷ 4 ∷ []) ∷ (3 ∷ 2 ∷ 1 ∷ 4 ∷ []) ∷ []
reversed_by_count = refl

-- ---- circuits

header : Header
header = record { units = 8; ticks = 50; wire = record { min = 0; max = 2 }; pskew = (0, 0); cskew = (0, 0) }

net : List ℕ → Name
net text = record { text = text; bit = 0 }

nets : List Name → List Bounds → State
nets names wires = record { header = header; statements = 1; names = names; wires = wires; asserted = []; instances = [] }

short : Bounds
short = record { min = 0; max = 0 }

long : Bounds
long = record { min = 0; max = 2 }

-- each net has its wire, whichever is named first
wires_by_name :
    wire_named (net (codes "A") ∷ net (codes "B") ∷ []) (short ∷ long ∷ []) (net (codes "B"))
    ∷ wire_named (net (codes "B") ∷ net (codes "A") ∷ []) (long ∷ short ∷ []) (net (codes "B")) ∷ []
    ≡ Some long ∷ Some long ∷ []
unfolding net short long
wires_by_name = refl

-- a circuit with another net is another one
other_net : ¬ SameCircuit (nets (net (codes "A") ∷ []) (long ∷ [])) (nets (net (codes "B") ∷ []) (long ∷ []))
unfolding nets net
other_net same = absurd (let there : true ≡ false = same.names (net (codes "B")) in cc)

greatest_of : Option Bounds → ℕ
greatest_of (Some b) = b.max
greatest_of None = 0

-- and so is one with another wire
other_wire : ¬ SameCircuit (nets (net (codes "A") ∷ []) (long ∷ [])) (nets (net (codes "A") ∷ []) (short ∷ []))
unfolding nets net short long greatest_of
other_wire same = absurd (let there : 0 ≡ 2 = ap (λ o. greatest_of o) (same.wires (net (codes "A"))) in omega (arith, there))
