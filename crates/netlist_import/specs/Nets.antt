-- Which bit of which net each bit of a module is, and what the nets are called.
use Rattle.std.specs.Prelude.{ℕ, zero, suc, ◌+◌, ◌==◌, Bool, true, false, not, List, [], ◌∷◌, ◌++◌, length, map, filter, reverse, codes, Option, Some, None, is_some, if◌then◌else◌}
use Rattle.std.specs.List.{list_any}
use Rattle.std.specs.Map.{lookup}
use Rattle.netlist_import.specs.declared.netlist.Bit as netlist
use Rattle.netlist_import.specs.declared.netlist.Bit.TheVariants as bit
use Rattle.netlist_import.specs.declared.netlist.Direction.{Direction}
use Rattle.netlist_import.specs.declared.netlist.Direction.TheVariants.{Input, Output}
use Rattle.netlist_import.specs.declared.netlist.Port.{Port}
use Rattle.netlist_import.specs.declared.netlist.NetName.{NetName}
use Rattle.netlist_import.specs.declared.netlist.Module.{Module}
use Rattle.netlist_import.specs.Words.{base_of, counted, word_of}
use Rattle.netlist_import.specs.Fresh.{fresh}
use Rattle.netlist_import.specs.Kinds.{is_same_way, has_bits}
use Rattle.netlist_import.specs.declared.nets.Nets.{Nets}
use Rattle.netlist_import.specs.declared.nets.Wire.{Wire}
use Rattle.netlist_import.specs.declared.nets.Wired.{Wired}
use Rattle.netlist_import.specs.declared.nets.Wired.TheVariants as wired

-- ---- the vectors of a module: its ports and its nets, by the numbers of their nets

abbrev pub Vector : Type 0
Vector = ℕ × List netlist.Bit

unfoldable pub numbered_from : {A : Type 0} → ℕ → List A → List (ℕ × A)
numbered_from n [] = []
numbered_from n (x ∷ xs) = (n, x) ∷ numbered_from (n + 1) xs

-- the ports of a direction, numbered from this number on
abbrev pub port_vectors : Direction → ℕ → List Port → List Vector
port_vectors way first ports =
    map (λ p. (p.0, p.1.bits)) (filter (λ p. is_same_way p.1.direction way)
    (numbered_from first ports))

abbrev pub is_same : Bool → Bool → Bool
is_same true b = b
is_same false b = not b

-- The nets that are hidden, or those that are not. They are numbered from this number on.
abbrev pub net_vectors : Bool → ℕ → List NetName → List Vector
net_vectors hidden first nets =
    map (λ n. (n.0, n.1.bits)) (filter (λ n. is_same n.1.is_hidden hidden)
    (numbered_from first nets))

-- in the order in which they name bits
abbrev pub vectors : Module → List Vector
vectors m =
    port_vectors Input 0 m.ports ++ port_vectors Output 0 m.ports
    ++ net_vectors false (length m.ports) m.nets ++ net_vectors true (length m.ports) m.nets

-- ---- the bit of a net that a bit of the module is

-- the bits that are called by something, each with the bit of a net that it is
abbrev pub Wires : Type 0
Wires = List (ℕ × Wire)

abbrev pub wire_of : ℕ → Wires → Option Wire
wire_of n ws = lookup (λ k. n == k) ws

-- What is called by something already stays so.
abbrev pub with_wire : ℕ → Wire → Wires → Wires
with_wire n w ws = if is_some (wire_of n ws) then ws else ws ++ (n, w) ∷ []

abbrev pub with_bit : ℕ → ℕ × netlist.Bit → Wires → Wires
with_bit net (index, bit.Number n) ws = with_wire n (record { net = net; index = index }) ws
with_bit net (index, bit.Zero) ws = ws
with_bit net (index, bit.One) ws = ws
with_bit net (index, bit.Undriven) ws = ws

unfoldable pub with_bits : ℕ → List (ℕ × netlist.Bit) → Wires → Wires
with_bits net [] ws = ws
with_bits net (b ∷ bs) ws = with_bits net bs (with_bit net b ws)

unfoldable pub with_vectors : List Vector → Wires → Wires
with_vectors [] ws = ws
with_vectors (v ∷ vs) ws = with_vectors vs (with_bits v.0 (numbered_from 0 v.1) ws)

-- A bit is called by the first of the vectors that has it.
abbrev pub own_wires : Module → Wires
own_wires m = with_vectors (vectors m) []

abbrev pub is_in_net : ℕ → Option Wire → Bool
is_in_net net None = false
is_in_net net (Some w) = w.net == net

abbrev pub named_by : Wires → ℕ → netlist.Bit → Bool
named_by ws net (bit.Number n) = is_in_net net (wire_of n ws)
named_by ws net bit.Zero = false
named_by ws net bit.One = false
named_by ws net bit.Undriven = false

-- a bit is called by this net
abbrev pub names_a_bit : Wires → ℕ → List netlist.Bit → Bool
names_a_bit ws net bits = list_any (named_by ws net) bits

-- ---- what the ports and the nets are called

-- what a net is to be called, if it is called anything
abbrev pub Wanted : Type 0
Wanted = Option (List ℕ)

abbrev pub port_wanted : Port → Wanted
port_wanted p = if has_bits p then Some (word_of p.name) else None

-- what a net is to be called that names a bit, after so many such nets that are hidden
abbrev pub net_name : ℕ → NetName → List ℕ
net_name hidden n = if n.is_hidden then counted (codes "n") hidden else base_of n.name

abbrev pub hidden_after : ℕ → NetName → ℕ
hidden_after hidden n = if n.is_hidden then hidden + 1 else hidden

-- the nets from this number on
unfoldable pub nets_wanted : Wires → ℕ → ℕ → List NetName → List Wanted
nets_wanted ws hidden net [] = []
nets_wanted ws hidden net (n ∷ ns) =
    if names_a_bit ws net n.bits then Some (net_name hidden n)
    ∷ nets_wanted ws (hidden_after hidden n) (net + 1) ns
    else None ∷ nets_wanted ws hidden (net + 1) ns

abbrev pub all_wanted : Module → List Wanted
all_wanted m = map port_wanted m.ports ++ nets_wanted (own_wires m) 0 (length m.ports) m.nets

abbrev pub widths : Module → List ℕ
widths m = map (λ p. length p.bits) m.ports ++ map (λ n. length n.bits) m.nets

-- ---- the nets, while the connections are written

abbrev pub no_nets : Wires → Nets
no_nets ws = record { list = []; taken = []; wires = ws; undriven = 0 }

-- with a net that is called so if it can be
abbrev pub with_net : List ℕ → ℕ → Nets → Nets
with_net name width s = record s {
  list = s.list ++ record { name = fresh s.taken name; width = width } ∷ [];
  taken = s.taken ++ fresh s.taken name ∷ [];
}

-- with a net that is called nothing if nothing is wanted
abbrev pub with_wanted : Wanted → ℕ → Nets → Nets
with_wanted None width s = record s { list = s.list ++ record { name = []; width = width } ∷ [] }
with_wanted (Some name) width s = with_net name width s

unfoldable pub with_all : List Wanted → List ℕ → Nets → Nets
with_all [] widths s = s
with_all (name ∷ names) [] s = s
with_all (name ∷ names) (width ∷ widths) s = with_all names widths (with_wanted name width s)

-- the ports and the nets of a module
abbrev pub own_nets : Module → Nets
own_nets m = with_all (all_wanted m) (widths m) (no_nets (own_wires m))

-- with a net of so many bits that nothing drives
abbrev pub with_undriven : ℕ → Nets → Nets
with_undriven width s = record (with_net (counted (codes "x") s.undriven) width s)
    { undriven = s.undriven + 1 }

-- bit 0 of the net that is added next
abbrev pub next_wire : Nets → Wire
next_wire s = record { net = length s.list; index = 0 }

-- with a net of its own for a bit that nothing calls
abbrev pub with_other : ℕ → Nets → Nets
with_other n s = record (with_net (codes "b") 1 s) { wires = s.wires ++ (n, next_wire s) ∷ [] }

-- ---- what stands for bits, and the nets after them

abbrev pub found_or_other : ℕ → Nets → Option Wire → Wired × Nets
found_or_other n s (Some w) = (wired.Bit w, s)
found_or_other n s None = (wired.Bit (next_wire s), with_other n s)

abbrev pub stand : netlist.Bit → Nets → Wired × Nets
stand (bit.Number n) s = found_or_other n s (wire_of n s.wires)
stand bit.Zero s = (wired.Zero, s)
stand bit.One s = (wired.One, s)
stand bit.Undriven s = (wired.Bit (next_wire s), with_undriven 1 s)

unfoldable pub stand_along : List netlist.Bit → Nets → List Wired × Nets
stand_along [] s = ([], s)
stand_along (b ∷ bs) s =
    let first = stand b s in
    let rest = stand_along bs first.1 in (first.0 ∷ rest.0, rest.1)

-- A connection is written from its last bit to its first.
abbrev pub wires : List netlist.Bit → Nets → List Wired × Nets
wires bits s = stand_along (reverse bits) s

-- the numbers below this one, downwards
unfoldable pub downwards : ℕ → List ℕ
downwards zero = []
downwards (suc n) = n ∷ downwards n

-- what stands for a connection that a cell leaves out: a net of its own
abbrev pub left_out : ℕ → Nets → List Wired × Nets
left_out width s = (
  map (λ i. wired.Bit (record { net = length s.list; index = i }))
      (downwards width),
  with_undriven width s,
)
