-- Nets that are added leave what bits are called by, and call new bits by new nets.
use Rattle.std.proofs.Common.{◌≡◌, ℕ, suc, ◌+◌, ◌<◌, ◌≤◌, Bool, true, false, cond, ◌&&◌, ◌||◌, ◌==◌, List, [], ◌∷◌, ◌++◌, length, map, reverse, codes, refl, sym, ap, subst, ◌∙◌, arith, Option, Some, None, is_some}
use Rattle.std.specs.List.{AllByRecursion}
use Rattle.std.proofs.lemmas.Bool.{and_parts, eqb-true}
use Rattle.netlist_import.specs.declared.netlist.Bit as netlist
use Rattle.netlist_import.specs.declared.netlist.Bit.TheVariants as bit
use Rattle.netlist_import.specs.declared.netlist.Direction.TheVariants.{Input, Output}
use Rattle.netlist_import.specs.declared.netlist.NetName.{NetName}
use Rattle.netlist_import.specs.declared.netlist.Port.{Port}
use Rattle.netlist_import.specs.declared.netlist.Cell.{Cell}
use Rattle.netlist_import.specs.declared.netlist.Module.{Module}
use Rattle.netlist_import.specs.Words.{counted}
use Rattle.netlist_import.specs.Fresh.{fresh}
use Rattle.netlist_import.specs.Nets.{Vector, Wanted, Wires, all_wanted, found_or_other, hidden_after, net_name, names_a_bit, nets_wanted, next_wire, no_nets, numbered_from, own_nets, own_wires, port_wanted, stand, stand_along, vectors, widths, wire_of, with_all, with_bit, with_bits, with_net, with_other, with_undriven, with_vectors, with_wanted}
use Rattle.netlist_import.specs.declared.nets.Nets.{Nets}
use Rattle.netlist_import.specs.Body.{bits_at, cell_written, cells_written, connected, of_way, wires_at, wires_or_none}
use Rattle.netlist_import.specs.Good.{TellsApart}
use Rattle.netlist_import.specs.declared.nets.Wire.{Wire}
use Rattle.netlist_import.specs.declared.shapes.Formal.{Formal}
use Rattle.netlist_import.specs.declared.shapes.Shape.{Shape}
use Rattle.netlist_import.proofs.Apart.{AreApart, apart_more, has_wire, one_bit}
use Rattle.netlist_import.proofs.Claims.{same_wires}
use Rattle.netlist_import.proofs.Vectors.{own_wires_apart, vectors_within}
use Rattle.std.proofs.lemmas.List.{length-append, length-map, length_push}

-- Bits are called by nets that are there.
abbrev pub AreInside : ℕ → Wires → Type 0
AreInside count ws = AllByRecursion (λ e. e.1.net < count) ws

pub record AreTold (s : Nets) : Type 0 where
  pub apart : AreApart s.wires
  pub inside : AreInside (length s.list) s.wires

pub inside_later : (ws : Wires) (count more : ℕ) → count ≤ more → AreInside count ws →
    AreInside more ws
inside_later [] count more h inside = tt
inside_later (e ∷ ws) count more h inside = (
  let less = inside.0 in omega arith,
  inside_later ws
      count more h inside.1,
)

inside_more : (ws : Wires) (count n : ℕ) (w : Wire) → AreInside count ws → w.net < count →
    AreInside count (ws ++ (n, w) ∷ [])
inside_more [] count n w inside h = (h, tt)
inside_more (e ∷ ws) count n w inside h = (inside.0, inside_more ws count n w inside.1 h)

-- No bit is called by a net that is not there.
none_past : (ws : Wires) (count : ℕ) (w : Wire) → AreInside count ws → count ≤ w.net → has_wire w ws
    ≡ false
none_past [] count w inside h = refl
none_past ((m, v) ∷ ws) count w inside h = at (v.net == w.net && v.index == w.index) refl
    (none_past ws count w inside.1 h)
  where
    at : (b : Bool) → (v.net == w.net && v.index == w.index) ≡ b → has_wire w ws ≡ false →
        (b || has_wire w ws) ≡ false
    at false e more = more
    at true e more =
        let parts = and_parts (v.net == w.net) (v.index == w.index) e in
        let same = eqb-true v.net w.net parts.0 in
        let less = inside.0 in
        absurd (omega arith)

-- ---- nets that are added

net_told : (name : List ℕ) (width : ℕ) (s : Nets) → AreTold s → AreTold (with_net name width s)
net_told name width s told = record {
  apart = told.apart;
  inside =
      let more = length_push s.list (record { name = fresh s.taken name; width = width }) in
      inside_later s.wires (length s.list) (length (with_net name width s).list) (omega arith)
      told.inside;
}

pub other_told : (n : ℕ) (s : Nets) → AreTold s → AreTold (with_other n s)
other_told n s told =
    let net = with_net (codes "b") 1 s in
    let later = net_told (codes "b") 1 s told in
    let more = length_push s.list (record { name = fresh s.taken (codes "b"); width = 1 }) in
    record {
      apart = apart_more s.wires n (next_wire s) told.apart
          (none_past s.wires (length s.list) (next_wire s) told.inside (omega arith));
      inside = inside_more s.wires (length net.list) n (next_wire s) later.inside (omega arith);
    }

pub undriven_told : (width : ℕ) (s : Nets) → AreTold s → AreTold (with_undriven width s)
undriven_told width s told =
    let later = net_told (counted (codes "x") s.undriven) width s told in
    record { apart = later.apart; inside = later.inside }

-- ---- what stands for bits

-- What nets keep where nets that nothing drives, and nets of other bits, are added to them.
module _ (P : Nets → Type 0) (other : (n : ℕ) (s : Nets) → P s → P (with_other n s))
    (undriven : (width : ℕ) (s : Nets) → P s → P (with_undriven width s)) where
  stand_keeps : (b : netlist.Bit) (s : Nets) → P s → P (stand b s).1
  stand_keeps (bit.Number n) s kept = at (wire_of n s.wires)
    where
      at : (o : Option Wire) → P (found_or_other n s o).1
      at (Some w) = kept
      at None = other n s kept
  stand_keeps bit.Zero s kept = kept
  stand_keeps bit.One s kept = kept
  stand_keeps bit.Undriven s kept = undriven 1 s kept

  along_keeps : (bs : List netlist.Bit) (s : Nets) → P s → P (stand_along bs s).1
  unfolding stand_along
  along_keeps [] s kept = kept
  along_keeps (b ∷ bs) s kept = along_keeps bs (stand b s).1 (stand_keeps b s kept)

  port_keeps : (cell : Cell) (f : Formal) (s : Nets) → P s → P (wires_at cell f s).1
  port_keeps cell f s kept = at (bits_at cell f.name)
    where
      at : (o : Option (List netlist.Bit)) → P (wires_or_none f.width s o).1
      at None = undriven f.width s kept
      at (Some bs) = along_keeps (reverse bs) s kept

  connected_keeps : (cell : Cell) (fs : List Formal) (s : Nets) → P s →
      P (connected cell fs s).nets
  unfolding connected
  connected_keeps cell [] s kept = kept
  connected_keeps cell (f ∷ fs) s kept = connected_keeps cell fs (wires_at cell f s).1
      (port_keeps cell f s kept)

  cell_keeps : (cell : Cell) (label : List ℕ) (shape : Option Shape) (s : Nets) → P s →
      P (cell_written cell label shape s).nets
  cell_keeps cell label None s kept = kept
  cell_keeps cell label (Some shape) s kept =
      let ins = of_way Input shape.ports in
      connected_keeps cell (of_way Output shape.ports) (connected cell ins s).nets
      (connected_keeps cell ins s kept)

  pub cells_keep : (cells : List Cell) (labels : List (List ℕ)) (shapes : List (Option Shape))
      (s : Nets) → P s → P (cells_written cells labels shapes s).nets
  unfolding cells_written
  cells_keep [] labels shapes s kept = kept
  cells_keep (c ∷ cs) [] shapes s kept = kept
  cells_keep (c ∷ cs) (label ∷ labels) [] s kept = kept
  cells_keep (c ∷ cs) (label ∷ labels) (shape ∷ shapes) s kept =
      cells_keep cs labels shapes (cell_written c label shape s).nets
      (cell_keeps c label shape s kept)

-- ---- the nets of a module

bits_inside : (count net : ℕ) (bits : List (ℕ × netlist.Bit)) (ws : Wires) → net < count →
    AreInside count ws → AreInside count (with_bits net bits ws)
unfolding with_bits
bits_inside count net [] ws h inside = inside
bits_inside count net ((index, b) ∷ bits) ws h inside =
    bits_inside count net bits (with_bit net (index, b) ws) h (one b)
  where
    one : (b : netlist.Bit) → AreInside count (with_bit net (index, b) ws)
    one (bit.Number n) = at (wire_of n ws)
      where
        at : (o : Option Wire) → AreInside count
            (cond (is_some o) ws (ws ++ (n, record { net = net; index = index }) ∷ []))
        at (Some v) = inside
        at None = inside_more ws count n (record { net = net; index = index }) inside h
    one bit.Zero = inside
    one bit.One = inside
    one bit.Undriven = inside

vectors_inside : (count : ℕ) (vs : List Vector) (ws : Wires) →
    AllByRecursion (λ v. v.0 < count) vs → AreInside count ws →
    AreInside count (with_vectors vs ws)
unfolding with_vectors
vectors_inside count [] ws below inside = inside
vectors_inside count (v ∷ vs) ws below inside =
    vectors_inside count vs (with_bits v.0 (numbered_from 0 v.1) ws) below.1
    (bits_inside count v.0 (numbered_from 0 v.1) ws below.0 inside)

-- as many nets as are wanted
all_added : (names : List Wanted) (sizes : List ℕ) (s : Nets) → length names ≡ length sizes →
    length (with_all names sizes s).list ≡ length s.list + length names
unfolding with_all
all_added [] sizes s e = omega arith
all_added (name ∷ names) [] s e = absurd (cc)
all_added (name ∷ names) (size ∷ sizes) s e =
    let more = all_added names sizes (with_wanted name size s) (cc) in
    let one : length (with_wanted name size s).list ≡ length s.list + 1 = at name in
    omega arith
  where
    at : (wanted : Wanted) → length (with_wanted wanted size s).list ≡ length s.list + 1
    at None = length_push s.list (record { name = []; width = size })
    at (Some n) = length_push s.list (record { name = fresh s.taken n; width = size })

each_wanted : (ws : Wires) (hidden net : ℕ) (ns : List NetName) →
    length (nets_wanted ws hidden net ns) ≡ length ns
unfolding nets_wanted
each_wanted ws hidden net [] = refl
each_wanted ws hidden net (n ∷ ns) = at (names_a_bit ws net n.bits)
    (λ (h : ℕ). each_wanted ws h (net + 1) ns)
  where
    at : (b : Bool) → ((h : ℕ) → length (nets_wanted ws h (net + 1) ns) ≡ length ns) →
        length (cond b (Some (net_name hidden n) ∷ nets_wanted ws (hidden_after hidden n) (net + 1)
        ns)
        (None ∷ nets_wanted ws hidden (net + 1) ns)) ≡ suc (length ns)
    at true more = ap (λ (k : ℕ). suc k) (more (hidden_after hidden n))
    at false more = ap (λ (k : ℕ). suc k) (more hidden)

pub wanted_count : (m : Module) → length (all_wanted m) ≡ length m.ports + length m.nets
wanted_count m =
    let names = map port_wanted m.ports in
    let others = nets_wanted (own_wires m) 0 (length m.ports) m.nets in
    length-append names others ∙ ap (λ (n : ℕ). n + length others) (length-map m.ports port_wanted)
    ∙ ap (λ (n : ℕ). length m.ports + n) (each_wanted (own_wires m) 0 (length m.ports) m.nets)

pub own_count : (m : Module) → length (own_nets m).list ≡ length m.ports + length m.nets
own_count m =
    let sizes = map (λ (p : Port). length p.bits) m.ports in
    let lengths = map (λ (n : NetName). length n.bits) m.nets in
    let all = wanted_count m in
    let wide : length (widths m) ≡ length m.ports + length m.nets =
    length-append sizes lengths ∙ ap (λ (n : ℕ). n + length lengths)
    (length-map m.ports (λ (p : Port). length p.bits))
    ∙ ap (λ (n : ℕ). length m.ports + n) (length-map m.nets (λ (n : NetName). length n.bits)) in
    let made : length (own_nets m).list ≡ 0 + length (all_wanted m) =
    all_added (all_wanted m) (widths m) (no_nets (own_wires m)) (all ∙ sym wide) in
    omega arith

pub own_told : (m : Module) → AreTold (own_nets m)
own_told m =
    let same = same_wires (all_wanted m) (widths m) (no_nets (own_wires m)) in
    record {
      apart = subst AreApart (sym same) (own_wires_apart m);
      inside =
          subst (λ (ws : Wires). AreInside (length (own_nets m).list) ws) (sym same)
          (subst (λ (n : ℕ). AreInside n (own_wires m)) (sym (own_count m))
          (vectors_inside (length m.ports + length m.nets) (vectors m) [] (vectors_within m) tt));
    }

-- Two bits that are called by one bit of one net are one number.
pub told_apart : (m : Module) (labels : List (List ℕ)) (shapes : List (Option Shape)) →
    TellsApart (cells_written m.cells labels shapes (own_nets m)).nets
told_apart m labels shapes =
    let told = cells_keep AreTold other_told undriven_told m.cells labels shapes (own_nets m)
    (own_told m) in
    record {
      one = one_bit (cells_written m.cells labels shapes (own_nets m)).nets.wires told.apart;
    }
