-- Two bits of a module that are called by one bit of a net are one.
use Rattle.std.proofs.Common.{◌≡◌, ℕ, ◌+◌, ◌<◌, Bool, true, false, cond, ◌&&◌, ◌||◌, ◌==◌, List, [], ◌∷◌, ◌++◌, refl, sym, ap, ◌∙◌, arith, Option, Some, None, is_some}
use Rattle.std.specs.List.{list_any, AllByRecursion}
use Rattle.std.proofs.lemmas.Bool.{and_parts, eq-eqb, eqb-true, or_parts}
use Rattle.netlist_import.specs.declared.netlist.Bit as netlist
use Rattle.netlist_import.specs.declared.netlist.Bit.TheVariants as bit
use Rattle.netlist_import.specs.Nets.{Wires, numbered_from, wire_of, with_bit, with_bits}
use Rattle.netlist_import.specs.declared.nets.Wire.{Wire}

abbrev same_wire : Wire → Wire → Bool
same_wire v w = v.net == w.net && v.index == w.index

same_itself : (w : Wire) → same_wire w w ≡ true
same_itself w = rw (eq-eqb w.net w.net refl, eq-eqb w.index w.index refl) refl

same_turned : (v w : Wire) → same_wire v w ≡ true → same_wire w v ≡ true
same_turned v w e =
    let parts = and_parts (v.net == w.net) (v.index == w.index) e in
    let net = eqb-true v.net w.net parts.0 in
    let index = eqb-true v.index w.index parts.1 in
    rw (eq-eqb w.net v.net (sym net), eq-eqb w.index v.index (sym index)) refl

-- a bit is called by this bit of a net
abbrev pub has_wire : Wire → Wires → Bool
has_wire w ws = list_any (λ e. same_wire e.1 w) ws

-- No two are called by one bit of one net.
abbrev pub AreApart : Wires → Type 0
AreApart [] = Unit {0}
AreApart (e ∷ es) = (has_wire e.1 es ≡ false) × AreApart es

found_in : (ws : Wires) (n : ℕ) (w : Wire) → wire_of n ws ≡ Some w → has_wire w ws ≡ true
found_in [] n w e = absurd (cc)
found_in ((m, v) ∷ ws) n w e = at (n == m) e (found_in ws n w)
  where
    at : (b : Bool) → cond b (Some v) (wire_of n ws) ≡ Some w →
        (wire_of n ws ≡ Some w → has_wire w ws ≡ true) →
        (same_wire v w || has_wire w ws) ≡ true
    at true e more =
        let same : v ≡ w = cc in
        rw (same, same_itself w) refl
    at false e more = rw (more e) (either (same_wire v w))
      where
        either : (b : Bool) → (b || true) ≡ true
        either true = refl
        either false = refl

pub one_bit : (ws : Wires) → AreApart ws → (n k : ℕ) (w : Wire) → wire_of n ws ≡ Some w →
    wire_of k ws ≡ Some w → n ≡ k
one_bit [] apart n k w e f = absurd (cc)
one_bit ((m, v) ∷ ws) apart n k w e f = at (n == m) (k == m) refl refl e f
    (one_bit ws apart.1 n k w)
  where
    clash : (j : ℕ) → Some v ≡ Some w → wire_of j ws ≡ Some w → n ≡ k
    clash j here there =
        let same : w ≡ v = cc in
        let found : has_wire v ws ≡ true = found_in ws j v (there ∙ ap (λ (x : Wire). Some x) same)
        in
        let none = apart.0 in
        absurd (cc)

    at : (a b : Bool) → (n == m) ≡ a → (k == m) ≡ b → cond a (Some v) (wire_of n ws) ≡ Some w →
        cond b (Some v) (wire_of k ws) ≡ Some w →
        (wire_of n ws ≡ Some w → wire_of k ws ≡ Some w → n ≡ k) → n ≡ k
    at true true x y e f more = eqb-true n m x ∙ sym (eqb-true k m y)
    at true false x y e f more = clash k e f
    at false true x y e f more = clash n f e
    at false false x y e f more = more e f

-- ---- with one more

not_turned : (v w : Wire) → same_wire v w ≡ false → same_wire w v ≡ false
not_turned v w e = at (same_wire w v) refl
  where
    at : (b : Bool) → same_wire w v ≡ b → same_wire w v ≡ false
    at false f = f
    at true f = let back = same_turned w v f in absurd (cc)

has_more : (ws : Wires) (n : ℕ) (v w : Wire) → has_wire w ws ≡ false → same_wire v w ≡ false →
    has_wire w (ws ++ (n, v) ∷ []) ≡ false
has_more [] n v w none other = rw other refl
has_more ((m, u) ∷ ws) n v w none other =
    let parts = or_parts (same_wire u w) (has_wire w ws) none in
    rw (parts.0, has_more ws n v w parts.1 other) refl

pub apart_more : (ws : Wires) (n : ℕ) (w : Wire) → AreApart ws → has_wire w ws ≡ false →
    AreApart (ws ++ (n, w) ∷ [])
apart_more [] n w apart none = (refl, tt)
apart_more ((m, v) ∷ ws) n w apart none =
    let parts = or_parts (same_wire v w) (has_wire w ws) none in
    (has_more ws n w v apart.0 (not_turned v w parts.0), apart_more ws n w apart.1 parts.1)

-- ---- the bits of a vector

-- Bits that are called by this net have an index below this one.
abbrev pub AreBelow : ℕ → ℕ → Wires → Type 0
AreBelow net index ws = AllByRecursion (λ e. e.1.net ≡ net → e.1.index < index) ws

below_more : (net index : ℕ) (ws : Wires) (n : ℕ) (w : Wire) → AreBelow net index ws →
    (w.net ≡ net → w.index < index) → AreBelow net index (ws ++ (n, w) ∷ [])
below_more net index [] n w below here = (here, tt)
below_more net index (e ∷ ws) n w below here = (below.0, below_more net index ws n w below.1 here)

below_later : (net index : ℕ) (ws : Wires) → AreBelow net index ws → AreBelow net (index + 1) ws
below_later net index [] below = tt
below_later net index (e ∷ ws) below = (
  λ same. let less = below.0 same in omega arith,
  below_later
      net index ws below.1,
)

none_at : (net index : ℕ) (ws : Wires) → AreBelow net index ws →
    has_wire (record { net = net; index = index }) ws ≡ false
none_at net index [] below = refl
none_at net index ((m, v) ∷ ws) below = at (same_wire v (record { net = net; index = index })) refl
    (none_at net index ws below.1)
  where
    at : (b : Bool) → same_wire v (record { net = net; index = index }) ≡ b →
        has_wire (record { net = net; index = index }) ws ≡ false →
        (b || has_wire (record { net = net; index = index }) ws) ≡ false
    at false e more = more
    at true e more =
        let parts = and_parts (v.net == net) (v.index == index) e in
        let less = below.0 (eqb-true v.net net parts.0) in
        let same = eqb-true v.index index parts.1 in
        absurd (omega arith)

-- What stays where the bits of a vector come, from this index on.
pub record IsClaimed (net index : ℕ) (ws : Wires) : Type 0 where
  pub apart : AreApart ws
  pub below : AreBelow net index ws

bit_claimed : (net index : ℕ) (b : netlist.Bit) (ws : Wires) → IsClaimed net index ws →
    IsClaimed net (index + 1) (with_bit net (index, b) ws)
bit_claimed net index (bit.Number n) ws is = at (wire_of n ws) refl
  where
    at : (o : Option Wire) → wire_of n ws ≡ o →
        IsClaimed net (index + 1) (cond (is_some o) ws
        (ws ++ (n, record { net = net; index = index }) ∷ []))
    at (Some v) e = record { apart = is.apart; below = below_later net index ws is.below }
    at None e = record {
      apart = apart_more ws n (record { net = net; index = index }) is.apart
          (none_at net index ws is.below);
      below = below_more net (index + 1) ws n (record { net = net; index = index })
          (below_later net index ws is.below) (λ same. omega arith);
    }
bit_claimed net index bit.Zero ws is = record {
  apart = is.apart;
  below = below_later net index ws is.below;
}
bit_claimed net index bit.One ws is = record {
  apart = is.apart;
  below = below_later net index ws is.below;
}
bit_claimed net index bit.Undriven ws is = record {
  apart = is.apart;
  below = below_later net index ws is.below;
}

pub bits_claimed : (net index : ℕ) (bits : List netlist.Bit) (ws : Wires) → IsClaimed net index ws →
    AreApart (with_bits net (numbered_from index bits) ws)
unfolding numbered_from with_bits
bits_claimed net index [] ws is = is.apart
bits_claimed net index (b ∷ bits) ws is = bits_claimed net (index + 1) bits
    (with_bit net (index, b) ws) (bit_claimed net index b ws is)

-- Other nets stay free.
pub bits_beside : (other net index : ℕ) (bits : List netlist.Bit) (ws : Wires) → (net ≡ other → ⊥) →
    AreBelow other 0 ws →
    AreBelow other 0 (with_bits net (numbered_from index bits) ws)
unfolding numbered_from with_bits
bits_beside other net index [] ws differ below = below
bits_beside other net index (b ∷ bits) ws differ below =
    bits_beside other net (index + 1) bits (with_bit net (index, b) ws) differ (beside b)
  where
    beside : (b : netlist.Bit) → AreBelow other 0 (with_bit net (index, b) ws)
    beside (bit.Number n) = at (wire_of n ws)
      where
        at : (o : Option Wire) → AreBelow other 0
            (cond (is_some o) ws (ws ++ (n, record { net = net; index = index }) ∷ []))
        at (Some v) = below
        at None = below_more other 0 ws n (record { net = net; index = index }) below
            (λ same. absurd (differ same))
    beside bit.Zero = below
    beside bit.One = below
    beside bit.Undriven = below
