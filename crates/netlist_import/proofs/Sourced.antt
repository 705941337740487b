-- A net that calls a bit has it among its bits, and so has a name.
use Rattle.std.proofs.Common.{◌≡◌, ℕ, zero, suc, ◌+◌, ◌<◌, Bool, true, false, cond, ◌||◌, ◌==◌, List, [], ◌∷◌, ◌++◌, length, get_or, map, filter, refl, sym, ap, subst, ◌∙◌, arith, Option, Some, None, is_some}
use Rattle.std.specs.List.{AllByRecursion, list_any}
use Rattle.std.proofs.lemmas.Bool.{eq-eqb, eqb-true}
use Rattle.std.proofs.lemmas.List.{length-map}
use Rattle.drawing_tree.proofs.Every.{every_append}
use Rattle.netlist_import.specs.declared.netlist.Bit as netlist
use Rattle.netlist_import.specs.declared.netlist.Bit.TheVariants as bit
use Rattle.netlist_import.specs.declared.netlist.Direction.{Direction}
use Rattle.netlist_import.specs.declared.netlist.Direction.TheVariants.{Input, Output}
use Rattle.netlist_import.specs.declared.netlist.Port.{Port}
use Rattle.netlist_import.specs.declared.netlist.NetName.{NetName}
use Rattle.netlist_import.specs.declared.netlist.Module.{Module}
use Rattle.netlist_import.specs.declared.nets.Wire.{Wire}
use Rattle.netlist_import.specs.Kinds.{is_same_way}
use Rattle.netlist_import.specs.Nets.{Vector, Wires, is_same, net_vectors, numbered_from, own_wires, port_vectors, vectors, wire_of, with_bit, with_bits, with_vectors}

-- ---- a number among bits

abbrev is_number : ℕ → netlist.Bit → Bool
is_number n (bit.Number k) = n == k
is_number n bit.Zero = false
is_number n bit.One = false
is_number n bit.Undriven = false

abbrev pub has_number : ℕ → List netlist.Bit → Bool
has_number n bits = list_any (is_number n) bits

number_first : (n : ℕ) (bits : List netlist.Bit) → has_number n (bit.Number n ∷ bits) ≡ true
number_first n bits = rw (eq-eqb n n refl) refl

number_later : (n : ℕ) (b : netlist.Bit) (bits : List netlist.Bit) → has_number n bits ≡ true →
    has_number n (b ∷ bits) ≡ true
number_later n b bits h = at (is_number n b)
  where
    at : (t : Bool) → (t || has_number n bits) ≡ true
    at true = refl
    at false = h

numbered_bits : (k : ℕ) (bits : List netlist.Bit) → map (λ b. b.1) (numbered_from k bits) ≡ bits
unfolding numbered_from
numbered_bits k [] = refl
numbered_bits k (b ∷ bits) = ap (λ (bs : List netlist.Bit). b ∷ bs) (numbered_bits (k + 1) bits)

-- ---- what claimed bits are

-- What holds of each bit of a net holds of each that is called by it.
module _ (P : ℕ → Wire → Type 0) where
  bits_from : (net : ℕ) (bits : List (ℕ × netlist.Bit)) →
      ((n index : ℕ) → has_number n (map (λ b. b.1) bits) ≡ true →
      P n (record { net = net; index = index })) →
      (ws : Wires) → AllByRecursion (λ e. P e.0 e.1) ws →
      AllByRecursion (λ e. P e.0 e.1) (with_bits net bits ws)
  unfolding with_bits
  bits_from net [] from ws all = all
  bits_from net ((index, b) ∷ bits) from ws all =
      bits_from net bits (λ n i h. from n i (number_later n b (map (λ x. x.1) bits) h))
      (with_bit net (index, b) ws) (one b (λ n h. from n index h))
    where
      one : (c : netlist.Bit) → ((n : ℕ) → has_number n (c ∷ map (λ x. x.1) bits) ≡ true →
          P n (record { net = net; index = index })) →
          AllByRecursion (λ e. P e.0 e.1) (with_bit net (index, c) ws)
      one (bit.Number n) here = at (wire_of n ws)
        where
          at : (o : Option Wire) → AllByRecursion (λ e. P e.0 e.1)
              (cond (is_some o) ws (ws ++ (n, record { net = net; index = index }) ∷ []))
          at (Some v) = all
          at None = every_append (λ e. P e.0 e.1) ws ((n, record { net = net; index = index }) ∷ [])
              all (here n (number_first n (map (λ x. x.1) bits)), tt)
      one bit.Zero here = all
      one bit.One here = all
      one bit.Undriven here = all

  vectors_from : (vs : List Vector) →
      AllByRecursion (λ v. (n index : ℕ) → has_number n v.1 ≡ true →
      P n (record { net = v.0; index = index })) vs →
      (ws : Wires) → AllByRecursion (λ e. P e.0 e.1) ws →
      AllByRecursion (λ e. P e.0 e.1) (with_vectors vs ws)
  unfolding with_vectors
  vectors_from [] from ws all = all
  vectors_from (v ∷ vs) from ws all =
      vectors_from vs from.1 (with_bits v.0 (numbered_from 0 v.1) ws)
      (bits_from v.0 (numbered_from 0 v.1)
      (λ n index h. from.0 n index (sym (ap (λ (bs : List netlist.Bit). has_number n bs)
      (numbered_bits 0 v.1)) ∙ h))
      ws all)

-- ---- the bits of each net

abbrev pub bits_by : Module → ℕ → List netlist.Bit
bits_by m i = get_or (map (λ p. p.bits) m.ports ++ map (λ n. n.bits) m.nets) i []

get_front : (xs ys : List (List netlist.Bit)) (j : ℕ) → j < length xs →
    get_or (xs ++ ys) j [] ≡ get_or xs j []
get_front [] ys j h = absurd (omega arith)
get_front (x ∷ xs) ys zero h = refl
get_front (x ∷ xs) ys (suc j) h = get_front xs ys j (omega arith)

get_past : (xs ys : List (List netlist.Bit)) (j : ℕ) →
    get_or (xs ++ ys) (length xs + j) [] ≡ get_or ys j []
get_past [] ys j =
    let same : 0 + j ≡ j = omega arith in ap (λ (k : ℕ). get_or ys k []) same
get_past (x ∷ xs) ys j =
    let same : suc (length xs) + j ≡ suc (length xs + j) = omega arith in
    ap (λ (k : ℕ). get_or (x ∷ xs ++ ys) k []) same ∙ get_past xs ys j

-- Vectors are the bits of what they are numbered after.
module _ {A : Type 0} (bits : A → List netlist.Bit) (test : A → Bool)
    (at : ℕ → List netlist.Bit) where
  abbrev picked : ℕ → List A → List Vector
  picked first xs = map (λ y. (y.0, bits y.1)) (filter (λ y. test y.1) (numbered_from first xs))

  abbrev AreAt : List Vector → Type 0
  AreAt vs = AllByRecursion (λ v. v.1 ≡ at v.0) vs

  picked_at : (first : ℕ) (xs : List A) →
      ((j : ℕ) → j < length xs → at (first + j) ≡ get_or (map bits xs) j []) →
      AreAt (picked first xs)
  unfolding numbered_from
  picked_at first [] known = tt
  picked_at first (x ∷ xs) known =
      one (test x) (picked_at (first + 1) xs (λ j h. more j h))
    where
      more : (j : ℕ) → j < length xs → at (first + 1 + j) ≡ get_or (map bits xs) j []
      more j h =
          let same : first + 1 + j ≡ first + suc j = omega arith in
          ap (λ (k : ℕ). at k) same ∙ known (suc j) (omega arith)

      here : bits x ≡ at first
      here =
          let same : first + 0 ≡ first = omega arith in
          sym (known 0 (omega arith)) ∙ ap (λ (k : ℕ). at k) same

      one : (b : Bool) → AreAt (picked (first + 1) xs) →
          AreAt (map (λ y. (y.0, bits y.1)) (cond b
          ((first, x) ∷ filter (λ y. test y.1) (numbered_from (first + 1) xs))
          (filter (λ y. test y.1) (numbered_from (first + 1) xs))))
      one true rest = (here, rest)
      one false rest = rest

vectors_at : (m : Module) → AllByRecursion (λ v. v.1 ≡ bits_by m v.0) (vectors m)
vectors_at m =
    let count = length m.ports in
    let fronts = map (λ (p : Port). p.bits) m.ports in
    let others = map (λ (n : NetName). n.bits) m.nets in
    let size : length fronts ≡ count = length-map m.ports (λ (p : Port). p.bits) in
    let low : (way : Direction) → AllByRecursion (λ v. v.1 ≡ bits_by m v.0)
    (port_vectors way 0 m.ports) = λ way.
    picked_at (λ (p : Port). p.bits) (λ p. is_same_way p.direction way) (λ i. bits_by m i) 0 m.ports
    (λ j h. let zero_more : 0 + j ≡ j = omega arith in
    ap (λ (k : ℕ). bits_by m k) zero_more ∙ get_front fronts others j (omega arith)) in
    let past : (sort : Bool) → AllByRecursion (λ v. v.1 ≡ bits_by m v.0)
    (net_vectors sort count m.nets) = λ sort.
    picked_at (λ (n : NetName). n.bits) (λ n. is_same n.is_hidden sort) (λ i. bits_by m i) count
    m.nets
    (λ j h. ap (λ (k : ℕ). bits_by m (k + j)) (sym size) ∙ get_past fronts others j) in
    every_append (λ v. v.1 ≡ bits_by m v.0)
    (port_vectors Input 0 m.ports ++ port_vectors Output 0 m.ports ++ net_vectors false count m.nets)
    (net_vectors true count m.nets)
    (every_append (λ v. v.1 ≡ bits_by m v.0)
    (port_vectors Input 0 m.ports ++ port_vectors Output 0 m.ports) (net_vectors false count m.nets)
    (every_append (λ v. v.1 ≡ bits_by m v.0) (port_vectors Input 0 m.ports)
    (port_vectors Output 0 m.ports) (low Input) (low Output)) (past false)) (past true)

-- ---- each bit that is called by a net is one of that net's

pub lookup_all : (P : ℕ → Wire → Type 0) (ws : Wires) (n : ℕ) (v : Wire) →
    AllByRecursion (λ e. P e.0 e.1) ws → wire_of n ws ≡ Some v → P n v
lookup_all P [] n v all e = absurd (cc)
lookup_all P ((m, u) ∷ ws) n v all e = at (n == m) refl e (λ g. lookup_all P ws n v all.1 g)
  where
    at : (b : Bool) → (n == m) ≡ b → cond b (Some u) (wire_of n ws) ≡ Some v →
        (wire_of n ws ≡ Some v → P n v) → P n v
    at true f g more =
        let number : m ≡ n = sym (eqb-true n m f) in
        let same : u ≡ v = cc in
        subst (λ (w : Wire). P n w) same (subst (λ (k : ℕ). P k u) number all.0)
    at false f g more = more g

pub own_bit : (m : Module) (n : ℕ) (v : Wire) → wire_of n (own_wires m) ≡ Some v →
    has_number n (bits_by m v.net) ≡ true
own_bit m n v e =
    lookup_all (λ k w. has_number k (bits_by m w.net) ≡ true) (own_wires m) n v
    (vectors_from (λ k w. has_number k (bits_by m w.net) ≡ true) (vectors m)
    (held (vectors m) (vectors_at m)) [] tt) e
  where
    held : (vs : List Vector) → AllByRecursion (λ v. v.1 ≡ bits_by m v.0) vs →
        AllByRecursion (λ v. (k index : ℕ) → has_number k v.1 ≡ true →
        has_number k (bits_by m v.0) ≡ true) vs
    held [] all = tt
    held (u ∷ us) all = (
      λ k index h. sym (ap (λ (bs : List netlist.Bit). has_number k bs) all.0) ∙ h,
      held us all.1,
    )
