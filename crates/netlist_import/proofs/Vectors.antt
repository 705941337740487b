-- The vectors of a module are different nets, so no two bits are called by one bit of a net.
use Rattle.std.proofs.Common.{◌≡◌, ℕ, suc, ◌+◌, ◌<◌, ◌≤◌, Bool, true, false, cond, List, [], ◌∷◌, ◌++◌, length, map, filter, refl, sym, arith}
use Rattle.std.specs.List.{AllByRecursion}
use Rattle.netlist_import.specs.declared.netlist.Bit as netlist
use Rattle.netlist_import.specs.declared.netlist.Direction.{Direction}
use Rattle.netlist_import.specs.declared.netlist.Direction.TheVariants.{Input, Output}
use Rattle.netlist_import.specs.declared.netlist.Port.{Port}
use Rattle.netlist_import.specs.declared.netlist.NetName.{NetName}
use Rattle.netlist_import.specs.declared.netlist.Module.{Module}
use Rattle.netlist_import.specs.Kinds.{is_same_way}
use Rattle.netlist_import.specs.Nets.{Vector, Wires, is_same, net_vectors, numbered_from, own_wires, port_vectors, vectors, with_bits, with_vectors}
use Rattle.netlist_import.proofs.Apart.{AreApart, AreBelow, bits_beside, bits_claimed}

-- ---- vectors of different nets

abbrev DiffersFrom : Vector → List Vector → Type 0
DiffersFrom v us = AllByRecursion (λ u. u.0 ≡ v.0 → ⊥) us

abbrev AreDifferentNets : List Vector → Type 0
AreDifferentNets [] = Unit {0}
AreDifferentNets (v ∷ vs) = DiffersFrom v vs × AreDifferentNets vs

abbrev AreNew : List Vector → Wires → Type 0
AreNew [] ws = Unit {0}
AreNew (v ∷ vs) ws = AreBelow v.0 0 ws × AreNew vs ws

new_after : (v : Vector) (vs : List Vector) (ws : Wires) → DiffersFrom v vs → AreNew vs ws →
    AreNew vs (with_bits v.0 (numbered_from 0 v.1) ws)
new_after v [] ws differ new = tt
new_after v (u ∷ vs) ws differ new = (
  bits_beside u.0 v.0 0 v.1 ws (λ same. differ.0 (sym same)) new.0,
  new_after v vs ws differ.1
      new.1,
)

vectors_apart : (vs : List Vector) (ws : Wires) → AreApart ws → AreDifferentNets vs → AreNew vs ws →
    AreApart (with_vectors vs ws)
unfolding with_vectors
vectors_apart [] ws apart differ new = apart
vectors_apart (v ∷ vs) ws apart differ new =
    vectors_apart vs (with_bits v.0 (numbered_from 0 v.1) ws)
    (bits_claimed v.0 0 v.1 ws (record { apart = apart; below = new.0 })) differ.1
    (new_after v vs ws differ.0 new.1)

new_in_none : (vs : List Vector) → AreNew vs []
new_in_none [] = tt
new_in_none (v ∷ vs) = (tt, new_in_none vs)

-- ---- each vector of some beside each of others

abbrev AreBeside : List Vector → List Vector → Type 0
AreBeside [] us = Unit {0}
AreBeside (v ∷ vs) us = DiffersFrom v us × AreBeside vs us

differs_both : (v : Vector) (us ws : List Vector) → DiffersFrom v us → DiffersFrom v ws →
    DiffersFrom v (us ++ ws)
differs_both v [] ws a b = b
differs_both v (u ∷ us) ws a b = (a.0, differs_both v us ws a.1 b)

beside_left : (vs us ws : List Vector) → AreBeside vs ws → AreBeside us ws → AreBeside (vs ++ us) ws
beside_left [] us ws a b = b
beside_left (v ∷ vs) us ws a b = (a.0, beside_left vs us ws a.1 b)

different_both : (vs us : List Vector) → AreDifferentNets vs → AreDifferentNets us →
    AreBeside vs us → AreDifferentNets (vs ++ us)
different_both [] us a b c = b
different_both (v ∷ vs) us a b c = (differs_both v vs us a.0 c.0, different_both vs us a.1 b c.1)

-- by the numbers of their nets
abbrev AreWithin : ℕ → ℕ → List Vector → Type 0
AreWithin low high vs = AllByRecursion (λ v. (low ≤ v.0) × (v.0 < high)) vs

differs_past : (v : Vector) (low high : ℕ) (us : List Vector) → v.0 < low → AreWithin low high us →
    DiffersFrom v us
differs_past v low high [] h within = tt
differs_past v low high (u ∷ us) h within = (
  λ same. let past = within.0.0 in omega arith,
  differs_past v low high us h within.1,
)

beside_past : (vs us : List Vector) (low middle high : ℕ) → AreWithin low middle vs →
    AreWithin middle high us → AreBeside vs us
beside_past [] us low middle high a b = tt
beside_past (v ∷ vs) us low middle high a b =
    (differs_past v middle high us a.0.1 b, beside_past vs us low middle high a.1 b)

-- ---- some of a numbered list

module _ {A : Type 0} (bits : A → List netlist.Bit) where
  abbrev picked : (A → Bool) → ℕ → List A → List Vector
  picked test first xs = map (λ x. (x.0, bits x.1))
      (filter (λ x. test x.1) (numbered_from first xs))

  raised : (low high more : ℕ) (vs : List Vector) → high ≡ more → AreWithin low high vs →
      AreWithin low more vs
  raised low high more [] e within = tt
  raised low high more (v ∷ vs) e within =
      ((within.0.0, let less = within.0.1 in omega arith), raised low high more vs e within.1)

  picked_within : (test : A → Bool) (first : ℕ) (xs : List A) →
      AreWithin first (first + length xs) (picked test first xs)
  unfolding numbered_from
  picked_within test first [] = tt
  picked_within test first (x ∷ xs) = at (test x)
      (later (picked test (first + 1) xs) (picked_within test (first + 1) xs))
    where
      later : (vs : List Vector) → AreWithin (first + 1) (first + 1 + length xs) vs →
          AreWithin first (first + suc (length xs)) vs
      later [] within = tt
      later (v ∷ vs) within = (
        (let past = within.0.0 in omega arith, let less = within.0.1 in omega arith),
        later vs
            within.1,
      )

      at : (b : Bool) → AreWithin first (first + suc (length xs)) (picked test (first + 1) xs) →
          AreWithin first (first + suc (length xs))
          (map (λ y. (y.0, bits y.1)) (cond b
          ((first, x) ∷ filter (λ y. test y.1) (numbered_from (first + 1) xs))
          (filter (λ y. test y.1) (numbered_from (first + 1) xs))))
      at true rest = ((omega arith, omega arith), rest)
      at false rest = rest

  picked_different : (test : A → Bool) (first : ℕ) (xs : List A) →
      AreDifferentNets (picked test first xs)
  unfolding numbered_from
  picked_different test first [] = tt
  picked_different test first (x ∷ xs) = at (test x) (picked_different test (first + 1) xs)
    where
      at : (b : Bool) → AreDifferentNets (picked test (first + 1) xs) →
          AreDifferentNets (map (λ y. (y.0, bits y.1))
          (cond b ((first, x) ∷ filter (λ y. test y.1) (numbered_from (first + 1) xs))
          (filter (λ y. test y.1) (numbered_from (first + 1) xs))))
      at true rest = (
        differs_past (first, bits x) (first + 1) (first + 1 + length xs)
            (picked test (first + 1) xs) (omega arith) (picked_within test (first + 1) xs),
        rest,
      )
      at false rest = rest

  -- no element passes both
  picked_beside : (test other : A → Bool) → ((x : A) → test x ≡ true → other x ≡ true → ⊥) →
      (first : ℕ) (xs : List A) →
      AreBeside (picked test first xs) (picked other first xs)
  unfolding numbered_from
  picked_beside test other apart first [] = tt
  picked_beside test other apart first (x ∷ xs) =
      at (test x) (other x) refl refl (picked_beside test other apart (first + 1) xs)
    where
      with_one : (vs : List Vector) → AreWithin (first + 1) (first + 1 + length xs) vs →
          AreBeside vs (picked other (first + 1) xs) →
          AreBeside vs ((first, bits x) ∷ picked other (first + 1) xs)
      with_one [] within beside = tt
      with_one (v ∷ vs) within beside =
          ((λ same. let past = within.0.0 in omega arith, beside.0), with_one vs within.1 beside.1)

      at : (a b : Bool) → test x ≡ a → other x ≡ b →
          AreBeside (picked test (first + 1) xs) (picked other (first + 1) xs) →
          AreBeside (map (λ y. (y.0, bits y.1))
          (cond a ((first, x) ∷ filter (λ y. test y.1) (numbered_from (first + 1) xs))
          (filter (λ y. test y.1) (numbered_from (first + 1) xs))))
          (map (λ y. (y.0, bits y.1)) (cond b
          ((first, x) ∷ filter (λ y. other y.1) (numbered_from (first + 1) xs))
          (filter (λ y. other y.1) (numbered_from (first + 1) xs))))
      at true true e f rest = absurd (apart x e f)
      at true false e f rest = (
        differs_past (first, bits x) (first + 1) (first + 1 + length xs)
            (picked other (first + 1) xs) (omega arith) (picked_within other (first + 1) xs),
        rest,
      )
      at false true e f rest = with_one (picked test (first + 1) xs)
          (picked_within test (first + 1) xs) rest
      at false false e f rest = rest

-- ---- those of a module

one_way : (p : Port) → is_same_way p.direction Input ≡ true → is_same_way p.direction Output
    ≡ true → ⊥
one_way p = at p.direction
  where
    at : (way : Direction) → is_same_way way Input ≡ true → is_same_way way Output ≡ true → ⊥
    at Input e f = cc
    at Output e f = cc

one_sort : (n : NetName) → is_same n.is_hidden false ≡ true → is_same n.is_hidden true ≡ true → ⊥
one_sort n = at n.is_hidden
  where
    at : (b : Bool) → is_same b false ≡ true → is_same b true ≡ true → ⊥
    at true e f = cc
    at false e f = cc

different_nets : (m : Module) → AreDifferentNets (vectors m)
different_nets m =
    let count = length m.ports in
    let high = count + length m.nets in
    let ins = port_vectors Input 0 m.ports in
    let outs = port_vectors Output 0 m.ports in
    let shown = net_vectors false count m.nets in
    let hidden = net_vectors true count m.nets in
    let low : (way : Direction) → AreWithin 0 count (port_vectors way 0 m.ports) =
    λ way. raised (λ (p : Port). p.bits) 0 (0 + count) count (port_vectors way 0 m.ports)
    (omega arith)
    (picked_within (λ (p : Port). p.bits) (λ p. is_same_way p.direction way) 0 m.ports) in
    let past : (sort : Bool) → AreWithin count high (net_vectors sort count m.nets) =
    λ sort. picked_within (λ (n : NetName). n.bits) (λ n. is_same n.is_hidden sort) count m.nets in
    let of_way : (way : Direction) → AreDifferentNets (port_vectors way 0 m.ports) =
    λ way. picked_different (λ (p : Port). p.bits) (λ p. is_same_way p.direction way) 0 m.ports in
    let of_sort : (sort : Bool) → AreDifferentNets (net_vectors sort count m.nets) =
    λ sort. picked_different (λ (n : NetName). n.bits) (λ n. is_same n.is_hidden sort) count m.nets
    in
    let ports = different_both ins outs (of_way Input) (of_way Output)
    (picked_beside (λ (p : Port). p.bits) (λ p. is_same_way p.direction Input)
    (λ p. is_same_way p.direction Output) one_way 0 m.ports) in
    let with_shown = different_both (ins ++ outs) shown ports (of_sort false)
    (beside_left ins outs shown (beside_past ins shown 0 count high (low Input) (past false))
    (beside_past outs shown 0 count high (low Output) (past false))) in
    different_both (ins ++ outs ++ shown) hidden with_shown (of_sort true)
    (beside_left (ins ++ outs) shown hidden
    (beside_left ins outs hidden (beside_past ins hidden 0 count high (low Input) (past true))
    (beside_past outs hidden 0 count high (low Output) (past true)))
    (picked_beside (λ (n : NetName). n.bits) (λ n. is_same n.is_hidden false)
    (λ n. is_same n.is_hidden true) one_sort count m.nets))

-- Each bit of a net that calls a bit of the module calls one.
pub own_wires_apart : (m : Module) → AreApart (own_wires m)
own_wires_apart m = vectors_apart (vectors m) [] tt (different_nets m) (new_in_none (vectors m))

-- ---- the numbers of their nets

widened : (low high less more : ℕ) (vs : List Vector) → less ≤ low → high ≤ more →
    AreWithin low high vs → AreWithin less more vs
widened low high less more [] l m within = tt
widened low high less more (v ∷ vs) l m within = (
  (let past = within.0.0 in omega arith, let below = within.0.1 in omega arith),
  widened low high
      less more vs l m within.1,
)

within_both : (low high : ℕ) (vs us : List Vector) → AreWithin low high vs → AreWithin low high us →
    AreWithin low high (vs ++ us)
within_both low high [] us a b = b
within_both low high (v ∷ vs) us a b = (a.0, within_both low high vs us a.1 b)

below : (low high : ℕ) (vs : List Vector) → AreWithin low high vs →
    AllByRecursion (λ v. v.0 < high) vs
below low high [] within = tt
below low high (v ∷ vs) within = (within.0.1, below low high vs within.1)

-- Each is that of a port or a net.
pub vectors_within : (m : Module) → AllByRecursion (λ v. v.0 < length m.ports + length m.nets)
    (vectors m)
vectors_within m =
    let count = length m.ports in
    let high = count + length m.nets in
    let ins = port_vectors Input 0 m.ports in
    let outs = port_vectors Output 0 m.ports in
    let shown = net_vectors false count m.nets in
    let hidden = net_vectors true count m.nets in
    let low : (way : Direction) → AreWithin 0 high (port_vectors way 0 m.ports) =
    λ way. widened 0 (0 + count) 0 high (port_vectors way 0 m.ports) (omega arith) (omega arith)
    (picked_within (λ (p : Port). p.bits) (λ p. is_same_way p.direction way) 0 m.ports) in
    let past : (sort : Bool) → AreWithin 0 high (net_vectors sort count m.nets) =
    λ sort. widened count high 0 high (net_vectors sort count m.nets) (omega arith) (omega arith)
    (picked_within (λ (n : NetName). n.bits) (λ n. is_same n.is_hidden sort) count m.nets) in
    below 0 high (vectors m)
    (within_both 0 high (ins ++ outs ++ shown) hidden
    (within_both 0 high (ins ++ outs) shown (within_both 0 high ins outs (low Input) (low Output))
    (past false)) (past true))
