-- The names of nets have one order.
use Rattle.std.proofs.Common.{◌≡◌, ℕ, zero, suc, ◌+◌, ◌<◌, Bool, true, false, List, [], ◌∷◌, length, map, get_or, refl, sym, ap, subst, ◌∙◌, arith, eqb}
use Rattle.std.specs.Prelude.{IsTrue}
use Rattle.std.specs.List.{All, Contains, IsDistinct, range_with_len}
use Rattle.std.specs.List.Sorted.{IsStrictlySortedBy}
use Rattle.std.specs.BTreeSet as sorted
use Rattle.std.specs.BTreeSet.{BTreeSet}
use Rattle.std.specs.declared.cmp.Ordering.{Ordering}
use Rattle.std.specs.declared.cmp.Ordering.TheVariants.{Less, Equal, Greater}
use Rattle.std.specs.Ordering.{is_lt, ordering_reverse}
use Rattle.std.proofs.lemmas.Bool.{ne_eqb, eqb-false}
use Rattle.std.proofs.lemmas.List.{length-map, get_or-map}
use Rattle.std.proofs.lemmas.List.Elements.{All-head, All-tail, All-from_get_or}
use Rattle.std.proofs.lemmas.List.FromFn.{length-range_with_len, get_or-range_with_len}
use Rattle.std.proofs.lemmas.Map.Keys.{IsDistinct-from_apart, apart_from_distinct, IsDistinct-IsPermutation, sorted_from_all_adjacent}
use Rattle.std.proofs.lemmas.Map.Lookups.{btree_set_from_contains}
use Rattle.std.proofs.lemmas.Map.Views.{btree_set_contains_iff}
use Rattle.flat_circuit.specs.Name.{Name, nameless, name_cmp, name_at, AreDistinct, IsNameOrder}
use Rattle.flat_circuit.proofs.Names.{name_cmp_total, name_is, order_in, order_has}

-- what differs if what is made of it does
pub map_inj : {X Y : Type 0} (f : X → Y) (P : X → Type 0) → ((a b : X) → P a → P b → f a ≡ f b → a ≡ b) →
    (xs ys : List X) → All P xs → All P ys → map f xs ≡ map f ys → xs ≡ ys
map_inj f P inj [] [] p q e = refl
map_inj f P inj [] (y ∷ ys) p q e = absurd cc
map_inj f P inj (x ∷ xs) [] p q e = absurd cc
map_inj f P inj (x ∷ xs) (y ∷ ys) p q e =
    let first : f x ≡ f y = cc in
    let others : map f xs ≡ map f ys = cc in
    let a : x ≡ y = inj x y (All-head P x xs p) (All-head P y ys q) first in
    let b : xs ≡ ys = map_inj f P inj xs ys (All-tail P x xs p) (All-tail P y ys q) others in
    rw (a, b) refl

-- ---- the numbers of an order are different

eqb_flips : (x y : ℕ) → eqb x y ≡ eqb y x
eqb_flips x y = grind arith

range_distinct : (n : ℕ) → IsDistinct eqb (range_with_len 0 n)
range_distinct n = IsDistinct-from_apart eqb (range_with_len 0 n) (λ i j d before within.
    let l : j < n = omega (arith, length-range_with_len 0 n) in
    let k : i < n = omega arith in
    let a = get_or-range_with_len 0 n i d k in
    let b = get_or-range_with_len 0 n j d l in
    ne_eqb (get_or (range_with_len 0 n) i d) (get_or (range_with_len 0 n) j d) (λ e. omega (arith, a, b, e)))

order_apart : (ns : List Name) (o : List ℕ) (i j : ℕ) → IsNameOrder ns o → i < j → j < length o → get_or o i 0 ≡ get_or o j 0 → ⊥
order_apart ns o i j is before within =
    eqb-false (get_or o i 0) (get_or o j 0)
    (apart_from_distinct eqb o i j 0 (IsDistinct-IsPermutation eqb eqb_flips (range_with_len 0 (length ns)) o is.each (range_distinct (length ns))) before within)

-- ---- the names stand in strict order

abbrev names_in : List Name → List ℕ → List Name
names_in ns o = map (name_at ns) o

less : (a b : Name) (r : Ordering) → name_cmp a b ≡ r → is_lt (name_cmp b a) ≡ false → (a ≡ b → ⊥) → name_cmp a b ≡ Less
less a b Less e up apart = e
less a b Equal e up apart = absurd (apart (name_is a b e))
less a b Greater e up apart =
    let back : name_cmp b a ≡ ordering_reverse (name_cmp a b) = name_cmp_total.antisymm b a in
    let turned : name_cmp b a ≡ Less = back ∙ ap ordering_reverse e in
    absurd (let no : is_lt Less ≡ false = subst (λ (z : Ordering). is_lt z ≡ false) turned up in cc)

names_rise : (ns : List Name) (o : List ℕ) → AreDistinct ns → IsNameOrder ns o → IsStrictlySortedBy name_cmp (names_in ns o)
names_rise ns o distinct is = sorted_from_all_adjacent name_cmp_total (names_in ns o) nameless (λ k within.
    let next : k + 1 < length o = omega (arith, length-map o (name_at ns)) in
    let here : k < length o = omega arith in
    let a = get_or-map (name_at ns) o k 0 nameless here in
    let b = get_or-map (name_at ns) o (k + 1) 0 nameless next in
    let rises = less (name_at ns (get_or o k 0)) (name_at ns (get_or o (k + 1) 0)) (name_cmp (name_at ns (get_or o k 0)) (name_at ns (get_or o (k + 1) 0))) refl
    (is.sorted k 0 (omega arith) next)
    (λ e. order_apart ns o k (k + 1) is (omega arith) next
    (distinct (get_or o k 0) (get_or o (k + 1) 0) (order_in ns o k 0 is here) (order_in ns o (k + 1) 0 is next) e)) in
    rw (a, b) rises)

-- ---- and are the same names

abbrev set_of : List Name → BTreeSet Name
set_of names = record { keys = names }

has_name : (ns : List Name) (o o' : List ℕ) (n : Name) → IsNameOrder ns o → IsNameOrder ns o' → Contains (names_in ns o) n → Contains (names_in ns o') n
has_name ns o o' n is is' c =
    let within : c.0 < length o = omega (arith, c.1, length-map o (name_at ns)) in
    let at : n ≡ name_at ns (get_or o c.0 0) = sym c.2 ∙ get_or-map (name_at ns) o c.0 0 n within in
    let d = order_has ns o' (get_or o c.0 0) is' (order_in ns o c.0 0 is within) in
    let inside : d.0 < length (names_in ns o') = omega (arith, d.1, length-map o' (name_at ns)) in
    let found : get_or o' d.0 0 ≡ get_or o c.0 0 = get_or_any o' d.0 0 (get_or o c.0 0) d.1 ∙ d.2 in
    (d.0, inside, get_or-map (name_at ns) o' d.0 0 n d.1 ∙ ap (name_at ns) found ∙ sym at)
  where
    get_or_any : (xs : List ℕ) (i a b : ℕ) → i < length xs → get_or xs i a ≡ get_or xs i b
    get_or_any [] i a b h = absurd (omega arith)
    get_or_any (x ∷ xs) zero a b h = refl
    get_or_any (x ∷ xs) (suc i) a b h = get_or_any xs i a b (omega arith)

same_set : (ns : List Name) (o o' : List ℕ) → IsNameOrder ns o → IsNameOrder ns o' → AreDistinct ns →
    (q : Name) → sorted.contains name_cmp (set_of (names_in ns o)) q ≡ sorted.contains name_cmp (set_of (names_in ns o')) q
same_set ns o o' is is' distinct q =
    let s = btree_set_contains_iff name_cmp_total name_is (set_of (names_in ns o)) q in
    let t = btree_set_contains_iff name_cmp_total name_is (set_of (names_in ns o')) q in
    both (sorted.contains name_cmp (set_of (names_in ns o)) q) (sorted.contains name_cmp (set_of (names_in ns o')) q)
    (λ h. t.1 (has_name ns o o' q is is' (s.0 h))) (λ h. s.1 (has_name ns o' o q is' is (t.0 h)))
  where
    both : (a b : Bool) → (IsTrue a → IsTrue b) → (IsTrue b → IsTrue a) → a ≡ b
    both true true f g = refl
    both false false f g = refl
    both true false f g = absurd (let no : IsTrue false = f refl in cc)
    both false true f g = absurd (let no : IsTrue false = g refl in cc)

-- Nets have one name order.
pub one_order : (ns : List Name) (o o' : List ℕ) → AreDistinct ns → IsNameOrder ns o → IsNameOrder ns o' → o ≡ o'
one_order ns o o' distinct is is' =
    map_inj (λ i. name_at ns i) (λ i. i < length ns) (λ a b p q e. distinct a b p q e) o o'
    (All-from_get_or (λ i. i < length ns) o 0 (λ i h. order_in ns o i 0 is h))
    (All-from_get_or (λ i. i < length ns) o' 0 (λ i h. order_in ns o' i 0 is' h))
    (btree_set_from_contains name_cmp_total (set_of (names_in ns o)) (set_of (names_in ns o')) (names_rise ns o distinct is) (names_rise ns o' distinct is')
    (same_set ns o o' is is' distinct) name_is)
