-- A name is found by halves in the order of names.
use Rattle.std.proofs.Common.{◌≡◌, ℕ, suc, zero, ◌<◌, ◌≤◌, Bool, true, false, ◌&&◌, List, [], ◌∷◌, length, get_or, None, refl, arith, rules, tests, ap, sym, subst, ◌∙◌}
use Rattle.std.specs.Prelude.{nat_lt, slice_get}
use Rattle.std.specs.List.{list_any}
use Rattle.std.specs.Str.{bytes_eq}
use Rattle.std.specs.declared.cmp.Ordering.{Ordering}
use Rattle.std.specs.declared.cmp.Ordering.TheVariants.{Less, Equal, Greater}
use Rattle.std.specs.Ordering.{is_lt, nat_cmp, ordering_index, ordering_then}
use Rattle.std.specs.Cmp.Lexicographic.{slice_cmp}
use Rattle.std.proofs.lemmas.Bool.Decides.{nat_tests}
use Rattle.std.proofs.lemmas.Slice.Eq.{bytes_eq-Decides}
use Rattle.std.proofs.lemmas.Cmp.{nat_list_cmp_total, tied_itself}
use Rattle.std.proofs.lemmas.Option.{slice_get-get_or}
use Rattle.flat_circuit.specs.Name.{Name, name_at, name_cmp}
use Rattle.flat_circuit.specs.Circuit.{Circuit, IsCircuit, net_names}
use Rattle.flat_circuit.proofs.Names.{rises, name_is as named}
use Rattle.flat_circuit.proofs.Numbered.{order_long}
use Rattle.trace_tool.specs.Name.{name_in, name_of, scopes_of}
use Rattle.trace_tool.specs.Scope.{moves, scopes_before}
use Rattle.trace_tool.specs.Variable.{is_named, precedes}

-- the name at a place is that of the number there
pub name_is : (c : Circuit) (k d : ℕ) → k < length c.order → name_of c k ≡ name_at (net_names c.nets) (get_or c.order k d)
name_is c k d below = ap (name_in c) (slice_get-get_or c.order k d below)

-- before a text is before its bit 0
not_less : (bit : ℕ) → (nat_cmp bit 0 ≡ Less) → ⊥
not_less bit less = grind (arith, nat_tests)

index_of : (o p : Ordering) → (p ≡ Less → ⊥) → is_lt o ≡ true → ordering_index (ordering_then o p) ≡ 0
index_of Less p more lt = refl
index_of Equal p more lt = absurd (cc)
index_of Greater p more lt = absurd (cc)

less_by : (o p : Ordering) → (p ≡ Less → ⊥) → ordering_index (ordering_then o p) ≤ 0 → is_lt o ≡ true
less_by Less p more low = refl
less_by Equal Less more low = absurd (more refl)
less_by Equal Equal more low = absurd (omega arith)
less_by Equal Greater more low = absurd (omega arith)
less_by Greater p more low = absurd (omega arith)

abbrev at_text : List ℕ → ℕ → Name
at_text text bit = record { text = text; bit = bit }

-- of two places the first comes before what the second comes before
pub goes_down : (c : Circuit) (text : List ℕ) (k m : ℕ) → IsCircuit c → k ≤ m → m < length c.nets → precedes c m text ≡ true → precedes c k text ≡ true
goes_down c text k m known le below lt =
    let ns = net_names c.nets in
    let long = order_long c.nets c.order known.by_name in
    let up = rises (net_names c.nets) c.order (at_text text 0) known.by_name k m 0 le (omega (arith, long)) in
    let first = name_is c k 0 (omega (arith, long)) in
    let second = name_is c m 0 (omega (arith, long)) in
    let name = name_at (net_names c.nets) (get_or c.order m 0) in
    let zero_at = index_of (slice_cmp nat_cmp (name_of c m).text text) (nat_cmp (name_of c m).bit 0) (not_less (name_of c m).bit) lt in
    let at_second = ap (λ (n : Name). ordering_index (name_cmp n (at_text text 0))) (sym second) ∙ zero_at in
    less_by (slice_cmp nat_cmp (name_of c k).text text) (nat_cmp (name_of c k).bit 0) (not_less (name_of c k).bit)
    (subst (λ (n : Name). ordering_index (name_cmp n (at_text text 0)) ≤ 0) (sym first) (omega (arith, up, at_second)))

pub goes_up : (c : Circuit) (text : List ℕ) (k m : ℕ) → IsCircuit c → k ≤ m → m < length c.nets → precedes c k text ≡ false → precedes c m text ≡ false
goes_up c text k m known le below not = by (precedes c m text) refl
  where
    by : (lt : Bool) → precedes c m text ≡ lt → precedes c m text ≡ false
    by false is = is
    by true is = absurd (let down = goes_down c text k m known le below is in cc)

-- ---- what is found

cmp_is : (text other : List ℕ) → slice_cmp nat_cmp text other ≡ Equal → text ≡ other
cmp_is text other tied =
    ap (λ (n : Name). n.text) (named (at_text text 0) (at_text other 0) (ap (λ (o : Ordering). ordering_then o (nat_cmp 0 0)) tied))

-- one that is not before a text and is another comes after it, so none from there on is the text
none_later : (c : Circuit) (text : List ℕ) (p k : ℕ) → IsCircuit c → p ≤ k → k < length c.nets → precedes c p text ≡ false →
    ((name_of c p).text ≡ text → ⊥) → (name_of c k).text ≡ text → ⊥
none_later c text p k known le below later other same =
    let long = order_long c.nets c.order known.by_name in
    let bit = suc (name_of c k).bit in
    let up = rises (net_names c.nets) c.order (at_text text (suc (name_of c k).bit)) known.by_name p k 0 le (omega (arith, long)) in
    let first = name_is c p 0 (omega (arith, long)) in
    let second = name_is c k 0 (omega (arith, long)) in
    let low : ordering_index (name_cmp (name_of c k) (at_text text (suc (name_of c k).bit))) ≡ 0 = at_itself (name_of c k) text same in
    let least = ap (λ (n : Name). ordering_index (name_cmp n (at_text text (suc (name_of c k).bit)))) (sym second) ∙ low in
    let under : ordering_index (name_cmp (name_of c p) (at_text text (suc (name_of c k).bit))) ≤ 0 =
    subst (λ (n : Name). ordering_index (name_cmp n (at_text text (suc (name_of c k).bit))) ≤ 0) (sym first) (omega (arith, up, least)) in
    after (slice_cmp nat_cmp (name_of c p).text text) (nat_cmp (name_of c p).bit (suc (name_of c k).bit)) later (λ tied. other (cmp_is (name_of c p).text text tied)) under
  where
    at_itself : (n : Name) (text : List ℕ) → n.text ≡ text → ordering_index (name_cmp n (at_text text (suc n.bit))) ≡ 0
    at_itself n text same =
        let tied : slice_cmp nat_cmp n.text text ≡ Equal = ap (λ (t : List ℕ). slice_cmp nat_cmp n.text t) (sym same) ∙ tied_itself nat_list_cmp_total n.text in
        let less : nat_cmp n.bit (suc n.bit) ≡ Less = grind (arith, nat_tests) in
        ap (λ (o : Ordering). ordering_index (ordering_then o (nat_cmp n.bit (suc n.bit)))) tied ∙ ap ordering_index less

    after : (o q : Ordering) → is_lt o ≡ false → (o ≡ Equal → ⊥) → ordering_index (ordering_then o q) ≤ 0 → ⊥
    after Less q later other low = cc
    after Equal q later other low = other refl
    after Greater q later other low = omega arith

none_before : (c : Circuit) (text : List ℕ) (k : ℕ) → precedes c k text ≡ true → (name_of c k).text ≡ text → ⊥
none_before c text k lt same =
    let tied : slice_cmp nat_cmp (name_of c k).text text ≡ Equal =
    ap (λ (t : List ℕ). slice_cmp nat_cmp (name_of c k).text t) (sym same) ∙ tied_itself nat_list_cmp_total (name_of c k).text in
    let not : is_lt (slice_cmp nat_cmp (name_of c k).text text) ≡ false = ap is_lt tied in
    cc

any_at : {X : Type 0} (p : X → Bool) (xs : List X) (k : ℕ) (d : X) → k < length xs → p (get_or xs k d) ≡ true → list_any p xs ≡ true
any_at p [] k d below is = absurd (omega arith)
any_at p (x ∷ xs) zero d below is = grind arith
any_at p (x ∷ xs) (suc k) d below is = let rest = any_at p xs k d (omega arith) is in grind (arith, rest)

any_none : {X : Type 0} (p : X → Bool) (xs : List X) → ((k : ℕ) (d : X) → k < length xs → p (get_or xs k d) ≡ false) → list_any p xs ≡ false
any_none p [] none = refl
any_none p (x ∷ xs) none =
    let first = none 0 x (omega arith) in
    let rest = any_none p xs (λ k d below. none (suc k) d (omega arith)) in
    grind (arith, first, rest)

abbrev is_text : Circuit → List ℕ → ℕ → Bool
is_text c text i = bytes_eq (name_at (net_names c.nets) i).text text

not_equal : (text other : List ℕ) → (text ≡ other → ⊥) → bytes_eq text other ≡ false
not_equal text other differ = by (bytes_eq text other) refl
  where
    by : (same : Bool) → bytes_eq text other ≡ same → bytes_eq text other ≡ false
    by false is = is
    by true is = absurd (differ ((bytes_eq-Decides text other).0 is))

-- none is the text where the first that is not before it is another, or there is none
none_is : (c : Circuit) (text : List ℕ) (p : ℕ) → IsCircuit c → ((k : ℕ) → k < p → precedes c k text ≡ true) →
    ((k : ℕ) → p ≤ k → k < length c.nets → precedes c k text ≡ false) → (p < length c.nets → (name_of c p).text ≡ text → ⊥) →
    is_named c text ≡ false
none_is c text p known before after other =
    any_none (is_text c text) c.order (λ k d below. each k d below)
  where
    at_side : (k : ℕ) (early : Bool) → nat_lt k p ≡ early → k < length c.nets → (name_of c k).text ≡ text → ⊥
    at_side k true is inside same = none_before c text k (before k (search (rules, tests))) same
    at_side k false is inside same =
        let late : p ≤ k = search (rules, tests) in
        none_later c text p k known late inside (after p (omega arith) (omega arith)) (other (omega arith)) same

    each : (k d : ℕ) → k < length c.order → is_text c text (get_or c.order k d) ≡ false
    each k d below =
        let long = order_long c.nets c.order known.by_name in
        let inside : k < length c.nets = omega (arith, long) in
        let name = name_is c k d below in
        subst (λ (n : Name). bytes_eq n.text text ≡ false) name
        (not_equal (name_of c k).text text (at_side k (nat_lt k p) refl inside))

pub some_is : (c : Circuit) (text : List ℕ) (p : ℕ) → IsCircuit c → p < length c.nets → (name_of c p).text ≡ text → is_named c text ≡ true
some_is c text p known below same =
    let long = order_long c.nets c.order known.by_name in
    let inside : p < length c.order = omega (arith, long) in
    any_at (is_text c text) c.order p 0 inside
    (subst (λ (n : Name). bytes_eq n.text text ≡ true) (name_is c p 0 inside) ((bytes_eq-Decides (name_of c p).text text).1 same))

-- the test of the place that is found
pub found_is : (c : Circuit) (text : List ℕ) (p : ℕ) → IsCircuit c → ((k : ℕ) → k < p → precedes c k text ≡ true) →
    ((k : ℕ) → p ≤ k → k < length c.nets → precedes c k text ≡ false) →
    (nat_lt p (length c.nets) && bytes_eq (name_of c p).text text) ≡ is_named c text
found_is c text p known before after = by (nat_lt p (length c.nets)) (bytes_eq (name_of c p).text text) refl refl
  where
    by : (inside same : Bool) → nat_lt p (length c.nets) ≡ inside → bytes_eq (name_of c p).text text ≡ same → (inside && same) ≡ is_named c text
    by true true in_ is = sym (some_is c text p known (search (rules, tests)) ((bytes_eq-Decides (name_of c p).text text).0 is))
    by true false in_ is = sym (none_is c text p known before after (λ below same. let yes = (bytes_eq-Decides (name_of c p).text text).1 same in cc))
    by false same out is = sym (none_is c text p known before after (λ below same. let late : length c.nets ≤ p = search (rules, tests) in omega arith))

-- ---- past the last place there is no name

none_at : (xs : List ℕ) (i : ℕ) → length xs ≤ i → slice_get xs i ≡ None
none_at [] i past = refl
none_at (x ∷ xs) zero past = absurd (omega arith)
none_at (x ∷ xs) (suc i) past = none_at xs i (omega arith)

pub last_moves : (c : Circuit) (place : ℕ) → IsCircuit c → place ≡ length c.nets →
    moves (scopes_before c place) (scopes_of (name_of c place).text) ≡ moves (scopes_before c (length c.nets)) []
last_moves c place known is =
    let long = order_long c.nets c.order known.by_name in
    let past = none_at c.order place (omega (arith, long, is)) in
    ap (λ (n : Name). moves (scopes_before c place) (scopes_of n.text)) (ap (name_in c) past)
    ∙ ap (λ (n : ℕ). moves (scopes_before c n) []) is
