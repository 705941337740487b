-- Each net that calls a bit has a name, so two bits that are called by one name and one index are
-- one number.
use Rattle.std.proofs.Common.{◌≡◌, ℕ, zero, suc, ◌+◌, ◌<◌, ◌^◌, Bool, true, false, cond, not, ◌||◌, ◌==◌, ◌⊎◌, List, [], ◌∷◌, ◌++◌, length, get_or, map, codes, slice_get, refl, sym, ap, subst, ◌∙◌, arith, Option, Some, None, inl, inr}
use Rattle.std.specs.List.{AllByRecursion, IsDistinct}
use Rattle.std.specs.Str.{bytes_eq}
use Rattle.std.proofs.lemmas.Bool.{eq-eqb, eqb-true}
use Rattle.std.proofs.lemmas.List.{length_push}
use Rattle.netlist_import.specs.declared.netlist.Bit as netlist
use Rattle.netlist_import.specs.declared.netlist.Bit.TheVariants as bit
use Rattle.netlist_import.specs.declared.netlist.Port.{Port}
use Rattle.netlist_import.specs.declared.netlist.NetName.{NetName}
use Rattle.netlist_import.specs.declared.netlist.Module.{Module}
use Rattle.netlist_import.specs.declared.nets.Net.{Net}
use Rattle.netlist_import.specs.declared.nets.Wire.{Wire}
use Rattle.netlist_import.specs.declared.shapes.Shape.{Shape}
use Rattle.netlist_import.specs.Words.{counted, word_of}
use Rattle.netlist_import.specs.Fresh.{fresh}
use Rattle.netlist_import.specs.Kinds.{has_bits}
use Rattle.netlist_import.specs.Nets.{Wanted, Wires, all_wanted, hidden_after, is_in_net, names_a_bit, net_name, nets_wanted, next_wire, no_nets, own_nets, own_wires, port_wanted, widths, wire_of, with_all, with_net, with_other, with_undriven, with_wanted}
use Rattle.netlist_import.specs.declared.nets.Nets.{Nets}
use Rattle.netlist_import.specs.Body.{cells_written}
use Rattle.netlist_import.specs.Good.{NamesTellBits}
use Rattle.netlist_import.proofs.Apart.{one_bit}
use Rattle.netlist_import.proofs.Called.{AreCalled, IsWanted, called, fresh_called, is_called, one_net, other_called, own_called, own_wanted, undriven_called}
use Rattle.netlist_import.proofs.Claims.{same_wires}
use Rattle.netlist_import.proofs.Grown.{AreTold, cells_keep, other_told, own_told, undriven_told}
use Rattle.netlist_import.proofs.Sourced.{has_number, lookup_all, own_bit}

-- ---- lists that grow at their end

slice_front : (xs : List Net) (x : Net) (i : ℕ) → i < length xs →
    slice_get (xs ++ x ∷ []) i ≡ slice_get xs i
slice_front [] x i h = absurd (omega arith)
slice_front (y ∷ ys) x zero h = refl
slice_front (y ∷ ys) x (suc i) h = slice_front ys x i (omega arith)

slice_last : (xs : List Net) (x : Net) → slice_get (xs ++ x ∷ []) (length xs) ≡ Some x
slice_last [] x = refl
slice_last (y ∷ ys) x = slice_last ys x

slice_within : (xs : List Net) (i : ℕ) (x : Net) → slice_get xs i ≡ Some x → i < length xs
slice_within [] i x e = absurd (cc)
slice_within (y ∷ ys) zero x e = omega arith
slice_within (y ∷ ys) (suc i) x e = let less = slice_within ys i x e in omega arith

-- ---- a net that has a bit that it calls is wanted under a name

none_in : (n : ℕ) (bits : List netlist.Bit) → not (length bits == 0) ≡ false →
    has_number n bits ≡ true → ⊥
none_in n [] empty h = absurd (cc)
none_in n (b ∷ bs) empty h = at (length (b ∷ bs) == 0) refl empty
  where
    at : (t : Bool) → (length (b ∷ bs) == 0) ≡ t → not t ≡ false → ⊥
    at true f g = let zero_long = eqb-true (length (b ∷ bs)) 0 f in absurd (omega arith)
    at false f g = absurd (cc)

ports_none : (n : ℕ) (ports : List Port) (others : List Wanted) (more : List (List netlist.Bit))
    (i : ℕ) →
    ((j : ℕ) → i ≡ length ports + j → slice_get others j ≡ Some None →
    has_number n (get_or more j []) ≡ true → ⊥) →
    slice_get (map port_wanted ports ++ others) i ≡ Some None →
    has_number n (get_or (map (λ p. p.bits) ports ++ more) i []) ≡ true → ⊥
ports_none n [] others more i rest e h = rest i (omega arith) e h
ports_none n (p ∷ ports) others more zero rest e h = at (has_bits p) refl e
  where
    at : (b : Bool) → has_bits p ≡ b → Some (cond b (Some (word_of p.name)) None) ≡ Some None → ⊥
    at true f g = absurd (cc)
    at false f g = none_in n p.bits f h
ports_none n (p ∷ ports) others more (suc i) rest e h =
    ports_none n ports others more i (λ j f. rest j (omega arith)) e h

named_any : (ws : Wires) (n : ℕ) (v : Wire) → wire_of n ws ≡ Some v → (net : ℕ)
    (bits : List netlist.Bit) → v.net ≡ net → has_number n bits ≡ true →
    names_a_bit ws net bits ≡ true
named_any ws n v w net [] same h = absurd (cc)
named_any ws n v w net (bit.Number k ∷ bits) same h =
    at (n == k) refl h (named_any ws n v w net bits same)
  where
    either : (b : Bool) → (b || true) ≡ true
    either true = refl
    either false = refl

    at : (b : Bool) → (n == k) ≡ b → (b || has_number n bits) ≡ true →
        (has_number n bits ≡ true → names_a_bit ws net bits ≡ true) →
        (is_in_net net (wire_of k ws) || names_a_bit ws net bits) ≡ true
    at true f g more =
        let here : wire_of k ws ≡ Some v =
        subst (λ (j : ℕ). wire_of j ws ≡ Some v) (eqb-true n k f) w in
        let inside : is_in_net net (wire_of k ws) ≡ true =
        ap (λ (o : Option Wire). is_in_net net o) here ∙ eq-eqb v.net net same in
        rw inside refl
    at false f g more = rw (more g) (either (is_in_net net (wire_of k ws)))
named_any ws n v w net (bit.Zero ∷ bits) same h = named_any ws n v w net bits same h
named_any ws n v w net (bit.One ∷ bits) same h = named_any ws n v w net bits same h
named_any ws n v w net (bit.Undriven ∷ bits) same h = named_any ws n v w net bits same h

nets_none : (ws : Wires) (n : ℕ) (v : Wire) → wire_of n ws ≡ Some v → (hidden net : ℕ)
    (ns : List NetName) (j : ℕ) → v.net ≡ net + j →
    slice_get (nets_wanted ws hidden net ns) j ≡ Some None →
    has_number n (get_or (map (λ x. x.bits) ns) j []) ≡ true → ⊥
unfolding nets_wanted
nets_none ws n v w hidden net [] j i e h = absurd (cc)
nets_none ws n v w hidden net (x ∷ ns) zero i e h = at (names_a_bit ws net x.bits) refl e
  where
    at : (b : Bool) → names_a_bit ws net x.bits ≡ b →
        slice_get (cond b (Some (net_name hidden x) ∷ nets_wanted ws (hidden_after hidden x)
        (net + 1) ns) (None ∷ nets_wanted ws hidden (net + 1) ns)) zero ≡ Some None → ⊥
    at true f g = let there : Some (Some (net_name hidden x)) ≡ Some None = g in absurd (cc)
    at false f g =
        let named : names_a_bit ws net x.bits ≡ true =
        named_any ws n v w net x.bits (omega arith) h in
        absurd (cc)
nets_none ws n v w hidden net (x ∷ ns) (suc j) i e h =
    at (names_a_bit ws net x.bits) (λ hid g. nets_none ws n v w hid (net + 1) ns j (omega arith) g h)
    e
  where
    at : (b : Bool) → ((hid : ℕ) → slice_get (nets_wanted ws hid (net + 1) ns) j ≡ Some None → ⊥) →
        slice_get (cond b (Some (net_name hidden x) ∷ nets_wanted ws (hidden_after hidden x)
        (net + 1) ns) (None ∷ nets_wanted ws hidden (net + 1) ns)) (suc j) ≡ Some None → ⊥
    at true more g = more (hidden_after hidden x) g
    at false more g = more hidden g

own_none : (m : Module) (n : ℕ) (v : Wire) → wire_of n (own_wires m) ≡ Some v →
    slice_get (all_wanted m) v.net ≡ Some None → ⊥
own_none m n v w e =
    ports_none n m.ports (nets_wanted (own_wires m) 0 (length m.ports) m.nets)
    (map (λ x. x.bits) m.nets) v.net
    (λ j i f h. nets_none (own_wires m) n v w 0 (length m.ports) m.nets j i f h) e (own_bit m n v w)

-- ---- and is called by one

one_longer : (w : Wanted) (size : ℕ) (s : Nets) →
    length (with_wanted w size s).list ≡ length s.list + 1
one_longer None size s = length_push s.list (record { name = []; width = size })
one_longer (Some n) size s = length_push s.list (record { name = fresh s.taken n; width = size })

kept : (ws : List Wanted) (sizes : List ℕ) (s : Nets) (j : ℕ) → j < length s.list →
    slice_get (with_all ws sizes s).list j ≡ slice_get s.list j
unfolding with_all
kept [] sizes s j h = refl
kept (w ∷ ws) [] s j h = refl
kept (w ∷ ws) (size ∷ sizes) s j h =
    let more = one_longer w size s in
    kept ws sizes (with_wanted w size s) j (omega arith) ∙ one w
  where
    one : (v : Wanted) → slice_get (with_wanted v size s).list j ≡ slice_get s.list j
    one None = slice_front s.list (record { name = []; width = size }) j h
    one (Some name) = slice_front s.list (record { name = fresh s.taken name; width = size }) j h

items : (ws : List Wanted) (sizes : List ℕ) (s : Nets) → AllByRecursion IsWanted ws → (i : ℕ)
    (x : Net) → slice_get (with_all ws sizes s).list (length s.list + i) ≡ Some x →
    (slice_get ws i ≡ Some None → ⊥) → is_called x.name ≡ true
unfolding with_all
items [] sizes s wanted i x e some =
    let less = slice_within s.list (length s.list + i) x e in absurd (omega arith)
items (w ∷ ws) [] s wanted i x e some =
    let less = slice_within s.list (length s.list + i) x e in absurd (omega arith)
items (None ∷ ws) (size ∷ sizes) s wanted zero x e some = absurd (some refl)
items (Some name ∷ ws) (size ∷ sizes) s wanted zero x e some =
    let here = fresh s.taken name in
    let next = with_net name size s in
    let more : length next.list ≡ length s.list + 1 = one_longer (Some name) size s in
    let place : length s.list + 0 ≡ length s.list = omega arith in
    let there : slice_get (with_all ws sizes next).list (length s.list) ≡ Some x =
    sym (ap (λ (k : ℕ). slice_get (with_all ws sizes next).list k) place) ∙ e in
    let item : slice_get next.list (length s.list) ≡ Some (record { name = here; width = size }) =
    slice_last s.list (record { name = here; width = size }) in
    let is : Some (record { name = here; width = size }) ≡ Some x =
    sym item ∙ sym (kept ws sizes next (length s.list) (omega arith)) ∙ there in
    found (record { name = here; width = size }) x is (fresh_called s.taken name wanted.0)
  where
    found : (y z : Net) → Some y ≡ Some z → is_called y.name ≡ true → is_called z.name ≡ true
    found y z e c =
        let same : y ≡ z = cc in
        subst (λ (n : Net). is_called n.name ≡ true) same c
items (w ∷ ws) (size ∷ sizes) s wanted (suc i) x e some =
    let more = one_longer w size s in
    let place : length s.list + suc i ≡ length (with_wanted w size s).list + i = omega arith in
    items ws sizes (with_wanted w size s) wanted.1 i x
    (sym (ap (λ (k : ℕ). slice_get (with_all ws sizes (with_wanted w size s)).list k) place) ∙ e)
    some

-- ---- all nets of a module's macro

-- what calls a bit has a name
abbrev AreNamed : Nets → Type 0
AreNamed s = (n : ℕ) (v : Wire) (x : Net) → wire_of n s.wires ≡ Some v →
    slice_get s.list v.net ≡ Some x → is_called x.name ≡ true

pub record AreAllNamed (s : Nets) : Type 0 where
  pub told : AreTold s
  pub called : AreCalled s
  pub named : AreNamed s

split_more : (ws : Wires) (k n : ℕ) (w v : Wire) → wire_of k (ws ++ (n, w) ∷ []) ≡ Some v →
    (wire_of k ws ≡ Some v) ⊎ (w ≡ v)
split_more [] k n w v e = at (k == n) e
  where
    at : (b : Bool) → cond b (Some w) None ≡ Some v → (None ≡ Some v) ⊎ (w ≡ v)
    at true f = let same : w ≡ v = cc in inr same
    at false f = absurd (cc)
split_more ((m, u) ∷ ws) k n w v e = at (k == m) e (split_more ws k n w v)
  where
    at : (b : Bool) → cond b (Some u) (wire_of k (ws ++ (n, w) ∷ [])) ≡ Some v →
        (wire_of k (ws ++ (n, w) ∷ []) ≡ Some v → (wire_of k ws ≡ Some v) ⊎ (w ≡ v)) →
        (cond b (Some u) (wire_of k ws) ≡ Some v) ⊎ (w ≡ v)
    at true f more = inl f
    at false f more = more f

-- with one more net, those that were there stay
still_named : (s : Nets) (y : Net) → AreAllNamed s → (n : ℕ) (v : Wire) (x : Net) →
    wire_of n s.wires ≡ Some v → slice_get (s.list ++ y ∷ []) v.net ≡ Some x →
    is_called x.name ≡ true
still_named s y all n v x e f =
    let inside : v.net < length s.list =
    lookup_all (λ k w. w.net < length s.list) s.wires n v all.told.inside e in
    all.named n v x e (sym (slice_front s.list y v.net inside) ∙ f)

other_named : (n : ℕ) (s : Nets) → AreAllNamed s → AreAllNamed (with_other n s)
other_named n s all = record {
  told = other_told n s all.told;
  called = other_called n s all.called;
  named = λ k v x e f. at k v x f (split_more s.wires k n (next_wire s) v e);
}
  where
    here : Net
    here = record { name = fresh s.taken (codes "b"); width = 1 }

    at : (k : ℕ) (v : Wire) (x : Net) → slice_get (s.list ++ here ∷ []) v.net ≡ Some x →
        (wire_of k s.wires ≡ Some v) ⊎ (next_wire s ≡ v) → is_called x.name ≡ true
    at k v x f (inl e) = still_named s here all k v x e f
    at k v x f (inr e) =
        let place : v.net ≡ length s.list = sym (ap (λ (w : Wire). w.net) e) in
        let is : Some here ≡ Some x =
        sym (slice_last s.list here)
        ∙ sym (ap (λ (i : ℕ). slice_get (s.list ++ here ∷ []) i) place) ∙ f in
        let same : here ≡ x = cc in
        subst (λ (y : Net). is_called y.name ≡ true) same (fresh_called s.taken (codes "b") refl)

undriven_named : (width : ℕ) (s : Nets) → AreAllNamed s → AreAllNamed (with_undriven width s)
undriven_named width s all = record {
  told = undriven_told width s all.told;
  called = undriven_called width s all.called;
  named = λ k v x e f.
      still_named s (record { name = fresh s.taken (counted (codes "x") s.undriven); width = width })
      all k v x e f;
}

own_named : (m : Module) → AreAllNamed (own_nets m)
own_named m =
    let same = same_wires (all_wanted m) (widths m) (no_nets (own_wires m)) in
    record {
      told = own_told m;
      called = own_called m;
      named = λ n v x e f.
          let w : wire_of n (own_wires m) ≡ Some v =
          sym (ap (λ (ws : Wires). wire_of n ws) same) ∙ e in
          let place : 0 + v.net ≡ v.net = omega arith in
          items (all_wanted m) (widths m) (no_nets (own_wires m)) (own_wanted m) v.net x
          (ap (λ (i : ℕ). slice_get (own_nets m).list i) place ∙ f) (own_none m n v w);
    }

abbrev wire_at : ℕ → ℕ → Wire
wire_at net index = record { net = net; index = index }

wires_same : (v w : Wire) → v.net ≡ w.net → v.index ≡ w.index → v ≡ w
wires_same v w n i =
    ap (λ (k : ℕ). wire_at k v.index) n ∙ ap (λ (k : ℕ). wire_at w.net k) i

pub names_tell_bits : (m : Module) (labels : List (List ℕ)) (used : List (Option Shape)) →
    length (cells_written m.cells labels used (own_nets m)).nets.taken < 2 ^ 64 →
    NamesTellBits (cells_written m.cells labels used (own_nets m)).nets
names_tell_bits m labels used small =
    let s = (cells_written m.cells labels used (own_nets m)).nets in
    let all = cells_keep AreAllNamed other_named undriven_named m.cells labels used (own_nets m)
    (own_named m) in
    let differ : IsDistinct bytes_eq (called s.list) =
    subst (λ (ns : List (List ℕ)). IsDistinct bytes_eq ns) (sym all.called.names)
    (all.called.differ small) in
    record {
      one = λ n k v w x y e f g h name index.
          let net : v.net ≡ w.net =
          one_net s.list differ v.net w.net x y g h name (all.named n v x e g) in
          let same : v ≡ w = wires_same v w net index in
          one_bit s.wires all.told.apart n k w (e ∙ ap (λ (u : Wire). Some u) same) f;
    }
