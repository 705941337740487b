-- Nets that are added have names of their own, so a name tells a net.
use Rattle.std.proofs.Common.{◌≡◌, ℕ, zero, suc, ◌+◌, ◌<◌, ◌^◌, Bool, true, false, cond, not, ◌&&◌, ◌||◌, List, [], ◌∷◌, ◌++◌, length, map, take, codes, slice_get, refl, sym, ap, subst, ◌∙◌, arith, Some, None, ◌-◌}
use Rattle.std.specs.Prelude.{decimal, nat_le}
use Rattle.std.specs.List.{AllByRecursion, IsDistinct}
use Rattle.std.specs.Str.{bytes_eq}
use Rattle.std.proofs.lemmas.List.{length_push}
use Rattle.std.proofs.lemmas.Slice.Eq.{bytes_eq-Decides}
use Rattle.scald_base.specs.Word as word
use Rattle.scald_base.specs.Word.{longest_word}
use Rattle.drawing_tree.proofs.Every.{every_append}
use Rattle.netlist_import.specs.declared.netlist.Port.{Port}
use Rattle.netlist_import.specs.declared.netlist.NetName.{NetName}
use Rattle.netlist_import.specs.declared.netlist.Module.{Module}
use Rattle.netlist_import.specs.declared.nets.Net.{Net}
use Rattle.netlist_import.specs.Words.{after_backslash, base_byte, base_of, counted, free, is_reserved, marked, word_byte, word_of}
use Rattle.netlist_import.specs.Fresh.{fresh, is_new, least_number, numbered}
use Rattle.netlist_import.specs.Kinds.{has_bits}
use Rattle.netlist_import.specs.Nets.{Wanted, Wires, all_wanted, hidden_after, names_a_bit, net_name, nets_wanted, no_nets, own_nets, own_wires, port_wanted, widths, with_all, with_net, with_other, with_undriven, with_wanted}
use Rattle.netlist_import.specs.declared.nets.Nets.{Nets}
use Rattle.netlist_import.proofs.Distinct.{distinct_more, fresh_new, none_distinct}

-- ---- names that are not empty

abbrev pub is_called : List ℕ → Bool
is_called [] = false
is_called (b ∷ bs) = true

front_called : (xs ys : List ℕ) → is_called xs ≡ true → is_called (xs ++ ys) ≡ true
front_called [] ys e = absurd (cc)
front_called (x ∷ xs) ys e = refl

rest_called : (xs ys : List ℕ) → is_called ys ≡ true → is_called (xs ++ ys) ≡ true
rest_called [] ys e = e
rest_called (x ∷ xs) ys e = refl

numbered_called : (name : List ℕ) (n : ℕ) → is_called (numbered name n) ≡ true
numbered_called name n =
    let stem = take (longest_word - length (codes "_" ++ decimal n)) name in
    front_called (stem ++ codes "_") (decimal n) (rest_called stem (codes "_") refl)

pub fresh_called : (taken : List (List ℕ)) (name : List ℕ) → is_called name ≡ true →
    is_called (fresh taken name) ≡ true
unfolding fresh
fresh_called taken name e = at (nat_le (length name) longest_word && is_new taken name)
  where
    at : (b : Bool) → is_called (cond b name (numbered name (least_number taken name))) ≡ true
    at true = e
    at false = numbered_called name (least_number taken name)

marked_called : (b : Bool) (x : ℕ) (xs : List ℕ) → is_called (marked b (x ∷ xs)) ≡ true
marked_called true x xs = refl
marked_called false x xs = refl

free_called : (name : List ℕ) → is_called (free name) ≡ true
free_called [] = refl
free_called (x ∷ xs) = marked_called (not (word.is_letter x) || is_reserved (x ∷ xs)) x xs

-- ---- the names of nets

abbrev pub called : List Net → List (List ℕ)
called [] = []
called (x ∷ xs) = cond (is_called x.name) (x.name ∷ called xs) (called xs)

called_more : (xs : List Net) (x : Net) → is_called x.name ≡ true →
    called (xs ++ x ∷ []) ≡ called xs ++ x.name ∷ []
called_more [] x e = at (is_called x.name) e
  where
    at : (b : Bool) → b ≡ true → cond b (x.name ∷ []) [] ≡ x.name ∷ []
    at true f = refl
    at false f = absurd (cc)
called_more (y ∷ ys) x e = at (is_called y.name) (called_more ys x e)
  where
    at : (b : Bool) → called (ys ++ x ∷ []) ≡ called ys ++ x.name ∷ [] →
        cond b (y.name ∷ called (ys ++ x ∷ [])) (called (ys ++ x ∷ []))
        ≡ cond b (y.name ∷ called ys) (called ys) ++ x.name ∷ []
    at true more = ap (λ (ns : List (List ℕ)). y.name ∷ ns) more
    at false more = more

called_past : (xs : List Net) (width : ℕ) →
    called (xs ++ record { name = []; width = width } ∷ []) ≡ called xs
called_past [] width = refl
called_past (y ∷ ys) width = at (is_called y.name) (called_past ys width)
  where
    at : (b : Bool) → called (ys ++ record { name = []; width = width } ∷ []) ≡ called ys →
        cond b (y.name ∷ called (ys ++ record { name = []; width = width } ∷ []))
        (called (ys ++ record { name = []; width = width } ∷ []))
        ≡ cond b (y.name ∷ called ys) (called ys)
    at true more = ap (λ (ns : List (List ℕ)). y.name ∷ ns) more
    at false more = more

-- They are those that are taken, and differ.
pub record AreCalled (s : Nets) : Type 0 where
  pub names : called s.list ≡ s.taken
  pub differ : length s.taken < 2 ^ 64 → IsDistinct bytes_eq s.taken

-- ---- nets that are added

net_called : (name : List ℕ) (width : ℕ) (s : Nets) → is_called name ≡ true → AreCalled s →
    AreCalled (with_net name width s)
net_called name width s e told =
    let here = fresh s.taken name in
    let more : length (s.taken ++ here ∷ []) ≡ length s.taken + 1 = length_push s.taken here in
    record {
      names =
          called_more s.list (record { name = here; width = width }) (fresh_called s.taken name e)
          ∙ ap (λ (ns : List (List ℕ)). ns ++ here ∷ []) told.names;
      differ = λ small.
          distinct_more s.taken here (told.differ (omega arith))
          (fresh_new s.taken name (omega arith));
    }

pub other_called : (n : ℕ) (s : Nets) → AreCalled s → AreCalled (with_other n s)
other_called n s told =
    let later = net_called (codes "b") 1 s refl told in
    record { names = later.names; differ = later.differ }

pub undriven_called : (width : ℕ) (s : Nets) → AreCalled s → AreCalled (with_undriven width s)
undriven_called width s told =
    let later = net_called (counted (codes "x") s.undriven) width s refl told in
    record { names = later.names; differ = later.differ }

-- ---- the nets of a module

abbrev pub IsWanted : Wanted → Type 0
IsWanted None = Unit {0}
IsWanted (Some name) = is_called name ≡ true

all_called : (ws : List Wanted) (sizes : List ℕ) (s : Nets) → AllByRecursion IsWanted ws →
    AreCalled s → AreCalled (with_all ws sizes s)
unfolding with_all
all_called [] sizes s wanted told = told
all_called (w ∷ ws) [] s wanted told = told
all_called (w ∷ ws) (size ∷ sizes) s wanted told =
    all_called ws sizes (with_wanted w size s) wanted.1 (one w wanted.0)
  where
    one : (v : Wanted) → IsWanted v → AreCalled (with_wanted v size s)
    one None e = record { names = called_past s.list size ∙ told.names; differ = told.differ }
    one (Some name) e = net_called name size s e told

ports_wanted : (ports : List Port) → AllByRecursion IsWanted (map port_wanted ports)
ports_wanted [] = tt
ports_wanted (p ∷ ports) = (at (has_bits p), ports_wanted ports)
  where
    at : (b : Bool) → IsWanted (cond b (Some (word_of p.name)) None)
    at true = free_called (map word_byte (after_backslash p.name))
    at false = tt

net_wanted : (hidden : ℕ) (n : NetName) → is_called (net_name hidden n) ≡ true
net_wanted hidden n = at n.is_hidden
  where
    at : (b : Bool) → is_called (cond b (counted (codes "n") hidden) (base_of n.name)) ≡ true
    at true = refl
    at false = free_called (map base_byte (after_backslash n.name))

others_wanted : (ws : Wires) (hidden net : ℕ) (ns : List NetName) →
    AllByRecursion IsWanted (nets_wanted ws hidden net ns)
unfolding nets_wanted
others_wanted ws hidden net [] = tt
others_wanted ws hidden net (n ∷ ns) = at (names_a_bit ws net n.bits)
    (others_wanted ws (hidden_after hidden n) (net + 1) ns) (others_wanted ws hidden (net + 1) ns)
  where
    at : (b : Bool) →
        AllByRecursion IsWanted (nets_wanted ws (hidden_after hidden n) (net + 1) ns) →
        AllByRecursion IsWanted (nets_wanted ws hidden (net + 1) ns) →
        AllByRecursion IsWanted (cond b
        (Some (net_name hidden n) ∷ nets_wanted ws (hidden_after hidden n) (net + 1) ns)
        (None ∷ nets_wanted ws hidden (net + 1) ns))
    at true more others = (net_wanted hidden n, more)
    at false more others = (tt, others)

pub own_wanted : (m : Module) → AllByRecursion IsWanted (all_wanted m)
own_wanted m =
    every_append IsWanted (map port_wanted m.ports)
    (nets_wanted (own_wires m) 0 (length m.ports) m.nets) (ports_wanted m.ports)
    (others_wanted (own_wires m) 0 (length m.ports) m.nets)

pub own_called : (m : Module) → AreCalled (own_nets m)
own_called m =
    all_called (all_wanted m) (widths m) (no_nets (own_wires m)) (own_wanted m)
    (record { names = refl; differ = λ small. none_distinct })

-- ---- one name, one net

-- what holds of all names holds of that of a net
name_in : (P : List ℕ → Type 0) (list : List Net) (i : ℕ) (x : Net) → slice_get list i ≡ Some x →
    is_called x.name ≡ true → AllByRecursion P (called list) → P x.name
name_in P [] i x e c all = absurd (cc)
name_in P (y ∷ ys) zero x e c all =
    let same : y ≡ x = cc in
    at (is_called y.name) refl (ap (λ (z : Net). is_called z.name) same ∙ c) all
  where
    at : (b : Bool) → is_called y.name ≡ b → is_called y.name ≡ true →
        AllByRecursion P (cond b (y.name ∷ called ys) (called ys)) → P x.name
    at true f g all = let same : y ≡ x = cc in subst (λ (z : Net). P z.name) same all.0
    at false f g all = absurd (cc)
name_in P (y ∷ ys) (suc i) x e c all =
    at (is_called y.name) (λ rest. name_in P ys i x e c rest) all
  where
    at : (b : Bool) → (AllByRecursion P (called ys) → P x.name) →
        AllByRecursion P (cond b (y.name ∷ called ys) (called ys)) → P x.name
    at true more all = more all.1
    at false more all = more all

rest_distinct : (z : Net) (zs : List Net) → IsDistinct bytes_eq (called (z ∷ zs)) →
    IsDistinct bytes_eq (called zs)
unfolding IsDistinct
rest_distinct z zs distinct = at (is_called z.name) distinct
  where
    at : (b : Bool) → IsDistinct bytes_eq (cond b (z.name ∷ called zs) (called zs)) →
        IsDistinct bytes_eq (called zs)
    at true d = d.1
    at false d = d

-- The first is none of those after it.
clash : (z : Net) (zs : List Net) (j : ℕ) (x y : Net) → z ≡ x → slice_get zs j ≡ Some y →
    x.name ≡ y.name → is_called x.name ≡ true → IsDistinct bytes_eq (called (z ∷ zs)) → ⊥
unfolding IsDistinct
clash z zs j x y first e same c distinct = at (is_called z.name) refl distinct
  where
    at : (b : Bool) → is_called z.name ≡ b →
        IsDistinct bytes_eq (cond b (z.name ∷ called zs) (called zs)) → ⊥
    at true f d =
        let other : bytes_eq z.name y.name ≡ false =
        name_in (λ n. bytes_eq z.name n ≡ false) zs j y e (ap is_called (sym same) ∙ c) d.0 in
        let one : z.name ≡ y.name = ap (λ (n : Net). n.name) first ∙ same in
        let equal : bytes_eq z.name y.name ≡ true = (bytes_eq-Decides z.name y.name).1 one in
        absurd (cc)
    at false f d =
        let here : is_called z.name ≡ true = ap (λ (n : Net). is_called n.name) first ∙ c in
        absurd (cc)

pub one_net : (list : List Net) → IsDistinct bytes_eq (called list) → (i j : ℕ) (x y : Net) →
    slice_get list i ≡ Some x → slice_get list j ≡ Some y → x.name ≡ y.name →
    is_called x.name ≡ true → i ≡ j
unfolding IsDistinct
one_net [] distinct i j x y e f same c = absurd (cc)
one_net (z ∷ zs) distinct zero zero x y e f same c = refl
one_net (z ∷ zs) distinct zero (suc j) x y e f same c =
    absurd (clash z zs j x y (cc) f same c distinct)
one_net (z ∷ zs) distinct (suc i) zero x y e f same c =
    absurd (clash z zs i y x (cc) e (sym same) (ap is_called (sym same) ∙ c) distinct)
one_net (z ∷ zs) distinct (suc i) (suc j) x y e f same c =
    ap (λ (k : ℕ). suc k) (one_net zs (rest_distinct z zs distinct) i j x y e f same c)
