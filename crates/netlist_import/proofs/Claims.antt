-- The bits that are called by something, after the vectors that come first and those that come
-- then.
use Rattle.std.proofs.Common.{◌≡◌, ℕ, zero, suc, ◌+◌, ◌-◌, ◌<◌, ◌≤◌, Bool, true, false, cond, List, [], ◌∷◌, ◌++◌, length, get_or, drop, map, codes, refl, sym, ap, ◌∙◌, arith, Some, None}
use Rattle.std.proofs.lemmas.List.{append_assoc, append-nil, at_drop_all}
use Rattle.netlist_import.specs.declared.netlist.Port.{Port}
use Rattle.netlist_import.specs.declared.netlist.NetName.{NetName}
use Rattle.netlist_import.specs.declared.netlist.Module.{Module}
use Rattle.netlist_import.specs.Nets.{Vector, Wanted, Wires, downwards, hidden_after, left_out, names_a_bit, next_wire, net_name, nets_wanted, no_nets, numbered_from, own_nets, own_wires, port_wanted, with_all, with_bits, with_net, with_other, with_undriven, with_vectors, with_wanted}
use Rattle.netlist_import.specs.declared.nets.Nets.{Nets}
use Rattle.netlist_import.specs.declared.nets.Wire.{Wire}
use Rattle.netlist_import.specs.declared.nets.Wired.{Wired}
use Rattle.netlist_import.specs.declared.nets.Wired.TheVariants as wired
use Rattle.netlist_import.proofs.Steps.{drop_here}
use Rattle.netlist_import.proofs.Named.{as_many}

pub vectors_both : (vs ws : List Vector) (wires : Wires) → with_vectors (vs ++ ws) wires
    ≡ with_vectors ws (with_vectors vs wires)
unfolding with_vectors
vectors_both [] ws wires = refl
vectors_both (v ∷ vs) ws wires = vectors_both vs ws (with_bits v.0 (numbered_from 0 v.1) wires)

pub all_both : (names more : List Wanted) (widths others : List ℕ) (s : Nets) → length names
    ≡ length widths →
    with_all (names ++ more) (widths ++ others) s ≡ with_all more others (with_all names widths s)
unfolding with_all
all_both [] more [] others s e = refl
all_both [] more (w ∷ widths) others s e = absurd (cc)
all_both (n ∷ names) more [] others s e = absurd (cc)
all_both (n ∷ names) more (w ∷ widths) others s e =
    all_both names more widths others (with_wanted n w s) (cc)

pub downwards_step : (n : ℕ) → 0 < n → downwards n ≡ (n - 1) ∷ downwards (n - 1)
unfolding downwards
downwards_step zero h = absurd (omega arith)
downwards_step (suc n) h = let same : suc n - 1 ≡ n = omega arith in rw same refl

-- ---- the bits of a connection that is left out

abbrev at : ℕ → ℕ → Wired
at net i = wired.Bit (record { net = net; index = i })

-- all bits of a net, from the last one on
abbrev pub list_at : ℕ → ℕ → List Wired
list_at net width = map (at net) (downwards width)

pub left_more : (net index : ℕ) (all done end : List Wired) → 0 < index → all ≡ done
    ++ map (at net) (downwards index) →
    end ≡ done ++ at net (index - 1) ∷ [] → all ≡ end ++ map (at net) (downwards (index - 1))
left_more net index all done end h e p =
    let rest = map (at net) (downwards (index - 1)) in
    e ∙ ap (λ (ns : List ℕ). done ++ map (at net) ns) (downwards_step index h)
    ∙ sym (append_assoc done (at net (index - 1) ∷ []) rest)
    ∙ ap (λ (t : List Wired). t ++ rest) (sym p)

pub left_end : (net index : ℕ) (all done : List Wired) → index ≤ 0 → all ≡ done
    ++ map (at net) (downwards index) → done ≡ all
unfolding downwards
left_end net zero all done h e = sym (e ∙ append-nil done)
left_end net (suc index) all done h e = absurd (omega arith)

pub left_both : (net width : ℕ) (s next : Nets) (list : List Wired) → net ≡ length s.list →
    next ≡ with_undriven width s →
    list ≡ map (at net) (downwards width) → (list, next) ≡ left_out width s
left_both net width s next list n e l = rw (l, e, n) refl

-- ---- all names

-- Nets that are added leave what bits are called by.
pub same_wires : (names : List Wanted) (widths : List ℕ) (s : Nets) →
    (with_all names widths s).wires ≡ s.wires
unfolding with_all
same_wires [] widths s = refl
same_wires (n ∷ names) [] s = refl
same_wires (n ∷ names) (w ∷ widths) s = same_wires names widths (with_wanted n w s) ∙ one n
  where
    one : (wanted : Wanted) → (with_wanted wanted w s).wires ≡ s.wires
    one None = refl
    one (Some name) = refl

-- ---- the nets of a module

-- those of its ports, then the others
pub nets_of : (m : Module) (none ports all : Nets) → none ≡ no_nets (own_wires m) →
    ports ≡ with_all (map port_wanted m.ports) (map (λ p. length p.bits) m.ports) none →
    all ≡ with_all (nets_wanted ports.wires 0 (length m.ports) m.nets)
    (map (λ n. length n.bits) m.nets) ports →
    all ≡ own_nets m
nets_of m none ports all start first more =
    let names = map port_wanted m.ports in
    let sizes = map (λ (p : Port). length p.bits) m.ports in
    let others = nets_wanted (own_wires m) 0 (length m.ports) m.nets in
    let lengths = map (λ (n : NetName). length n.bits) m.nets in
    let begun : ports ≡ with_all names sizes (no_nets (own_wires m)) =
    first ∙ ap (λ (s : Nets). with_all names sizes s) start in
    let wires : ports.wires ≡ own_wires m =
    ap (λ (s : Nets). s.wires) begun ∙ same_wires names sizes (no_nets (own_wires m)) in
    more ∙ ap (λ (ws : Wires). with_all (nets_wanted ws 0 (length m.ports) m.nets) lengths ports)
    wires
    ∙ ap (λ (s : Nets). with_all others lengths s) begun
    ∙ sym (all_both names others sizes lengths (no_nets (own_wires m))
    (as_many port_wanted (λ (p : Port). length p.bits) m.ports))

-- the same, by the lists that the calls were given
pub nets_added : (m : Module) (none ports all : Nets) (ps : List Port) (count : ℕ)
    (ns : List NetName) → none ≡ no_nets (own_wires m) → ps ≡ m.ports → count ≡ length m.ports →
    ns ≡ m.nets →
    ports ≡ with_all (map port_wanted ps) (map (λ p. length p.bits) ps) none →
    all ≡ with_all (nets_wanted ports.wires 0 count ns) (map (λ n. length n.bits) ns) ports →
    all ≡ own_nets m
nets_added m none ports all ps count ns start p c n first more =
    nets_of m none ports all start
    (first ∙ ap (λ (xs : List Port). with_all (map port_wanted xs)
    (map (λ (q : Port). length q.bits) xs) none) p)
    (more ∙ ap (λ (k : ℕ). with_all (nets_wanted ports.wires 0 k ns)
    (map (λ (x : NetName). length x.bits) ns) ports) c
    ∙ ap (λ (xs : List NetName). with_all (nets_wanted ports.wires 0 (length m.ports) xs)
    (map (λ (x : NetName). length x.bits) xs) ports) n)

pub hidden_most : (hidden : ℕ) (n : NetName) → hidden_after hidden n ≤ hidden + 1
hidden_most hidden n = at n.is_hidden
  where
    at : (b : Bool) → cond b (hidden + 1) hidden ≤ hidden + 1
    at true = omega arith
    at false = omega arith

module _ (ws : Wires) (hidden first : ℕ) (nets : List NetName) (i : ℕ) (n : NetName) where
  abbrev pub left : ℕ → ℕ → Nets → Nets
  left hid k s = with_all (nets_wanted ws hid (first + k) (drop k nets))
      (map (λ x. length x.bits) (drop k nets)) s

  abbrev left_from : List NetName → Nets → Nets
  left_from ns s = with_all (nets_wanted ws hidden (first + i) ns) (map (λ x. length x.bits) ns) s

  pub net_here : (s next all : Nets) → i < length nets → n ≡ get_or nets i n →
      names_a_bit ws (first + i) n.bits ≡ true →
      next ≡ with_net (net_name hidden n) (length n.bits) s → all ≡ left hidden i s →
      all ≡ left (hidden_after hidden n) (i + 1) next
  unfolding nets_wanted with_all
  net_here s next all h is names step e =
      let more : first + i + 1 ≡ first + (i + 1) = omega arith in
      e ∙ ap (λ (ns : List NetName). left_from ns s) (drop_here nets i n h is)
      ∙ rw names
      (ap (λ (t : Nets). with_all (nets_wanted ws (hidden_after hidden n) (first + i + 1)
      (drop (i + 1) nets))
      (map (λ x. length x.bits) (drop (i + 1) nets)) t) (sym step)
      ∙ ap (λ (k : ℕ). with_all (nets_wanted ws (hidden_after hidden n) k (drop (i + 1) nets))
      (map (λ x. length x.bits) (drop (i + 1) nets)) next) more)

  pub net_past : (s next all : Nets) → i < length nets → n ≡ get_or nets i n →
      names_a_bit ws (first + i) n.bits ≡ false →
      next ≡ with_wanted None (length n.bits) s → all ≡ left hidden i s →
      all ≡ left hidden (i + 1) next
  unfolding nets_wanted with_all
  net_past s next all h is names step e =
      let more : first + i + 1 ≡ first + (i + 1) = omega arith in
      e ∙ ap (λ (ns : List NetName). left_from ns s) (drop_here nets i n h is)
      ∙ rw names
      (ap (λ (t : Nets). with_all (nets_wanted ws hidden (first + i + 1) (drop (i + 1) nets))
      (map (λ x. length x.bits) (drop (i + 1) nets)) t) (sym step)
      ∙ ap (λ (k : ℕ). with_all (nets_wanted ws hidden k (drop (i + 1) nets))
      (map (λ x. length x.bits) (drop (i + 1) nets)) next) more)

pub nets_end : (ws : Wires) (hidden first : ℕ) (nets : List NetName) (i : ℕ) (s all : Nets) →
    length nets ≤ i →
    all ≡ with_all (nets_wanted ws hidden (first + i) (drop i nets))
    (map (λ x. length x.bits) (drop i nets)) s → s ≡ all
unfolding nets_wanted with_all
nets_end ws hidden first nets i s all h e =
    sym (e ∙ at_drop_all (λ (ns : List NetName). with_all (nets_wanted ws hidden (first + i) ns)
    (map (λ x. length x.bits) ns) s) nets i h)

-- ---- a net for a bit that is called by nothing

pub other_added : (s added : Nets) (n : ℕ) (name : List ℕ) (after : Wires) (w : Wire) →
    added ≡ with_net name 1 s → name ≡ codes "b" → w ≡ next_wire s →
    after ≡ added.wires ++ (n, w) ∷ [] → record added { wires = after } ≡ with_other n s
other_added s added n name after w is called here more =
    let grown : added ≡ with_net (codes "b") 1 s =
    is ∙ ap (λ (k : List ℕ). with_net k 1 s) called in
    let wires : after ≡ s.wires ++ (n, next_wire s) ∷ [] =
    more ∙ ap (λ (v : Wire). added.wires ++ (n, v) ∷ []) here
    ∙ ap (λ (x : Nets). x.wires ++ (n, next_wire s) ∷ []) grown in
    ap (λ (ws : Wires). record added { wires = ws }) wires
    ∙ ap (λ (x : Nets). record x { wires = s.wires ++ (n, next_wire s) ∷ [] }) grown
