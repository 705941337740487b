-- Readers at once go round no loop.
use Rattle.std.proofs.Common.{◌≡◌, ℕ, zero, suc, ◌+◌, ◌<◌, ◌≤◌, Bool, true, false, cond, ◌&&◌, nat_eq, List, [], ◌∷◌, ◌++◌, length, map, get_or, Option, Some, None, refl, ap, sym, subst, ◌∙◌, arith}
use Rattle.std.specs.Prelude.{is_some, option_to_list}
use Rattle.std.specs.List.{Contains, range_with_len}
use Rattle.std.proofs.lemmas.Bool.{and_parts, eqb-true, eq-eqb}
use Rattle.std.proofs.lemmas.List.Elements.{All-from_get_or}
use Rattle.std.proofs.lemmas.List.{get_or_default}
use Rattle.flat_circuit.specs.declared.instance.Pin.{Pin}
use Rattle.flat_circuit.specs.declared.instance.Instance.{Instance}
use Rattle.flat_circuit.specs.declared.net.Net.{Net}
use Rattle.vector_names.specs.declared.bits.Target.{Target}
use Rattle.vector_names.specs.declared.bits.Target.TheVariants.{Net as OnNet, Constant}
use Rattle.flat_circuit.specs.Instances.{out_at, pins_at, least_delay_at}
use Rattle.flat_circuit.specs.Circuit.{Circuit, IsCircuit, wire_at, driver_at}
use Rattle.flat_circuit.specs.Loop.{PassesOn, Reaches, By_one, And_then}
use Rattle.flat_circuit.proofs.Driven.{get_none}
use Rattle.flat_circuit.specs.declared.node.Node.{Node}
use Rattle.flat_circuit.specs.Node.{Feeds, AreLoopless, AreInRange, feeders_of, node_feeders}
use Rattle.flat_circuit.specs.Sorted.{IsSorted}
use Rattle.flat_circuit.proofs.Nodes.{feeders_are, feeds_as, nodes_long, reaches_map, sorted_as}
use Rattle.trace_sim.specs.Order.{ReadsAtOnce, IsEvaluationOrder, at_once_driver, at_once_list, feeders_in}

-- ---- round a loop of readers each passes on at once

-- a reader at once has no least delay, so what it drives passes on at once
passes : (c : Circuit) (d k : ℕ) → least_delay_at c.instances d ≡ 0 → ReadsAtOnce c d k → PassesOn (wire_at c.nets) c.instances d k
passes c d k z r = record { net = r.net; drives = r.drives; at_once = z; wire_at_once = r.wire_at_once; has_out = r.has_out; pin = r.pin; reads = r.reads; on_net = r.on_net }

last_quick : (c : Circuit) {i j : ℕ} → Reaches (ReadsAtOnce c) i j → least_delay_at c.instances j ≡ 0
last_quick c (By_one r) = r.at_once
last_quick c (And_then r q) = last_quick c q

all_pass : (c : Circuit) {i j : ℕ} → least_delay_at c.instances i ≡ 0 → Reaches (ReadsAtOnce c) i j → Reaches (PassesOn (wire_at c.nets) c.instances) i j
all_pass c z (By_one {i} {j} r) = By_one (passes c i j z r)
all_pass c z (And_then {i} {m} {j} r q) = And_then (passes c i m z r) (all_pass c r.at_once q)

pub out_below : (js : List Instance) (d i : ℕ) → out_at js d ≡ Some (OnNet i) → d < length js
out_below [] d i x = absurd (cc)
out_below (j ∷ js) zero i x = omega arith
out_below (j ∷ js) (suc d) i x = let r = out_below js d i x in omega arith

first_below : (c : Circuit) {i j : ℕ} → Reaches (ReadsAtOnce c) i j → i < length c.instances
first_below c (By_one {i} {j} r) = out_below c.instances i r.net r.drives
first_below c (And_then {i} {m} {j} r q) = out_below c.instances i r.net r.drives

pub no_loop_of_readers : (c : Circuit) → IsCircuit c → (k : ℕ) → Reaches (ReadsAtOnce c) k k → ⊥
no_loop_of_readers c known k r =
    let p = all_pass c (last_quick c r) r in
    known.no_loop k (first_below c r) (record { on_loop = k; loops = p; reaches = p })

-- ---- the lists of feeders say the same

record Found (nets : List Net) (ps : List Pin) (d : ℕ) : Type 0 where
  pin : Pin
  has : Contains ps pin
  drives : at_once_driver nets pin.target ≡ Some d

later : (nets : List Net) (p : Pin) (ps : List Pin) (d : ℕ) → Found nets ps d → Found nets (p ∷ ps) d
later nets p ps d f = record { pin = f.pin; has = (suc f.has.0, (let b = f.has.1 in omega arith), f.has.2); drives = f.drives }

list_has : (nets : List Net) (ps : List Pin) (at d : ℕ) → at < length (at_once_list nets ps) → get_or (at_once_list nets ps) at 0 ≡ d → Found nets ps d
list_has nets [] at d l e = absurd (omega arith)
list_has nets (p ∷ ps) at d l e = step (at_once_driver nets p.target) at refl l e (λ i m q. list_has nets ps i d m q) where
  step : (v : Option ℕ) (at : ℕ) → at_once_driver nets p.target ≡ v → at < length (option_to_list v ++ at_once_list nets ps) →
      get_or (option_to_list v ++ at_once_list nets ps) at 0 ≡ d →
      ((i : ℕ) → i < length (at_once_list nets ps) → get_or (at_once_list nets ps) i 0 ≡ d → Found nets ps d) → Found nets (p ∷ ps) d
  step None at q l e more = later nets p ps d (more at l e)
  step (Some x) zero q l e more = record { pin = p; has = (0, omega arith, refl); drives = q ∙ ap Some e }
  step (Some x) (suc at) q l e more = later nets p ps d (more at (omega arith) e)

record IsAt (xs : List ℕ) (d : ℕ) : Type 0 where
  at : ℕ
  below : at < length xs
  is : get_or xs at 0 ≡ d

after_option : (v : Option ℕ) (xs : List ℕ) (d : ℕ) → IsAt xs d → IsAt (option_to_list v ++ xs) d
after_option None xs d h = h
after_option (Some x) xs d h = record { at = suc h.at; below = (let b = h.below in omega arith); is = h.is }

list_gets : (nets : List Net) (ps : List Pin) (pin : Pin) (d k : ℕ) → k < length ps → get_or ps k pin ≡ pin → at_once_driver nets pin.target ≡ Some d → IsAt (at_once_list nets ps) d
list_gets nets [] pin d k l e q = absurd (omega arith)
list_gets nets (p ∷ ps) pin d zero l e q =
    let z : at_once_driver nets p.target ≡ Some d = ap (λ (x : Pin). at_once_driver nets x.target) e ∙ q in
    subst (λ v. IsAt (option_to_list v ++ at_once_list nets ps) d) (sym z) (record { at = 0; below = omega arith; is = refl })
list_gets nets (p ∷ ps) pin d (suc k) l e q = after_option (at_once_driver nets p.target) (at_once_list nets ps) d (list_gets nets ps pin d k (omega arith) e q)

record Feeder (nets : List Net) (t : Target) (d : ℕ) : Type 0 where
  net : ℕ
  on_net : t ≡ OnNet net
  wire : (wire_at nets net).min ≡ 0
  driver : driver_at nets net ≡ Some d

feeder_is : (nets : List Net) (t : Target) (d : ℕ) → at_once_driver nets t ≡ Some d → Feeder nets t d
feeder_is nets (Constant b) d h = absurd (cc)
feeder_is nets (OnNet i) d h = step (nat_eq ((wire_at nets i).min) 0) refl h where
  step : (b : Bool) → nat_eq ((wire_at nets i).min) 0 ≡ b → cond b (driver_at nets i) None ≡ Some d → Feeder nets (OnNet i) d
  step true e q = record { net = i; on_net = refl; wire = eqb-true ((wire_at nets i).min) 0 e; driver = q }
  step false e q = absurd (cc)

to_feeder : (nets : List Net) (t : Target) (d : ℕ) → Feeder nets t d → at_once_driver nets t ≡ Some d
to_feeder nets t d h =
    let u : nat_eq ((wire_at nets h.net).min) 0 ≡ true = eq-eqb ((wire_at nets h.net).min) 0 h.wire in
    subst (λ x. at_once_driver nets x ≡ Some d) (sym h.on_net) (rw u h.driver)

guard_is : (b : Bool) (xs : List ℕ) (at : ℕ) → at < length (cond b xs []) → b ≡ true
guard_is true xs at l = refl
guard_is false xs at l = absurd (omega arith)

pub feeds_reads : (c : Circuit) → IsCircuit c → (d k : ℕ) → Feeds (feeders_in c) d k → ReadsAtOnce c d k
feeds_reads c known d k f =
    let g = guard_is (is_some (out_at c.instances k) && nat_eq (least_delay_at c.instances k) 0) (at_once_list c.nets (pins_at c.instances k)) f.at f.below in
    let both = and_parts (is_some (out_at c.instances k)) (nat_eq (least_delay_at c.instances k) 0) g in
    let b : f.at < length (at_once_list c.nets (pins_at c.instances k)) = rw g at f.below in
    let i : get_or (at_once_list c.nets (pins_at c.instances k)) f.at 0 ≡ d = rw g at f.is in
    let q = list_has c.nets (pins_at c.instances k) f.at d b i in
    let z = feeder_is c.nets q.pin.target d q.drives in
    record {
      net = z.net;
      drives = known.drivers.is z.net d z.driver;
      at_once =
          eqb-true (least_delay_at c.instances k) 0 both.1;
      wire_at_once = z.wire;
      has_out = both.0;
      pin = q.pin;
      reads = q.has;
      on_net = z.on_net;
    }

pub reads_feeds : (c : Circuit) → IsCircuit c → (d k : ℕ) → ReadsAtOnce c d k → Feeds (feeders_in c) d k
reads_feeds c known d k r =
    let dr = known.drivers.of r.net d r.drives in
    let b = to_feeder c.nets r.pin.target d (record { net = r.net; on_net = r.on_net; wire = r.wire_at_once; driver = dr }) in
    let g = list_gets c.nets (pins_at c.instances k) r.pin d r.reads.0 r.reads.1 r.reads.2 b in
    let o = r.has_out in
    let z : nat_eq (least_delay_at c.instances k) 0 ≡ true = eq-eqb (least_delay_at c.instances k) 0 r.at_once in
    record { at = g.at; below = rw (o, z) g.below; is = rw (o, z) g.is }

-- an order of what feeds is one of what is read at once
pub order_by : (c : Circuit) (order : List ℕ) → IsCircuit c → IsSorted (feeders_in c) (length c.instances) order → IsEvaluationOrder c order
order_by c order known s = record {
  inside = s.inside;
  whole = λ k l. let w = s.whole k l in (w.place, w.before, get_or_default order w.place k 0 w.before ∙ w.is);
  once = s.placed.once;
  after = λ a b la lb r.
      let p = s.placed.fed b (get_or order a 0) lb (reads_feeds c known (get_or order a 0) (get_or order b 0) r) in
      let l = p.before in
      let same = s.placed.once p.place a (omega arith) la p.is in
      omega arith;
}

-- ---- the nodes of the search

nothing_out : (js : List Instance) (k : ℕ) → length js ≤ k → out_at js k ≡ None
nothing_out js k h = rw (get_none js k h) refl

module _ (c : Circuit) (nodes : List Node) (made : map node_feeders nodes ≡ map (feeders_in c) (range_with_len 0 (length c.instances))) where
  node_is : (k : ℕ) → feeders_of nodes k ≡ feeders_in c k
  node_is = feeders_are nodes (feeders_in c) (length c.instances) made (λ j past. rw (nothing_out c.instances j past) refl)

  long : length nodes ≡ length c.instances
  long = nodes_long nodes (feeders_in c) (length c.instances) made

  node_reads : IsCircuit c → (d k : ℕ) → Feeds (feeders_of nodes) d k → ReadsAtOnce c d k
  node_reads known d k f = feeds_reads c known d k (feeds_as (feeders_of nodes) (feeders_in c) node_is d k f)

  pub nodes_loopless : IsCircuit c → AreLoopless (feeders_of nodes)
  nodes_loopless known i l = no_loop_of_readers c known i (reaches_map (node_reads known) l)

  pub nodes_in : IsCircuit c → AreInRange nodes
  nodes_in known j = All-from_get_or (λ i. i < length nodes) (feeders_of nodes j) 0 (λ i l.
      let reads = node_reads known (get_or (feeders_of nodes j) i 0) j (record { at = i; below = l; is = refl }) in
      let below = out_below c.instances (get_or (feeders_of nodes j) i 0) reads.net reads.drives in
      omega (arith, below, long))

  pub order_is : (order : List ℕ) → IsCircuit c → IsSorted (feeders_of nodes) (length nodes) order → IsEvaluationOrder c order
  order_is order known s = order_by c order known (sorted_as (feeders_of nodes) (feeders_in c) (length nodes) (length c.instances) order node_is long s)
