-- What passes on at once, by lists and by the rule.
use Rattle.std.proofs.Common.{◌≡◌, ℕ, zero, suc, ◌+◌, ◌<◌, ◌≤◌, Bool, true, false, cond, nat_eq, List, [], ◌∷◌, ◌++◌, length, map, get_or, Option, Some, None, refl, ap, sym, subst, ◌∙◌, arith, inl, inr}
use Rattle.std.specs.Prelude.{slice_get, is_some, option_to_list}
use Rattle.std.specs.List.{Contains, range_with_len}
use Rattle.std.proofs.lemmas.Bool.Decides.{nat_tests}
use Rattle.std.proofs.lemmas.List.Elements.{All-from_get_or}
use Rattle.scald_base.specs.Time.{Bounds}
use Rattle.scald_base.specs.declared.refusal.Place.{Place}
use Rattle.flat_circuit.specs.declared.instance.Pin.{Pin}
use Rattle.vector_names.specs.declared.bits.Target.{Target}
use Rattle.vector_names.specs.declared.bits.Target.TheVariants.{Net as OnNet, Constant}
use Rattle.flat_circuit.specs.declared.instance.Instance.{Instance}
use Rattle.flat_circuit.specs.Instances.{out_at, pins_at, least_delay_at}
use Rattle.flat_circuit.specs.Builder.{bounds_at, IsFirst, StandsAt}
use Rattle.flat_circuit.specs.Loop.{PassesOn, Reaches, By_one, And_then, IsFromLoop, IsLooped, HoldsOfNone}
use Rattle.flat_circuit.specs.Steps.{entry, DrivenTo, if_at_once, quick_driver, quick_list, quick_feeders, node_feeders}
use Rattle.flat_circuit.proofs.Driven.{get_none}
use Rattle.flat_circuit.proofs.Names.{below}
use Rattle.std.proofs.lemmas.List.{length-map}
use Rattle.std.proofs.lemmas.List.FromFn.{length-map-range_with_len}
use Rattle.flat_circuit.specs.declared.search.Node.{Node}
use Rattle.flat_circuit.specs.Search as search_of

-- loops of one relation are loops of a wider one
reaches_map : {R S : ℕ → ℕ → Type 0} → ((i j : ℕ) → R i j → S i j) → {i j : ℕ} → Reaches R i j → Reaches S i j
reaches_map f (By_one {i} {j} r) = By_one (f i j r)
reaches_map f (And_then {i} {m} {j} r q) = And_then (f i m r) (reaches_map f q)

pub from_loop_map : {R S : ℕ → ℕ → Type 0} → ((i j : ℕ) → R i j → S i j) → (k : ℕ) → IsFromLoop R k → IsFromLoop S k
from_loop_map f k h = record { on_loop = h.on_loop; loops = reaches_map f h.loops; reaches = reaches_map f h.reaches }

out_below : (js : List Instance) (d i : ℕ) → out_at js d ≡ Some (OnNet i) → d < length js
out_below [] d i x = absurd (cc)
out_below (j ∷ js) zero i x = omega arith
out_below (j ∷ js) (suc d) i x = let r = out_below js d i x in omega arith

-- a driver behind a pin
pub record Behind (ws : List Bounds) (ds : List (Option ℕ)) (js : List Instance) (t : Target) (d : ℕ) : Type 0 where
  net : ℕ
  on_net : t ≡ OnNet net
  wire : (bounds_at ws net).min ≡ 0
  driver : entry ds net ≡ Some d
  at_once : least_delay_at js d ≡ 0

zero_test : (n : ℕ) → nat_eq n 0 ≡ true → n ≡ 0
zero_test n h = grind (arith, nat_tests)

if_is : (js : List Instance) (v : Option ℕ) (d : ℕ) → if_at_once js v ≡ Some d → (v ≡ Some d) × (least_delay_at js d ≡ 0)
if_is js None d h = absurd (cc)
if_is js (Some x) d h = step (nat_eq (least_delay_at js x) 0) refl h where
  step : (b : Bool) → nat_eq (least_delay_at js x) 0 ≡ b → cond b (Some x) None ≡ Some d → (Some x ≡ Some d) × (least_delay_at js d ≡ 0)
  step true e q = let z : x ≡ d = cc in (q, subst (λ v. least_delay_at js v ≡ 0) z (zero_test (least_delay_at js x) e))
  step false e q = absurd (cc)

behind_is : (ws : List Bounds) (ds : List (Option ℕ)) (js : List Instance) (t : Target) (d : ℕ) → quick_driver ws ds js t ≡ Some d → Behind ws ds js t d
behind_is ws ds js (Constant b) d h = absurd (cc)
behind_is ws ds js (OnNet i) d h = step (nat_eq ((bounds_at ws i).min) 0) refl h where
  step : (b : Bool) → nat_eq ((bounds_at ws i).min) 0 ≡ b → cond b (if_at_once js (entry ds i)) None ≡ Some d → Behind ws ds js (OnNet i) d
  step true e q = let r = if_is js (entry ds i) d q in record { net = i; on_net = refl; wire = zero_test ((bounds_at ws i).min) e; driver = r.0; at_once = r.1 }
  step false e q = absurd (cc)

behind_to : (ws : List Bounds) (ds : List (Option ℕ)) (js : List Instance) (t : Target) (d : ℕ) → Behind ws ds js t d → quick_driver ws ds js t ≡ Some d
behind_to ws ds js t d h =
    let a = h.wire in let b = h.at_once in let c = h.driver in
    let u : nat_eq ((bounds_at ws h.net).min) 0 ≡ true = grind (arith, nat_tests) in
    let v : nat_eq (least_delay_at js d) 0 ≡ true = grind (arith, nat_tests) in
    subst (λ x. quick_driver ws ds js x ≡ Some d) (sym h.on_net) (rw (u, c, v) refl)

record Found (ws : List Bounds) (ds : List (Option ℕ)) (js : List Instance) (ps : List Pin) (d : ℕ) : Type 0 where
  pin : Pin
  has : Contains ps pin
  behind : quick_driver ws ds js pin.target ≡ Some d

later : (ws : List Bounds) (ds : List (Option ℕ)) (js : List Instance) (p : Pin) (ps : List Pin) (d : ℕ) → Found ws ds js ps d → Found ws ds js (p ∷ ps) d
later ws ds js p ps d f = record { pin = f.pin; has = (suc f.has.0, (let b = f.has.1 in omega arith), f.has.2); behind = f.behind }

quick_has : (ws : List Bounds) (ds : List (Option ℕ)) (js : List Instance) (ps : List Pin) (at d : ℕ) →
    at < length (quick_list ws ds js ps) → get_or (quick_list ws ds js ps) at 0 ≡ d → Found ws ds js ps d
quick_has ws ds js [] at d l e = absurd (omega arith)
quick_has ws ds js (p ∷ ps) at d l e = step (quick_driver ws ds js p.target) at refl l e (λ i m q. quick_has ws ds js ps i d m q) where
  step : (v : Option ℕ) (at : ℕ) → quick_driver ws ds js p.target ≡ v → at < length (option_to_list v ++ quick_list ws ds js ps) →
      get_or (option_to_list v ++ quick_list ws ds js ps) at 0 ≡ d →
      ((i : ℕ) → i < length (quick_list ws ds js ps) → get_or (quick_list ws ds js ps) i 0 ≡ d → Found ws ds js ps d) → Found ws ds js (p ∷ ps) d
  step None at q l e more = later ws ds js p ps d (more at l e)
  step (Some x) zero q l e more = record { pin = p; has = (0, omega arith, refl); behind = q ∙ ap Some e }
  step (Some x) (suc at) q l e more = later ws ds js p ps d (more at (omega arith) e)

record IsAt (xs : List ℕ) (d : ℕ) : Type 0 where
  at : ℕ
  below : at < length xs
  is : get_or xs at 0 ≡ d

after_option : (v : Option ℕ) (xs : List ℕ) (d : ℕ) → IsAt xs d → IsAt (option_to_list v ++ xs) d
after_option None xs d h = h
after_option (Some x) xs d h = record { at = suc h.at; below = (let b = h.below in omega arith); is = h.is }

quick_gets : (ws : List Bounds) (ds : List (Option ℕ)) (js : List Instance) (ps : List Pin) (pin : Pin) (d k : ℕ) →
    k < length ps → get_or ps k pin ≡ pin → quick_driver ws ds js pin.target ≡ Some d → IsAt (quick_list ws ds js ps) d
quick_gets ws ds js [] pin d k l e q = absurd (omega arith)
quick_gets ws ds js (p ∷ ps) pin d zero l e q =
    let z : quick_driver ws ds js p.target ≡ Some d = ap (λ (x : Pin). quick_driver ws ds js x.target) e ∙ q in
    subst (λ v. IsAt (option_to_list v ++ quick_list ws ds js ps) d) (sym z) (record { at = 0; below = omega arith; is = refl })
quick_gets ws ds js (p ∷ ps) pin d (suc k) l e q = after_option (quick_driver ws ds js p.target) (quick_list ws ds js ps) d (quick_gets ws ds js ps pin d k (omega arith) e q)

-- a node's pins
pins_are : (nodes : List Node) (f : ℕ → List ℕ) (a n : ℕ) → map node_feeders nodes ≡ map f (range_with_len a n) →
    ((j : ℕ) → a + n ≤ j → f j ≡ []) → (j i : ℕ) → a + j ≡ i → search_of.feeders_of nodes j ≡ f i
pins_are [] f a zero e h j i q = sym (h i (omega arith))
pins_are [] f a (suc n) e h j i q = absurd (cc)
pins_are (x ∷ xs) f a zero e h j i q = absurd (cc)
pins_are (x ∷ xs) f a (suc n) e h zero i q = let z : x.feeders.items ≡ f a = cc in let y : a ≡ i = omega arith in subst (λ v. x.feeders.items ≡ f v) y z
pins_are (x ∷ xs) f a (suc n) e h (suc j) i q = pins_are xs f (a + 1) n (cc) (λ j l. h j (omega arith)) j i (omega arith)

nothing_out : (js : List Instance) (k : ℕ) → length js ≤ k → out_at js k ≡ None
nothing_out js k h = rw (get_none js k h) refl

pub node_is : (ws : List Bounds) (ds : List (Option ℕ)) (js : List Instance) (nodes : List Node) → map node_feeders
    nodes ≡ map (quick_feeders ws ds js) (range_with_len 0 (length js)) → (k : ℕ) → search_of.feeders_of nodes k ≡ quick_feeders ws ds js k
node_is ws ds js nodes e k = pins_are nodes (quick_feeders ws ds js) 0 (length js) e (λ j l. rw (nothing_out js j (omega arith)) refl) k k (omega arith)

has_out : (o : Option Target) (xs : List ℕ) (at : ℕ) → at < length (cond (is_some o) xs []) → is_some o ≡ true
has_out None xs at h = absurd (omega arith)
has_out (Some t) xs at h = refl

-- the two meanings agree
feeds_passes : (ws : List Bounds) (ds : List (Option ℕ)) (js : List Instance) (n : ℕ) →
    DrivenTo js n (length js) ds → (d k : ℕ) → search_of.Feeds (quick_feeders ws ds js) d k → PassesOn (bounds_at ws) js d k
feeds_passes ws ds js n h d k f =
    let o = has_out (out_at js k) (quick_list ws ds js (pins_at js k)) f.at f.below in
    let b : f.at < length (quick_list ws ds js (pins_at js k)) = rw o at f.below in
    let i : get_or (quick_list ws ds js (pins_at js k)) f.at 0 ≡ d = rw o at f.is in
    let q = quick_has ws ds js (pins_at js k) f.at d b i in
    let z = behind_is ws ds js q.pin.target d q.behind in
    record { net = z.net; drives = (h.is z.net d z.driver).1; at_once = z.at_once; wire_at_once = z.wire; has_out = o; pin = q.pin; reads = q.has; on_net = z.on_net }

passes_feeds : (ws : List Bounds) (ds : List (Option ℕ)) (js : List Instance) (n : ℕ) →
    DrivenTo js n (length js) ds → (d k : ℕ) → PassesOn (bounds_at ws) js d k → search_of.Feeds (quick_feeders ws ds js) d k
passes_feeds ws ds js n h d k p =
    let dr = h.of p.net d (out_below js d p.net p.drives) p.drives in
    let b = behind_to ws ds js p.pin.target d (record { net = p.net; on_net = p.on_net; wire = p.wire_at_once; driver = dr; at_once = p.at_once }) in
    let g = quick_gets ws ds js (pins_at js k) p.pin d p.reads.0 p.reads.1 p.reads.2 b in
    let o = p.has_out in
    record { at = g.at; below = rw o g.below; is = rw o g.is }

pub loop_is : (ws : List Bounds) (ds : List (Option ℕ)) (js : List Instance) (n : ℕ) (nodes : List Node) → DrivenTo js n (length js) ds →
    map node_feeders nodes ≡ map (quick_feeders ws ds js) (range_with_len 0 (length js)) →
    (k : ℕ) → search_of.IsFedByLoop (search_of.feeders_of nodes) k → IsLooped (bounds_at ws) js k
loop_is ws ds js n nodes h e k l =
    let f : (i j : ℕ) → search_of.Feeds (search_of.feeders_of nodes) i j → PassesOn (bounds_at ws) js i j = λ i j g. feeds_passes ws ds
    js n h i j (record { at = g.at; below = rw (sym (node_is ws ds js nodes e j)) g.below; is = rw (sym (node_is ws ds js nodes e j)) g.is }) in
    from_loop_map f k l

pub loop_to : (ws : List Bounds) (ds : List (Option ℕ)) (js : List Instance) (n : ℕ) (nodes : List Node) → DrivenTo js n (length js) ds →
    map node_feeders nodes ≡ map (quick_feeders ws ds js) (range_with_len 0 (length js)) →
    (k : ℕ) → IsLooped (bounds_at ws) js k → search_of.IsFedByLoop (search_of.feeders_of nodes) k
loop_to ws ds js n nodes h e k l =
    let f : (i j : ℕ) → PassesOn (bounds_at ws) js i j → search_of.Feeds (search_of.feeders_of nodes) i j = λ i j p. let g = passes_feeds ws
    ds js n h i j p in record { at = g.at; below = rw (node_is ws ds js nodes e j) g.below; is = rw (node_is ws ds js nodes e j) g.is } in
    from_loop_map f k l

-- bounds that agree give the same passages
passes_same : (w w' : ℕ → Bounds) (js : List Instance) → ((i : ℕ) → w i ≡ w' i) → (d k : ℕ) → PassesOn w js d k → PassesOn w' js d k
passes_same w w' js e d k p =
    record {
      net = p.net;
      drives = p.drives;
      at_once = p.at_once;
      wire_at_once = subst (λ x. x.min ≡ 0) (e p.net) p.wire_at_once;
      has_out = p.has_out;
      pin = p.pin;
      reads = p.reads;
      on_net = p.on_net;
    }

pub none_looped_by : (w w' : ℕ → Bounds) (js : List Instance) → ((i : ℕ) → w i ≡ w' i) → HoldsOfNone (IsLooped w js) js → HoldsOfNone (IsLooped w' js) js
none_looped_by w w' js e h k l x = h k l (from_loop_map (passes_same w' w js (λ i. sym (e i))) k x)

nodes_long : (nodes : List Node) (f : ℕ → List ℕ) (n : ℕ) → map node_feeders nodes ≡ map f (range_with_len 0 n) → length nodes ≡ n
nodes_long nodes f n e = sym (length-map nodes node_feeders) ∙ ap length e ∙ length-map-range_with_len f 0 n

pub nodes_in : (ws : List Bounds) (ds : List (Option ℕ)) (js : List Instance) (n : ℕ) (nodes : List Node) →
    DrivenTo js n (length js) ds → map node_feeders nodes ≡ map (quick_feeders ws ds js) (range_with_len 0 (length js)) → search_of.AreInRange nodes
nodes_in ws ds js n nodes h e j =
    let m = nodes_long nodes (quick_feeders ws ds js) (length js) e in
    All-from_get_or (λ i. i < length nodes) (search_of.feeders_of nodes j) 0 (λ i l.
    let q = node_is ws ds js nodes e j in
    let p = feeds_passes ws ds js n h (get_or (search_of.feeders_of nodes j) i 0) j (record { at = i; below = rw (sym q) l; is = ap (λ x. get_or x i 0) (sym q) }) in
    let b = out_below js (get_or (search_of.feeders_of nodes j) i 0) p.net p.drives in
    omega arith)

pub none_looped : (ws : List Bounds) (ds : List (Option ℕ)) (js : List Instance) (n : ℕ) (nodes : List Node) → DrivenTo js n (length js) ds →
    map node_feeders nodes ≡ map (quick_feeders ws ds js) (range_with_len 0 (length js)) →
    ((i : ℕ) → i < length nodes → search_of.IsFedByLoop (search_of.feeders_of nodes) i → ⊥) → HoldsOfNone (IsLooped (bounds_at ws) js) js
none_looped ws ds js n nodes h e none k l x = let m = nodes_long nodes (quick_feeders ws ds js) (length js) e in none k (omega arith) (loop_to ws ds js n nodes h e k x)

loop_below : (ws : List Bounds) (js : List Instance) (k : ℕ) → IsLooped (bounds_at ws) js k → k < length js
loop_below ws js k l = reached l.reaches where
  outs : (k : ℕ) → is_some (out_at js k) ≡ true → k < length js
  outs k h = elim (below k (length js)) as (λ _. k < length js) [ inl b ↦ b | inr b ↦ let z = nothing_out js k b in absurd (cc) ]

  reached : {i j : ℕ} → Reaches (PassesOn (bounds_at ws) js) i j → j < length js
  reached (By_one {j = j} r) = outs j r.has_out
  reached (And_then r q) = reached q

pub first_looped : (ws : List Bounds) (ds : List (Option ℕ)) (js : List Instance) (n k : ℕ) (nodes : List Node) (place : Place) →
    StandsAt (slice_get js k) place → DrivenTo js n (length js) ds → map node_feeders nodes ≡ map (quick_feeders ws ds js)
    (range_with_len 0 (length js)) → search_of.IsFirstFed (search_of.feeders_of nodes) k → IsFirst (IsLooped (bounds_at ws) js) js place
first_looped ws ds js n k nodes place s h e f =
    let l = loop_is ws ds js n nodes h e k f.is in
    let b = loop_below ws js k l in
    record { k = k; below = b; is = l; first = λ m t x. f.first m t (loop_to ws ds js n nodes h e m x); stands = s }

pub looped_in : (ws : List Bounds) (ds : List (Option ℕ)) (js : List Instance) (n k : ℕ) (nodes : List Node) → DrivenTo js n (length js) ds →
    map node_feeders nodes ≡ map (quick_feeders ws ds js) (range_with_len 0 (length js)) →
    search_of.IsFirstFed (search_of.feeders_of nodes) k → k < length js
looped_in ws ds js n k nodes h e f = loop_below ws js k (loop_is ws ds js n nodes h e k f.is)
