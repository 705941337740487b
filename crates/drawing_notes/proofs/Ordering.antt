-- The nets of no loop, in an order in which each follows those that lead to it.
use Rattle.std.proofs.Common.{◌≡◌, ℕ, zero, suc, ◌<◌, ◌≤◌, inl, inr, Bool, true, false, cond, List, [], ◌∷◌, length, map, get_or, refl, ap, sym, subst, ◌∙◌, arith, slice_get, Option, Some, None}
use Rattle.std.specs.List.{All, filter_map, list_any, range_with_len}
use Rattle.std.proofs.lemmas.Bool.{and_parts, and_from, eqb-true, eq-eqb, or_cases, or_left, or_right}
use Rattle.std.proofs.lemmas.List.Elements.{All-from_get_or}
use Rattle.vector_names.specs.declared.bits.Target.{Target}
use Rattle.vector_names.specs.declared.bits.Target.TheVariants.{Net as OnNet, Constant}
use Rattle.flat_circuit.specs.declared.instance.Pin.{Pin}
use Rattle.flat_circuit.specs.declared.instance.Instance.{Instance}
use Rattle.flat_circuit.specs.Instances.{is_on, InstanceFits, PinExists, TargetExists}
use Rattle.flat_circuit.specs.Circuit.{Circuit, IsCircuit, driver, driver_at, driver_in, instance_in}
use Rattle.flat_circuit.specs.Loop.{Reaches, By_one, And_then}
use Rattle.flat_circuit.proofs.Driven.{get_none}
use Rattle.flat_circuit.proofs.Numbered.{fits_of}
use Rattle.flat_circuit.specs.declared.node.Node.{Node}
use Rattle.flat_circuit.specs.Node.{Feeds, AreLoopless, AreInRange, feeders_of, node_feeders}
use Rattle.flat_circuit.specs.Sorted.{IsSorted}
use Rattle.flat_circuit.proofs.Nodes.{feeders_are, feeds_as, nodes_long as made_long, reaches_map}
use Rattle.drawing_notes.specs.Arrivals.{feeders_by, feeders_in, open_net, unlooped}
use Rattle.drawing_notes.specs.Paths.{leads, Leads, passes_on, TellsLoops}
use Rattle.drawing_notes.specs.Pins.{passes, target_net}

-- ---- the nets of no loop that pins are on

pub record IsAt (xs : List ℕ) (i : ℕ) : Type 0 where
  pub at : ℕ
  pub below : at < length xs
  pub is : get_or xs at 0 ≡ i

-- a pin is on the net, which is on no loop
pub record IsFree (looped : ℕ → Bool) (pins : List Pin) (i : ℕ) : Type 0 where
  pub on : list_any (λ (p : Pin). is_on i p.target) pins ≡ true
  pub free : looped i ≡ false

module _ (looped : ℕ → Bool) where
  after : (o : Option ℕ) (pins : List Pin) (i : ℕ) → IsAt (filter_map (open_net looped) pins) i → (p : Pin) → open_net looped p ≡ o → IsAt (filter_map (open_net looped) (p ∷ pins)) i
  after None pins i found p is = subst (λ (xs : List ℕ). IsAt xs i) (sym (skipped is)) found
    where
      skipped : open_net looped p ≡ None → filter_map (open_net looped) (p ∷ pins) ≡ filter_map (open_net looped) pins
      skipped e = rw e refl
  after (Some n) pins i found p is = subst (λ (xs : List ℕ). IsAt xs i) (sym (taken is)) (record { at = suc found.at; below = (let b = found.below in omega (arith, b)); is = found.is })
    where
      taken : open_net looped p ≡ Some n → filter_map (open_net looped) (p ∷ pins) ≡ n ∷ filter_map (open_net looped) pins
      taken e = rw e refl

  here : (pins : List Pin) (i : ℕ) (p : Pin) → open_net looped p ≡ Some i → IsAt (filter_map (open_net looped) (p ∷ pins)) i
  here pins i p is = subst (λ (xs : List ℕ). IsAt xs i) (sym (taken is)) (record { at = 0; below = omega arith; is = refl })
    where
      taken : open_net looped p ≡ Some i → filter_map (open_net looped) (p ∷ pins) ≡ i ∷ filter_map (open_net looped) pins
      taken e = rw e refl

  opened : (t : Target) (i : ℕ) → is_on i t ≡ true → looped i ≡ false → unlooped looped (target_net t) ≡ Some i
  opened (OnNet n) i on free =
      let same = eqb-true n i on in
      ap (λ b. cond b None (Some n)) (ap looped same ∙ free) ∙ ap Some same
  opened (Constant b) i on free = absurd cc

  free_at : (pins : List Pin) (i : ℕ) → IsFree looped pins i → IsAt (filter_map (open_net looped) pins) i
  free_at [] i f = let on = f.on in absurd cc
  free_at (p ∷ pins) i f = elim (or_cases (is_on i p.target) (list_any (λ (q : Pin). is_on i q.target) pins) f.on) [
    | inl on ↦ here pins i p (opened p.target i on f.free)
    | inr later ↦ after (open_net looped p) pins i (free_at pins i (record { on = later; free = f.free })) p refl
  ]

  one_free : (t : Target) (n : ℕ) → unlooped looped (target_net t) ≡ Some n → (is_on n t ≡ true) × (looped n ≡ false)
  one_free (OnNet m) n is = by (looped m) refl is
    where
      by : (b : Bool) → looped m ≡ b → cond b None (Some m) ≡ Some n → (is_on n (OnNet m) ≡ true) × (looped n ≡ false)
      by true at e = absurd cc
      by false at e = let same : m ≡ n = cc in (eq-eqb m n same, subst (λ k. looped k ≡ false) same at)
  one_free (Constant b) n is = absurd cc

  -- of a pin in front of others
  at_front : (p : Pin) (pins : List Pin) (i : ℕ) → (IsAt (filter_map (open_net looped) pins) i → IsFree looped pins i) → (o : Option ℕ) → open_net looped p ≡ o →
      IsAt (filter_map (open_net looped) (p ∷ pins)) i → IsFree looped (p ∷ pins) i
  at_front p pins i later None is found =
      let same : filter_map (open_net looped) (p ∷ pins) ≡ filter_map (open_net looped) pins = rw is refl in
      let more = later (subst (λ (xs : List ℕ). IsAt xs i) same found) in
      record { on = or_right _ _ more.on; free = more.free }
  at_front p pins i later (Some n) is found =
      let same : filter_map (open_net looped) (p ∷ pins) ≡ n ∷ filter_map (open_net looped) pins = rw is refl in
      let at = subst (λ (xs : List ℕ). IsAt xs i) same found in
      place at.at at.below at.is
    where
      place : (k : ℕ) → k < length (n ∷ filter_map (open_net looped) pins) → get_or (n ∷ filter_map (open_net looped) pins) k 0 ≡ i → IsFree looped (p ∷ pins) i
      place zero below e =
          let both = one_free p.target n is in
          subst (IsFree looped (p ∷ pins)) e (record { on = or_left _ _ both.0; free = both.1 })
      place (suc k) below e =
          let more = later (record { at = k; below = omega (arith, below); is = e }) in
          record { on = or_right _ _ more.on; free = more.free }

  at_free : (pins : List Pin) (i : ℕ) → IsAt (filter_map (open_net looped) pins) i → IsFree looped pins i
  at_free [] i found = let b = found.below in absurd (omega (arith, b))
  at_free (p ∷ pins) i found = at_front p pins i (λ later. at_free pins i later) (open_net looped p) refl found

-- ---- feeders are what leads

pub record FeedsFree (c : Circuit) (looped : ℕ → Bool) (from net : ℕ) : Type 0 where
  pub led : leads c from net ≡ true
  pub from_free : looped from ≡ false
  pub net_free : looped net ≡ false

module _ (c : Circuit) (looped : ℕ → Bool) (from net : ℕ) where
  none_at : (i : ℕ) → IsAt [] i → ⊥
  none_at i found = let b = found.below in omega (arith, b)

  by_driver : (j : Option Instance) → driver c net ≡ j → IsAt (feeders_by looped j) from → (leads c from net ≡ true) × (looped from ≡ false)
  by_driver None at found = absurd (none_at from found)
  by_driver (Some j) at found = by (passes j.kind) refl found
    where
      by : (b : Bool) → passes j.kind ≡ b → IsAt (cond b (filter_map (open_net looped) j.pins) []) from → (leads c from net ≡ true) × (looped from ≡ false)
      by true gate f = let is = at_free looped j.pins from f in (ap (passes_on from) at ∙ and_from _ _ gate is.on, is.free)
      by false gate f = absurd (none_at from f)

  pub feeds_free : Feeds (feeders_in c looped) from net → FeedsFree c looped from net
  feeds_free f = by (looped net) refl (record { at = f.at; below = f.below; is = f.is })
    where
      by : (b : Bool) → looped net ≡ b → IsAt (cond b [] (feeders_by looped (driver c net))) from → FeedsFree c looped from net
      by true is found = absurd (none_at from found)
      by false is found = let both = by_driver (driver c net) refl found in record { led = both.0; from_free = both.1; net_free = is }

  at_driver : (j : Option Instance) → passes_on from j ≡ true → looped from ≡ false → IsAt (feeders_by looped j) from
  at_driver None led free = absurd cc
  at_driver (Some j) led free =
      let both = and_parts (passes j.kind) (list_any (λ (p : Pin). is_on from p.target) j.pins) led in
      subst (λ (xs : List ℕ). IsAt xs from) (sym (ap (λ b. cond b (filter_map (open_net looped) j.pins) []) both.0))
      (free_at looped j.pins from (record { on = both.1; free = free }))

  pub free_feeds : FeedsFree c looped from net → Feeds (feeders_in c looped) from net
  free_feeds f =
      let found =
      subst (λ (xs : List ℕ). IsAt xs from) (sym (ap (λ b. cond b [] (feeders_by looped (driver c net))) f.net_free))
      (at_driver (driver c net) f.led f.from_free) in
      record { at = found.at; below = found.below; is = found.is }

-- ---- what leads to a net exists

pin_exists : (nets : ℕ) (pins : List Pin) (i : ℕ) → All (PinExists nets) pins → list_any (λ (p : Pin). is_on i p.target) pins ≡ true → i < nets
pin_exists nets [] i all on = absurd cc
pin_exists nets (p ∷ pins) i all on = elim (or_cases (is_on i p.target) (list_any (λ (q : Pin). is_on i q.target) pins) on) [
  | inl here ↦ target p.target here (all zero p (omega arith))
  | inr later ↦ pin_exists nets pins i (λ k d below. all (suc k) d (omega (arith, below))) later
]
  where
    target : (t : Target) → is_on i t ≡ true → TargetExists nets t → i < nets
    target (OnNet n) here exists = subst (λ k. k < nets) (eqb-true n i here) exists
    target (Constant b) here exists = absurd cc

led_exists : (c : Circuit) → IsCircuit c → (from net : ℕ) → leads c from net ≡ true → from < length c.nets
led_exists c known from net led = by (driver_at c.nets net) refl
  where
    pins : (j : Instance) → driver c net ≡ Some j → InstanceFits c.header (length c.nets) j → from < length c.nets
    pins j at fits =
        let both = and_parts (passes j.kind) (list_any (λ (p : Pin). is_on from p.target) j.pins) (sym (ap (passes_on from) at) ∙ led) in
        pin_exists (length c.nets) j.pins from fits.exists.reads both.1

    by_instance : (k : ℕ) (j : Option Instance) → slice_get c.instances k ≡ j → driver c net ≡ j → from < length c.nets
    by_instance k None at is = let no : false ≡ true = sym (ap (passes_on from) is) ∙ led in absurd cc
    by_instance k (Some j) at is = pins j is (fits_of c k j known at)

    by : (k : Option ℕ) → driver_at c.nets net ≡ k → from < length c.nets
    by None at = let no : false ≡ true = sym (ap (λ d. passes_on from (instance_in c d)) at) ∙ led in absurd cc
    by (Some k) at = by_instance k (slice_get c.instances k) refl (ap (instance_in c) at)

-- ---- the nodes of the search

module _ (c : Circuit) (looped : ℕ → Bool) (nodes : List Node)
    (are : map node_feeders nodes ≡ map (feeders_in c looped) (range_with_len 0 (length c.nets))) where
  none_past : (j : ℕ) → length c.nets ≤ j → feeders_in c looped j ≡ []
  none_past j past = by (looped j)
    where
      no_driver : driver c j ≡ None
      no_driver = ap (λ n. instance_in c (driver_in n)) (get_none c.nets j past)

      by : (b : Bool) → cond b [] (feeders_by looped (driver c j)) ≡ []
      by true = refl
      by false = ap (feeders_by looped) no_driver

  pub nodes_long : length nodes ≡ length c.nets
  nodes_long = made_long nodes (feeders_in c looped) (length c.nets) are

  -- an order that was read from where it lies, of nodes that were read so too
  pub order_is : (read : List Node) (order items : List ℕ) → read ≡ nodes → items ≡ order →
      IsSorted (feeders_of read) (length read) order → IsSorted (feeders_of nodes) (length c.nets) items
  order_is read order items nodes_are items_are sorted =
      subst (λ n. IsSorted (feeders_of nodes) n items) nodes_long
      (subst (λ (ns : List Node). IsSorted (feeders_of ns) (length ns) items) nodes_are
      (subst (IsSorted (feeders_of read) (length read)) (sym items_are) sorted))

  pub node_is : (k : ℕ) → feeders_of nodes k ≡ feeders_in c looped k
  node_is = feeders_are nodes (feeders_in c looped) (length c.nets) are none_past

  pub node_feeds : (from net : ℕ) → Feeds (feeders_of nodes) from net → FeedsFree c looped from net
  node_feeds from net f = feeds_free c looped from net (feeds_as (feeders_of nodes) (feeders_in c looped) node_is from net f)

  pub feeds_node : (from net : ℕ) → FeedsFree c looped from net → Feeds (feeders_of nodes) from net
  feeds_node from net f = feeds_as (feeders_in c looped) (feeders_of nodes) (λ k. sym (node_is k)) from net (free_feeds c looped from net f)

  -- what leads to a net exists, since the pins of its driver do
  pub nodes_in : IsCircuit c → AreInRange nodes
  nodes_in known j =
      All-from_get_or (λ i. i < length nodes) (feeders_of nodes j) 0 (λ k below.
      let free = node_feeds (get_or (feeders_of nodes j) k 0) j (record { at = k; below = below; is = refl }) in
      let exists = led_exists c known (get_or (feeders_of nodes j) k 0) j free.led in
      let long = nodes_long in
      omega (arith, exists, long))

  pub nodes_loopless : (together : ℕ → ℕ → Bool) → TellsLoops c together → ((i : ℕ) → looped i ≡ together i i) → AreLoopless (feeders_of nodes)
  nodes_loopless together tells are_looped i round =
      let on_loop : Reaches (Leads c) i i = reaches_map (λ m n f. (node_feeds m n f).led) round in
      let is = (tells i i).1 (record { there = on_loop; back = on_loop }) in
      let free = first_free round in
      let no = are_looped i in
      absurd cc
    where
      first_free : {i j : ℕ} → Reaches (Feeds (feeders_of nodes)) i j → looped i ≡ false
      first_free (By_one {i} {j} f) = (node_feeds i j f).from_free
      first_free (And_then {i} {m} {j} f q) = (node_feeds i m f).from_free
