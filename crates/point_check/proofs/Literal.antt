-- What computing finds in runs that are written out, of one instance whose pins are on nets 0, 1 and
-- so on.
use Rattle.std.proofs.Common.{inl, inr, ◌⊎◌, ◌≡◌, ◌≢◌, ℕ, ◌-◌, ◌<◌, ◌≤◌, ◌==◌, Bool, true, false, not, ◌&&◌, nat_le, List, length, refl, sym, ap, subst, ◌∙◌, arith, slice_get, Option, Some, None}
use Rattle.std.specs.Prelude.{⊤}
use Rattle.std.proofs.lemmas.Bool.{false≢true, true≢false, cases_lt, both_ways, le-leb, ne_eqb, not-true}
use Rattle.std.proofs.lemmas.Option.{slice_get_within}
use Rattle.scald_base.specs.Signal.{Signal, turned}
use Rattle.scald_base.specs.declared.assertion.AssertSpec.{AssertSpec}
use Rattle.scald_base.specs.declared.assertion.AssertSpec.TheVariants.{None as Unasserted}
use Rattle.step_values.specs.Steps.{has}
use Rattle.flat_circuit.specs.declared.instance.Pin.{Pin}
use Rattle.flat_circuit.specs.declared.instance.Instance.{Instance}
use Rattle.flat_circuit.specs.declared.net.Net.{Net}
use Rattle.flat_circuit.specs.Circuit.{Circuit}
use Rattle.flat_circuit.specs.Run.{Run, Choice, net_signal}
use Rattle.flat_circuit.proofs.RunTables.{late}
use Rattle.pin_waves.proofs.Tests.{implies, implies_is, all_below, each_passes}
use Rattle.fixpoint_engine.specs.Pins.{pin_at}
use Rattle.fixpoint_engine.proofs.WrittenRuns.{alone, run_of, only, only_at}
use Rattle.point_check.specs.Break.{Rises, Changes, IsHighTo, IsSetupHoldBreak, BreaksSetupHold, IsRiseFallBreak, BreaksRiseFall, HasMark, IsMarkBreak, BreaksMark, BreaksKind, BreaksInstance, Asserts, wide_at, IsNetBreak, BreaksNet}

-- ---- steps

abbrev pub rising : Signal → ℕ → Bool
rising x t = not (x (t - 1)) && x t

abbrev pub changing : Signal → ℕ → Bool
changing x t = turned (x (t - 1)) (x t)

risen : (a b : Bool) → a ≡ false → b ≡ true → (not a && b) ≡ true
risen false true before after = refl
risen false false before after = cc
risen true b before after = cc

changed : (a b : Bool) → a ≢ b → turned a b ≡ true
changed false true other = refl
changed true false other = refl
changed false false other = absurd (other refl)
changed true true other = absurd (other refl)

pub only_rise : (x : Signal) (n k t : ℕ) → only (rising x) n k ≡ true → t < n → Rises x t → t ≡ k
only_rise x n k t is less rises =
    only_at (rising x) n k t is less (risen (x (t - 1)) (x t) rises.0 rises.1)

pub only_change : (x : Signal) (n k t : ℕ) → only (changing x) n k ≡ true → t < n → Changes x t →
    t ≡ k
only_change x n k t is less changes =
    only_at (changing x) n k t is less (changed (x (t - 1)) (x t) changes)

-- high from the rise on, to the fall
abbrev pub stays_high : Signal → ℕ → ℕ → Bool
stays_high x rise fall = all_below (λ t. implies (nat_le rise t) (x t)) fall

pub high_to : {x : Signal} (rise fall : ℕ) → rise < fall → Rises x rise →
    stays_high x rise fall ≡ true → x fall ≡ false →
    IsHighTo x rise fall
high_to {x} rise fall less rises high falls = record {
  rises = rises;
  ordered = less;
  high = λ t after before. at t after (omega arith);
  falls = falls;
}
  where
    at : (t : ℕ) → rise ≤ t → t < fall → x t ≡ true
    at t after before =
        implies_is (nat_le rise t) (x t)
        (each_passes (λ t. implies (nat_le rise t) (x t)) fall high t before) (le-leb rise t after)

-- if it is low between, it is not high to the end
pub no_fall : {x : Signal} {rise fall : ℕ} (low : ℕ) → x low ≡ false → rise ≤ low → low < fall →
    ¬ IsHighTo x rise fall
no_fall {x} low is after before high = both_ways (x low) is (high.high low after (omega arith))

-- a rise has one next fall
pub one_fall : (x : Signal) (rise fall other : ℕ) → IsHighTo x rise fall → IsHighTo x rise other →
    other ≡ fall
one_fall x rise fall other one two = by (cases_lt fall other) (cases_lt other fall)
  where
    by : (fall < other) ⊎ (other ≤ fall) → (other < fall) ⊎ (fall ≤ other) → other ≡ fall
    by (inl less) least =
        let ordered = one.ordered in
        absurd (both_ways (x fall) one.falls
        (two.high fall (omega (arith, ordered)) (omega (arith, less))))
    by (inr most) (inl less) =
        let ordered = two.ordered in
        absurd (both_ways (x other) two.falls
        (one.high other (omega (arith, ordered)) (omega (arith, less))))
    by (inr most) (inr least) = omega arith

-- ---- circuits of one instance

abbrev pub holding : Pin → Pin
holding p = record p { hold = true }

abbrev pub Breaks : Instance → Run → ℕ → Type 0
Breaks j run start = BreaksInstance (alone j) run 0 start

abbrev BreaksAs : Run → ℕ → Instance → Choice → Type 0
BreaksAs run start j choice = BreaksKind j.kind run j choice start

module _ {j : Instance} {ticks start : ℕ} {wires : List ℕ} {nets : List (List Bool)} where
  pub broken : BreaksKind j.kind (run_of ticks wires nets) j (late 0 wires) start →
      Breaks j (run_of ticks wires nets) start
  broken breaks =
      record {
        instance = j;
        choice = late 0 wires;
        instance_is = refl;
        choice_is = refl;
        breaks = breaks;
      }

  pub unbroken : ¬ BreaksKind j.kind (run_of ticks wires nets) j (late 0 wires) start →
      ¬ Breaks j (run_of ticks wires nets) start
  unbroken none b =
      let at : Some j ≡ Some b.instance = b.instance_is in
      let by : Some (late 0 wires) ≡ Some b.choice = b.choice_is in
      let same : j ≡ b.instance = cc in
      let same' : late 0 wires ≡ b.choice = cc in
      none
      (subst (λ (i : Instance). BreaksAs (run_of ticks wires nets) start i (late 0 wires))
      (sym same)
      (subst (λ (ch : Choice). BreaksAs (run_of ticks wires nets) start b.instance ch) (sym same')
      b.breaks))

abbrev marked_in : Option Pin → Bool
marked_in None = false
marked_in (Some p) = p.hold

-- whether the pin of this number is marked
abbrev pub marked_at : Instance → ℕ → Bool
marked_at j i = marked_in (slice_get j.pins i)

pub has_mark : {j : Instance} {i : ℕ} → marked_at j i ≡ true → HasMark j i
has_mark {j} {i} is = by (slice_get j.pins i) refl is
  where
    by : (o : Option Pin) → slice_get j.pins i ≡ o → marked_in o ≡ true → HasMark j i
    by None at holds = cc
    by (Some p) at holds = record { pin = p; pin_is = at; holds = holds }

pub trivial : ⊤
trivial = tt

-- what shows that a break is one, where all of it is written out
pub ruleset found = (arith, false≢true, true≢false, trivial)

-- ---- what is not broken, by the one tick at which each step can be

module _ {run : Run} {j : Instance} {choice : Choice} {start : ℕ} where
  pub no_setup_hold : (edge change : ℕ) →
      only (rising (pin_at run j choice 0)) run.ticks edge ≡ true →
      only (changing (pin_at run j choice 1)) run.ticks change ≡ true →
      ¬ IsSetupHoldBreak run j choice start edge change → ¬ BreaksSetupHold run j choice start
  no_setup_hold edge change rises changes none b =
      let e =
      only_rise (pin_at run j choice 0) run.ticks edge b.edge rises b.at.edge_in.ends b.at.rises in
      let u =
      only_change (pin_at run j choice 1) run.ticks change b.change changes b.at.change_in.ends
      b.at.changes in
      none (subst (λ (t : ℕ). IsSetupHoldBreak run j choice start t change) e
      (subst (λ (t : ℕ). IsSetupHoldBreak run j choice start b.edge t) u b.at))

  pub no_rise_fall : (edge fall change : ℕ) →
      only (rising (pin_at run j choice 0)) run.ticks edge ≡ true →
      IsHighTo (pin_at run j choice 0) edge fall →
      only (changing (pin_at run j choice 1)) run.ticks change ≡ true →
      ¬ IsRiseFallBreak run j choice start edge fall change → ¬ BreaksRiseFall run j choice start
  no_rise_fall edge fall change rises high changes none b =
      let e =
      only_rise (pin_at run j choice 0) run.ticks edge b.edge rises b.at.edge_in.ends
      b.at.is_high.rises in
      let u =
      only_change (pin_at run j choice 1) run.ticks change b.change changes b.at.change_in.ends
      b.at.changes in
      let f = one_fall (pin_at run j choice 0) edge fall b.fall high
      (subst (λ (t : ℕ). IsHighTo (pin_at run j choice 0) t b.fall) e b.at.is_high) in
      none (subst (λ (t : ℕ). IsRiseFallBreak run j choice start t fall change) e
      (subst (λ (t : ℕ). IsRiseFallBreak run j choice start b.edge t change) f
      (subst (λ (t : ℕ). IsRiseFallBreak run j choice start b.edge b.fall t) u b.at)))

  -- of two pins, one is marked, and the other changes at one tick at most
  pub no_mark : {closed : Bool} (marked pin tick : ℕ) →
      only (marked_at j) (length j.pins) marked ≡ true →
      only (λ i. not (i == marked)) (length j.pins) pin ≡ true →
      only (changing (pin_at run j choice pin)) run.ticks tick ≡ true →
      ¬ IsMarkBreak run j choice closed start marked pin tick →
      ¬ BreaksMark run j choice closed start
  no_mark {closed} marked pin tick one other changes none b =
      let here : marked_at j b.marked ≡ true =
      ap marked_in b.at.is_marked.pin_is ∙ b.at.is_marked.holds in
      let m = only_at (marked_at j) (length j.pins) marked b.marked one
      (slice_get_within j.pins b.marked b.at.is_marked.pin b.at.is_marked.pin_is) here in
      let p = only_at (λ i. not (i == marked)) (length j.pins) pin b.pin other b.at.below
      (ap not (ne_eqb b.pin marked (λ same. b.at.apart (same ∙ sym m)))) in
      let steps = subst (λ (i : ℕ). IsMarkBreak run j choice closed start marked i b.tick) p
      (subst (λ (i : ℕ). IsMarkBreak run j choice closed start i b.pin b.tick) m b.at) in
      let t =
      only_change (pin_at run j choice pin) run.ticks tick b.tick changes steps.pin_in.ends
      steps.changes in
      none (subst (λ (t : ℕ). IsMarkBreak run j choice closed start marked pin t) t steps)

  pub none_marked : {closed : Bool} → all_below (λ i. not (marked_at j i)) (length j.pins) ≡ true →
      ¬ BreaksMark run j choice closed start
  none_marked none b =
      both_ways (marked_at j b.marked)
      (not-true (marked_at j b.marked)
      (each_passes (λ i. not (marked_at j i)) (length j.pins) none b.marked
      (slice_get_within j.pins b.marked b.at.is_marked.pin b.at.is_marked.pin_is)))
      (ap marked_in b.at.is_marked.pin_is ∙ b.at.is_marked.holds)

-- ---- nets

-- the step at a tick is one that the wide wave of the assertion has not
abbrev pub lacking : Circuit → Run → ℕ → AssertSpec → ℕ → Bool
lacking c run i spec t =
    not (has (wide_at c.header spec t) (net_signal run i (t - 1)) (net_signal run i t))

same_net : {net other : Net} (at : Option Net) → at ≡ Some net → at ≡ Some other → other ≡ net
same_net at one two = cc

module _ {c : Circuit} {run : Run} {i start : ℕ} where
  pub net_breaks : {net : Net} (driver tick : ℕ) → slice_get c.nets i ≡ Some net →
      IsNetBreak c run i start net driver tick → BreaksNet c run i start
  net_breaks {net} driver tick is at = record { net = net; driver = driver; tick = tick; at = at }

  pub no_net : {net : Net} (tick : ℕ) → slice_get c.nets i ≡ Some net →
      only (lacking c run i net.spec) run.ticks tick ≡ true →
      ((driver : ℕ) → ¬ IsNetBreak c run i start net driver tick) →
      ¬ BreaksNet c run i start
  no_net {net} tick is lacks none b =
      let at =
      subst (λ (n : Net). IsNetBreak c run i start n b.driver b.tick)
      (same_net (slice_get c.nets i) is b.at.net_is) b.at in
      let t =
      only_at (lacking c run i net.spec) run.ticks tick b.tick lacks at.ends (ap not at.lacks) in
      none b.driver (subst (λ (u : ℕ). IsNetBreak c run i start net b.driver u) t at)

  pub no_driver : {net : Net} → slice_get c.nets i ≡ Some net → net.driver ≡ None →
      ¬ BreaksNet c run i start
  no_driver {net} is none b =
      let driven : net.driver ≡ Some b.driver =
      ap (λ (n : Net). n.driver) (sym (same_net (slice_get c.nets i) is b.at.net_is)) ∙
      b.at.is_driven in
      absurd (cc)

  pub no_assertion : {net : Net} → slice_get c.nets i ≡ Some net → net.spec ≡ Unasserted →
      ¬ BreaksNet c run i start
  no_assertion {net} is none b =
      subst Asserts (ap (λ (n : Net). n.spec) (same_net (slice_get c.nets i) is b.at.net_is) ∙ none)
      b.at.asserts

  pub no_such_net : slice_get c.nets i ≡ None → ¬ BreaksNet c run i start
  no_such_net none b = let there = b.at.net_is in absurd (cc)

-- ---- wherever an instance or a net stands

module _ (c : Circuit) (run : Run) (k start : ℕ) where
  pub anywhere : (j : Instance) (choice : Choice) → slice_get c.instances k ≡ Some j →
      slice_get run.choices k ≡ Some choice →
      BreaksKind j.kind run j choice start → BreaksInstance c run k start
  anywhere j choice is chosen breaks =
      record {
        instance = j;
        choice = choice;
        instance_is = is;
        choice_is = chosen;
        breaks = breaks;
      }

  pub nowhere : slice_get c.instances k ≡ None → ¬ BreaksInstance c run k start
  nowhere none b = let there = b.instance_is in absurd (cc)
