-- A change about an edge is one in a window, or one that is never to come.
use Rattle.std.proofs.Common.{inl, inr, ◌≡◌, ℕ, ◌+◌, ◌-◌, ◌*◌, ◌/◌, ◌%◌, ◌<◌, ◌≤◌, Bool, true, false, not, refl, sym, ap, subst, ◌∙◌, arith, map}
use Rattle.std.specs.Prelude.{filter}
use Rattle.std.specs.List.{range_with_len}
use Rattle.std.proofs.lemmas.Bool.{and_parts, cases_lt}
use Rattle.std.proofs.Math.Nat.{mod-add-div', mod-lt}
use Rattle.scald_base.specs.Clock.{back}
use Rattle.critical_paths.specs.Event.{Events, is_first}
use Rattle.critical_paths.specs.Region.{IsCyclic, all_events, region_from, regions}
use Rattle.critical_paths.proofs.Runs.{first_tick, region_from_each, region_from_is, region_from_ordered}
use Rattle.slack_rows.specs.declared.window.Extent.{Extent}
use Rattle.slack_rows.specs.Window.{about}
use Rattle.slack_rows.specs.Slack.{Watch}
use Rattle.slack_rows.specs.Laws.{IsTouched, IsTouchedWatch, SomeOf}
use Rattle.slack_rows.proofs.Cycles.{in_slot, periods_on, slot_is}
use Rattle.slack_rows.proofs.Somewhere.{SomePassing, mapped_some, passing_some, some_mapped, some_passing}
use Rattle.slack_rows.proofs.Regions.{IsCovered, covered}
use Rattle.slack_rows.proofs.Watched.{every, some_gap}

-- a window about each region of edges, and no change where an edge may come in every slot
abbrev pub watch_about : ℕ → Extent → Events → Events → Watch
watch_about p limits edges changes =
    record { changes = changes; windows = map (about p limits) (regions p edges); never = all_events p edges }

-- a change at a place of the window about an edge
pub record IsMet (p : ℕ) (limits : Extent) (edges changes : Events) : Type 0 where
  pub tick : ℕ
  pub below : tick < p
  pub edge : edges tick ≡ true
  pub place : ℕ
  pub within : place < limits.before + limits.after
  pub change : changes (back p (tick + 1 + place) limits.before) ≡ true

first_in : (p : ℕ) (ev : Events) (f : ℕ) → is_first p ev f ≡ true → ev f ≡ true
first_in p ev f is = let parts = and_parts (ev f) (not (ev (f + (p - 1)))) is in parts.0

module _ (p : ℕ) (long : 2 ≤ p) (edges changes : Events) (edges_cyclic : IsCyclic p edges) (changes_cyclic : IsCyclic p changes)
    (limits : Extent) (short : limits.before + limits.after ≤ p) where
  abbrev touched : Type 0
  touched = IsTouchedWatch (watch_about p limits edges changes)

  -- ---- what is met is in a window

  in_region : (t place : ℕ) → place < limits.before + limits.after → changes (back p (t + 1 + place) limits.before) ≡ true →
      IsCovered p edges edges_cyclic long t → SomeOf (IsTouched changes) (map (about p limits) (regions p edges))
  in_region t place within change c =
      let from = c.from in
      let up_to = c.up_to in
      let below = c.below in
      let tick_is = c.tick_is in
      let rounds : (3 + c.rounds) * p ≡ 3 * p + c.rounds * p = grind arith in
      let slot : back p (t + 1 + place) limits.before ≡ (3 * p + c.tick + 1 + place - limits.before) % p =
      slot_is p t (3 + c.rounds) place limits.before (3 * p + c.tick + 1 + place - limits.before) (omega (arith, long))
      (omega (arith, rounds, tick_is, short)) in
      let touched : IsTouched changes (about p limits (record { first = c.first; last = c.last })) = record {
        tick = 3 * p + c.tick + 1 + place - limits.before;
        after = omega (arith, from, short);
        within = omega (arith, within, up_to, short);
        is = sym (in_slot p changes changes_cyclic (3 * p + c.tick + 1 + place - limits.before)) ∙ ap changes (sym slot) ∙ change;
      } in
      some_mapped (IsTouched changes) (about p limits) (regions p edges)
      (some_mapped (λ r. IsTouched changes (about p limits r)) (region_from p edges) (filter (is_first p edges) (range_with_len 0 p))
      (some_passing (λ f. IsTouched changes (about p limits (region_from p edges f))) (is_first p edges) 0 p record {
        number = c.first;
        from = omega arith;
        below = omega (arith, below);
        passes = first_tick p edges edges_cyclic long c.first c.last c.region;
        holds = subst (λ r. IsTouched changes (about p limits r))
            (sym (region_from_is p edges edges_cyclic long c.first c.last c.region)) touched;
      }))

  pub met_touches : IsMet p limits edges changes → touched
  met_touches met = by (all_events p edges) refl
    where
      by : (b : Bool) → all_events p edges ≡ b → touched
      by true all = inl (all, record { tick = back p (met.tick + 1 + met.place) limits.before; is = met.change })
      by false some =
          let (z, none, below) = some_gap p edges edges_cyclic long some in
          inr (in_region met.tick met.place met.within met.change
          (covered p edges edges_cyclic long z none below met.tick met.below met.edge))

  -- ---- what is in a window is met

  -- from an edge and a change near it
  from_edge : (edge place x : ℕ) → edges edge ≡ true → place < limits.before + limits.after → edge + 1 + place + 3 * p ≡ x + limits.before →
      changes x ≡ true → IsMet p limits edges changes
  from_edge edge place x here within at change =
      let split : edge % p + edge / p * p ≡ edge = mod-add-div' edge p in
      let rounds : (3 + edge / p) * p ≡ 3 * p + edge / p * p = grind arith in
      let slot : back p (edge % p + 1 + place) limits.before ≡ x % p =
      slot_is p (edge % p) (3 + edge / p) place limits.before x (omega (arith, long)) (omega (arith, split, rounds, at)) in
      record {
        tick = edge % p;
        below = mod-lt edge (omega (arith, long));
        edge = in_slot p edges edges_cyclic edge ∙ here;
        place = place;
        within = within;
        change = ap changes slot ∙ in_slot p changes changes_cyclic x ∙ change;
      }

  pub touched_met : 1 ≤ limits.before + limits.after → touched → IsMet p limits edges changes
  touched_met some (inl (never, change)) =
      from_edge (change.tick + limits.before + (p - 1)) 0 (change.tick + 4 * p)
      (every p edges edges_cyclic long never (change.tick + limits.before + (p - 1)) (change.tick + limits.before + (p - 1)) (omega (arith, long)))
      (omega (arith, some)) (omega (arith, long)) (periods_on p changes changes_cyclic 4 change.tick ∙ change.is)
  touched_met some (inr found) =
      by (passing_some (λ f. IsTouched changes (about p limits (region_from p edges f))) (is_first p edges) 0 p
      (mapped_some (λ r. IsTouched changes (about p limits r)) (region_from p edges) (filter (is_first p edges) (range_with_len 0 p))
      (mapped_some (IsTouched changes) (about p limits) (regions p edges) found)))
    where
      by : SomePassing (λ f. IsTouched changes (about p limits (region_from p edges f))) (is_first p edges) 0 p → IsMet p limits edges changes
      by passing =
          let touched = passing.holds in
          let after = touched.after in
          let within = touched.within in
          let ordered : passing.number ≤ (region_from p edges passing.number).last = region_from_ordered p edges edges_cyclic long passing.number in
          let here : edges passing.number ≡ true = first_in p edges passing.number passing.passes in
          elim (cases_lt touched.tick (3 * p + passing.number + limits.after + 1)) [
            | inl near ↦ from_edge passing.number (touched.tick + limits.before - (3 * p + passing.number + 1)) touched.tick here
                (omega (arith, near, after, some)) (omega (arith, after, short)) touched.is
            | inr far ↦ from_edge (touched.tick - (3 * p + limits.after)) (limits.before + limits.after - 1) touched.tick
                (region_from_each p edges edges_cyclic long passing.number here (touched.tick - (3 * p + limits.after)) (omega (arith, far)) (omega (arith, within, far)))
                (omega (arith, some)) (omega (arith, some, far)) touched.is
          ]
