-- What is shaded is where a wave may step.
use Rattle.std.proofs.Common.{◌≡◌, ℕ, zero, suc, ◌+◌, ◌-◌, ◌%◌, ◌<◌, ◌≤◌, not, IsTrue, List, [], ◌∷◌, length, get_or, replicate, refl, arith, sym, ap, subst, ◌∙◌, length-append, inl, inr}
use Rattle.std.proofs.lemmas.List.{get_or-append-add, get_or-map, get_or-replicate, get_or_append_left, length-map, length-replicate}
use Rattle.std.proofs.lemmas.List.FromFn.{get_or-map-range_with_len, length-map-range_with_len}
use Rattle.std.proofs.lemmas.Bool.{cases_lt}
use Rattle.std.proofs.lemmas.Nat.{mod_below}
use Rattle.step_values.specs.declared.value.Value.{Value}
use Rattle.step_values.specs.declared.value.Value.TheVariants.{Zero, One, S, C, R, F, U}
use Rattle.step_values.specs.Cell.{values}
use Rattle.step_values.specs.Steps.{is_quiet}
use Rattle.skew_algebra.specs.Wave.{Wave, fold, folded}
use Rattle.wave_core.proofs.Slots.{length_slots}
use Rattle.listing.specs.Run.{Run, runs, spelled}
use Rattle.listing.proofs.Runs.{runs_are}
use Rattle.draw_report.specs.declared.run.Placed.{Placed}
use Rattle.draw_report.specs.declared.view.View.{View}
use Rattle.draw_report.specs.Wave.{cell_at, is_busy, placed, step_in, steps_of, window}
use Rattle.draw_report.specs.Shown.{IsShaded, ShadesSteps}

-- ---- the run of a slot

-- a run that has a slot, in a list from that slot on
record Covers (rs : List Run) (from slot : ℕ) : Type 0 where
  place : ℕ
  run : Placed
  inside : place < length (placed from rs)
  is : get_or (placed from rs) place run ≡ run
  begun : run.from ≤ slot
  ends : slot < run.from + run.width

later_run : (r : Run) (rs : List Run) (from slot : ℕ) → Covers rs (from + r.width) slot →
    Covers (r ∷ rs) from slot
later_run r rs from slot covers = record {
  place = suc covers.place;
  run = covers.run;
  inside = let inside = covers.inside in omega (arith, inside);
  is = covers.is;
  begun = covers.begun;
  ends = covers.ends;
}

long_run : (r : Run) (rs : List Run) →
    length (spelled (r ∷ rs)) ≡ r.width + length (spelled rs)
long_run r rs =
    length-append (replicate r.width r.value) (spelled rs)
    ∙ ap (λ (n : ℕ). n + length (spelled rs)) (length-replicate r.width r.value)

covered : (rs : List Run) (from slot : ℕ) → from ≤ slot → slot < from + length (spelled rs) →
    Covers rs from slot
covered [] from slot begun ends = absurd (omega (arith, begun, ends))
covered (r ∷ rs) from slot begun ends =
    elim (cases_lt slot (from + r.width)) as (λ _. Covers (r ∷ rs) from slot) [
      | inl l ↦ record {
        place = 0;
        run = record { value = r.value; from = from; width = r.width };
        inside = omega arith;
        is = refl;
        begun = begun;
        ends = l;
      }
      | inr m ↦ (let long = long_run r rs in
          later_run r rs from slot (covered rs (from + r.width) slot m (omega (arith, ends, long))))
    ]

-- ---- the value of a run that has a slot

record HasValue (rs : List Run) (from slot : ℕ) (p : Placed) : Type 0 where
  begun : from ≤ slot
  value : (d : Value) → get_or (spelled rs) (slot - from) d ≡ p.value

first_value : (r : Run) (rs : List Run) (from slot : ℕ) → from ≤ slot → slot < from + r.width →
    (d : Value) → get_or (spelled (r ∷ rs)) (slot - from) d ≡ r.value
first_value r rs from slot begun ends d =
    let long = length-replicate r.width r.value in
    get_or_append_left (replicate r.width r.value) (spelled rs) d (slot - from)
    (omega (arith, begun, ends, long))
    ∙ get_or-replicate r.width (slot - from) r.value d (omega (arith, begun, ends))

later_value : (r : Run) (rs : List Run) (from slot : ℕ) (p : Placed) →
    HasValue rs (from + r.width) slot p → HasValue (r ∷ rs) from slot p
later_value r rs from slot p has =
    let begun = has.begun in
    let long = length-replicate r.width r.value in
    record {
      begun = omega (arith, begun);
      value = λ d.
          (let split : slot - from ≡ length (replicate r.width r.value)
          + (slot - (from + r.width)) =
          omega (arith, begun, long) in
          ap (λ (n : ℕ). get_or (spelled (r ∷ rs)) n d) split)
          ∙ get_or-append-add (replicate r.width r.value) (spelled rs) (slot - (from + r.width)) d
          ∙ has.value d;
    }

has_value : (rs : List Run) (from place slot : ℕ) (p : Placed) →
    place < length (placed from rs) → get_or (placed from rs) place p ≡ p →
    p.from ≤ slot → slot < p.from + p.width → HasValue rs from slot p
has_value [] from place slot p inside is begun ends = absurd (omega (arith, inside))
has_value (r ∷ rs) from zero slot p inside is begun ends =
    subst (λ (q : Placed). HasValue (r ∷ rs) from slot q) is
    (let first = ap (λ (q : Placed). q.from) is in
    let wide = ap (λ (q : Placed). q.width) is in
    record {
      begun = omega (arith, begun, first);
      value = first_value r rs from slot (omega (arith, begun, first))
          (omega (arith, ends, first, wide));
    })
has_value (r ∷ rs) from (suc place) slot p inside is begun ends =
    later_value r rs from slot p
    (has_value rs (from + r.width) place slot p (omega (arith, inside)) is begun ends)

-- ---- the fold of a wave, as steps

steps_alike : (v : Value) → is_quiet (step_in v) ≡ is_quiet v
steps_alike Zero = refl
steps_alike One = refl
steps_alike S = refl
steps_alike C = refl
steps_alike R = refl
steps_alike F = refl
steps_alike U = refl

module _ (v : View) (w : Wave Value) (slot : ℕ) (some : 0 < length w.cells)
    (within : slot < v.count) where
  long : length (folded values w) ≡ length w.cells
  long = length_slots (length w.cells) (fold values w)

  -- a slot of the steps is the step of the slot
  step_at : cell_at (steps_of w) (v.first + slot)
      ≡ step_in (cell_at (folded values w) (v.first + slot))
  step_at =
      let same : length (steps_of w) ≡ length (folded values w) =
      length-map (folded values w) step_in in
      let fold_long = long in
      ap (λ (n : ℕ). get_or (steps_of w) ((v.first + slot) % n) U) same
      ∙ get_or-map step_in (folded values w) ((v.first + slot) % length (folded values w)) U U
      (mod_below (v.first + slot) (length (folded values w)) (omega (arith, some, fold_long)))

  -- so is a slot of the runs
  spelled_at : (d : Value) → get_or (spelled (runs (window (steps_of w) v.first v.count))) slot d
      ≡ cell_at (steps_of w) (v.first + slot)
  spelled_at d =
      ap (λ (vs : List Value). get_or vs slot d)
      (runs_are (window (steps_of w) v.first v.count)).spell
      ∙ get_or-map-range_with_len (λ (j : ℕ). cell_at (steps_of w) (v.first + j)) 0 v.count slot
      slot d
      within (omega arith)

  -- a run that has the slot is busy as the wave is there
  busy_alike : (p : Placed) → HasValue (runs (window (steps_of w) v.first v.count)) 0 slot p →
      is_busy p ≡ not (is_quiet (cell_at (folded values w) (v.first + slot)))
  busy_alike p has =
      let here : slot - 0 ≡ slot = omega arith in
      ap (λ (x : Value). not (is_quiet x))
      (sym (has.value U)
      ∙ ap (λ (n : ℕ). get_or (spelled (runs (window (steps_of w) v.first v.count))) n U) here
      ∙ spelled_at U ∙ step_at)
      ∙ ap not (steps_alike (cell_at (folded values w) (v.first + slot)))

  shaded_if : IsTrue (not (is_quiet (cell_at (folded values w) (v.first + slot)))) →
      IsShaded v w slot
  shaded_if busy =
      let spell = (runs_are (window (steps_of w) v.first v.count)).spell in
      let all : length (spelled (runs (window (steps_of w) v.first v.count))) ≡ v.count =
      ap length spell
      ∙ length-map-range_with_len (λ (j : ℕ). cell_at (steps_of w) (v.first + j)) 0 v.count in
      let here = covered (runs (window (steps_of w) v.first v.count)) 0 slot (omega arith)
      (omega (arith, within, all)) in
      record {
        run = here.run;
        drawn = (here.place, here.inside, here.is);
        busy = subst IsTrue (sym (busy_alike here.run
            (has_value (runs (window (steps_of w) v.first v.count)) 0 here.place slot here.run
            here.inside here.is here.begun here.ends))) busy;
        begun = here.begun;
        ends = here.ends;
      }

  shaded_only : IsShaded v w slot →
      IsTrue (not (is_quiet (cell_at (folded values w) (v.first + slot))))
  shaded_only is =
      subst IsTrue (busy_alike is.run
      (has_value (runs (window (steps_of w) v.first v.count)) 0 is.drawn.0 slot is.run is.drawn.1
      is.drawn.2 is.begun is.ends)) is.busy

pub shades_steps : ShadesSteps
shades_steps v w slot some within =
    (shaded_if v w slot some within, shaded_only v w slot some within)
