-- Rows by the places of their nets in name order.
use Rattle.std.proofs.Common.{◌≡◌, ℕ, zero, suc, ◌+◌, ◌<◌, Bool, List, [], ◌∷◌, length, get_or, set, Some, None, Option, Bor, refl, ap, sym, subst, ◌∙◌, arith, inl, inr}
use Rattle.std.specs.Prelude.{slice_get}
use Rattle.std.specs.Option.{IsSome, option_copied}
use Rattle.std.proofs.lemmas.Bool.{cases_eq}
use Rattle.std.proofs.lemmas.List.{get_or-set_same, get_or-set_other, length-set}
use Rattle.std.proofs.lemmas.List.Elements.{All-from_get_or}
use Rattle.std.proofs.lemmas.List.FromFn.{length-map-range_with_len}
use Rattle.std.proofs.lemmas.Option.{slice_get-get_or, slice_get_within, get_or_from_slice_get}
use Rattle.flat_circuit.specs.Circuit.{Circuit, IsCircuit}
use Rattle.flat_circuit.specs.declared.case.CaseValue.{CaseValue}
use Rattle.rand_core.specs.Stream.{Stream}
use Rattle.trace_sim.specs.declared.choice.Choice.{Choice}
use Rattle.trace_sim.specs.Choice.{AreTraces, Bits, ChoiceFits}
use Rattle.trace_sim.proofs.Places.{HasPlace, has_place, net_below, one_place}
use Rattle.trace_sim.specs.Draw.{draw_bits, draw_each, seeded}
use Rattle.trace_sim.specs.Drawn.{ArePicks, draw_offset, draw_pick, draw_run}
use Rattle.trace_sim.specs.Input.{AreGiven, IsDrawn, given_at, given_row}

-- rows of the nets at the first places, and one more
pub rows_more : (c : Circuit) → IsCircuit c → (rows : List (List Bool)) (given : ℕ → List Bool) (place : ℕ) → length rows ≡ length c.nets → place < length c.order →
    ((p : ℕ) → p < place → slice_get rows (get_or c.order p 0) ≡ Some (given p)) →
    (p : ℕ) → p < place + 1 → slice_get (set rows (get_or c.order place 0) (given place)) (get_or c.order p 0) ≡ Some (given p)
rows_more c known rows given place long inside before p below =
    let net = get_or c.order place 0 in
    let row = given place in
    let sets = length-set rows net row in
    let net_in = net_below c known place inside in
    elim (cases_eq p place) as (λ _. slice_get (set rows net row) (get_or c.order p 0) ≡ Some (given p)) [
      | inl same ↦ subst (λ (q : ℕ). slice_get (set rows net row) (get_or c.order q 0) ≡ Some (given q)) (sym same)
          (slice_get-get_or (set rows net row) net row (omega arith) ∙ ap Some (get_or-set_same rows net row row (omega arith)))
      | inr apart ↦
          let other = get_or c.order p 0 in
          let other_in = net_below c known p (omega arith) in
          let was = before p (omega arith) in
          slice_get-get_or (set rows net row) other (given p) (omega arith)
          ∙ ap Some (get_or-set_other rows net other row (given p) (one_place c known p place (omega arith) inside))
          ∙ ap Some (get_or_from_slice_get rows other (given p) (given p) was)
    ]

-- the row of a net, by its place
pub row_of : (c : Circuit) (values : List CaseValue) (ticks : ℕ) (shifts : List ℕ) (free rows : Bits) → AreGiven c values ticks shifts free rows →
    (i : ℕ) (at : HasPlace c.order i) → slice_get rows i ≡ Some (given_row c values ticks shifts free at.place)
row_of c values ticks shifts free rows given i at =
    subst (λ (n : ℕ). slice_get rows n ≡ Some (given_row c values ticks shifts free at.place))
    (get_or_from_slice_get c.order at.place i 0 at.is) (given.are at.place (slice_get_within c.order at.place i at.is))

pub given_traces : (c : Circuit) → IsCircuit c → (values : List CaseValue) (ticks : ℕ) (shifts : List ℕ) (free rows : Bits) →
    AreGiven c values ticks shifts free rows → AreTraces (length c.nets) ticks rows
given_traces c known values ticks shifts free rows given = record {
  rows = given.each;
  long = All-from_get_or (λ (row : List Bool). length row ≡ ticks) rows [] (λ n below.
      let at = has_place c known n (let e = given.each in omega arith) in
      let is = row_of c values ticks shifts free rows given n at in
      ap length (get_or_from_slice_get rows n (given_row c values ticks shifts free at.place) [] is)
      ∙ length-map-range_with_len (given_at c values shifts free at.place) 0 ticks);
}

-- so what is drawn fits
pub drawn_fits : (c : Circuit) → IsCircuit c → (values : List CaseValue) (ticks seed : ℕ) (choice : Choice) →
    ArePicks c (length c.instances) choice.delays choice.wires → IsDrawn c values ticks seed choice → ChoiceFits c choice ticks
drawn_fits c known values ticks seed choice picks drawn = record {
  delays = picks.each_delays;
  wires = picks.each_wires;
  fits = λ k i pick row. picks.fit k i pick row;
  inputs =
      (let run = (draw_run c ticks (seeded seed)).0 in given_traces c known values ticks run.shifts run.free choice.inputs drawn.inputs);
  free = (let run = (draw_run c ticks (seeded seed)).0 in given_traces c known values ticks run.shifts run.free choice.free drawn.free);
}

-- ---- the parts, one drawn after the other

pub record AreDrawn (c : Circuit) (ticks seed : ℕ) (shifts : List ℕ) (free : Bits) : Type 0 where
  pub shifts_are : shifts ≡ (draw_run c ticks (seeded seed)).0.shifts
  pub free_are : free ≡ (draw_run c ticks (seeded seed)).0.free

pub are_drawn : (c : Circuit) (ticks seed : ℕ) (first second third : Stream) (shifts : List ℕ) (free : Bits) →
    first ≡ (draw_each (draw_pick c.nets) c.instances (seeded seed)).1 →
    (shifts, second) ≡ draw_each (λ (n : ℕ). draw_offset c.header (slice_get c.nets n)) c.order first →
    (free, third) ≡ draw_each (λ (n : ℕ). draw_bits ticks) c.order second → AreDrawn c ticks seed shifts free
are_drawn c ticks seed first second third shifts free one two three =
    let offsets = two ∙ ap (draw_each (λ (n : ℕ). draw_offset c.header (slice_get c.nets n)) c.order) one in
    let bits = three ∙ ap (λ (q : List ℕ × Stream). draw_each (λ (n : ℕ). draw_bits ticks) c.order q.1) offsets in
    record { shifts_are = ap (λ (q : List ℕ × Stream). q.0) offsets; free_are = ap (λ (q : Bits × Stream). q.0) bits }

-- ---- what is behind a reference

pub some_within : {X : Type 0} (xs : List X) (k : ℕ) → k < length xs → IsSome (slice_get xs k)
some_within [] k below = absurd (omega arith)
some_within (x ∷ xs) zero below = refl
some_within (x ∷ xs) (suc k) below = some_within xs k (omega arith)

pub some_behind : {X : Type 0} (found : Option (Bor X)) → IsSome (option_copied found) → IsSome found
some_behind None some = some
some_behind (Some x) some = refl
