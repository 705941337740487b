-- The inputs that a seed draws: they keep their assertions, those of the case have its values, and there are no others.
use Rattle.std.proofs.Common.{◌≡◌, ℕ, ◌<◌, ◌≤◌, Bool, false, List, [], length, get_or, Some, None, ap, subst, sym, ◌∙◌, arith}
use Rattle.std.specs.Prelude.{slice_get, slice_index_or}
use Rattle.std.proofs.lemmas.List.{ext_get_or}
use Rattle.std.proofs.lemmas.List.FromFn.{get_or-map-range_with_len}
use Rattle.std.proofs.lemmas.Option.{get_or_from_slice_get, slice_get_within, slice_get-get_or}
use Rattle.scald_base.specs.Time.{period}
use Rattle.scald_base.specs.Fitting.{Fits}
use Rattle.flat_circuit.specs.declared.case.CaseValue.{CaseValue}
use Rattle.flat_circuit.specs.declared.net.Net.{Net}
use Rattle.flat_circuit.specs.Circuit.{Circuit, IsCircuit}
use Rattle.flat_circuit.specs.Alike.{value_in}
use Rattle.trace_sim.specs.Choice.{Bits}
use Rattle.trace_sim.specs.Simulated.{bit_of}
use Rattle.trace_sim.proofs.Places.{has_place}
use Rattle.trace_sim.specs.Draw.{draw_each, seeded}
use Rattle.trace_sim.specs.Drawn.{draw_offset, draw_pick, draw_run}
use Rattle.trace_sim.specs.Input.{AreGiven, bits_in, given_at, given_in, given_row}
use Rattle.trace_sim.specs.DrawLaws.{CasesHold, InputsMeet, OneDrawn}
use Rattle.trace_sim.proofs.Keeping.{IsShift, drawn_at, given_constant, keeps_given, offset_within, same_bits}
use Rattle.trace_sim.proofs.DrawPlaces.{row_of}

-- ---- a net and its place

record Given (c : Circuit) (values : List CaseValue) (ticks : ℕ) (shifts : List ℕ) (free rows : Bits) (i : ℕ) : Type 0 where
  place : ℕ
  inside : place < length c.order
  here : get_or c.order place 0 ≡ i
  row : slice_get rows i ≡ Some (given_row c values ticks shifts free place)

given_of : (c : Circuit) (values : List CaseValue) (ticks : ℕ) (shifts : List ℕ) (free rows : Bits) → IsCircuit c →
    AreGiven c values ticks shifts free rows → (i : ℕ) → i < length c.nets → Given c values ticks shifts free rows i
given_of c values ticks shifts free rows known given i below =
    let at = has_place c known i below in
    record {
      place = at.place;
      inside = slice_get_within c.order at.place i at.is;
      here = get_or_from_slice_get c.order at.place i 0 at.is;
      row = row_of c values ticks shifts free rows given i at;
    }

-- what a net shows at a tick
shows : (c : Circuit) (values : List CaseValue) (ticks : ℕ) (shifts : List ℕ) (free rows : Bits) (i : ℕ) (net : Net) →
    (given : Given c values ticks shifts free rows i) → slice_get c.nets i ≡ Some net → (t : ℕ) → t < ticks →
    bit_of rows i t
    ≡ given_in c.header (value_in values i) (Some net) (slice_index_or shifts given.place 0) (bits_in (slice_index_or free given.place [])) t
shows c values ticks shifts free rows i net given is t below =
    let by = slice_index_or shifts given.place 0 in
    let bits = bits_in (slice_index_or free given.place []) in
    ap (λ (row : List Bool). slice_index_or row t false)
    (get_or_from_slice_get rows i (given_row c values ticks shifts free given.place) [] given.row)
    ∙ get_or-map-range_with_len (given_at c values shifts free given.place) 0 ticks t t false below (omega arith)
    ∙ ap (λ (n : ℕ). given_in c.header (value_in values n) (slice_get c.nets n) by bits t) given.here
    ∙ ap (λ found. given_in c.header (value_in values i) found by bits t) is

-- ---- assertions

shift_at : (c : Circuit) (ticks seed place i : ℕ) (net : Net) → place < length c.order → get_or c.order place 0 ≡ i →
    slice_get c.nets i ≡ Some net → net.driver ≡ None →
    IsShift c.header net.spec (slice_index_or (draw_run c ticks (seeded seed)).0.shifts place 0)
shift_at c ticks seed place i net inside here is undriven =
    let draw = λ (n : ℕ). draw_offset c.header (slice_get c.nets n) in
    let at : slice_get c.order place ≡ Some i = slice_get-get_or c.order place 0 inside ∙ ap Some here in
    let start = (draw_each (draw_pick c.nets) c.instances (seeded seed)).1 in
    let drawn = drawn_at draw c.order start place i at in
    let same = get_or_from_slice_get (draw_run c ticks (seeded seed)).0.shifts place (draw i drawn.0).0 0 drawn.1 in
    subst (IsShift c.header net.spec) (sym (same ∙ ap (λ found. (draw_offset c.header found drawn.0).0) is))
    (offset_within c.header net drawn.0 undriven)

pub inputs_meet : InputsMeet
inputs_meet c values ticks seed choice known head sets drawn i net is undriven =
    let run = (draw_run c ticks (seeded seed)).0 in
    let below = slice_get_within c.nets i net is in
    let given = given_of c values ticks run.shifts run.free choice.inputs known drawn.inputs i below in
    let by = slice_index_or run.shifts given.place 0 in
    let bits = bits_in (slice_index_or run.free given.place []) in
    let shortest : 2 ≤ period c.header = head.shortest in
    let fits : Fits c.header net.spec = subst (λ (n : Net). Fits c.header n.spec) (get_or_from_slice_get c.nets i net net is) (known.asserted i net below) in
    same_bits c.header net.spec ticks (bit_of choice.inputs i) (given_in c.header (value_in values i) (Some net) by bits)
    (λ t inside. shows c values ticks run.shifts run.free choice.inputs i net given is t inside)
    (keeps_given c.header (value_in values i) net ticks by bits (omega arith) fits undriven (λ one set. sets i net one is set)
    (shift_at c ticks seed given.place i net given.inside given.here is undriven))

pub cases_hold : CasesHold
cases_hold c values ticks seed choice known drawn i t net one is set below =
    let run = (draw_run c ticks (seeded seed)).0 in
    let given = given_of c values ticks run.shifts run.free choice.inputs known drawn.inputs i (slice_get_within c.nets i net is) in
    shows c values ticks run.shifts run.free choice.inputs i net given is t below
    ∙ given_constant c.header (value_in values i) net (slice_index_or run.shifts given.place 0)
    (bits_in (slice_index_or run.free given.place [])) one t set

-- ---- one choice

one_given : (c : Circuit) (values : List CaseValue) (ticks : ℕ) (shifts : List ℕ) (free rows others : Bits) → IsCircuit c →
    AreGiven c values ticks shifts free rows → AreGiven c values ticks shifts free others → rows ≡ others
one_given c values ticks shifts free rows others known given other =
    ext_get_or [] rows others (given.each ∙ sym other.each) (λ i below.
    let inside : i < length c.nets = (let long = given.each in omega arith) in
    let at = has_place c known i inside in
    let row = λ (bits : Bits) (are : AreGiven c values ticks shifts free bits).
    get_or_from_slice_get bits i (given_row c values ticks shifts free at.place) [] (row_of c values ticks shifts free bits are i at) in
    row rows given ∙ sym (row others other))

pub one_drawn : OneDrawn
one_drawn c values ticks seed choice other known drawn drawn' =
    let run = (draw_run c ticks (seeded seed)).0 in
    let delays : choice.delays ≡ other.delays = drawn.delays ∙ sym drawn'.delays in
    let wires : choice.wires ≡ other.wires = drawn.wires ∙ sym drawn'.wires in
    let inputs = one_given c values ticks run.shifts run.free choice.inputs other.inputs known drawn.inputs drawn'.inputs in
    let free = one_given c values ticks run.shifts run.free choice.free other.free known drawn.free drawn'.free in
    λ k. record { delays = delays k; wires = wires k; inputs = inputs k; free = free k }
