-- The first tick at which something of an element ends is the least greatest tick of its breaks.
use Rattle.std.proofs.Common.{◌≡◌, ℕ, zero, suc, ◌+◌, ◌-◌, ◌<◌, ◌≤◌, Bool, true, false, List, [], length, map, take, get_or, Option, Some, None, refl, ap, sym, subst, ◌∙◌, arith, inl, inr}
use Rattle.std.specs.Prelude.{slice_get}
use Rattle.std.proofs.Math.ListN.{get_or-map}
use Rattle.std.proofs.lemmas.List.{get_or-take}
use Rattle.std.proofs.lemmas.Option.{get_or_from_slice_get, slice_get-get_or, slice_get_within}
use Rattle.step_values.specs.declared.value.Value.{Value}
use Rattle.step_values.specs.Steps.{has}
use Rattle.element_kinds.specs.Kinds.{closes_of, form_of, is_of_pulses}
use Rattle.element_kinds.proofs.Forms.{of_form}
use Rattle.flat_circuit.specs.declared.instance.Instance.{Instance}
use Rattle.flat_circuit.specs.Circuit.{Circuit}
use Rattle.flat_circuit.specs.Name.{net_at}
use Rattle.flat_circuit.specs.Run.{Choice as Chosen, Run, net_signal}
use Rattle.flat_circuit.specs.Laws.{front}
use Rattle.fixpoint_engine.specs.Pins.{pin_at}
use Rattle.point_check.specs.Break.{wide_at}
use Rattle.pulse_check.specs.Break.{BreaksKind, BreaksMeasured}
use Rattle.trace_sim.specs.Choice.{Bits}
use Rattle.trace_sim.specs.Simulated.{bit_of, run_of}
use Rattle.trace_sim.specs.Making.{seen}
use Rattle.trace_tool.specs.declared.element.Element.{Element}
use Rattle.trace_tool.specs.declared.element.Element.TheVariants.{Instance as OfInstance, Net as OfNet}
use Rattle.trace_tool.specs.Break.{Breaks, BreaksBy}
use Rattle.trace_tool.specs.Pass.{ElementEnds, FindsFirst, HasSoonest, InstanceEnds, NetEnds, shown}
use Rattle.trace_tool.proofs.Agreeing.{pins_agree}
use Rattle.trace_tool.proofs.Elements.{Broken, EndsBefore, broken, ended}

-- A run of these choices that has these bits before a tick, and ends there.
pub record Has (choices : List Chosen) (bits : Bits) (run : Run) (n : ℕ) : Type 0 where
  pub ticks : run.ticks ≡ n
  pub choices_are : run.choices ≡ choices
  pub nets : (i t : ℕ) → t < n → net_signal run i t ≡ bit_of bits i t

-- what the value does not have as one step it does not have as the same step
moved_step : (v : Value) (a b c d : Bool) → a ≡ c → b ≡ d → has v a b ≡ false → has v c d ≡ false
moved_step v a b c d e f lacks = sym (ap (λ x. has v x b) e ∙ ap (λ y. has v c y) f) ∙ lacks

-- ---- any element of such a run

module _ (c : Circuit) (choices : List Chosen) (bits : Bits) (from n : ℕ) (run : Run) (it : Has choices bits run n) where
  pins : (j : Instance) (choice : Chosen) (pin t : ℕ) → t < n → pin_at run j choice pin t ≡ shown bits j choice.wires pin t
  pins j choice pin t less = pins_agree run (seen bits) n it.nets j.pins choice.wires pin t less

  chosen_in : (k : ℕ) (choice : Chosen) → slice_get run.choices k ≡ Some choice → slice_get choices k ≡ Some choice
  chosen_in k choice is = subst (λ (cs : List Chosen). slice_get cs k ≡ Some choice) it.choices_are is

  chosen_of : (k : ℕ) (choice : Chosen) → slice_get choices k ≡ Some choice → slice_get run.choices k ≡ Some choice
  chosen_of k choice is = subst (λ (cs : List Chosen). slice_get cs k ≡ Some choice) (sym it.choices_are) is

  instance_ended : (k : ℕ) (j : Instance) (choice : Chosen) → slice_get c.instances k ≡ Some j → slice_get run.choices k ≡ Some choice →
      Broken run n bits j choice from it.ticks (pins j choice) (form_of j.kind) (closes_of j.kind) →
      EndsBefore (InstanceEnds c choices bits k from) n
  instance_ended k j choice here chosen b =
      let e = ended run n bits j choice from it.ticks (pins j choice) (form_of j.kind) (closes_of j.kind) b in
      record {
        tick = e.tick;
        below = e.below;
        is = record { instance = j; choice = choice; instance_is = here; choice_is = chosen_in k choice chosen; ends = e.is };
      }

  measured : (j : Instance) (choice : Chosen) (level : Bool) → BreaksKind j.kind run j choice level from →
      BreaksMeasured (is_of_pulses (form_of j.kind)) run j choice level from
  measured j choice level b =
      subst (λ (m : Bool). BreaksMeasured m run j choice level from) (sym (of_form is_of_pulses j.kind)) b

  measures : (j : Instance) (choice : Chosen) (level : Bool) → BreaksMeasured (is_of_pulses (form_of j.kind)) run j choice level from →
      BreaksKind j.kind run j choice level from
  measures j choice level b =
      subst (λ (m : Bool). BreaksMeasured m run j choice level from) (of_form is_of_pulses j.kind) b

  pub ends_of : (e : Element) → Breaks c run from e → EndsBefore (ElementEnds c choices bits from e) n
  ends_of (OfInstance k) b = elim b as (λ _. EndsBefore (InstanceEnds c choices bits k from) n) [
    | inl h ↦ instance_ended k h.instance h.choice h.instance_is h.choice_is (inl h.breaks)
    | inr w ↦ elim w as (λ _. EndsBefore (InstanceEnds c choices bits k from) n) [
      | inl h ↦ instance_ended k h.instance h.choice h.instance_is h.choice_is (inr (inl (measured h.instance h.choice true h.breaks)))
      | inr h ↦ instance_ended k h.instance h.choice h.instance_is h.choice_is (inr (inr (measured h.instance h.choice false h.breaks)))
    ]
  ]
  ends_of (OfNet place) b =
      let h = b.1 in
      let at = h.at in
      let i = net_at c.order place in
      let ends = at.ends in
      let ticks = it.ticks in
      let less : h.tick < n = omega arith in
      record {
        tick = h.tick;
        below = less;
        is = (
          b.0,
          record {
            net = h.net;
            driver = h.driver;
            net_is = at.net_is;
            is_driven = at.is_driven;
            asserts = at.asserts;
            at = record {
              after = at.after;
              begins = at.begins;
              lacks = moved_step (wide_at c.header h.net.spec h.tick) (net_signal run i (h.tick - 1)) (net_signal run i h.tick)
                  (bit_of bits i (h.tick - 1)) (bit_of bits i h.tick) (it.nets i (h.tick - 1) (omega arith)) (it.nets i h.tick less) at.lacks;
            };
          },
        );
      }

  broken_from : (k : ℕ) (j : Instance) (choice : Chosen) → slice_get c.instances k ≡ Some j → slice_get run.choices k ≡ Some choice →
      Broken run n bits j choice from it.ticks (pins j choice) (form_of j.kind) (closes_of j.kind) → Breaks c run from (OfInstance k)
  broken_from k j choice here chosen b = elim b as (λ _. Breaks c run from (OfInstance k)) [
    | inl h ↦ inl (record { instance = j; choice = choice; instance_is = here; choice_is = chosen; breaks = h })
    | inr w ↦ elim w as (λ _. Breaks c run from (OfInstance k)) [
      | inl h ↦ inr (inl (record { instance = j; choice = choice; instance_is = here; choice_is = chosen; breaks = measures j choice true h }))
      | inr h ↦ inr (inr (record { instance = j; choice = choice; instance_is = here; choice_is = chosen; breaks = measures j choice false h }))
    ]
  ]

  pub breaks_of : (e : Element) → EndsBefore (ElementEnds c choices bits from e) n → Breaks c run from e
  breaks_of (OfInstance k) e =
      let at = e.is in
      broken_from k at.instance at.choice at.instance_is (chosen_of k at.choice at.choice_is)
      (broken run n bits at.instance at.choice from it.ticks (pins at.instance at.choice) (form_of at.instance.kind) (closes_of at.instance.kind)
      (record { tick = e.tick; below = e.below; is = at.ends }))
  breaks_of (OfNet place) e =
      let h = e.is.1 in
      let i = net_at c.order place in
      let below = e.below in
      let ticks = it.ticks in (
        e.is.0,
        record {
          net = h.net;
          driver = h.driver;
          tick = e.tick;
          at = record {
            net_is = h.net_is;
            is_driven = h.is_driven;
            asserts = h.asserts;
            after = h.at.after;
            begins = h.at.begins;
            ends = omega arith;
            lacks = moved_step (wide_at c.header h.net.spec e.tick) (bit_of bits i (e.tick - 1)) (bit_of bits i e.tick)
                (net_signal run i (e.tick - 1)) (net_signal run i e.tick) (sym (it.nets i (e.tick - 1) (omega arith))) (sym (it.nets i e.tick below)) h.at.lacks;
          };
        },
      )

-- ---- the run itself, and its parts

whole : (ticks : ℕ) (choices : List Chosen) (bits : Bits) → Has choices bits (run_of ticks choices bits) ticks
whole ticks choices bits = record { ticks = refl; choices_are = refl; nets = λ i t less. refl }

take_none : (m : ℕ) → take {A = Bool} m [] ≡ []
take_none zero = refl
take_none (suc m) = refl

cut : (m : ℕ) (bits : Bits) (i : ℕ) → get_or (map (take m) bits) i [] ≡ take m (get_or bits i [])
cut m bits i = subst (λ (row : List Bool). get_or (map (take m) bits) i row ≡ take m (get_or bits i [])) (take_none m)
    (get_or-map (take m) bits i [])

part : (ticks : ℕ) (choices : List Chosen) (bits : Bits) (m : ℕ) → m ≤ ticks → Has choices bits (front m (run_of ticks choices bits)) m
part ticks choices bits m few = record {
  ticks = omega arith;
  choices_are = refl;
  nets = λ i t less. ap (λ (row : List Bool). get_or row t false) (cut m bits i) ∙ get_or-take m (get_or bits i []) t false less;
}

-- ---- the soonest break

module _ (c : Circuit) (ticks : ℕ) (choices : List Chosen) (bits : Bits) (from : ℕ) (e : Element) where
  abbrev run : Run
  run = run_of ticks choices bits

  ends_by : (t : ℕ) → BreaksBy c run from t e → EndsBefore (ElementEnds c choices bits from e) (t + 1)
  ends_by t b =
      let less = b.0 in
      ends_of c choices bits from (t + 1) (front (t + 1) run) (part ticks choices bits (t + 1) (omega arith)) e b.1

  pub has_soonest : (found : Option ℕ) → FindsFirst (ElementEnds c choices bits from e) ticks found → HasSoonest c run from e found
  has_soonest None none = λ b.
      let end = ends_of c choices bits from ticks run (whole ticks choices bits) e b in
      none end.tick end.below end.is
  has_soonest (Some last) first =
      let below = first.below in
      record {
        at = (
          below,
          breaks_of c choices bits from (last + 1) (front (last + 1) run)
              (part ticks choices bits (last + 1) (omega arith)) e (record { tick = last; below = omega arith; is = first.is }),
        );
        no_sooner = λ t sooner b.
            let end = ends_by t b in
            let near = end.below in
            first.none_before end.tick (omega arith) end.is;
      }

-- what is broken up to a tick is broken
pub breaks_by : (c : Circuit) (ticks : ℕ) (choices : List Chosen) (bits : Bits) (from : ℕ) (e : Element) (t : ℕ) →
    BreaksBy c (run_of ticks choices bits) from t e → Breaks c (run_of ticks choices bits) from e
breaks_by c ticks choices bits from e t b =
    let end = ends_by c ticks choices bits from e t b in
    let near = end.below in
    let less = b.0 in
    breaks_of c choices bits from ticks (run_of ticks choices bits) (whole ticks choices bits) e
    (record { tick = end.tick; below = omega arith; is = end.is })

-- ---- a net by its place

none_inside : (xs : List ℕ) (i : ℕ) → slice_get xs i ≡ None → i < length xs → ⊥
none_inside xs i none less = let some = slice_get-get_or xs i 0 less in cc

pub no_net : (c : Circuit) (choices : List Chosen) (bits : Bits) (from ticks place : ℕ) → slice_get c.order place ≡ None →
    FindsFirst (ElementEnds c choices bits from (OfNet place)) ticks None
no_net c choices bits from ticks place none = λ t less ends. none_inside c.order place none ends.0

pub placed_net : (c : Circuit) (choices : List Chosen) (bits : Bits) (from ticks place n : ℕ) (found : Option ℕ) → slice_get c.order place ≡ Some n →
    FindsFirst (NetEnds c bits n from) ticks found → FindsFirst (ElementEnds c choices bits from (OfNet place)) ticks found
placed_net c choices bits from ticks place n None is none = λ t less ends.
    none t less (subst (λ (k : ℕ). NetEnds c bits k from t) (get_or_from_slice_get c.order place n 0 is) ends.1)
placed_net c choices bits from ticks place n (Some last) is first = record {
  below = first.below;
  is = (slice_get_within c.order place n is, subst (λ (k : ℕ). NetEnds c bits k from last) (sym (get_or_from_slice_get c.order place n 0 is)) first.is);
  none_before = λ u less ends.
      first.none_before u less (subst (λ (k : ℕ). NetEnds c bits k from u) (get_or_from_slice_get c.order place n 0 is) ends.1);
}
