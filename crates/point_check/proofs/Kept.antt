-- What the waves permit breaks nothing of an instance or a net that has no fault.
use Rattle.std.proofs.Common.{◌≡◌, ℕ, ◌+◌, ◌-◌, ◌%◌, ◌<◌, ◌≤◌, max, Bool, true, false, List, [], ◌∷◌, length, map, refl, sym, ap, subst, ◌∙◌, arith, All, slice_get, Some, None}
use Rattle.std.specs.List.{list_any}
use Rattle.std.proofs.lemmas.Bool.{both_ways}
use Rattle.std.proofs.lemmas.List.{length-map}
use Rattle.std.proofs.lemmas.List.Elements.{All-head}
use Rattle.std.proofs.lemmas.Option.{slice_get_within}
use Rattle.std.proofs.Math.Nat.{mod-lt}
use Rattle.scald_base.specs.Time.{period}
use Rattle.step_values.specs.declared.value.Value.{Value}
use Rattle.step_values.specs.Steps.{has}
use Rattle.step_values.specs.Cell.{values}
use Rattle.step_values.specs.Lawful.{values_lawful}
use Rattle.skew_algebra.specs.Wave.{fold}
use Rattle.skew_algebra.specs.Permits.{Permits}
use Rattle.skew_algebra.proofs.Moves.{fold_has}
use Rattle.element_kinds.specs.declared.kind.Kind.{Kind}
use Rattle.element_kinds.specs.declared.kind.Kind.TheVariants.{And, Or, SetupHold, RiseFall}
use Rattle.flat_circuit.specs.declared.instance.Pin.{Pin}
use Rattle.flat_circuit.specs.declared.instance.Instance.{Instance}
use Rattle.flat_circuit.specs.declared.net.Net.{Net}
use Rattle.flat_circuit.specs.declared.fault.Fault.{Fault}
use Rattle.flat_circuit.specs.Kind.{pin_counts}
use Rattle.flat_circuit.specs.Instances.{InstanceFits, PinExists}
use Rattle.flat_circuit.specs.Circuit.{Circuit, IsCircuit}
use Rattle.flat_circuit.specs.Run.{Run, Choice, net_signal}
use Rattle.gate_eval.specs.Meeting.{period_of}
use Rattle.gate_eval.specs.Instance.{wave_of_pin}
use Rattle.gate_eval.specs.Hold.{closed_bit, hazard}
use Rattle.gate_eval.proofs.Fitting.{fold_mod}
use Rattle.gate_eval.proofs.Held.{map_none}
use Rattle.fixpoint_engine.specs.Waves.{Waves, pin_wave, pin_waves, marked_pin}
use Rattle.fixpoint_engine.specs.Pins.{wire_to, pin_at, StepsFrom, PinsPermit, PinsPermitAt}
use Rattle.flat_circuit.proofs.Numbered.{fits_of}
use Rattle.fixpoint_engine.proofs.Fits.{AreLong, long_pin, long_pin_at}
use Rattle.point_check.specs.Point.{checker_fault}
use Rattle.point_check.specs.Assertion.{is_held}
use Rattle.point_check.specs.Faults.{hazard_at, mark_fault, fault_by_kind, fault_of, instance_fault, fault_if_held, fault_of_net, net_fault, point_faults, is_of_instance, is_of_net}
use Rattle.point_check.specs.Break.{BreaksSetupHold, BreaksRiseFall, Leaves, BreaksMark, BreaksKind, BreaksInstance, BreaksNet}
use Rattle.point_check.specs.Sound.{KeepsConstraints}
use Rattle.point_check.proofs.Words.{few_marks, marked_is, held_is}
use Rattle.point_check.proofs.Near.{setup_hold_kept, rise_fall_kept}
use Rattle.point_check.proofs.Marks.{mark_kept}
use Rattle.point_check.proofs.Held.{assertion_kept}
use Rattle.point_check.proofs.Whose.{no_instance_fault, no_net_fault}

-- ---- the period of the waves at pins

period_at : (c : Circuit) (ws : Waves) (ps : List Pin) → AreLong c ws → All (PinExists (length c.nets)) ps → 0 < length ps → period_of (map (pin_wave c ws) ps) ≡ period c.header
period_at c ws [] long exist some = absurd (omega arith)
period_at c ws (p ∷ ps) long exist some = long_pin c ws p long (All-head (PinExists (length c.nets)) p ps exist)

-- ---- one instance

module _ (c : Circuit) (ws : Waves) (run : Run) (k : ℕ) (j : Instance) (choice : Choice) (start : ℕ) (pos : 0 < period c.header) (long : AreLong c ws)
    (fits : InstanceFits c.header (length c.nets) j) (permit : PinsPermit c ws run j choice start) where
  two_pins : (kind : Kind) → j.kind ≡ kind → (pin_counts kind).0 ≡ 2 → 2 ≤ length j.pins
  two_pins kind is two = let least = fits.pins.least in let same = ap (λ (q : Kind). (pin_counts q).0) is in omega (arith, least, same, two)

  -- a pin's step, if its wave permits it
  starts : (i t : ℕ) → StepsFrom run choice i start t → max start (wire_to choice i + 1) ≤ t
  starts i t steps = let after = steps.after in let begins = steps.begins in omega (arith, after, begins)

  keeps_setup_hold : j.kind ≡ SetupHold → checker_fault j.kind (period c.header) k (wave_of_pin (pin_waves c ws j) 0) (wave_of_pin (pin_waves c ws j) 1) j.limits ≡ None →
      ¬ BreaksSetupHold run j choice start
  keeps_setup_hold is none b =
      let two = two_pins SetupHold is refl in
      let begins = b.at.edge_in.begins in
      let begins' = b.at.change_in.begins in
      b.at.changes (setup_hold_kept (period c.header) k (wave_of_pin (pin_waves c ws j) 0) (wave_of_pin (pin_waves c ws j) 1) j.limits run.ticks b.edge b.change
      (max start (wire_to choice 0 + 1)) (max start (wire_to choice 1 + 1)) (pin_at run j choice 0) (pin_at run j choice 1) pos
      (long_pin_at c ws j.pins 0 long fits.exists.reads (omega (arith, two))) (long_pin_at c ws j.pins 1 long fits.exists.reads (omega (arith, two)))
      (permit 0 (omega (arith, two))) (permit 1 (omega (arith, two)))
      (ap (λ (q : Kind). checker_fault q (period c.header) k (wave_of_pin (pin_waves c ws j) 0) (wave_of_pin (pin_waves c ws j) 1) j.limits) (sym is) ∙ none)
      b.at.rises (omega (arith, begins)) (starts 0 b.edge b.at.edge_in) b.at.edge_in.ends
      (omega (arith, begins')) (starts 1 b.change b.at.change_in) b.at.change_in.ends b.at.not_before b.at.not_after)

  keeps_rise_fall : j.kind ≡ RiseFall → checker_fault j.kind (period c.header) k (wave_of_pin (pin_waves c ws j) 0) (wave_of_pin (pin_waves c ws j) 1) j.limits ≡ None →
      ¬ BreaksRiseFall run j choice start
  keeps_rise_fall is none b =
      let two = two_pins RiseFall is refl in
      let begins = b.at.edge_in.begins in
      let begins' = b.at.change_in.begins in
      b.at.changes (rise_fall_kept (period c.header) k (wave_of_pin (pin_waves c ws j) 0) (wave_of_pin (pin_waves c ws j) 1) j.limits run.ticks b.edge b.fall b.change
      (max start (wire_to choice 0 + 1)) (max start (wire_to choice 1 + 1)) (pin_at run j choice 0) (pin_at run j choice 1) pos
      (long_pin_at c ws j.pins 0 long fits.exists.reads (omega (arith, two))) (long_pin_at c ws j.pins 1 long fits.exists.reads (omega (arith, two)))
      (permit 0 (omega (arith, two))) (permit 1 (omega (arith, two)))
      b.at.is_high (omega (arith, begins)) (starts 0 b.edge b.at.edge_in) b.at.fall_in.ends
      (omega (arith, begins')) (starts 1 b.change b.at.change_in) b.at.change_in.ends b.at.not_before b.at.not_after
      (ap (λ (q : Kind). checker_fault q (period c.header) k (wave_of_pin (pin_waves c ws j) 0) (wave_of_pin (pin_waves c ws j) 1) j.limits) (sym is) ∙ none))

  -- the fold of a pin's wave in the slot of a tick has the pin's step there
  fold_steps : (i t : ℕ) → i < length j.pins → StepsFrom run choice i start t →
      has (fold values (wave_of_pin (pin_waves c ws j) i) (t % period c.header)) (pin_at run j choice i (t - 1)) (pin_at run j choice i t) ≡ true
  fold_steps i t below steps =
      let begins = steps.begins in
      ap (λ (v : Value). has v (pin_at run j choice i (t - 1)) (pin_at run j choice i t))
      (fold_mod values (period c.header) (wave_of_pin (pin_waves c ws j) i) t (long_pin_at c ws j.pins i long fits.exists.reads below))
      ∙ fold_has values values_lawful (wave_of_pin (pin_waves c ws j) i) run.ticks (max start (wire_to choice i + 1)) t (pin_at run j choice i) (permit i below)
      (omega (arith, begins)) (starts i t steps) steps.ends

  -- the bit at which the others do not matter is that of the kind
  keeps_mark : (closed : Bool) → closed_bit j.kind ≡ closed → mark_fault c ws k j ≡ None → ¬ BreaksMark run j choice closed start
  keeps_mark closed is none b =
      b.at.changes (mark_kept j.kind (pin_waves c ws j) b.marked (b.tick % period c.header) b.pin
      (pin_at run j choice b.marked (b.tick - 1)) (pin_at run j choice b.marked b.tick) (pin_at run j choice b.pin (b.tick - 1)) (pin_at run j choice b.pin b.tick)
      (ap (hazard j.kind (pin_waves c ws j)) (sym marked) ∙ map_none (hazard_at k) (hazard j.kind (pin_waves c ws j) (marked_pin j)) none)
      (let slot : b.tick % period c.header < period c.header = mod-lt b.tick pos in
      let one = period_at c ws j.pins long fits.exists.reads (omega (arith, pin_below)) in omega (arith, slot, one))
      (omega (arith, marked_below, waves_long)) (omega (arith, pin_below, waves_long)) b.at.apart
      (fold_steps b.marked b.tick marked_below b.at.marked_in) (fold_steps b.pin b.tick b.at.below b.at.pin_in)
      (subst (λ (bit : Bool). Leaves (pin_at run j choice b.marked) bit b.tick) (sym is) b.at.leaves))
    where
      marked : marked_pin j ≡ Some b.marked
      marked = marked_is j b.marked (few_marks j fits.pins) b.at.is_marked

      pin_below : b.pin < length j.pins
      pin_below = b.at.below

      marked_below : b.marked < length j.pins
      marked_below = slice_get_within j.pins b.marked b.at.is_marked.pin b.at.is_marked.pin_is

      waves_long : length (pin_waves c ws j) ≡ length j.pins
      waves_long = length-map j.pins (pin_wave c ws)

  keeps_kind : (kind : Kind) → j.kind ≡ kind → fault_by_kind kind c ws k j ≡ None → BreaksKind kind run j choice start → ⊥
  keeps_kind SetupHold is none b = keeps_setup_hold is none b
  keeps_kind RiseFall is none b = keeps_rise_fall is none b
  keeps_kind And is none b = keeps_mark false (ap closed_bit is) none b
  keeps_kind Or is none b = keeps_mark true (ap closed_bit is) none b
  keeps_kind kind is none b = absurd b

-- ---- all

instance_none : (c : Circuit) (ws : Waves) (k : ℕ) (j : Instance) → slice_get c.instances k ≡ Some j → instance_fault c ws k ≡ None → fault_by_kind j.kind c ws k j ≡ None
unfolding instance_fault
instance_none c ws k j at none = ap (fault_of c ws k) (sym at) ∙ none

net_none : (c : Circuit) (ws : Waves) (i : ℕ) (net : Net) → slice_get c.nets i ≡ Some net → is_held net ≡ true → net_fault c ws i ≡ None → fault_if_held true c ws i net ≡ None
unfolding net_fault
net_none c ws i net at held none = ap (λ (b : Bool). fault_if_held b c ws i net) (sym held) ∙ ap (fault_of_net c ws i) (sym at) ∙ none

keeps_instance : (c : Circuit) (ws : Waves) (run : Run) (k start : ℕ) → 0 < period c.header → IsCircuit c → AreLong c ws → list_any (is_of_instance k) (point_faults c ws) ≡ false →
    PinsPermitAt c ws run k start → ¬ BreaksInstance c run k start
keeps_instance c ws run k start pos known long none permit b =
    keeps_kind c ws run k b.instance b.choice start pos long (fits_of c k b.instance known b.instance_is) (permit b.instance b.choice b.instance_is b.choice_is)
    b.instance.kind refl
    (instance_none c ws k b.instance b.instance_is (no_instance_fault c ws k (slice_get_within c.instances k b.instance b.instance_is) none)) b.breaks

keeps_net : (c : Circuit) (ws : Waves) (run : Run) (i start : ℕ) → 0 < period c.header → IsCircuit c → AreLong c ws → list_any (is_of_net i) (point_faults c ws) ≡ false →
    Permits values (ws i) run.ticks (net_signal run i) start → ¬ BreaksNet c run i start
keeps_net c ws run i start pos known long none permits b =
    let below = slice_get_within c.nets i b.net b.at.net_is in
    both_ways _ b.at.lacks (assertion_kept c.header b.net.spec i (ws i) run.ticks b.tick start (net_signal run i) pos (long i below) permits
    (net_none c ws i b.net b.at.net_is (held_is b.net b.driver b.at.is_driven b.at.asserts) (no_net_fault c ws i known below none)) b.at.begins b.at.after b.at.ends)

pub keeps_constraints : (c : Circuit) (ws : Waves) (faults : List Fault) → 0 < period c.header → IsCircuit c → AreLong c ws → faults ≡ point_faults c ws → KeepsConstraints c ws faults
keeps_constraints c ws faults pos known long is = record {
  instances = λ run k start none permit. keeps_instance c ws run k start pos known long (ap (list_any (is_of_instance k)) (sym is) ∙ none) permit;
  nets = λ run i start none permits. keeps_net c ws run i start pos known long (ap (list_any (is_of_net i)) (sym is) ∙ none) permits;
}
