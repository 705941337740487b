-- What stands in promises alone, on examples: at which ticks an output is free, which picks are one delay, and which
-- instances read others at once.
use Rattle.std.proofs.Common.{◌≡◌, ℕ, zero, suc, ◌-◌, ◌<◌, ◌≤◌, ◌⊎◌, true, false, leb, List, [], ◌∷◌, Some, None, refl, arith, inl, inr, ◌∙◌, sym, subst}
use Rattle.std.proofs.lemmas.Bool.{le-leb, lt-leb}
use Rattle.std.proofs.lemmas.List.Elements.{All-nil, All-cons}
use Rattle.scald_base.specs.Signal.{Signal}
use Rattle.vector_names.specs.declared.bits.Target.TheVariants.{Net as OnNet}
use Rattle.element_kinds.specs.declared.kind.Kind.TheVariants.{Buf, And, Chg, Reg, SetupHold}
use Rattle.element_kinds.specs.Equation.{nth_signal}
use Rattle.flat_circuit.specs.declared.instance.Instance.{Instance}
use Rattle.flat_circuit.specs.Circuit.{Circuit, wire_at}
use Rattle.flat_circuit.specs.Run.{Choice as Chosen, Run}
use Rattle.flat_circuit.proofs.RunTables.{bounds, input, wired, driven_by, on, element, circuit, two}
use Rattle.trace_sim.specs.declared.choice.Choice.{Choice}
use Rattle.trace_sim.specs.Choice.{chosen, IsOneDelay}
use Rattle.trace_sim.specs.Simulated.{MayChange, AreBoth, LeavesFree, IsSimulated}
use Rattle.trace_sim.specs.Order.{ReadsAtOnce, IsEvaluationOrder}

-- ---- a change function of 1 to 3 ticks, of whose two pins the second steps at tick 5 alone

abbrev steady : Signal
steady t = true

abbrev late_one : Signal
late_one t = leb 5 t

abbrev pins : List Signal
pins = steady ∷ late_one ∷ []

pins_stay : (u pin : ℕ) → (u < 5) ⊎ (5 < u) → nth_signal pins pin (u - 1) ≡ nth_signal pins pin u
pins_stay u zero away = refl
pins_stay u (suc zero) (inl l) = lt-leb 5 (u - 1) (omega arith) ∙ sym (lt-leb 5 u l)
pins_stay u (suc zero) (inr l) = le-leb 5 (u - 1) (omega arith) ∙ sym (le-leb 5 u (omega arith))
pins_stay u (suc (suc pin)) away = refl

-- it may change at ticks 6 to 8
may_change_first : MayChange (bounds 1 3) pins 6
may_change_first = record { at = 5; in_reach = (omega arith, omega arith); pin = 1; steps = λ e. cc }

may_change_last : MayChange (bounds 1 3) pins 8
may_change_last = record { at = 5; in_reach = (omega arith, omega arith); pin = 1; steps = λ e. cc }

-- and neither at 5 nor at 9
may_not_before : MayChange (bounds 1 3) pins 5 → ⊥
may_not_before m = let low = m.in_reach.0 in m.steps (pins_stay m.at m.pin (inl (omega arith)))

may_not_later : MayChange (bounds 1 3) pins 9 → ⊥
may_not_later m = let high = m.in_reach.1 in m.steps (pins_stay m.at m.pin (inr (omega arith)))

-- ---- set and reset

abbrev never : Signal
never t = false

both_are_open : AreBoth true (steady ∷ steady ∷ steady ∷ steady ∷ []) 7
both_are_open = (refl, refl)

set_alone_is_not : AreBoth true (steady ∷ steady ∷ steady ∷ never ∷ []) 7 → ⊥
set_alone_is_not h = let e = h.1 in cc

reset_alone_is_not : AreBoth true (steady ∷ steady ∷ never ∷ steady ∷ []) 7 → ⊥
reset_alone_is_not h = let e = h.0 in cc

without_pins_for_them : AreBoth false (steady ∷ steady ∷ []) 7 → ⊥
without_pins_for_them h = h

-- ---- a buffer of 1 to 2 ticks, with a wire of 0 to 9

abbrev passing : Instance
passing = element Buf (bounds 1 2) (on 1 ∷ []) 0

abbrev late_buffer : Chosen
late_buffer = chosen (2, 2) (1 ∷ [])

-- a delay of 2 and a wire of 1: it is free at tick 2, and at tick 3 its equation is asked
free_at_two : (run : Run) → LeavesFree run passing late_buffer 2
free_at_two run = inl (λ asked. let l : 3 ≤ 2 = asked 0 0 (omega arith) in omega arith)

fixed_at_three : (run : Run) → LeavesFree run passing late_buffer 3 → ⊥
fixed_at_three run (inl unasked) = unasked (All-cons (λ (b : ℕ). b ≤ 3) 3 [] (omega arith) (All-nil (λ (b : ℕ). b ≤ 3)))
fixed_at_three run (inr left) = left

-- ---- picks

register_has_one : IsOneDelay Reg None (3, 3)
register_has_one = refl

register_has_not_two : IsOneDelay Reg None (3, 4) → ⊥
register_has_not_two e = cc

gate_with_one : IsOneDelay And None (3, 4) → ⊥
gate_with_one e = cc

gate_with_two : IsOneDelay And (Some (two 3 4 4 5)) (3, 4)
gate_with_two = tt

changes_have_none : IsOneDelay Chg None (3, 4)
changes_have_none = tt

checkers_have_none : IsOneDelay SetupHold None (3, 4)
checkers_have_none = tt

-- ---- a buffer without delay, after one that is slow

-- net 0 is driven by instance 0 from net 1, and net 1 by instance 1 from net 2
abbrev chain : ℕ → ℕ → Circuit
chain wire least = circuit (driven_by 0 ∷ wired wire 9 (Some 1) ∷ input ∷ []) (element Buf (bounds least 2) (on 1 ∷ []) 0 ∷ element Buf (bounds 5 7) (on 2 ∷ []) 1 ∷ [])

-- If neither it nor the wire need take a tick, it reads at once what the slow one drives, and is evaluated after it.
reads_the_slow_one : ReadsAtOnce (chain 0 0) 1 0
reads_the_slow_one = record {
  net = 1;
  drives = refl;
  at_once = refl;
  wire_at_once = refl;
  has_out = refl;
  pin = on 1;
  reads = (0, omega arith, refl);
  on_net = refl;
}

not_as_expanded : IsEvaluationOrder (chain 0 0) (0 ∷ 1 ∷ []) → ⊥
not_as_expanded o = let l = o.after 1 0 (omega arith) (omega arith) reads_the_slow_one in omega arith

-- with a delay of at least 1, of it or of the wire, it does not
not_with_a_delay : ReadsAtOnce (chain 0 1) 1 0 → ⊥
not_with_a_delay r = let e = r.at_once in cc

net_is : (m n : ℕ) → Some (OnNet m) ≡ Some (OnNet n) → m ≡ n
net_is m n e = cc

not_with_a_wire : ReadsAtOnce (chain 1 0) 1 0 → ⊥
not_with_a_wire r =
    let n : ◌≡◌ {A = ℕ} 1 r.net = net_is 1 r.net r.drives in
    let e : ◌≡◌ {A = ℕ} 1 0 = subst (λ m. (wire_at (chain 1 0).nets m).min ≡ 0) (sym n) r.wire_at_once in omega arith

-- ---- bits that are not those of a choice

-- a buffer of one tick, from net 1 to net 0
abbrev one_buffer : Circuit
one_buffer = circuit (driven_by 0 ∷ input ∷ []) (element Buf (bounds 1 2) (on 1 ∷ []) 0 ∷ [])

abbrev picked : Choice
picked = record {
  delays = (1, 1) ∷ [];
  wires = (0 ∷ []) ∷ [];
  inputs = (false ∷ false ∷ []) ∷ (true ∷ false ∷ []) ∷ [];
  free = (true ∷ false ∷ []) ∷ (false ∷ false ∷ []) ∷ [];
}

-- another start than the free bit's
another_start : IsSimulated one_buffer picked 2 ((false ∷ true ∷ []) ∷ (true ∷ false ∷ []) ∷ []) → ⊥
another_start s =
    let e = s.free 0 0 0 (element Buf (bounds 1 2) (on 1 ∷ []) 0) (chosen (1, 1) (0 ∷ [])) refl refl refl (omega arith)
    (inl (λ asked. let l : 1 ≤ 0 = asked 0 0 (omega arith) in omega arith)) in cc

-- another input
another_input : IsSimulated one_buffer picked 2 ((true ∷ false ∷ []) ∷ (false ∷ false ∷ []) ∷ []) → ⊥
another_input s = let e = s.inputs 1 0 refl in cc
