-- What is known of facts about drivers and their pins is true of the facts of a run.
use Rattle.std.specs.Prelude.{◌==◌, ◌&&◌, if◌then◌else◌, nat_lt, slice_get}
use Rattle.std.proofs.Common.{◌≡◌, ℕ, suc, ◌+◌, ◌-◌, ◌<◌, ◌≤◌, Bool, true, false, true≢false, not, List, [], ◌∷◌, length, get_or, max, min, refl, sym, ap, subst, ◌∙◌, arith, Option, Some, None}
use Rattle.std.specs.List.{AllByRecursion}
use Rattle.std.proofs.lemmas.Bool.{eqb-true, ltb-false, ltb-true}
use Rattle.std.proofs.lemmas.List.Elements.{All-from_recursion}
use Rattle.std.proofs.lemmas.Option.{get_or_from_slice_get, slice_get_within}
use Rattle.scald_base.specs.Signal.{Signal, turned}
use Rattle.scald_base.specs.Time.{Bounds}
use Rattle.vector_names.specs.declared.bits.Target.{Target}
use Rattle.vector_names.specs.declared.bits.Target.TheVariants.{Constant, Net as OnNet}
use Rattle.element_kinds.specs.declared.kind.Kind.{Kind}
use Rattle.element_kinds.specs.declared.form.Form.{Form}
use Rattle.element_kinds.specs.declared.form.Form.TheVariants.{Gate, Change, Register, Latch as Enabled}
use Rattle.element_kinds.specs.Equation.{AreStill, Equation, EquationOf, IsInReach, IsStored, bits_at, gate_bit, nth_signal}
use Rattle.element_kinds.specs.Kinds.{form_of, has_output, may_split}
use Rattle.flat_circuit.specs.declared.instance.Instance.{Instance}
use Rattle.flat_circuit.specs.declared.instance.Pin.{Pin}
use Rattle.flat_circuit.specs.declared.split.Split.{Split}
use Rattle.flat_circuit.specs.Circuit.{Circuit, IsCircuit, driver_at}
use Rattle.flat_circuit.specs.Instances.{out_of}
use Rattle.flat_circuit.specs.Run.{Choice, DelaysFit, IsRun, IsRunAt, Obeys, Run, net_signal, out_signal, pin_signal, pin_signals, target_signal}
use Rattle.flat_circuit.specs.Split.{SplitFits, either_delay, gate_signal, split_bit, two_delays}
use Rattle.flat_circuit.proofs.Splits.{every_tick}
use Rattle.fixpoint_engine.specs.Reach.{greatest_wire}
use Rattle.fixpoint_engine.proofs.Asked.{asked, asked_split, wires_within}
use Rattle.fixpoint_engine.proofs.Sound.{choice_of as choice_at}
use Rattle.trace_sim.proofs.PinByPin.{fit_long}
use Rattle.trace_sim.proofs.Steps.{nth_pin_is}
use Rattle.run_clauses.specs.declared.driven.Driven.{Driven}
use Rattle.run_clauses.specs.declared.fact.Fact.TheVariants.{Lasts}
use Rattle.run_clauses.specs.Meaning.{IsChange, IsGate, IsSplitGate, IsStorage, IsStoredBit, ShowsNet, Stores, with_delay}
use Rattle.run_clauses.specs.Forms.{differ}
use Rattle.run_clauses.specs.World.{World, choice_in, choice_of, fact_holds, own_bit, own_in, pin_bit, signals_in, signals_of}

minus_none : (t : ℕ) → t - 0 ≡ t
minus_none t = omega arith

not_false : (b : Bool) → not b ≡ false → b ≡ true
not_false true is = refl
not_false false is = absurd (true≢false is)

-- ---- ticks between a rise and a fall delay

module _ (z : Signal) (rise fall t : ℕ) (out : Bool) (rise_in : rise ≤ t) (fall_in : fall ≤ t)
    (gives : out ≡ split_bit z rise fall t) where
  abbrev between : Bounds
  between = record { min = min rise fall; max = max rise fall }

  decided : (b : Bool) → split_bit z rise fall t ≡ b → out ≡ b
  decided b is = gives ∙ is

  some_between : (b : Bool) → nat_lt rise fall ≡ b → (u : ℕ) → IsInReach between t u → z u ≡ b →
      out ≡ b
  some_between true slower u within is =
      let later = ltb-true rise fall slower in
      decided true
      ((every_tick.slow_fall z rise fall t later fall_in).1
      (u, (omega (arith, within, later), omega (arith, within, later)), is))
  some_between false slower u within is =
      let later = ltb-false rise fall slower in
      by_value (split_bit z rise fall t) refl
      (λ all.
      (every_tick.slow_rise z rise fall t later rise_in).0 all u
      (omega (arith, within, later), omega (arith, within, later)))
    where
      by_value : (b : Bool) → split_bit z rise fall t ≡ b →
          (split_bit z rise fall t ≡ true → z u ≡ true) → out ≡ false
      by_value true all shows = absurd (true≢false (sym (shows all) ∙ is))
      by_value false none shows = decided false none

  each_between : (b : Bool) → nat_lt rise fall ≡ b →
      ((u : ℕ) → IsInReach between t u → z u ≡ not b) → out ≡ not b
  each_between true slower others =
      let later = ltb-true rise fall slower in
      by_value (split_bit z rise fall t) refl
      (λ some. (every_tick.slow_fall z rise fall t later fall_in).0 some)
    where
      by_value : (b : Bool) → split_bit z rise fall t ≡ b →
          (split_bit z rise fall t ≡ true →
          (u : ℕ) × IsInReach (record { min = rise; max = fall }) t u × (z u ≡ true)) →
          out ≡ false
      by_value true some shows =
          let found = shows some in
          let later = ltb-true rise fall slower in
          let within = found.1 in
          absurd
          (true≢false
          (sym found.2
          ∙ others found.0 (omega (arith, within, later), omega (arith, within, later))))
      by_value false none shows = decided false none
  each_between false slower others =
      let later = ltb-false rise fall slower in
      decided true
      ((every_tick.slow_rise z rise fall t later rise_in).1
      (λ u within. others u (omega (arith, within, later), omega (arith, within, later))))

-- there are no more signals than pins
signals_few : (run : Run) (ps : List Pin) (ws : List ℕ) → length (pin_signals run ps ws) ≤ length ps
signals_few run [] ws = omega arith
signals_few run (p ∷ ps) [] = omega arith
signals_few run (p ∷ ps) (v ∷ ws) = let rest = signals_few run ps ws in omega (arith, rest)

as_long : (run : Run) (ps : List Pin) (ws : List ℕ) → length ps ≡ length ws →
    length (pin_signals run ps ws) ≡ length ps
as_long run [] ws same = refl
as_long run (p ∷ ps) [] same = absurd (omega (arith, same))
as_long run (p ∷ ps) (v ∷ ws) same =
    let rest = as_long run ps ws (omega (arith, same)) in
    omega (arith, rest)

module _ (c : Circuit) (w : World) (is_run : IsRun c w.run) (k : ℕ) (j : Instance)
    (there : slice_get c.instances k ≡ Some j) where
  -- ---- what the run chooses

  abbrev choice : Choice
  choice = choice_of w k

  pub chosen : slice_get w.run.choices k ≡ Some choice
  chosen =
      let found = choice_at c.instances w.run.choices k j is_run.instances there in
      found.1 ∙ ap Some (sym (ap choice_in found.1))

  pub here : IsRunAt c w.run j choice
  here = is_run.at k j choice there chosen

  -- ---- what its pins show

  abbrev signals : List Signal
  signals = pin_signals w.run j.pins choice.wires

  pub same_signals : signals_of c w k ≡ signals
  same_signals = ap (λ (o : Option Instance). signals_in w.run o choice) there

  pub signals_long : length (signals_of c w k) ≡ length j.pins
  signals_long =
      ap (λ (ss : List Signal). length ss) same_signals
      ∙ as_long w.run j.pins choice.wires (fit_long c.nets j.pins choice.wires here.wires)

  pub same_pin : (pin t : ℕ) → pin_bit c w k pin t ≡ nth_signal signals pin t
  same_pin pin t = ap (λ (ss : List Signal). nth_signal ss pin t) same_signals

  pub same_own : (t : ℕ) → own_bit c w k t ≡ gate_bit j.kind (bits_at signals t)
  same_own t =
      ap (λ (o : Option Instance). own_in o (bits_at (signals_of c w k) t)) there
      ∙ ap (λ (ss : List Signal). gate_bit j.kind (bits_at ss t)) same_signals

  -- a pin shows what it is on, the wire's delay before
  shows : (p : ℕ) (pin : Pin) (t : ℕ) → slice_get j.pins p ≡ Some pin →
      pin_bit c w k p t ≡ pin_signal w.run pin (get_or choice.wires p 0) t
  shows p pin t pin_is =
      let within = slice_get_within j.pins p pin pin_is in
      let long = fit_long c.nets j.pins choice.wires here.wires in
      same_pin p t
      ∙ nth_pin_is w.run j.pins choice.wires p t pin 0 within (omega (arith, within, long))
      ∙ ap (λ (q : Pin). pin_signal w.run q (get_or choice.wires p 0) t)
      (get_or_from_slice_get j.pins p pin pin pin_is)

  pub shows_constant : (p : ℕ) (pin : Pin) (bit : Bool) (t : ℕ) → slice_get j.pins p ≡ Some pin →
      pin.target ≡ Constant bit → pin_bit c w k p t ≡ turned pin.inverted bit
  shows_constant p pin bit t pin_is constant =
      shows p pin t pin_is
      ∙ ap
      (λ (target : Target).
      turned pin.inverted (target_signal w.run target (get_or choice.wires p 0) t)) constant

  pub shows_net : (p : ℕ) (pin : Pin) (net : ℕ) (t : ℕ) → slice_get j.pins p ≡ Some pin →
      pin.target ≡ OnNet net →
      ShowsNet (record { instance = k; pin = p; tick = t }) net pin.inverted (fact_holds c w)
  shows_net p pin net t pin_is on_net ticks wire_is =
      let own : get_or choice.wires p 0 ≡ ticks = eqb-true (get_or choice.wires p 0) ticks wire_is
      in
      shows p pin t pin_is ∙ ap (λ (n : ℕ). pin_signal w.run pin n t) own
      ∙ ap (λ (target : Target). turned pin.inverted (target_signal w.run target ticks t)) on_net

  -- ---- what it gives

  module _ (net : ℕ) (out : j.out ≡ Some (OnNet net)) (makes : has_output j.kind ≡ true) where
    abbrev output : Signal
    output = out_signal w.run j.out j.out_inverted

    output_is : (t : ℕ) → output t ≡ turned j.out_inverted (net_signal w.run net t)
    output_is t =
        ap (λ (o : Option Target). out_signal w.run o j.out_inverted t) out
        ∙ ap (λ (u : ℕ). turned j.out_inverted (net_signal w.run net u)) (minus_none t)

    -- the equation holds where it looks back past tick 0 with no delay of its bounds
    module _ (one : two_delays j.kind j.split ≡ None) (t : ℕ) (within : t < w.run.ticks)
        (far : 1 + greatest_wire c.nets j.pins + j.delay.max ≤ t) where
      equation : Equation j.kind j.delay choice.delay signals output t
      equation =
          let wires = wires_within c.nets j.pins choice.wires here.wires in
          let delay = subst (λ (s : Option Split). DelaysFit j.kind j.delay s choice) one here.delay
          in
          let obeys =
          subst
          (λ (s : Option Split). Obeys w.run.ticks j.kind j.delay s choice signals output) one
          here.obeys in
          obeys t within
          (asked j.kind j.delay choice.delay choice.wires t makes delay (omega (arith, wires, far)))

      by_form : (form : Form) → form_of j.kind ≡ form →
          EquationOf form j.kind j.delay choice.delay signals output t
      by_form form is =
          subst (λ (f : Form). EquationOf f j.kind j.delay choice.delay signals output t) is
          equation

      -- a gate
      pub gate_gives : form_of j.kind ≡ Gate →
          turned j.out_inverted (net_signal w.run net t) ≡ own_bit c w k (t - choice.delay)
      gate_gives is =
          sym (output_is t) ∙ by_form Gate is ∙ sym (same_own (t - choice.delay))

      -- storage
      stored : (forced : Bool) (s : ℕ) (free bit : Bool) → IsStored forced signals s free bit →
          IsStoredBit forced (nth_signal signals 2 s) (nth_signal signals 3 s) free bit
      stored false s free bit is = is
      stored true s free bit is = is

      as_pins : (forced : Bool) (s : ℕ) (free other : Bool) → free ≡ other →
          IsStored forced signals s free (output t) →
          IsStoredBit forced (pin_bit c w k 2 s) (pin_bit c w k 3 s) other
          (turned j.out_inverted (net_signal w.run net t))
      as_pins forced s free other same is =
          subst (λ (a : Bool). IsStoredBit forced a (pin_bit c w k 3 s) other
          (turned j.out_inverted (net_signal w.run net t)))
          (sym (same_pin 2 s))
          (subst (λ (a : Bool). IsStoredBit forced (nth_signal signals 2 s) a other
          (turned j.out_inverted (net_signal w.run net t)))
          (sym (same_pin 3 s))
          (subst (λ (a : Bool). IsStoredBit forced (nth_signal signals 2 s) (nth_signal signals 3 s)
          a (turned j.out_inverted (net_signal w.run net t)))
          same
          (subst (λ (a : Bool). IsStoredBit forced (nth_signal signals 2 s) (nth_signal signals 3 s)
          free a)
          (output_is t) (stored forced s free (output t) is))))

      pub register_gives : (forced : Bool) → form_of j.kind ≡ Register forced →
          let s = t - choice.delay in
          IsStoredBit forced (pin_bit c w k 2 s) (pin_bit c w k 3 s)
          (if not (pin_bit c w k 0 (s - 1)) && pin_bit c w k 0 s then pin_bit c w k 1 s
          else turned j.out_inverted (net_signal w.run net (t - 1)))
          (turned j.out_inverted (net_signal w.run net t))
      register_gives forced is =
          let s = t - choice.delay in
          as_pins forced s _ _
          (ap (λ (a : Bool). if not a && nth_signal signals 0 s then nth_signal signals 1 s else
          output (t - 1))
          (sym (same_pin 0 (s - 1)))
          ∙ ap (λ (a : Bool). if not (pin_bit c w k 0 (s - 1)) && a then nth_signal signals 1 s else
          output (t - 1))
          (sym (same_pin 0 s))
          ∙ ap
          (λ (a : Bool).
          if not (pin_bit c w k 0 (s - 1)) && pin_bit c w k 0 s then a else output (t - 1))
          (sym (same_pin 1 s))
          ∙ ap
          (λ (a : Bool).
          if not (pin_bit c w k 0 (s - 1)) && pin_bit c w k 0 s then pin_bit c w k 1 s else a)
          (output_is (t - 1)))
          (by_form (Register forced) is)

      pub latch_gives : (forced : Bool) → form_of j.kind ≡ Enabled forced →
          let s = t - choice.delay in
          IsStoredBit forced (pin_bit c w k 2 s) (pin_bit c w k 3 s)
          (if pin_bit c w k 0 s then pin_bit c w k 1 s
          else turned j.out_inverted (net_signal w.run net (t - 1)))
          (turned j.out_inverted (net_signal w.run net t))
      latch_gives forced is =
          let s = t - choice.delay in
          as_pins forced s _ _
          (ap (λ (a : Bool). if a then nth_signal signals 1 s else output (t - 1))
          (sym (same_pin 0 s))
          ∙ ap (λ (a : Bool). if pin_bit c w k 0 s then a else output (t - 1)) (sym (same_pin 1 s))
          ∙ ap (λ (a : Bool). if pin_bit c w k 0 s then pin_bit c w k 1 s else a)
          (output_is (t - 1)))
          (by_form (Enabled forced) is)

      -- a change function
      pub change_keeps : form_of j.kind ≡ Change →
          ((u : ℕ) → IsInReach j.delay t u → AreStill signals u) →
          turned j.out_inverted (net_signal w.run net (t - 1))
          ≡ turned j.out_inverted (net_signal w.run net t)
      change_keeps is still =
          sym (output_is (t - 1)) ∙ by_form Change is still ∙ output_is t

    -- a gate with two delays
    module _ (s : Split) (two : two_delays j.kind j.split ≡ Some s)
        (spans : j.delay ≡ either_delay s) (t : ℕ)
        (within : t < w.run.ticks) (far : 1 + greatest_wire c.nets j.pins + j.delay.max ≤ t) where
      same_gate : (λ (u : ℕ). own_bit c w k u) ≡ gate_signal j.kind signals
      same_gate =
          let by_instance : Option Instance → Signal = λ o u.
          own_in o (bits_at (signals_of c w k) u) in
          let by_signals : List Signal → Signal = λ ss u. gate_bit j.kind (bits_at ss u) in
          ap by_instance there ∙ ap by_signals same_signals

      pub split_gives : turned j.out_inverted (net_signal w.run net t)
          ≡ split_bit (λ u. own_bit c w k u) choice.rise choice.fall t
      split_gives =
          let wires = wires_within c.nets j.pins choice.wires here.wires in
          let delays = subst (λ (o : Option Split). DelaysFit j.kind j.delay o choice) two
          here.delay in
          let obeys =
          subst (λ (o : Option Split). Obeys w.run.ticks j.kind j.delay o choice signals output) two
          here.obeys in
          let reach = ap (λ (b : Bounds). b.max) spans in
          sym (output_is t)
          ∙ obeys t within
          (asked_split s choice.rise choice.fall choice.wires t delays.0 delays.1
          (omega (arith, wires, far, reach)))
          ∙ ap (λ (z : Signal). split_bit z choice.rise choice.fall t) (sym same_gate)

-- ---- as facts

module _ (c : Circuit) (w : World) (is_run : IsRun c w.run) (k : ℕ) (j : Instance)
    (there : slice_get c.instances k ≡ Some j) (net : ℕ) (out : j.out ≡ Some (OnNet net))
    (makes : has_output j.kind ≡ true) (s : Split) (two : two_delays j.kind j.split ≡ Some s)
    (spans : j.delay ≡ either_delay s) (t : ℕ)
    (far : 1 + greatest_wire c.nets j.pins + j.delay.max ≤ t) where
  pub is_split : IsSplitGate (record
      { net = net; instance = k; tick = t; inverted = j.out_inverted })
      (fact_holds c w)
  is_split rise fall rise_in fall_in lasts rises falls =
      let gives =
      split_gives c w is_run k j there net out makes s two spans t (ltb-true t w.run.ticks lasts)
      far
      ∙ ap (λ (n : ℕ). split_bit (λ u. own_bit c w k u) n (choice_of w k).fall t)
      (eqb-true (choice_of w k).rise rise rises)
      ∙ ap (λ (n : ℕ). split_bit (λ u. own_bit c w k u) rise n t)
      (eqb-true (choice_of w k).fall fall falls) in
      record {
        some = some_between (λ u. own_bit c w k u) rise fall t _ rise_in fall_in gives
            (nat_lt rise fall) refl;
        each = each_between (λ u. own_bit c w k u) rise fall t _ rise_in fall_in gives
            (nat_lt rise fall) refl;
      }

module _ (c : Circuit) (w : World) (is_run : IsRun c w.run) (k : ℕ) (j : Instance)
    (there : slice_get c.instances k ≡ Some j) (net : ℕ) (out : j.out ≡ Some (OnNet net))
    (makes : has_output j.kind ≡ true) (one : two_delays j.kind j.split ≡ None) (t : ℕ)
    (far : 1 + greatest_wire c.nets j.pins + j.delay.max ≤ t) where
  abbrev driven : Driven
  driven = record { net = net; instance = k; tick = t; inverted = j.out_inverted }

  in_run : fact_holds c w (Lasts t) ≡ true → t < w.run.ticks
  in_run lasts = ltb-true t w.run.ticks lasts

  pub is_gate : form_of j.kind ≡ Gate → IsGate driven (fact_holds c w)
  is_gate is lasts ticks delay_is =
      gate_gives c w is_run k j there net out makes one t (in_run lasts) far is
      ∙ ap (λ (d : ℕ). own_bit c w k (t - d)) (eqb-true (choice_of w k).delay ticks delay_is)

  chosen_delay : (ticks : ℕ) → not ((choice_of w k).delay == ticks) ≡ false →
      (choice_of w k).delay ≡ ticks
  chosen_delay ticks unless = eqb-true (choice_of w k).delay ticks (not_false _ unless)

  pub is_register : (forced : Bool) → form_of j.kind ≡ Register forced →
      IsStorage driven forced false (fact_holds c w)
  is_register forced is ticks lasts unless =
      subst (λ (d : ℕ). Stores (with_delay driven forced d) (registered_free d) (fact_holds c w))
      (chosen_delay ticks unless) (λ in_time same. gives) lasts unless
    where
      registered_free : ℕ → Bool
      registered_free d =
          if not (pin_bit c w k 0 (t - d - 1)) && pin_bit c w k 0 (t - d) then pin_bit c w k 1
          (t - d)
          else turned j.out_inverted (net_signal w.run net (t - 1))

      gives : let s = t - (choice_of w k).delay in
          IsStoredBit forced (pin_bit c w k 2 s) (pin_bit c w k 3 s)
          (registered_free (choice_of w k).delay) (turned j.out_inverted (net_signal w.run net t))
      gives = register_gives c w is_run k j there net out makes one t (in_run lasts) far forced is

  pub is_latch : (forced : Bool) → form_of j.kind ≡ Enabled forced →
      IsStorage driven forced true (fact_holds c w)
  is_latch forced is ticks lasts unless =
      subst (λ (d : ℕ). Stores (with_delay driven forced d) (latched_free d) (fact_holds c w))
      (chosen_delay ticks unless) (λ in_time same. gives) lasts unless
    where
      latched_free : ℕ → Bool
      latched_free d =
          if pin_bit c w k 0 (t - d) then pin_bit c w k 1 (t - d)
          else turned j.out_inverted (net_signal w.run net (t - 1))

      gives : let s = t - (choice_of w k).delay in
          IsStoredBit forced (pin_bit c w k 2 s) (pin_bit c w k 3 s)
          (latched_free (choice_of w k).delay) (turned j.out_inverted (net_signal w.run net t))
      gives = latch_gives c w is_run k j there net out makes one t (in_run lasts) far forced is

  -- pins of which none steps are still
  are_still : (ss : List Signal) (u : ℕ) →
      ((pin : ℕ) → pin < length ss → differ (nth_signal ss pin (u - 1))
      (nth_signal ss pin u) ≡ false) →
      AllByRecursion (λ (x : Signal). x (u - 1) ≡ x u) ss
  are_still [] u none = tt
  are_still (x ∷ xs) u none = (
    no_step (x (u - 1)) (x u) (none 0 (omega arith)),
    are_still xs u (λ pin below. none (suc pin) (omega (arith, below))),
  )
    where
      no_step : (a b : Bool) → differ a b ≡ false → a ≡ b
      no_step true true is = refl
      no_step true false is = absurd (true≢false is)
      no_step false true is = absurd (true≢false is)
      no_step false false is = refl

  pub is_change : form_of j.kind ≡ Change →
      IsChange driven (length j.pins) j.delay (fact_holds c w)
  is_change is lasts none =
      let ss = pin_signals w.run j.pins (choice_of w k).wires in
      change_keeps c w is_run k j there net out makes one t (in_run lasts) far is
      (λ u within.
      All-from_recursion (λ (x : Signal). x (u - 1) ≡ x u) ss
      (are_still ss u
      (λ pin below.
      sym
      (ap (λ (a : Bool). differ a (pin_bit c w k pin u)) (same_pin c w is_run k j there pin (u - 1))
      ∙ ap (λ (b : Bool). differ (nth_signal ss pin (u - 1)) b)
      (same_pin c w is_run k j there pin u))
      ∙ none u within pin (few pin below))))
    where
      few : (pin : ℕ) → pin < length (pin_signals w.run j.pins (choice_of w k).wires) →
          pin < length j.pins
      few pin below =
          let long = signals_few w.run j.pins (choice_of w k).wires in
          omega (arith, below, long)

-- ---- the driver of a net

pub output_of : (c : Circuit) (net k : ℕ) (j : Instance) → IsCircuit c →
    slice_get c.instances k ≡ Some j → driver_at c.nets net ≡ Some k → j.out ≡ Some (OnNet net)
output_of c net k j known there driven =
    subst (λ (o : Option Instance). out_of o ≡ Some (OnNet net)) there
    (known.drivers.is net k driven)

two_is : (may : Bool) (split : Option Split) (s : Split) → (if may then split else None) ≡ Some s →
    split ≡ Some s
two_is true split s is = is
two_is false split s is = absurd (cc is)

-- two delays lie between the bounds beside them
pub spans_of : (kind : Kind) (d : Bounds) (split : Option Split) (s : Split) →
    SplitFits kind d split → two_delays kind split ≡ Some s → d ≡ either_delay s
spans_of kind d split s fits two =
    let fit = subst (λ (o : Option Split). SplitFits kind d o) (two_is (may_split kind) split s two)
    fits in
    fit.1
