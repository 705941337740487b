-- If no change of a pin's net shows, the wave at the pin is quiet.
use Rattle.std.proofs.Common.{◌≡◌, ℕ, zero, suc, ◌+◌, ◌-◌, ◌<◌, ◌≤◌, Bool, true, false, cond, if◌then◌else◌, All, List, [], ◌∷◌, length, map, get_or, refl, sym, ap, subst, ◌∙◌, arith, Option, Some, None}
use Rattle.std.specs.Option.{option_or}
use Rattle.std.proofs.lemmas.List.{get_or-map, length-map}
use Rattle.std.proofs.lemmas.List.Elements.{All-cons, All-head, All-nil, All-tail}
use Rattle.scald_base.specs.Clock.{back}
use Rattle.scald_base.specs.Time.{Bounds, IsDelay, period}
use Rattle.scald_base.proofs.Back.{back_back, back_lt, back_zero}
use Rattle.vector_names.specs.declared.bits.Target.{Target}
use Rattle.vector_names.specs.declared.bits.Target.TheVariants.{Net as OnNet, Constant}
use Rattle.wave_core.specs.Slots.{earlier, join_to}
use Rattle.wave_core.proofs.Slots.{earlier_slots, length_slots}
use Rattle.step_values.specs.declared.value.Value.{Value}
use Rattle.step_values.specs.declared.value.Value.TheVariants.{Zero, One, U}
use Rattle.step_values.specs.Steps.{flip, is_quiet, join}
use Rattle.step_values.specs.Cell.{values}
use Rattle.step_values.specs.Lawful.{values_lawful}
use Rattle.skew_algebra.specs.Wave.{Wave, fold, moved, normal}
use Rattle.skew_algebra.proofs.Moves.{fold_at_mod}
use Rattle.element_kinds.specs.declared.kind.Kind.{Kind}
use Rattle.element_kinds.specs.Kinds.{listens}
use Rattle.flat_circuit.specs.declared.instance.Pin.{Pin}
use Rattle.flat_circuit.specs.declared.net.Net.{Net}
use Rattle.flat_circuit.specs.Circuit.{Circuit, wire_at}
use Rattle.flat_circuit.specs.Instances.{PinExists, TargetExists}
use Rattle.gate_eval.specs.Quiet.{IsQuietAt, IsQuietBefore}
use Rattle.gate_eval.proofs.Held.{first_some_none}
use Rattle.gate_eval.proofs.Quiet.{late_is_quiet, quiet_fold, quiet_normal, quiet_window}
use Rattle.storage_eval.specs.Storage.{listening_from}
use Rattle.pin_waves.specs.Interface.{constant_wave}
use Rattle.pin_waves.proofs.Pins.{length_moved}
use Rattle.fixpoint_engine.specs.Waves.{Waves, pin_wave, target_wave, target_wire}
use Rattle.fixpoint_engine.proofs.Fits.{AreLong, long_target}
use Rattle.fixpoint_engine.specs.Value.{turned_wave}
use Rattle.fixpoint_engine.proofs.Made.{length_turned}
use Rattle.fault_chain.specs.declared.chain.Link.{Link}
use Rattle.fault_chain.specs.Chain.{first_back, link_back, mover_back, then_late, through, through_first}

-- ---- the complement, and the normal form

join_flipped : (f g : ℕ → Value) (n : ℕ) → ((o : ℕ) → g o ≡ flip (f o)) → join_to values g n ≡ flip (join_to values f n)
join_flipped f g zero each = each 0
join_flipped f g (suc n) each =
    (λ k. join (join_flipped f g n each k) (each (suc n) k)) ∙ sym (values_lawful.flip_joins (join_to values f n) (f (suc n)))

earlier_flipped : (cells : List Value) (p o : ℕ) → 0 < length cells → earlier values (map flip cells) p o ≡ flip (earlier values cells p o)
unfolding earlier
earlier_flipped cells p o some =
    let long : length (map flip cells) ≡ length cells = length-map cells flip in
    ap (λ (n : ℕ). get_or (map flip cells) (back n p o) U) long
    ∙ get_or-map flip cells (back (length cells) p o) U U (back_lt (length cells) p o some)

pub quiet_turned : (inverted : Bool) (w : Wave Value) (p : ℕ) → 0 < length w.cells → IsQuietAt p w → IsQuietAt p (turned_wave inverted w)
quiet_turned false w p some quiet = quiet
quiet_turned true w p some quiet =
    ap is_quiet (join_flipped (λ o. earlier values w.cells p o) (λ o. earlier values (map flip w.cells) p o) w.skew (λ o. earlier_flipped w.cells p o some))
    ∙ values_lawful.flip_quiet (fold values w p) ∙ quiet

-- at the slot itself
abbrev pub no_delay : Bounds
no_delay = record { min = 0; max = 0 }

quiet_here : (w : Wave Value) (p : ℕ) → IsQuietAt p w → IsQuietBefore no_delay p w
quiet_here w p quiet o least most =
    let none : o ≡ 0 = omega (arith, most) in
    ap (λ (n : ℕ). is_quiet (fold values w (back (length w.cells) p n))) none
    ∙ ap (λ (s : ℕ). is_quiet (fold values w s)) (back_zero (length w.cells) p)
    ∙ ap is_quiet (fold_at_mod values w.cells w.skew p) ∙ quiet

pub normal_quiet : (w : Wave Value) (p : ℕ) → 0 < length w.cells → IsQuietAt p w → IsQuietAt p (normal values w)
normal_quiet w p some quiet =
    quiet_normal w p some (λ o least most. quiet_window w no_delay p (omega arith) (quiet_here w p quiet) o least (omega (arith, most)))

-- the cell of a slot, if its fold is
pub cell_quiet : (w : Wave Value) (p : ℕ) → IsQuietAt p w → is_quiet (earlier values w.cells p 0) ≡ true
cell_quiet w p quiet = quiet_window w no_delay p (omega arith) (quiet_here w p quiet) 0 (omega arith) (omega arith)

-- ---- a list of links

link_if : (quiet : Bool) (link : Link) → cond quiet None (Some link) ≡ None → quiet ≡ true
link_if true link none = refl
link_if false link none = absurd (cc)

none_of : (here later : Option Link) → option_or here later ≡ None → (here ≡ None) × (later ≡ None)
none_of None later none = (refl, none)
none_of (Some link) later none = absurd (cc)

-- ---- wires

-- each wire's bounds are in their order
pub wire_ordered : (nets : List Net) (i : ℕ) → All (λ (n : Net). IsDelay n.wire) nets → (wire_at nets i).min ≤ (wire_at nets i).max
wire_ordered [] i each = omega arith
wire_ordered (n ∷ nets) zero each = (All-head (λ (n : Net). IsDelay n.wire) n nets each).ordered
wire_ordered (n ∷ nets) (suc i) each = wire_ordered nets i (All-tail (λ (n : Net). IsDelay n.wire) n nets each)

module _ (c : Circuit) (ws : Waves) (some : 0 < period c.header) (long : AreLong c ws) (wires : All (λ (n : Net). IsDelay n.wire) c.nets) where
  back_quiet : (i p o : ℕ) → mover_back c ws i p o ≡ None → IsQuietAt (back (period c.header) p o) (ws i)
  back_quiet i p o none = link_if (is_quiet (fold values (ws i) (back (period c.header) p o))) (link_back c ws i p o) none

  net_quiet : (i p : ℕ) (d : Bounds) → i < length c.nets → d.min ≤ d.max → first_back c ws i p (then_late (wire_at c.nets i) d) ≡ None →
      IsQuietBefore d p (moved values (ws i) (wire_at c.nets i))
  net_quiet i p d exists bounds none o least most =
      let wire : Bounds = wire_at c.nets i in
      let ordered : wire.min ≤ wire.max = wire_ordered c.nets i wires in
      let cells : length (ws i).cells ≡ period c.header = long i exists in
      subst (λ (n : ℕ). IsQuietAt (back n p o) (moved values (ws i) wire)) (sym (length_moved (ws i) wire ∙ cells))
      (late_is_quiet (ws i) wire (back (period c.header) p o) (omega (arith, some, cells)) ordered (λ a above below.
      subst (λ (n : ℕ). IsQuietAt (back n (back (period c.header) p o) a) (ws i)) (sym cells)
      (subst (λ (s : ℕ). IsQuietAt s (ws i)) (sym (back_back (period c.header) p o a))
      (back_quiet i p (o + a)
      (first_some_none (mover_back c ws i p) (wire.max + d.max - (wire.min + d.min) + 1) (wire.min + d.min) (o + a) none
      (omega (arith, least, above)) (omega (arith, most, below, bounds, ordered)))))))

  steady_bit : (one : Bool) → is_quiet (if one then One else Zero) ≡ true
  steady_bit true = refl
  steady_bit false = refl

  constant_quiet : (one : Bool) (p : ℕ) → IsQuietAt p (constant_wave c.header one)
  constant_quiet one p =
      quiet_fold (constant_wave c.header one) p (λ o least most.
      ap is_quiet (earlier_slots values (period c.header) (λ q. if one then One else Zero) p o some) ∙ steady_bit one)

  target_quiet : (p : ℕ) (d : Bounds) (t : Target) → TargetExists (length c.nets) t → d.min ≤ d.max → through c ws p d t ≡ None →
      IsQuietBefore d p (moved values (target_wave c.header ws t) (target_wire c.nets t))
  target_quiet p d (OnNet i) exists bounds none = net_quiet i p d exists bounds none
  target_quiet p d (Constant one) exists bounds none = λ o least most.
      let cells : length (constant_wave c.header one).cells ≡ period c.header = length_slots (period c.header) (λ q. if one then One else Zero) in
      late_is_quiet (constant_wave c.header one) no_delay (back (length (moved values (constant_wave c.header one) no_delay).cells) p o)
      (omega (arith, some, cells)) (omega arith) (λ a above below.
      constant_quiet one (back (length (constant_wave c.header one).cells) (back (length (moved values (constant_wave c.header one) no_delay).cells) p o) a))

  pub pin_quiet : (p : ℕ) (d : Bounds) (pin : Pin) → PinExists (length c.nets) pin → d.min ≤ d.max → through c ws p d pin.target ≡ None →
      IsQuietBefore d p (pin_wave c ws pin)
  pin_quiet p d pin exists bounds none o least most =
      let late : Wave Value = moved values (target_wave c.header ws pin.target) (target_wire c.nets pin.target) in
      let cells : length late.cells ≡ period c.header = length_moved (target_wave c.header ws pin.target) (target_wire c.nets pin.target) ∙ long_target c ws pin.target long exists in
      subst (λ (n : ℕ). IsQuietAt (back n p o) (pin_wave c ws pin)) (sym (length_turned pin.inverted late))
      (quiet_turned pin.inverted late (back (length late.cells) p o) (omega (arith, some, cells))
      (target_quiet p d pin.target exists bounds none o least most))

  -- all pins that an element listens to
  pub listening_quiet : (p : ℕ) (d : Bounds) (kind : Kind) (place : ℕ) (ps : List Pin) → All (PinExists (length c.nets)) ps → d.min ≤ d.max →
      through_first c ws p d (listening_from kind place ps) ≡ None → All (IsQuietBefore d p) (listening_from kind place (map (pin_wave c ws) ps))
  listening_quiet p d kind place [] exist bounds none = All-nil (IsQuietBefore d p)
  listening_quiet p d kind place (pin ∷ ps) exist bounds none = by (listens kind place) none
      (λ rest. listening_quiet p d kind (place + 1) ps (All-tail (PinExists (length c.nets)) pin ps exist) bounds rest)
    where
      by : (heard : Bool) → through_first c ws p d (cond heard (pin ∷ listening_from kind (place + 1) ps) (listening_from kind (place + 1) ps)) ≡ None →
          (through_first c ws p d (listening_from kind (place + 1) ps) ≡ None → All (IsQuietBefore d p) (listening_from kind (place + 1) (map (pin_wave c ws) ps))) →
          All (IsQuietBefore d p) (cond heard (pin_wave c ws pin ∷ listening_from kind (place + 1) (map (pin_wave c ws) ps)) (listening_from kind (place + 1) (map (pin_wave c ws) ps)))
      by false none go = go none
      by true none go =
          let both = none_of (through c ws p d pin.target) (through_first c ws p d (listening_from kind (place + 1) ps)) none in
          All-cons (IsQuietBefore d p) (pin_wave c ws pin) (listening_from kind (place + 1) (map (pin_wave c ws) ps))
          (pin_quiet p d pin (All-head (PinExists (length c.nets)) pin ps exist) bounds both.0) (go both.1)
