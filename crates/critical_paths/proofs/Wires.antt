-- What the program finds behind a pin, as the definitions say it.
use Rattle.std.proofs.Common.{◌≡◌, ℕ, ◌<◌, ◌≤◌, min, Bool, true, false, sym, ap, subst, ◌∙◌, Some, None, ℤ, pos, ◌-ℤ◌}
use Rattle.std.specs.Prelude.{nat_lt}
use Rattle.scald_base.specs.Clock.{back}
use Rattle.scald_base.specs.Time.{Bounds, period}
use Rattle.vector_names.specs.declared.bits.Target.{Target}
use Rattle.vector_names.specs.declared.bits.Target.TheVariants.{Net as OnNet}
use Rattle.flat_circuit.specs.Circuit.{Circuit, wire_at}
use Rattle.fixpoint_engine.specs.Waves.{Waves, target_wire}
use Rattle.critical_paths.specs.declared.direction.Corner.{Corner}
use Rattle.critical_paths.specs.declared.direction.Direction.{Direction}
use Rattle.critical_paths.specs.Tick.{slot_of}
use Rattle.critical_paths.specs.Path.{choices, inward, is_event}
use Rattle.critical_paths.specs.Views.{behind}
use Rattle.critical_paths.proofs.Backing.{behind_none, behind_some, sees}
use Rattle.critical_paths.proofs.Ticks.{slot_back}

module _ (c : Circuit) (ws : Waves) (corner : Corner) (tick : ℤ) (d : Direction) (i : ℕ)
    (some : 0 < period c.header) where
  abbrev p : ℕ
  p = slot_of (period c.header) tick

  slot_is : (n w : ℕ) → w ≡ inward corner (wire_at c.nets i) n →
      slot_of (period c.header) (tick -ℤ pos w) ≡ back (period c.header) p
      (inward corner (wire_at c.nets i) n)
  slot_is n w is = slot_back (period c.header) w tick some ∙ ap (back (period c.header) p) is

  -- a wire by which none shows
  pub unseen : (n w : ℕ) (may : Bool) → w ≡ inward corner (wire_at c.nets i) n → may ≡ false →
      may ≡ is_event c ws (record {
        net = i;
        direction = d;
        slot = slot_of (period c.header) (tick -ℤ pos w);
      }) →
      sees c ws corner p d i n ≡ false
  unseen n w may is none e =
      sym (ap (λ (slot : ℕ). is_event c ws (record { net = i; direction = d; slot = slot }))
      (slot_is n w is)) ∙ sym e ∙ none

  -- the first by which it shows
  pub seen : (n w : ℕ) (may inside : Bool) (target : Target) → target ≡ OnNet i →
      n < choices (wire_at c.nets i) →
      ((m : ℕ) → m < n → sees c ws corner p d i m ≡ false) →
      w ≡ inward corner (wire_at c.nets i) n → inside ≡ nat_lt 0 n → may ≡ true →
      may ≡ is_event c ws (record {
        net = i;
        direction = d;
        slot = slot_of (period c.header) (tick -ℤ pos w);
      }) →
      Some (record {
        event = record { net = i; direction = d; slot = slot_of (period c.header) (tick -ℤ pos w) };
        wire = w;
        is_inside = inside;
      }) ≡ behind c ws corner p d target
  seen n w may inside target on below before is within may_be e =
      let here : sees c ws corner p d i n ≡ true =
      sym (ap (λ (slot : ℕ). is_event c ws (record { net = i; direction = d; slot = slot }))
      (slot_is n w is)) ∙ sym e ∙ may_be in
      let at = slot_is n w is in
      (λ k. Some (record {
        event = record { net = i; direction = d; slot = at k };
        wire = is k;
        is_inside = within k;
      }))
      ∙ sym (behind_some c ws corner p d i n below before here)
      ∙ ap (behind c ws corner p d) (sym on)

  -- no wire of a period of them, so none
  pub nowhere : (count : ℕ) (target : Target) (w : Bounds) → target ≡ OnNet i →
      w ≡ target_wire c.nets target → w.min ≤ w.max →
      count ≡ min (choices w) (period c.header) →
      ((n : ℕ) → n < count → sees c ws corner p d i n ≡ false) →
      None ≡ behind c ws corner p d target
  nowhere count target w on wire ordered long none =
      let is : w ≡ wire_at c.nets i = wire ∙ ap (target_wire c.nets) on in
      sym (ap (behind c ws corner p d) on
      ∙ behind_none c ws corner p d i count some (subst (λ (b : Bounds). b.min ≤ b.max) is ordered)
      (long ∙ ap (λ (b : Bounds). min (choices b) (period c.header)) is) none)
