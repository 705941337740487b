-- What is not watched has no fault.
use Rattle.std.proofs.Common.{◌≡◌, ℕ, Bool, true, false, ◌||◌, List, length, refl, sym, ap, ◌∙◌, slice_get, Option, Some, None}
use Rattle.std.specs.Prelude.{is_some}
use Rattle.std.specs.List.{position}
use Rattle.std.specs.Option.{option_map}
use Rattle.std.proofs.lemmas.Bool.{or_parts}
use Rattle.element_kinds.specs.declared.kind.Kind.{Kind}
use Rattle.element_kinds.specs.Kinds.{closes_of, checks_points, may_be_marked}
use Rattle.flat_circuit.specs.declared.instance.Pin.{Pin}
use Rattle.flat_circuit.specs.declared.instance.Instance.{Instance}
use Rattle.flat_circuit.specs.Kind.{PinsFit}
use Rattle.flat_circuit.specs.Circuit.{Circuit}
use Rattle.gate_eval.specs.Instance.{MarkIsAt, MarkFits}
use Rattle.gate_eval.proofs.Chosen.{mark_fits}
use Rattle.gate_eval.proofs.Found.{hazard_unmarked}
use Rattle.fixpoint_engine.specs.Waves.{Waves, pin_waves, marked_pin}
use Rattle.point_check.specs.Faults.{hazard_at, fault_by, fault_of, instance_fault}

-- ---- only kinds that may be marked have a mark

unmarked_by : (closes : Option Bool) (i pins : ℕ) → is_some closes ≡ false → MarkIsAt closes i pins → ⊥
unmarked_by None i pins none at = at
unmarked_by (Some bit) i pins none at = cc

unmarked_at : (kind : Kind) (marked : Option ℕ) (pins : ℕ) → may_be_marked kind ≡ false → MarkFits kind marked pins →
    is_some marked ≡ false
unmarked_at kind None pins none fits = refl
unmarked_at kind (Some i) pins none fits = absurd (unmarked_by (closes_of kind) i pins none fits)

pub unmarked : (kind : Kind) (ps : List Pin) → PinsFit kind ps → may_be_marked kind ≡ false →
    is_some (position (λ (p : Pin). p.hold) ps) ≡ false
unmarked kind ps fit none =
    unmarked_at kind (position (λ (p : Pin). p.hold) ps) (length ps) none
    (mark_fits kind (λ (p : Pin). p.hold) ps fit.marks)

-- ---- no checker of points, and no mark

none_of : {A : Type 0} (o : Option A) → is_some o ≡ false → None ≡ o
none_of None e = refl
none_of (Some x) e = cc

pub unwatched : (c : Circuit) (ws : Waves) (k : ℕ) (j : Instance) → Some j ≡ slice_get c.instances k →
    (checks_points j.kind || is_some (marked_pin j)) ≡ false → None ≡ instance_fault c ws k
unfolding instance_fault
unwatched c ws k j at not =
    let parts = or_parts (checks_points j.kind) (is_some (marked_pin j)) not in
    by (may_be_marked j.kind) (none_of (marked_pin j) parts.1)
    ∙ ap (λ (points : Bool). fault_by points (may_be_marked j.kind) c ws k j) (sym parts.0)
    ∙ ap (fault_of c ws k) at
  where
    by : (markable : Bool) → None ≡ marked_pin j → None ≡ fault_by false markable c ws k j
    by true none = ap (option_map (hazard_at k)) (hazard_unmarked j.kind (pin_waves c ws j) (marked_pin j) none)
    by false none = refl
