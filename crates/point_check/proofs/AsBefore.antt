-- What is the same if waves are.
use Rattle.std.proofs.Common.{◌≡◌, ℕ, Bool, true, false, All, List, map, refl, sym, ap, ◌∙◌, slice_get, Option, Some, None}
use Rattle.std.specs.Option.{option_map}
use Rattle.scald_base.specs.Time.{period}
use Rattle.element_kinds.specs.declared.kind.Kind.{Kind}
use Rattle.element_kinds.specs.Kinds.{checks_points, may_be_marked}
use Rattle.flat_circuit.specs.declared.instance.Pin.{Pin}
use Rattle.flat_circuit.specs.declared.instance.Instance.{Instance}
use Rattle.flat_circuit.specs.declared.net.Net.{Net}
use Rattle.flat_circuit.specs.Circuit.{Circuit}
use Rattle.gate_eval.specs.Hold.{hazard}
use Rattle.gate_eval.specs.Instance.{wave_of_pin}
use Rattle.fixpoint_engine.specs.Waves.{Waves, pin_wave, pin_waves, marked_pin}
use Rattle.fixpoint_engine.specs.SameWaves.{IsSameAt}
use Rattle.fixpoint_engine.proofs.SameWaves.{same_pins}
use Rattle.point_check.specs.Point.{checker_fault}
use Rattle.point_check.specs.Assertion.{is_held, assertion_fault}
use Rattle.point_check.specs.Faults.{hazard_at, fault_by, fault_by_kind, fault_of, instance_fault, fault_if_held, fault_of_net, net_fault}

-- ---- an instance, by the waves at its pins

same_kind : (kind : Kind) (c : Circuit) (ws vs : Waves) (k : ℕ) (j : Instance) → pin_waves c ws j ≡ pin_waves c vs j → fault_by_kind kind c ws k j ≡ fault_by_kind kind c vs k j
same_kind kind c ws vs k j same = by (checks_points kind) (may_be_marked kind)
  where
    by : (points markable : Bool) → fault_by points markable c ws k j ≡ fault_by points markable c vs k j
    by true markable = λ i. checker_fault j.kind (period c.header) k (wave_of_pin (same i) 0) (wave_of_pin (same i) 1) j.limits
    by false true = λ i. option_map (hazard_at k) (hazard j.kind (same i) (marked_pin j))
    by false false = refl

pub same_instance : (c : Circuit) (ws vs : Waves) (k : ℕ) (j : Instance) (ps : List Pin) →
    Some j ≡ slice_get c.instances k → ps ≡ j.pins → All (IsSameAt ws vs) ps → instance_fault c ws k ≡ instance_fault c vs k
unfolding instance_fault
same_instance c ws vs k j ps at pins all =
    let shown : pin_waves c ws j ≡ pin_waves c vs j = ap (map (pin_wave c ws)) (sym pins) ∙ same_pins c ws vs ps all ∙ ap (map (pin_wave c vs)) pins in
    ap (fault_of c ws k) (sym at) ∙ same_kind j.kind c ws vs k j shown ∙ ap (fault_of c vs k) at

-- ---- a net, by its own wave

pub same_net : (c : Circuit) (ws vs : Waves) (i : ℕ) → ws i ≡ vs i → net_fault c ws i ≡ net_fault c vs i
unfolding net_fault
same_net c ws vs i same = by (slice_get c.nets i)
  where
    held : (b : Bool) (net : Net) → fault_if_held b c ws i net ≡ fault_if_held b c vs i net
    held true net = ap (assertion_fault c.header net.spec i) same
    held false net = refl

    by : (o : Option Net) → fault_of_net c ws i o ≡ fault_of_net c vs i o
    by None = refl
    by (Some net) = held (is_held net) net
