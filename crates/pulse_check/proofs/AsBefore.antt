-- What is the same if waves are.
use Rattle.std.proofs.Common.{◌≡◌, ℕ, ◌<◌, true, false, List, [], ◌∷◌, ◌++◌, length, map, get_or, refl, sym, ap, ◌∙◌, arith, slice_get, Some}
use Rattle.scald_base.specs.Time.{period}
use Rattle.element_kinds.specs.declared.kind.Kind.{Kind}
use Rattle.element_kinds.specs.declared.kind.Kind.TheVariants.{MinPulse}
use Rattle.flat_circuit.specs.Limits.{high_of, low_of}
use Rattle.flat_circuit.specs.declared.instance.Pin.{Pin}
use Rattle.flat_circuit.specs.declared.instance.Instance.{Instance}
use Rattle.flat_circuit.specs.Kind.{PinsFit}
use Rattle.flat_circuit.specs.Circuit.{Circuit}
use Rattle.gate_eval.specs.Instance.{wave_of_pin}
use Rattle.fixpoint_engine.specs.Waves.{Waves, pin_wave}
use Rattle.fixpoint_engine.specs.SameWaves.{IsSameAt}
use Rattle.fixpoint_engine.proofs.SameWaves.{same_pin}
use Rattle.element_kinds.specs.Kinds.{checks_pulses}
use Rattle.pulse_check.specs.Faults.{pin_of, listed, width_fault, faults_by_kind, faults_of, instance_faults}
use Rattle.pulse_check.proofs.Gathered.{a_pin}

-- ---- a checker, by the wave at its pin

pub same_first : (c : Circuit) (ws vs : Waves) (j : Instance) (ps : List Pin) (d : Pin) → checks_pulses j.kind ≡ true → PinsFit j.kind j.pins → ps ≡ j.pins →
    IsSameAt ws vs (get_or ps 0 d) → pin_of c ws j ≡ pin_of c vs j
same_first c ws vs j ps d checks fits same is =
    let some : 0 < length ps = let long : length ps ≡ length j.pins = ap length same in let one = a_pin j.kind j.pins checks fits in omega (arith, long, one) in
    ap (λ (qs : List Pin). wave_of_pin (map (pin_wave c ws) qs) 0) (sym same) ∙ by ps some is ∙ ap (λ (qs : List Pin). wave_of_pin (map (pin_wave c vs) qs) 0) same
  where
    by : (qs : List Pin) → 0 < length qs → IsSameAt ws vs (get_or qs 0 d) →
        wave_of_pin (map (pin_wave c ws) qs) 0 ≡ wave_of_pin (map (pin_wave c vs) qs) 0
    by [] some is = absurd (omega arith)
    by (q ∷ qs) some is = same_pin c ws vs q is

same_kind : (kind : Kind) (c : Circuit) (ws vs : Waves) (k : ℕ) (j : Instance) → pin_of c ws j ≡ pin_of c vs j → faults_by_kind kind c ws k j ≡ faults_by_kind kind c vs k j
same_kind MinPulse c ws vs k j same = λ i. listed (width_fault (period c.header) k (same i) true (high_of j.limits)) ++ listed (width_fault (period c.header) k (same i) false (low_of j.limits))
same_kind kind c ws vs k j same = refl

pub same_instance : (c : Circuit) (ws vs : Waves) (k : ℕ) (j : Instance) → Some j ≡ slice_get c.instances k → pin_of c ws j ≡ pin_of c vs j → instance_faults c ws k ≡ instance_faults c vs k
unfolding instance_faults
same_instance c ws vs k j at same = ap (faults_of c ws k) (sym at) ∙ same_kind j.kind c ws vs k j same ∙ ap (faults_of c vs k) at
