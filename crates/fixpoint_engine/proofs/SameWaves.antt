-- A pin shows the same if what it is on has one wave.
use Rattle.std.proofs.Common.{◌≡◌, All, List, [], ◌∷◌, map, refl}
use Rattle.std.proofs.lemmas.List.Elements.{All-head, All-tail}
use Rattle.scald_base.specs.Time.{Header}
use Rattle.vector_names.specs.declared.bits.Target.{Target}
use Rattle.vector_names.specs.declared.bits.Target.TheVariants.{Net as OnNet, Constant}
use Rattle.pin_waves.specs.Pin.{pin_wave as wave_behind}
use Rattle.flat_circuit.specs.declared.instance.Pin.{Pin}
use Rattle.flat_circuit.specs.Circuit.{Circuit}
use Rattle.fixpoint_engine.specs.Waves.{Waves, target_wave, target_wire, pin_wave}
use Rattle.fixpoint_engine.specs.SameWaves.{IsSameOn, IsSameAt}

same_target : (h : Header) (ws vs : Waves) (t : Target) → IsSameOn ws vs t → target_wave h ws t ≡ target_wave h vs t
same_target h ws vs (OnNet i) same = same
same_target h ws vs (Constant one) same = refl

pub same_pin : (c : Circuit) (ws vs : Waves) (p : Pin) → IsSameAt ws vs p → pin_wave c ws p ≡ pin_wave c vs p
same_pin c ws vs p same =
    let target = same_target c.header ws vs p.target same in
    λ i. wave_behind (target i) (target_wire c.nets p.target) p.inverted

pub same_pins : (c : Circuit) (ws vs : Waves) (ps : List Pin) → All (IsSameAt ws vs) ps → map (pin_wave c ws) ps ≡ map (pin_wave c vs) ps
same_pins c ws vs [] all = refl
same_pins c ws vs (p ∷ ps) all =
    let head = same_pin c ws vs p (All-head (IsSameAt ws vs) p ps all) in
    let rest = same_pins c ws vs ps (All-tail (IsSameAt ws vs) p ps all) in
    λ i. head i ∷ rest i
