-- What a key makes is what its instance makes.
use Rattle.std.proofs.Common.{◌≡◌, ℕ, List, [], ◌∷◌, length, map, refl, sym, ap, ◌∙◌}
use Rattle.std.specs.Prelude.{zip}
use Rattle.std.specs.List.{position}
use Rattle.std.proofs.lemmas.List.{length-map}
use Rattle.step_values.specs.declared.value.Value.{Value}
use Rattle.step_values.specs.Cell.{values}
use Rattle.skew_algebra.specs.Wave.{Wave, normal}
use Rattle.flat_circuit.specs.declared.instance.Instance.{Instance}
use Rattle.flat_circuit.specs.declared.instance.Pin.{Pin}
use Rattle.flat_circuit.specs.Circuit.{Circuit}
use Rattle.fixpoint_engine.specs.Table.{wave_at, waves_at}
use Rattle.fixpoint_engine.specs.Evaluation.{value_of}
use Rattle.fixpoint_engine.specs.Waves.{Waves, FitWaves, marked_pin}
use Rattle.fixpoint_engine.proofs.Marks.{position_marks}
use Rattle.fixpoint_engine.specs.declared.key.KeyPin.{KeyPin}
use Rattle.fixpoint_engine.specs.declared.key.Key.{Key}
use Rattle.fixpoint_engine.specs.Key.{IsKeyOf, key_makes, key_reads, shown_by}
use Rattle.fixpoint_engine.specs.Value.{made_by, turned_wave, instance_wave}

-- the pins of a key show what each of them does
shows_all : (table : List (Wave Value)) (ps : List KeyPin) →
    map (λ (x : KeyPin × Wave Value). shown_by x.0 x.1) (zip ps (waves_at table (map (λ (p : KeyPin). p.wave) ps)))
    ≡ map (λ (p : KeyPin). shown_by p (wave_at table p.wave)) ps
shows_all table [] = refl
shows_all table (p ∷ ps) = ap (λ rest. shown_by p (wave_at table p.wave) ∷ rest) (shows_all table ps)

pub made_by_key : (c : Circuit) (table : List (Wave Value)) (ws : Waves) (j : Instance) (k : Key) → IsKeyOf c table ws j k →
    value_of key_reads key_makes table k ≡ instance_wave c ws j
unfolding instance_wave
made_by_key c table ws j k is =
    let shown = shows_all table k.pins ∙ is.shows in
    let marked : position (λ (p : KeyPin). p.hold) k.pins ≡ marked_pin j =
    position_marks (λ (p : KeyPin). p.hold) (λ (p : Pin). p.hold) k.pins j.pins is.marks in
    λ i. normal values (turned_wave (is.inverted i) (made_by (is.kind i) (shown i) (marked i) (is.delay i) (is.split i)))

-- one number for each net, if there is one wave
pub each_number : (c : Circuit) (table : List (Wave Value)) (ns : List ℕ) → FitWaves c (waves_at table ns) → length ns ≡ length c.nets
each_number c table ns fit = sym (length-map ns (wave_at table)) ∙ fit.each_net
