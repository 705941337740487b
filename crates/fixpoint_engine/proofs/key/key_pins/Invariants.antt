use Rattle.std.proofs.Common.{◌≡◌, List, map, take}
use Rattle.step_values.specs.declared.value.Value.{Value}
use Rattle.skew_algebra.specs.Wave.{Wave}
use Rattle.fixpoint_engine.specs.Table.{AreKnown, wave_at, waves_at}
use Rattle.fixpoint_engine.specs.Waves.{pin_wave, waves_of}
use Rattle.fixpoint_engine.specs.Key.{AreConstants, shown_by}
use Rattle.fixpoint_engine.proofs.key.key_pins.Given as goal

abbrev pub invariant-loop-pin : goal.invariant-loop-pin
invariant-loop-pin l = record {
  marks : map (λ p. p.hold) l.keys ≡ map (λ p. p.hold) (take l.pin-index l.pins);
  known : (table : List (Wave Value)) → AreConstants l.c.header table l.constants → AreKnown table l.numbers →
      AreKnown table (map (λ p. p.wave) l.keys);
  shows : (table : List (Wave Value)) → AreConstants l.c.header table l.constants →
      map (λ p. shown_by p (wave_at table p.wave)) l.keys ≡ map (pin_wave l.c (waves_of (waves_at table l.numbers))) (take l.pin-index l.pins);
}
