use Rattle.std.proofs.Common.{◌≡◌, map, take}
use Rattle.fixpoint_engine.specs.Waves.{pin_wave, waves_of}
use Rattle.fixpoint_engine.proofs.pins.waves_at_pins.Given as goal

abbrev pub invariant-loop-pin : goal.invariant-loop-pin
invariant-loop-pin g l = record {
  waves : map (λ p. p.wave) l.shown
      ≡ map (pin_wave l.c (waves_of l.waves)) (take l.pin-index l.pins);
  marks : map (λ p. p.hold) l.shown ≡ map (λ p. p.hold) (take l.pin-index l.pins);
}
