-- The test for equal waves.
use Rattle.std.proofs.Common.{◌≡◌, true, refl}
use Rattle.step_values.specs.declared.value.Value.{Value}
use Rattle.skew_algebra.specs.Wave.{Wave}
use Rattle.fixpoint_engine.specs.Same.{same_wave, same_wave_decides}

pub same_wave_is : (w v : Wave Value) → same_wave w v ≡ true → w ≡ v
same_wave_is w v = (same_wave_decides w v).0

pub same_wave_self : (w : Wave Value) → same_wave w w ≡ true
same_wave_self w = (same_wave_decides w w).1 refl
