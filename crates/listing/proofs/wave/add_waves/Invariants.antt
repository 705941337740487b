use Rattle.std.proofs.Common.{◌≡◌, ◌++◌, take}
use Rattle.std.specs.List.{flat_map}
use Rattle.fixpoint_engine.specs.Waves.{waves_of}
use Rattle.listing.specs.Wave.{wave_line}
use Rattle.listing.proofs.wave.add_waves.Given as goal

abbrev pub invariant-loop-place : goal.invariant-loop-place
invariant-loop-place g l =
    l.out ≡ l.fn.out ++ flat_map (wave_line l.c (waves_of l.waves)) (take l.place l.c.order)
