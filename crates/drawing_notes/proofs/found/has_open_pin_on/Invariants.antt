use Rattle.std.proofs.Common.{◌≡◌, false, slice_get}
use Rattle.std.specs.List.{list_any, range_with_len}
use Rattle.fixpoint_engine.specs.Waves.{waves_of}
use Rattle.drawing_notes.specs.Passing.{opens_at}
use Rattle.drawing_notes.proofs.found.has_open_pin_on.Given as goal

abbrev pub invariant-loop-place : goal.invariant-loop-place
invariant-loop-place g l =
    list_any (λ place. opens_at l.held (waves_of l.waves) l.net l.instance place (slice_get l.instance.pins place)) (range_with_len 0 l.place) ≡ false
