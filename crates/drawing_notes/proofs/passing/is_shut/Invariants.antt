use Rattle.std.proofs.Common.{◌≡◌, ◌-◌, false}
use Rattle.std.specs.List.{list_any, range_with_len}
use Rattle.element_kinds.specs.Kinds.{selects_of}
use Rattle.fixpoint_engine.specs.Waves.{waves_of}
use Rattle.drawing_notes.specs.Passing.{shuts}
use Rattle.drawing_notes.proofs.passing.is_shut.Given as goal

abbrev pub invariant-loop-select : goal.invariant-loop-select
invariant-loop-select g l =
    list_any (shuts (waves_of l.waves) l.instance (l.place - selects_of l.instance.kind)) (range_with_len 0 l.select) ≡ false
