use Rattle.std.proofs.Common.{◌∙◌, true, not, ap}
use Rattle.step_values.specs.Cell.{values}
use Rattle.step_values.specs.declared.value.Value.{Value}
use Rattle.skew_algebra.specs.Wave.{Wave, is_steady}
use Rattle.fixpoint_engine.specs.Waves.{waves_of}
use Rattle.drawing_notes.proofs.Marking.{not_looped}
use Rattle.drawing_notes.proofs.held.is_passable.Goals as goal

pub returns-then-is_some : goal.returns-then-is_some
returns-then-is_some g c =
    (not_looped c.args.c.now c.args.parts.now (waves_of c.args.waves.now) c.args.net c.part_at.result c.is_some.result true c.part_at.ensures c.is_some.ensures
    c.requires.exists).0 c.if-is_some.true

pub returns : goal.returns
returns g c =
    (not_looped c.args.c.now c.args.parts.now (waves_of c.args.waves.now) c.args.net c.part_at.result c.is_some.result (not c.is_steady.result) c.part_at.ensures
    c.is_some.ensures c.requires.exists).1 c.if-is_some.false
    (ap not (c.is_steady.ensures ∙ ap (λ (w : Wave Value). is_steady values w.cells) c.at.ensures))
