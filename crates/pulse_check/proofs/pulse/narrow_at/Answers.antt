use Rattle.std.proofs.Common.{refl, sym, ap, ◌∙◌}
use Rattle.fixpoint_engine.specs.Pins.{read}
use Rattle.fixpoint_engine.proofs.ReadSlots.{read_at}
use Rattle.pulse_check.specs.Pulse.{may_begin}
use Rattle.pulse_check.proofs.Narrow.{narrow_here, narrow_not, narrow_wide}
use Rattle.pulse_check.proofs.pulse.narrow_at.Goals as goal

pub returns-then-not-may_begin : goal.returns-then-not-may_begin
returns-then-not-may_begin g c =
    let cells = g.W.CyclicWave.cells c.args.wave.now in
    sym (narrow_not c.args.level (read cells) c.args.limit c.args.start
    (ap (may_begin c.args.level) (read_at cells c.args.start c.args.start c.at.result refl c.requires.start c.at.ensures) ∙ sym c.may_begin.ensures ∙ c.if-not-may_begin.true))

pub returns-in-None : goal.returns-in-None
returns-in-None g c =
    let cells = g.W.CyclicWave.cells c.args.wave.now in
    sym (narrow_wide c.args.level (read cells) c.args.limit c.args.start (sym c.in-None.ensures))

pub returns-in-Some : goal.returns-in-Some
returns-in-Some g c =
    let cells = g.W.CyclicWave.cells c.args.wave.now in
    sym (narrow_here c.args.level (read cells) c.args.limit c.args.start c.in-Some.width
    (ap (may_begin c.args.level) (read_at cells c.args.start c.args.start c.at.result refl c.requires.start c.at.ensures) ∙ sym c.may_begin.ensures ∙ c.if-not-may_begin.false)
    (sym c.in-Some.ensures))
