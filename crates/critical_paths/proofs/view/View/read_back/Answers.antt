use Rattle.std.proofs.Common.{◌∙◌, arith}
use Rattle.std.proofs.lemmas.Int.{ints}
use Rattle.scald_base.specs.Time.{period}
use Rattle.fixpoint_engine.specs.Waves.{waves_of}
use Rattle.critical_paths.proofs.Origins.{ends_are, fits_at, folds_are}
use Rattle.critical_paths.proofs.view.View.read_back.Goals as goal

pub returns-in_ok-found-in-Folded : goal.returns-in_ok-found-in-Folded
returns-in_ok-found-in-Folded g c =
    let circuit = c.args.self.now.circuit.now in
    let slot = c.requires.slot in
    c.folded.ensures (period circuit.header)
    ∙ folds_are circuit (waves_of c.args.self.now.waves.now) c.args.stop c.args.element.now _ _
    c.in_ok-found-in-Folded.ensures slot
    c.in-Folded.is (omega (arith, ints, c.from-tick.ensures, c.from-tick.type_inv))

pub returns-in_ok-ended-in-Unfolded : goal.returns-in_ok-ended-in-Unfolded
returns-in_ok-ended-in-Unfolded g c =
    let circuit = c.args.self.now.circuit.now in
    let slot = c.requires.slot in
    ends_are circuit (waves_of c.args.self.now.waves.now) c.args.stop c.args.element.now _ _ _
    c.in_ok-ended-in-Unfolded.ensures
    (fits_at circuit c.requires.sees.circuit c.args.number c.args.element.now c.requires.is).split
    slot c.in-Unfolded.is c.turned.ensures
    (omega (arith, ints, c.from-tick.ensures, c.from-tick.type_inv))
