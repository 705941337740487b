use Rattle.std.proofs.Common.{◌≡◌, ◌∙◌, true, false, sym}
use Rattle.fixpoint_engine.specs.Settled.{marked_in}
use Rattle.fixpoint_engine.specs.Waves.{waves_of}
use Rattle.drawing_notes.specs.Unmarked.{clock_changes, is_bare}
use Rattle.drawing_notes.proofs.Firsts.{first_where_open, none_where_still}
use Rattle.drawing_notes.proofs.case_gates.first_pin.Goals as goal

pub returns-then-not-clock_changes : goal.returns-then-not-clock_changes
returns-then-not-clock_changes g c =
    let clocks = marked_in c.args.clocks.now in
    let ws = waves_of c.args.waves.now in
    let j = c.args.instance.now in
    let still : clock_changes clocks ws j ≡ false =
    sym (rw c.as_slice-pins.ensures at c.clock_changes.ensures) ∙ c.if-not-clock_changes.true in
    sym (none_where_still clocks (marked_in c.args.timed.now) ws j still)

pub returns : goal.returns
returns g c =
    let clocks = marked_in c.args.clocks.now in
    let timed = marked_in c.args.timed.now in
    let ws = waves_of c.args.waves.now in
    let j = c.args.instance.now in
    let moves : clock_changes clocks ws j ≡ true =
    sym (rw c.as_slice-pins.ensures at c.clock_changes.ensures) ∙ c.if-not-clock_changes.false in
    let bare : is_bare timed j ≡ true = sym c.is_bare.ensures ∙ c.if-not-is_bare.false in
    rw c.as_slice-pins.ensures at c.first_other.ensures
    ∙ sym (first_where_open clocks timed ws j moves bare)
