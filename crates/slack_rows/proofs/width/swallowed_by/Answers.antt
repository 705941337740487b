use Rattle.std.proofs.Common.{length, sym, ap, ◌∙◌}
use Rattle.fixpoint_engine.specs.Waves.{waves_of}
use Rattle.slack_rows.specs.Pulse.{begins_by, begins_if, left_by, left_if}
use Rattle.slack_rows.proofs.Breadths.{may_split_of, splits, splits_none}
use Rattle.slack_rows.proofs.width.swallowed_by.Goals as goal

pub narrowest_made-requires-clause-gate : goal.narrowest_made-requires-clause-gate
narrowest_made-requires-clause-gate g c =
    let d = c.args.view.now.circuit.now in
    may_split_of d.header (length d.nets) c.args.element.now c.in-Some.split c.requires.fits c.in-Some.is

pub returns-in-None-clause-left : goal.returns-in-None-clause-left
returns-in-None-clause-left g c =
    let d = c.args.view.now.circuit.now in
    let j = c.args.element.now in
    sym (ap (left_by d (waves_of c.args.view.now.waves.now) j c.args.level) (splits_none j.kind j.split c.in-None.is))

pub returns-in-None-2-clause-left : goal.returns-in-None-2-clause-left
returns-in-None-2-clause-left g c =
    let d = c.args.view.now.circuit.now in
    let ws = waves_of c.args.view.now.waves.now in
    let j = c.args.element.now in
    let split = c.in-Some.split in
    let level = c.args.level in
    let may = may_split_of d.header (length d.nets) j split c.requires.fits c.in-Some.is in
    let two = splits j.kind j.split split c.in-Some.is may in
    sym (ap (left_by d ws j level) two ∙ ap (left_if split level) (sym c.in_ok-narrowest_made-in-Some.ensures ∙ c.in-None-2.is))

pub returns-in-Some-2-clause-left : goal.returns-in-Some-2-clause-left
returns-in-Some-2-clause-left g c =
    let d = c.args.view.now.circuit.now in
    let ws = waves_of c.args.view.now.waves.now in
    let j = c.args.element.now in
    let split = c.in-Some.split in
    let level = c.args.level in
    let may = may_split_of d.header (length d.nets) j split c.requires.fits c.in-Some.is in
    let two = splits j.kind j.split split c.in-Some.is may in
    c.nothing_left.ensures.left ∙ ap (left_if split level) (sym c.in-Some-2.is ∙ c.in_ok-narrowest_made-in-Some.ensures)
    ∙ sym (ap (left_by d ws j level) two)

pub returns-in-None-clause-begin : goal.returns-in-None-clause-begin
returns-in-None-clause-begin g c =
    let d = c.args.view.now.circuit.now in
    let j = c.args.element.now in
    sym (ap (begins_by d (waves_of c.args.view.now.waves.now) j c.args.level) (splits_none j.kind j.split c.in-None.is))

pub returns-in-None-2-clause-begin : goal.returns-in-None-2-clause-begin
returns-in-None-2-clause-begin g c =
    let d = c.args.view.now.circuit.now in
    let ws = waves_of c.args.view.now.waves.now in
    let j = c.args.element.now in
    let split = c.in-Some.split in
    let level = c.args.level in
    let may = may_split_of d.header (length d.nets) j split c.requires.fits c.in-Some.is in
    let two = splits j.kind j.split split c.in-Some.is may in
    sym (ap (begins_by d ws j level) two ∙ ap (begins_if split level) (sym c.in_ok-narrowest_made-in-Some.ensures ∙ c.in-None-2.is))

pub returns-in-Some-2-clause-begin : goal.returns-in-Some-2-clause-begin
returns-in-Some-2-clause-begin g c =
    let d = c.args.view.now.circuit.now in
    let ws = waves_of c.args.view.now.waves.now in
    let j = c.args.element.now in
    let split = c.in-Some.split in
    let level = c.args.level in
    let may = may_split_of d.header (length d.nets) j split c.requires.fits c.in-Some.is in
    let two = splits j.kind j.split split c.in-Some.is may in
    c.nothing_left.ensures.begin ∙ ap (begins_if split level) (sym c.in-Some-2.is ∙ c.in_ok-narrowest_made-in-Some.ensures)
    ∙ sym (ap (begins_by d ws j level) two)
