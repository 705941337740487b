use Rattle.std.proofs.Common.{◌<◌, [], length, map, ap, arith}
use Rattle.std.proofs.lemmas.Result.{err_from_is_err_and}
use Rattle.scald_base.specs.declared.refusal.Place.{Place}
use Rattle.drawing_tree.specs.Tree.{assignment_of}
use Rattle.macro_expander.specs.Flat.{const_values}
use Rattle.macro_expander.proofs.ConstantValues.{consts_more, consts_failed, consts_all}
use Rattle.macro_expander.proofs.constants.constants.Goals as goal

-- what a place is where there is none
abbrev nowhere : Place
nowhere = record { line = 0; col = 0 }

pub loop-i-preserved : goal.loop-i-preserved
loop-i-preserved c =
    let cs = c.as_slice-consts.result.now in
    let places = c.as_slice-places.result.now in
    let i = c.loop-i.i in
    let inside : i < length places =
    omega (arith, c.requires, ap length c.as_slice-consts.ensures, ap length c.as_slice-places.ensures) in
    let all = const_values [] (map assignment_of cs) places in
    rw c.in_ok-push.ensures.ok
    (consts_more c.loop-i.known cs places all i c.index-consts-i.result c.loop-i-test.true
    c.index-consts-i.is inside nowhere c.in_ok-valued.valued c.in_ok-valued.ensures c.loop-i.invariant)

pub returns-in_err-valued : goal.returns-in_err-valued
returns-in_err-valued c =
    let cs = c.as_slice-consts.result.now in
    let places = c.as_slice-places.result.now in
    let i = c.loop-i.i in
    let inside : i < length places =
    omega (arith, c.requires, ap length c.as_slice-consts.ensures, ap length c.as_slice-places.ensures) in
    let all = const_values [] (map assignment_of cs) places in
    let p = err_from_is_err_and c.from_residual.result c.from_residual.ensures.1 in
    rw (p.1, p.2, ← c.as_slice-consts.ensures, ← c.as_slice-places.ensures)
    (consts_failed c.loop-i.known cs places all i c.index-consts-i.result c.loop-i-test.true
    c.index-consts-i.is inside nowhere c.in_err-valued.field-0.0 c.in_err-valued.ensures
    c.loop-i.invariant)

pub returns : goal.returns
returns c =
    let cs = c.as_slice-consts.result.now in
    let places = c.as_slice-places.result.now in
    let all = const_values [] (map assignment_of cs) places in
    rw (← c.as_slice-consts.ensures, ← c.as_slice-places.ensures)
    (consts_all c.loop-i.known cs places all c.loop-i.i c.loop-i-test.false c.loop-i.invariant)
