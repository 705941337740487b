use Rattle.std.proofs.Common.{◌≡◌, ◌++◌, List, ap, get_or, subst, take, Option}
use Rattle.std.specs.Prelude.{IfSome}
use Rattle.std.proofs.lemmas.Option.{slice_get-get_or}
use Rattle.critical_paths.specs.declared.common.Counted.{Counted}
use Rattle.critical_paths.specs.declared.common.Part.TheVariants.{Delay}
use Rattle.critical_paths.specs.Common.{is_twice, of_both}
use Rattle.critical_paths.proofs.Counting.{twice_done, twice_more}
use Rattle.critical_paths.proofs.common.of_both.Goals as goal

pub loop-place-init : goal.loop-place-init
loop-place-init c =
    ap (λ (l : List Counted). l ++ of_both c.args.own.now c.args.other.now) c.new-twice.ensures

pub loop-place-preserved : goal.loop-place-preserved
loop-place-preserved c =
    let own = c.args.own.now in
    let other = c.args.other.now in
    let place = c.loop-place.place in
    let noted = c.is_twice.result in
    let none : Counted = record { part = Delay 0; amount = 0 } in
    let at = slice_get-get_or own place none c.loop-place-test.true in
    twice_more other own place c.loop-place.twice c.add_if.new.out (of_both own other)
    (get_or own place none) noted at
    (subst (λ (o : Option Counted). IfSome o (λ x. noted ≡ is_twice (take place own) other x)) at
    c.is_twice.ensures)
    c.in_ok-add_if.ensures c.loop-place.invariant

pub returns : goal.returns
returns c =
    let past = c.loop-place-test.false in
    twice_done c.args.other.now c.args.own.now c.loop-place.place c.loop-place.twice
    (of_both c.args.own.now c.args.other.now) past c.loop-place.invariant
