use Rattle.std.proofs.Common.{◌≡◌, ◌+◌, length, arith, ap, sym, ◌∙◌}
use Rattle.std.specs.List.{list_any, range_with_len}
use Rattle.draw_report.specs.Below.{is_below}
use Rattle.draw_report.proofs.Ranges.{none_next, some_passes}
use Rattle.draw_report.proofs.below.some_below.Goals as goal

pub returns-then-is : goal.returns-then-is
returns-then-is c =
    sym (some_passes (is_below c.args.c.now c.args.path.now) 0 (length c.args.c.now.nets)
    c.loop-place.place (omega arith) (omega arith) (sym c.in_ok-is.ensures ∙ c.if-is.true))

pub loop-place-preserved : goal.loop-place-preserved
loop-place-preserved c =
    none_next (is_below c.args.c.now c.args.path.now) 0 c.loop-place.place (c.loop-place.place + 1)
    c.loop-place.place (omega arith) (omega arith) c.loop-place.invariant
    (sym c.in_ok-is.ensures ∙ c.if-is.false)

pub returns : goal.returns
returns c =
    let all : length c.args.c.now.nets ≡ c.loop-place.place = omega arith in
    sym (ap (λ n. list_any (is_below c.args.c.now c.args.path.now) (range_with_len 0 n)) all
    ∙ c.loop-place.invariant)
