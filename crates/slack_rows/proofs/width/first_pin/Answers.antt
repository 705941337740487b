use Rattle.std.proofs.Common.{◌≡◌, length, sym, ap, ◌∙◌, arith}
use Rattle.std.specs.Prelude.{slice_get}
use Rattle.std.proofs.lemmas.Option.{slice_get-get_or}
use Rattle.slack_rows.proofs.width.first_pin.Goals as goal

pub returns : goal.returns
returns c =
    let long : length c.as_slice.result.now ≡ length c.args.checker.now.pins = ap length c.as_slice.ensures in
    let some = c.requires in
    ap (λ pins. slice_get pins 0) (sym c.as_slice.ensures)
    ∙ slice_get-get_or c.as_slice.result.now 0 _ (omega (arith, long, some))
