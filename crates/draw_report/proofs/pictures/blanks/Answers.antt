use Rattle.draw_report.specs.Drawn.{IsPicture}
use Rattle.draw_report.proofs.Filling.{all_more}
use Rattle.draw_report.proofs.pictures.blanks.Goals as goal

pub loop-place-preserved : goal.loop-place-preserved
loop-place-preserved g c =
    all_more IsPicture c.loop-place.blanks c.push.new.self c.in_ok-picture.picture
    c.loop-place.invariant c.in_ok-picture.ensures c.in_ok-push.ensures.ok
