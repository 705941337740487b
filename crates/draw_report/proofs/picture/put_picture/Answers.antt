use Rattle.std.proofs.Common.{refl}
use Rattle.draw_report.proofs.Whole.{adds_picture}
use Rattle.draw_report.proofs.picture.put_picture.Goals as goal

pub returns : goal.returns
returns g c =
    adds_picture c.args.sketch.now c.args.waves.now _ c.frame_of-frame.result c.args.out.now
    c.put_head.new.out c.put_plot.new.out c.put_tail.new.out refl c.frame_of-frame.ensures
    c.put_head.ensures c.put_plot.ensures c.put_tail.ensures
