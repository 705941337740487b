use Rattle.std.proofs.Common.{List, [], Some}
use Rattle.std.proofs.lemmas.Result.{IfOk-weaker}
use Rattle.step_values.specs.declared.value.Value.{Value}
use Rattle.skew_algebra.specs.Wave.{Wave}
use Rattle.draw_report.specs.Picture.{Sketch}
use Rattle.draw_report.proofs.pictures.blank.Goals as goal

-- a slot of these waves
abbrev slot_of : List (Wave Value) → Sketch
slot_of ws =
    record {
      view = record { first = 0; count = 1; period = 1; unit = 1; moved = 0 };
      pitch = 0;
      heading = [];
      labels = [];
      waves = ws;
      marks = [];
      texts = [];
      caption = [];
      page = Some 0;
    }

pub returns : goal.returns
returns g c =
    IfOk-weaker c.picture_of.result _ _
    (λ bytes is. record { sketch = slot_of c.as_slice.result.now; is = is })
    c.picture_of.ensures.is
