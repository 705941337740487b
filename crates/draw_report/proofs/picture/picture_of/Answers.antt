use Rattle.std.proofs.Common.{◌≡◌, ℕ, List, [], ◌++◌, Result, ap, ◌∙◌}
use Rattle.std.specs.Prelude.{IfOk, false}
use Rattle.draw_report.specs.declared.paper.Paper.{Paper}
use Rattle.draw_report.specs.Paper.{Adds}
use Rattle.draw_report.specs.Picture.{Sketch, picture, sketched}
use Rattle.draw_report.specs.Xml.{IsDocument}
use Rattle.draw_report.proofs.Texts.{IfOk-both}
use Rattle.draw_report.proofs.Whole.{picture_document}
use Rattle.draw_report.proofs.picture.picture_of.Goals as goal

document_done : {E : Type 0} (result : Result (List ℕ) E) (s : Sketch) (empty full : Paper) →
    empty.bytes ≡ [] → Adds empty full (picture s) →
    IfOk result (λ bytes. full.failed ≡ false) → IfOk result (λ bytes. bytes ≡ full.bytes) →
    IfOk result IsDocument
document_done result s empty full none put fine done =
    IfOk-both result fine done (λ bytes ok same.
    picture_document s bytes
    (same ∙ (put ok).1 ∙ ap (λ (l : List ℕ). l ++ picture s) none))

pub returns-clause-document : goal.returns-clause-document
returns-clause-document g c =
    document_done c.done.result (sketched c.args.sketch.now c.args.waves.now) c.new-out.result
    c.put_picture.new.out c.new-out.ensures.bytes c.put_picture.ensures c.done.ensures.failed
    c.done.ensures.bytes
