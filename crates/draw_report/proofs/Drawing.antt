-- Pictures, and pages of them.
use Rattle.std.specs.Prelude.{if◌then◌else◌, IfSome}
use Rattle.std.specs.List.{All}
use Rattle.std.proofs.Common.{◌≡◌, ◌∙◌, ℕ, Bool, true, false, List, [], ◌∷◌, map, refl, sym, subst, Option, Some, None}
use Rattle.std.proofs.lemmas.List.Elements.{All-head, All-tail}
use Rattle.flat_circuit.specs.Circuit.{Circuit}
use Rattle.fixpoint_engine.specs.Waves.{Waves}
use Rattle.draw_report.specs.declared.case.CaseHead.{CaseHead}
use Rattle.draw_report.specs.Below.{rows_below}
use Rattle.draw_report.specs.Drawn.{IsPage, IsPanel, IsPicture}
use Rattle.draw_report.specs.Page.{Page, page_text}
use Rattle.draw_report.specs.Picture.{Sketch, are_many, case_sketch, picture}
use Rattle.draw_report.specs.Row.{rows_of}
use Rattle.draw_report.proofs.Pages.{pages_are_written}

pictured_if : (many : Bool) (s : Sketch) →
    IfSome (if many then None else Some (picture s)) IsPicture
pictured_if true s = tt
pictured_if false s = record { sketch = s; is = refl }

-- so is the panel of a case
pub panel_pictured : (c : Circuit) (ws : Waves) (head : CaseHead) (under : Option (List ℕ))
    (page : Option ℕ) (drawn : Option (List ℕ)) → IsPanel c ws head under page drawn →
    IfSome drawn IsPicture
panel_pictured c ws head under page drawn (marks, is) =
    let rows = rows_below c under (rows_of c ws) in
    subst (λ (d : Option (List ℕ)). IfSome d IsPicture) (sym is)
    (pictured_if (are_many c ws rows) (case_sketch c ws rows head marks page))

-- what pictures are drawn of
sketches_of : (texts : List (List ℕ)) → All IsPicture texts →
    (sketches : List Sketch) × (texts ≡ map picture sketches)
sketches_of [] all = ([], refl)
sketches_of (text ∷ texts) all =
    let one = All-head IsPicture text texts all in
    let others = sketches_of texts (All-tail IsPicture text texts all) in
    (one.sketch ∷ others.0, λ k. one.is k ∷ others.1 k)

pub page_drawn : (title : List ℕ) (above rows below limits cases : List (List ℕ))
    (bytes : List ℕ) → All IsPicture limits → All IsPicture cases →
    bytes ≡ page_text title above rows below limits cases → IsPage bytes
page_drawn title above rows below limits cases bytes are_limits are_cases is =
    let ls = sketches_of limits are_limits in
    let cs = sketches_of cases are_cases in
    let shown : Page = record {
      title = title;
      above = above;
      rows = rows;
      below = below;
      limits = ls.0;
      cases = cs.0;
    } in
    record {
      shows = shown;
      is =
          is ∙ (λ k. page_text title above rows below (ls.1 k) (cs.1 k)) ∙ pages_are_written shown;
    }
