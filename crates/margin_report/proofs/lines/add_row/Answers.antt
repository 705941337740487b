use Rattle.std.proofs.Common.{◌≡◌, ℕ, List, [], ◌∷◌, ◌++◌, codes, subst}
use Rattle.std.specs.List.{concat}
use Rattle.listing.specs.Names.{instance_text}
use Rattle.listing.specs.Piece.{piece_text}
use Rattle.listing.proofs.Parts.{three_ok}
use Rattle.margin_report.specs.Report.{margin_line, margin_text, parameter_text}
use Rattle.margin_report.proofs.Pieces.{six_texts}
use Rattle.margin_report.proofs.lines.add_row.Goals as goal

pub returns : goal.returns
unfolding margin_line
returns c =
    let d = c.args.c.now in
    let row = c.args.row in
    let named : (codes "MARGIN " ∷ piece_text c.instance_piece.result ∷ codes " " ∷ piece_text c.parameter_piece.result ∷ codes " " ∷ [])
    ≡ (codes "MARGIN " ∷ instance_text d row.instance ∷ codes " " ∷ parameter_text row.parameter ∷ codes " " ∷ []) = cc in
    three_ok c.push.result c.args.out.now c.add_pieces.new.out c.add_margin.new.out c.push.new.self
    (concat (codes "MARGIN " ∷ instance_text d row.instance ∷ codes " " ∷ parameter_text row.parameter ∷ codes " " ∷ []))
    (margin_text d row.margin) (10 ∷ []) (margin_line d row)
    (six_texts (codes "MARGIN ") (instance_text d row.instance) (codes " ") (parameter_text row.parameter) (codes " ") (margin_text d row.margin) (10 ∷ []))
    (subst (λ (texts : List (List ℕ)). c.add_pieces.new.out ≡ c.args.out.now ++ concat texts) named c.in_ok-add_pieces.ensures.ok)
    c.in_ok-add_margin.ensures c.push.ensures.ok
