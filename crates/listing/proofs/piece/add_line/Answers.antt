use Rattle.std.proofs.Common.{◌≡◌, ℕ, List, ◌++◌, [], ◌∷◌, subst, sym}
use Rattle.std.specs.Prelude.{OnErr, OnOk}
use Rattle.std.specs.List.{flat_map}
use Rattle.scald_base.proofs.Device.{at_err}
use Rattle.listing.specs.Piece.{piece_text}
use Rattle.listing.specs.Text.{HasPart}
use Rattle.listing.proofs.Parts.{part_first, ok_second, err_none, line_map}
use Rattle.listing.proofs.piece.add_line.Goals as goal

pub returns-in_err-add_pieces-clause-err : goal.returns-in_err-add_pieces-clause-err
returns-in_err-add_pieces-clause-err c =
    let pieces = c.args.pieces.now in
    at_err c.from_residual.result
    (subst (λ (text : List ℕ). HasPart c.args.out.now c.add_pieces.new.out text) (sym (line_map piece_text pieces))
    (part_first c.args.out.now c.add_pieces.new.out (flat_map piece_text pieces) (10 ∷ []) c.in_err-add_pieces.ensures.err))

pub returns-clause-ok : goal.returns-clause-ok
returns-clause-ok c =
    let pieces = c.args.pieces.now in
    subst (λ (text : List ℕ). OnOk c.push.result (c.push.new.self ≡ c.args.out.now ++ text)) (sym (line_map piece_text pieces))
    (ok_second c.push.result c.args.out.now c.add_pieces.new.out c.push.new.self (flat_map piece_text pieces) (10 ∷ []) c.in_ok-add_pieces.ensures.ok c.push.ensures.ok)

pub returns-clause-err : goal.returns-clause-err
returns-clause-err c =
    let pieces = c.args.pieces.now in
    subst (λ (text : List ℕ). OnErr c.push.result (HasPart c.args.out.now c.push.new.self text)) (sym (line_map piece_text pieces))
    (err_none c.push.result c.args.out.now c.add_pieces.new.out c.push.new.self (flat_map piece_text pieces) (10 ∷ []) c.in_ok-add_pieces.ensures.ok c.push.ensures.err)
