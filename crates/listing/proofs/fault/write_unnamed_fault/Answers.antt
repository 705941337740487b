use Rattle.std.proofs.Common.{◌≡◌, List, ℕ, ◌++◌, ◌∷◌, [], codes, subst}
use Rattle.std.specs.List.{concat}
use Rattle.scald_base.proofs.Device.{at_err}
use Rattle.listing.specs.Fault.{fault_kind, fault_place}
use Rattle.listing.specs.Piece.{piece_text}
use Rattle.listing.specs.Text.{HasPart}
use Rattle.listing.proofs.Parts.{part_first, ok_second, err_second}
use Rattle.listing.proofs.fault.write_unnamed_fault.Goals as goal

-- the kind
pub returns-in_err-add_pieces-clause-err : goal.returns-in_err-add_pieces-clause-err
returns-in_err-add_pieces-clause-err c =
    let d = c.args.c.now in
    let f = c.args.fault.now in
    let named : (piece_text c.fault_piece.result ∷ codes " " ∷ [])
    ≡ (fault_kind f ∷ codes " " ∷ []) = cc in
    at_err c.from_residual.result
    (part_first c.args.out.now c.add_pieces.new.out (concat (fault_kind f ∷ codes " " ∷ [])) (fault_place d f)
    (subst (λ (texts : List (List ℕ)). HasPart c.args.out.now c.add_pieces.new.out (concat texts)) named c.in_err-add_pieces.ensures.err))

pub returns-clause-ok : goal.returns-clause-ok
returns-clause-ok c =
    let d = c.args.c.now in
    let f = c.args.fault.now in
    let named : (piece_text c.fault_piece.result ∷ codes " " ∷ [])
    ≡ (fault_kind f ∷ codes " " ∷ []) = cc in
    ok_second c.add_place.result c.args.out.now c.add_pieces.new.out c.add_place.new.out
    (concat (fault_kind f ∷ codes " " ∷ [])) (fault_place d f)
    (subst (λ (texts : List (List ℕ)). c.add_pieces.new.out ≡ c.args.out.now ++ concat texts) named c.in_ok-add_pieces.ensures.ok) c.add_place.ensures.ok

pub returns-clause-err : goal.returns-clause-err
returns-clause-err c =
    let d = c.args.c.now in
    let f = c.args.fault.now in
    let named : (piece_text c.fault_piece.result ∷ codes " " ∷ [])
    ≡ (fault_kind f ∷ codes " " ∷ []) = cc in
    err_second c.add_place.result c.args.out.now c.add_pieces.new.out c.add_place.new.out
    (concat (fault_kind f ∷ codes " " ∷ [])) (fault_place d f)
    (subst (λ (texts : List (List ℕ)). c.add_pieces.new.out ≡ c.args.out.now ++ concat texts) named c.in_ok-add_pieces.ensures.ok) c.add_place.ensures.err
