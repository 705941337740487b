use Rattle.std.proofs.Common.{◌≡◌, ℕ, List, ◌++◌, ◌∷◌, [], map, append_assoc, ap, sym, ◌∙◌}
use Rattle.std.specs.List.{concat, flat_map}
use Rattle.std.proofs.lemmas.List.{take_all}
use Rattle.std.proofs.lemmas.List.Concat.{concat_is}
use Rattle.std.proofs.lemmas.List.Folds.{flat_map-map}
use Rattle.std.proofs.lemmas.Result.{on_ok_weaker}
use Rattle.design_gen.specs.declared.piece.Piece.{Piece}
use Rattle.design_gen.specs.Piece.{piece_text}
use Rattle.design_gen.proofs.piece.add_line.Goals as goal

pub returns : goal.returns
returns c =
    let pieces = c.args.pieces.now in
    let old = c.args.out.now in
    let texts : flat_map piece_text pieces ≡ concat (map piece_text pieces) = sym (concat_is (map piece_text pieces) ∙ flat_map-map (λ (l : List ℕ). l) piece_text pieces) in
    let before : c.loop-piece.out ≡ old ++ concat (map piece_text pieces) =
    c.loop-piece.invariant
    ∙ ap (λ (xs : List Piece). old ++ flat_map piece_text xs) (take_all c.loop-piece.piece-index pieces c.loop-piece-test.false)
    ∙ ap (λ (l : List ℕ). old ++ l) texts in
    on_ok_weaker c.push.result (λ added. added ∙ ap (λ (l : List ℕ). l ++ 10 ∷ []) before ∙ append_assoc old (concat (map piece_text pieces)) (10 ∷ [])) c.push.ensures.ok
