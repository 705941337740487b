use Rattle.std.specs.Prelude.{codes, decimal, if◌then◌else◌}
use Rattle.std.proofs.Common.{◌∙◌, ◌∷◌, ◌++◌, [], Bool, List, ℕ, ap, length}
use Rattle.std.proofs.lemmas.Result.{on_ok_weaker}
use Rattle.listing.specs.Text.{line}
use Rattle.fault_decider.specs.Lines.{joined, leaf_text}
use Rattle.fault_decider.proofs.Numbers.{ended_text, texts_added}
use Rattle.fault_decider.proofs.leaves.add_refuted.Goals as goal

pub returns-then-are_told : goal.returns-then-are_told
returns-then-are_told c =
    let leaves = c.args.leaves.now in
    let one : List ℕ = joined (codes ", ") (leaf_text c.args.c.now) leaves in
    let other : List (List ℕ) = decimal (length leaves) ∷ codes " NARROWINGS" ∷ [] in
    let head : List (List ℕ) → List ℕ =
    λ texts. line (codes "REFUTED FROM " ∷ decimal c.args.from ∷ codes " BY " ∷ texts) in
    on_ok_weaker c.push.result
    (λ added.
    texts_added (codes "REFUTED FROM " ∷ decimal c.args.from ∷ codes " BY " ∷ []) (one ∷ []) c.args.out.now c.add_pieces.new.out c.push.new.self
    c.in_ok-add_pieces.ensures.ok
    (ended_text c.add_pieces.new.out c.add_told.new.out c.push.new.self one c.in_ok-add_told.ensures added)
    ∙ ap (λ (t : Bool). c.args.out.now ++ head (if t then one ∷ [] else other)) c.if-are_told.ensures)
    c.push.ensures.ok

pub returns : goal.returns
returns c =
    let leaves = c.args.leaves.now in
    let one : List ℕ = joined (codes ", ") (leaf_text c.args.c.now) leaves in
    let other : List (List ℕ) = decimal (length leaves) ∷ codes " NARROWINGS" ∷ [] in
    let head : List (List ℕ) → List ℕ =
    λ texts. line (codes "REFUTED FROM " ∷ decimal c.args.from ∷ codes " BY " ∷ texts) in
    on_ok_weaker c.add_line.result
    (λ added.
    texts_added (codes "REFUTED FROM " ∷ decimal c.args.from ∷ codes " BY " ∷ []) other c.args.out.now c.add_pieces.new.out c.add_line.new.out
    c.in_ok-add_pieces.ensures.ok added
    ∙ ap (λ (t : Bool). c.args.out.now ++ head (if t then one ∷ [] else other)) c.if-are_told.ensures)
    c.add_line.ensures.ok
