use Rattle.std.proofs.Common.{◌≡◌, ◌∙◌, ◌++◌, ap, map}
use Rattle.std.proofs.lemmas.Result.{on_ok_weaker}
use Rattle.scald_base.specs.Time.{Bounds}
use Rattle.listing.specs.Piece.{piece_text}
use Rattle.fault_decider.specs.Choices.{bound_line}
use Rattle.fault_decider.proofs.Numbers.{bound_added}
use Rattle.fault_decider.proofs.choices.add_bound.Goals as goal

pub returns : goal.returns
returns c =
    let inside : Bounds = record { min = c.bounds.inside.min; max = c.bounds.inside.max } in
    let view = c.bounds.view_is in
    let same : inside ≡ c.args.bounds = cc in
    on_ok_weaker c.add_line.result
    (λ added.
    bound_added c.args.front.now c.args.number c.bounds.inside.min c.bounds.inside.max c.from.result
    c.from-2.result c.from-3.result c.args.out.now c.add_pieces.new.out c.add_line.new.out c.from.ensures
    c.from-2.ensures c.from-3.ensures c.if-bounds.false c.in_ok-add_pieces.ensures.ok added
    ∙ ap (λ (b : Bounds). c.args.out.now ++ bound_line (map piece_text c.args.front.now) c.args.number b) same)
    c.add_line.ensures.ok
