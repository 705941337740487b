use Rattle.std.proofs.Common.{◌≡◌, ℕ, true, false, List, [], ◌∷◌, codes, sym, ap, subst, ◌∙◌}
use Rattle.std.proofs.lemmas.Result.{on_ok_weaker}
use Rattle.listing.specs.Text.{line}
use Rattle.drawing_omissions.specs.Lines.{Adds}
use Rattle.drawing_omissions.specs.Loose.{name_of}
use Rattle.drawing_omissions.specs.Part.{is_among, is_driven, part_line}
use Rattle.drawing_omissions.proofs.Adding.{adds_none}
use Rattle.drawing_omissions.proofs.Driving.{part_none, part_noted}
use Rattle.drawing_omissions.proofs.part.add_part_at.Goals as goal

pub returns-then-not-contains : goal.returns-then-not-contains
returns-then-not-contains c =
    let circuit = c.args.c.now in
    let is : is_driven circuit (name_of circuit c.args.net) ≡ false =
    sym (c.requires (name_of circuit c.args.net)) ∙ ap (is_among c.args.names.now.keys) (sym c.name_of.ensures) ∙ sym c.contains.ensures ∙ c.if-not-contains.true in
    subst (Adds c.args.notes.now c.args.notes.now) (sym (part_none circuit c.args.net is)) (adds_none c.args.notes.now)

pub returns : goal.returns
unfolding part_line
returns c =
    let circuit = c.args.c.now in
    let is : is_driven circuit (name_of circuit c.args.net) ≡ true =
    sym (c.requires (name_of circuit c.args.net)) ∙ ap (is_among c.args.names.now.keys) (sym c.name_of.ensures) ∙ sym c.contains.ensures ∙ c.if-not-contains.false in
    on_ok_weaker c.add.result (λ adds. subst (Adds c.args.notes.now c.add.new.self)
    (ap (λ (t : List ℕ). line (codes "NOTE PART " ∷ t ∷ []) ∷ []) c.net_piece.ensures ∙ sym (part_noted circuit c.args.net is)) adds) c.add.ensures
