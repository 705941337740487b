use Rattle.std.proofs.Common.{◌≡◌, ◌∷◌, [], true, cond, ap, sym, subst, ◌∙◌}
use Rattle.std.proofs.lemmas.Result.{on_ok_weaker}
use Rattle.drawing_omissions.specs.Lines.{Adds}
use Rattle.drawing_omissions.specs.Spread.{has_other_bits, spread_line}
use Rattle.drawing_omissions.proofs.spread_notes.add_spread_on.Goals as goal

pub returns : goal.returns
returns c =
    let s = c.args.spread.now in
    let has : has_other_bits c.args.c.now s.name ≡ true =
    sym (c.requires s.name) ∙ sym (rw c.as_slice.ensures at c.contains.ensures) ∙ c.if-not-contains.false in
    on_ok_weaker c.add_note.result (λ adds. subst (Adds c.args.notes.now c.add_note.new.notes)
    (sym (ap (λ b. cond b (spread_line s ∷ []) []) has)) adds) c.add_note.ensures
