use Rattle.std.proofs.Common.{◌≡◌, ℕ, true, cond, List, [], ◌∷◌, codes, sym, ap, subst, ◌∙◌}
use Rattle.flat_circuit.specs.Circuit.{Circuit}
use Rattle.listing.specs.Text.{line}
use Rattle.drawing_omissions.specs.Lines.{Adds}
use Rattle.drawing_notes.specs.Unread.{is_unread, unread_at, unread_line}
use Rattle.drawing_notes.proofs.unread.add_unread_at.Goals as goal

unread_told : (c : Circuit) (i : ℕ) → is_unread c i ≡ true → unread_at c i ≡ unread_line c i ∷ []
unread_told c i is = ap (λ b. cond b (unread_line c i ∷ []) []) is

pub returns-in_ok-add : goal.returns-in_ok-add
unfolding unread_line
returns-in_ok-add c =
    let is : is_unread c.args.c.now c.args.net ≡ true = sym c.is_unread.ensures ∙ c.if-is_unread.true in
    subst (Adds c.args.notes.now c.add.new.self)
    (ap (λ (t : List ℕ). line (codes "NOTE UNREAD " ∷ t ∷ []) ∷ []) c.net_piece.ensures ∙ sym (unread_told c.args.c.now c.args.net is)) c.in_ok-add.ensures
