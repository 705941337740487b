use Rattle.std.proofs.Common.{◌≡◌, ◌||◌, Bool, true, false, refl, sym, ap, ◌∙◌}
use Rattle.std.specs.List.{list_any}
use Rattle.drawing_notes.specs.declared.unchecked.Sampling.{Sampling}
use Rattle.drawing_notes.specs.Unchecked.{across, is_same, turned}
use Rattle.drawing_notes.proofs.unchecked.is_closed.Goals as goal

last_of : (a b d : Bool) → a ≡ false → b ≡ false → d ≡ (a || (b || d))
last_of true b d one two = absurd cc
last_of false true d one two = absurd cc
last_of false false d one two = refl

pub returns : goal.returns
returns c =
    let among : Sampling → Bool = λ t. list_any (is_same t) c.args.seen.now.keys in
    let s = c.args.sampling in
    let one : among (turned s) ≡ false = sym (c.contains.ensures ∙ ap among c.turned-closing.ensures) ∙ c.if-contains.false in
    let two : among (across s) ≡ false = sym (c.contains-2.ensures ∙ ap among c.across.ensures) ∙ c.if-contains-2.false in
    c.contains-3.ensures ∙ ap among (c.across-2.ensures ∙ ap across c.turned-closing.ensures)
    ∙ last_of (among (turned s)) (among (across s)) (among (across (turned s))) one two
