-- Words that begin as no reserved word does.
use Rattle.std.proofs.Common.{◌≡◌, ℕ, false, List, [], ◌∷◌, refl}
use Rattle.std.specs.Prelude.{◌==◌}
use Rattle.std.proofs.lemmas.Bool.{or_parts}
use Rattle.drawing_grammar.specs.declared.terminal.Terminal.TheVariants.{Word}
use Rattle.drawing_grammar.specs.Lexeme.{begins_reserved, word_terminal}

other_first : (b : ℕ) (bs : List ℕ) → (b == 67) ≡ false → (b == 68) ≡ false → (b == 69) ≡ false → (b == 73) ≡ false → (b == 77) ≡ false → (b == 79)
    ≡ false → (b == 80) ≡ false → (b == 83) ≡ false → (b == 84) ≡ false → (b == 87) ≡ false → (b == 90) ≡ false → word_terminal (b ∷ bs) ≡ Word
unfolding word_terminal
other_first b bs c d e i m o p s t w z = rw (c, d, e, i, m, o, p, s, t, w, z) refl

pub not_reserved : (word : List ℕ) → begins_reserved word ≡ false → word_terminal word ≡ Word
unfolding word_terminal
not_reserved [] h = refl
not_reserved (b ∷ bs) h =
    let c = or_parts (b == 67) _ h in
    let d = or_parts (b == 68) _ c.1 in
    let e = or_parts (b == 69) _ d.1 in
    let i = or_parts (b == 73) _ e.1 in
    let m = or_parts (b == 77) _ i.1 in
    let o = or_parts (b == 79) _ m.1 in
    let p = or_parts (b == 80) _ o.1 in
    let s = or_parts (b == 83) _ p.1 in
    let t = or_parts (b == 84) _ s.1 in
    let w = or_parts (b == 87) (b == 90) t.1 in
    other_first b bs c.0 d.0 e.0 i.0 m.0 o.0 p.0 s.0 t.0 w.0 w.1
