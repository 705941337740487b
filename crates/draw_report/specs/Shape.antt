-- The shape of a run of one value, as the data of a path: a level at 200 or 40, rails at both, a
-- box with its hatch, and a ramp over the run. A single slot that may change is one crossing.
use Rattle.std.specs.Prelude.{List, [], ◌∷◌, ◌++◌, codes, if◌then◌else◌}
use Rattle.step_values.specs.declared.value.Value.{Value}
use Rattle.step_values.specs.declared.value.Value.TheVariants.{Zero, One, S, C, R, F, U}
use Rattle.draw_report.specs.declared.shape.Stroke.{Stroke}
use Rattle.draw_report.specs.Element.{Chars, Number, Word}

abbrev pub low : Stroke → List Word
low s = Chars (codes "M") ∷ Number s.x ∷ Chars (codes " 200h") ∷ Number s.width ∷ []

abbrev pub high : Stroke → List Word
high s = Chars (codes "M") ∷ Number s.x ∷ Chars (codes " 40h") ∷ Number s.width ∷ []

-- both rails, closed
abbrev pub box : Stroke → List Word
box s =
    Chars (codes "M") ∷ Number s.x ∷ Chars (codes " 40h") ∷ Number s.width
    ∷ Chars (codes "v160h-") ∷ Number s.width ∷ Chars (codes "z") ∷ []

-- from the lower rail to the upper, and from the upper to the lower
abbrev pub up : Stroke → List Word
up s =
    Chars (codes "M") ∷ Number s.x ∷ Chars (codes " 200l") ∷ Number s.width
    ∷ Chars (codes " -160") ∷ []

abbrev pub down : Stroke → List Word
down s =
    Chars (codes "M") ∷ Number s.x ∷ Chars (codes " 40l") ∷ Number s.width
    ∷ Chars (codes " 160") ∷ []

abbrev pub shape : Value → Stroke → List Word
shape Zero s = low s
shape One s = high s
shape S s = box s
shape U s = box s
shape R s = if s.is_single then up s else box s ++ up s
shape F s = if s.is_single then down s else box s ++ down s
shape C s = if s.is_single then down s ++ up s else box s

-- slots of a row, from above its rails to below them: where a wave may step
abbrev pub shade : Stroke → List Word
shade s =
    Chars (codes "M") ∷ Number s.x ∷ Chars (codes " 20h") ∷ Number s.width
    ∷ Chars (codes "v200h-") ∷ Number s.width ∷ Chars (codes "z") ∷ []

-- and where a checker watches, or what it sees offends
abbrev pub area : Stroke → List Word
area s =
    Chars (codes "M") ∷ Number s.x ∷ Chars (codes " 0h") ∷ Number s.width
    ∷ Chars (codes "v240h-") ∷ Number s.width ∷ Chars (codes "z") ∷ []
