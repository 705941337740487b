-- Intervals that are read one after another.
use Rattle.std.proofs.Common.{◌≡◌, ℕ, zero, suc, ◌+◌, ◌-◌, ◌<◌, ◌≤◌, List, [], ◌∷◌, ◌++◌, length, Option, Some, None, refl, sym, ap, ◌∙◌, append_assoc, arith, length-append}
use Rattle.std.specs.Prelude.{codes}
use Rattle.scald_base.specs.declared.assertion.Span.{Span}
use Rattle.assertion_syntax.specs.Reading.{◌>>=◌, literal_at, span_at, spans_at}
use Rattle.assertion_syntax.proofs.Parts.{span_shorter, literal_shorter}

-- what is read, after the intervals that were read before
abbrev pub behind : List Span → Option (List Span × List ℕ) → Option (List Span × List ℕ)
behind before read = read >>= λ x. Some (before ++ x.0, x.1)

-- The intervals of the text are those before, and those of the rest.
abbrev pub GoesOn : List ℕ → List Span → List ℕ → Type 0
GoesOn text before rest = (most whole : ℕ) → whole ≡ length before + most → spans_at whole text ≡ behind before (spans_at most rest)

behind_more : (before : List Span) (s : Span) (read : Option (List Span × List ℕ)) → behind before (read >>= λ more. Some (s ∷ more.0, more.1)) ≡ behind (before ++ s ∷ []) read
behind_more before s None = refl
behind_more before s (Some x) = ap (λ (l : List Span). Some (l, x.1)) (sym (append_assoc before (s ∷ []) x.0))

pub goes_on : (text : List ℕ) (before : List Span) (rest : List ℕ) (s : Span) (after more : List ℕ) → GoesOn text before rest →
    span_at rest ≡ Some (s, after) → literal_at (codes ",") after ≡ Some more → GoesOn text (before ++ s ∷ []) more
unfolding spans_at
goes_on text before rest s after more on one comma most whole e =
    on (suc most) whole (e ∙ omega (arith, length-append before (s ∷ []))) ∙ rw (one, comma) (behind_more before s (spans_at most more))

-- what is left gets shorter
pub goes_shorter : (rest : List ℕ) (s : Span) (after more : List ℕ) → span_at rest ≡ Some (s, after) → literal_at (codes ",") after ≡ Some more → length more < length rest
goes_shorter rest s after more one comma =
    let shorter : length after < length rest = span_shorter rest (s, after) one in
    let no_longer : length more ≤ length after = literal_shorter (codes ",") after more comma in
    omega arith

-- the last interval
pub goes_to_end : (text : List ℕ) (before : List Span) (rest : List ℕ) (s : Span) (after : List ℕ) → GoesOn text before rest →
    length before + length rest ≤ length text → span_at rest ≡ Some (s, after) → literal_at (codes ",") after ≡ None → spans_at (length text) text ≡ Some (before ++ s ∷ [], after)
unfolding spans_at
goes_to_end text before rest s after on room one comma =
    let shorter : length after < length rest = span_shorter rest (s, after) one in
    on (suc (length text - length before - 1)) (length text) (omega arith) ∙ rw (one, comma) refl

none_read : (most : ℕ) (rest : List ℕ) → span_at rest ≡ None → spans_at most rest ≡ None
unfolding spans_at
none_read zero rest none = refl
none_read (suc most) rest none = rw none refl

-- no interval where one is due
pub goes_nowhere : (text : List ℕ) (before : List Span) (rest : List ℕ) → GoesOn text before rest → length before + length rest ≤ length text → span_at rest ≡ None → spans_at (length text) text ≡ None
goes_nowhere text before rest on room none =
    on (length text - length before) (length text) (omega arith) ∙ ap (behind before) (none_read (length text - length before) rest none)
