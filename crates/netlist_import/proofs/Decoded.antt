-- Whether a text is UTF-8, as a test.
use Rattle.std.proofs.Common.{◌≡◌, ℕ, Bool, true, false, List, refl}
use Rattle.std.specs.Str.{IsUtf8, is_utf8}
use Rattle.std.proofs.lemmas.Str.{IsUtf8-from_is_utf8, is_utf8-from_IsUtf8}

pub decoded : (bs : List ℕ) → IsUtf8 bs → is_utf8 bs ≡ true
decoded bs h = is_utf8-from_IsUtf8 bs h

pub not_decoded : (bs : List ℕ) → ¬ (IsUtf8 bs) → is_utf8 bs ≡ false
not_decoded bs h = at (is_utf8 bs) refl
  where
    at : (b : Bool) → is_utf8 bs ≡ b → is_utf8 bs ≡ false
    at true e = absurd (h (IsUtf8-from_is_utf8 bs e))
    at false e = e

pub ruleset is_decoded = (decoded, not_decoded)
