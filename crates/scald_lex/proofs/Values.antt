-- The number that digits stand for.
use Rattle.std.proofs.Common.{◌≡◌, ℕ, ◌+◌, ◌-◌, ◌*◌, ◌<◌, List, [], ◌∷◌, ◌++◌, length, get_or, take, refl, ap, ◌∙◌}
use Rattle.std.proofs.lemmas.List.{take_more}
use Rattle.scald_lex.specs.Bytes.{value_after, value_of}

-- One digit more.
pub value_after_more : (n : ℕ) (digits : List ℕ) (b : ℕ) → value_after n (digits ++ b ∷ []) ≡ value_after n digits * 10 + (b - 48)
value_after_more n [] b = refl
value_after_more n (d ∷ ds) b = value_after_more (n * 10 + (d - 48)) ds b

-- One digit more makes the number ten times as large, and adds its own.
pub value_of_next : (digits : List ℕ) (i : ℕ) → i < length digits → value_of (take (i + 1) digits) ≡ value_of (take i digits) * 10 + (get_or digits i 0 - 48)
value_of_next digits i h = ap value_of (take_more digits i 0 h) ∙ value_after_more 0 (take i digits) (get_or digits i 0)
