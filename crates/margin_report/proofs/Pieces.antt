-- The pieces of a line, one after another.
use Rattle.std.proofs.Common.{◌≡◌, ℕ, List, [], ◌∷◌, ◌++◌, append_assoc, append-nil}
use Rattle.std.specs.List.{concat}

-- five texts, one more and the line's end
pub six_texts : (a b c d e f end : List ℕ) →
    (concat (a ∷ b ∷ c ∷ d ∷ e ∷ []) ++ f) ++ end ≡ concat (a ∷ b ∷ c ∷ d ∷ e ∷ f ∷ []) ++ end
six_texts a b c d e f end = simp (append_assoc, append-nil)

-- four texts, and one more
pub five_texts : (a b c d e : List ℕ) → concat (a ∷ b ∷ c ∷ d ∷ []) ++ e ≡ concat (a ∷ b ∷ c ∷ d ∷ e ∷ [])
five_texts a b c d e = simp (append_assoc, append-nil)
