-- Ticks that are there, as tests and as facts.
use Rattle.std.proofs.Common.{◌≡◌, ℕ, ◌+◌, ◌≤◌, true, leb, List, [], ◌∷◌, length, refl, arith, All}
use Rattle.std.specs.List.{list_all}
use Rattle.std.proofs.lemmas.Bool.{and_from, le-leb, leb-true, and_parts}
use Rattle.std.proofs.lemmas.List.Elements.{All-nil, All-cons, All-head, All-tail}
use Rattle.element_kinds.specs.Equation.{pins_before}
use Rattle.trace_sim.specs.Making.{are_there}

pub there_from : (t : ℕ) (xs : List ℕ) → All (λ b. b ≤ t) xs → are_there xs t ≡ true
there_from t [] a = refl
there_from t (x ∷ xs) a =
    and_from (leb x t) (list_all (λ b. leb b t) xs) (le-leb x t (All-head (λ (b : ℕ). b ≤ t) x xs a))
    (there_from t xs (All-tail (λ (b : ℕ). b ≤ t) x xs a))

pub from_there : (t : ℕ) (xs : List ℕ) → are_there xs t ≡ true → All (λ b. b ≤ t) xs
from_there t [] e = All-nil (λ (b : ℕ). b ≤ t)
from_there t (x ∷ xs) e =
    let both = and_parts (leb x t) (list_all (λ b. leb b t) xs) e in
    All-cons (λ (b : ℕ). b ≤ t) x xs (leb-true x t both.0) (from_there t xs both.1)

-- pins that show a tick at t, so many before, show one at u too, fewer before
pub shown_at : (m back t u : ℕ) (wires : List ℕ) → (m ≤ t → t + back ≤ u + m) → All (λ b. b ≤ t) (pins_before m wires) →
    All (λ b. b ≤ u) (pins_before back wires)
shown_at m back t u [] l a = All-nil (λ (b : ℕ). b ≤ u)
shown_at m back t u (w ∷ ws) l a =
    let first : m + w ≤ t = All-head (λ (b : ℕ). b ≤ t) (m + w) (pins_before m ws) a in
    let enough : t + back ≤ u + m = l (omega arith) in
    All-cons (λ (b : ℕ). b ≤ u) (back + w) (pins_before back ws) (omega arith)
    (shown_at m back t u ws l (All-tail (λ (b : ℕ). b ≤ t) (m + w) (pins_before m ws) a))

-- with a pin, they are at most t
pub far_enough : (m t : ℕ) (wires : List ℕ) → 1 ≤ length wires → All (λ b. b ≤ t) (pins_before m wires) → m ≤ t
far_enough m t [] some a = absurd (omega arith)
far_enough m t (w ∷ ws) some a =
    let first : m + w ≤ t = All-head (λ (b : ℕ). b ≤ t) (m + w) (pins_before m ws) a in omega arith
