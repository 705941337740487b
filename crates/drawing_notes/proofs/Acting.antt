-- Which clocks and enables do something, in one case after the other.
use Rattle.std.proofs.Common.{◌≡◌, ℕ, ◌≤◌, ◌||◌, Bool, false, List, [], ◌∷◌, ◌++◌, length, sym, ap, ◌∙◌, arith, slice_get}
use Rattle.std.proofs.Math.Bool.{or-false}
use Rattle.std.proofs.lemmas.List.Folds.{list_any-append}
use Rattle.flat_circuit.specs.Circuit.{Circuit}
use Rattle.fixpoint_engine.specs.Waves.{Waves}
use Rattle.timing_analysis.specs.Case.{Case}
use Rattle.drawing_notes.specs.Unclocked.{AreActs, acts, acts_in}
use Rattle.drawing_notes.proofs.Stepped.{SteppedTo}

-- a mark, after one case more
abbrev pub acts_too : Circuit → Waves → ℕ → Bool → Bool
acts_too c ws k before = before || acts_in c ws (slice_get c.instances k)

pub acts_all : (c : Circuit) (ws : Waves) (old : List Bool) (n : ℕ) (now : List Bool) (cases : List Case) (one : Case) →
    length c.instances ≤ n → one.waves ≡ ws → AreActs c cases old →
    SteppedTo false (acts_too c ws) old n now → AreActs c (cases ++ one ∷ []) now
acts_all c ws old n now cases one whole waves before is k exists =
    is.before k (omega (arith, exists, whole))
    ∙ ap (λ b. b || acts_in c ws (slice_get c.instances k)) (before k exists)
    ∙ ap (λ b. acts c cases (slice_get c.instances k) || b)
    (ap (λ (w : Waves). acts_in c w (slice_get c.instances k)) (sym waves)
    ∙ sym (or-false (acts_in c one.waves (slice_get c.instances k))))
    ∙ sym (list_any-append (λ (case : Case). acts_in c case.waves (slice_get c.instances k)) cases (one ∷ []))
