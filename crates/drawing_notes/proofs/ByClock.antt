-- What one clock launches, as a search finds it.
use Rattle.std.proofs.Common.{◌≡◌, ℕ, ◌&&◌, ◌||◌, Bool, false, List, replicate, subst, sym, ap, ◌∙◌}
use Rattle.std.specs.Cmp.{both_ways}
use Rattle.flat_circuit.specs.Circuit.{Circuit, driver}
use Rattle.fixpoint_engine.specs.Settled.{marked_in}
use Rattle.fixpoint_engine.specs.Worklist.{Queue}
use Rattle.fixpoint_engine.specs.Waves.{Waves}
use Rattle.case_analysis.specs.Found.{Extends}
use Rattle.drawing_notes.specs.Passing.{is_passable}
use Rattle.drawing_notes.specs.Paths.{is_started, leads_in}
use Rattle.drawing_notes.specs.Search.{IsFound, is_clocked_by}
use Rattle.drawing_notes.specs.Doubts.{ArePassable, IsLaunched}
use Rattle.drawing_omissions.proofs.Written.{same_at}

-- a search finds one set
pub one_found : (step : ℕ → ℕ → Bool) (within start first second : ℕ → Bool) → IsFound step within start first → IsFound step within start second →
    (i : ℕ) → first i ≡ second i
one_found step within start first second is other i =
    both_ways (first i) (second i) (λ marked. (other i).1 ((is i).0 marked)) (λ marked. (is i).1 ((other i).0 marked))

-- the same by nets and a start that are the same
pub found_by : (step : ℕ → ℕ → Bool) (within within' start start' found : ℕ → Bool) → ((i : ℕ) → within i ≡ within' i) → ((i : ℕ) → start i ≡ start' i) →
    IsFound step within start found → IsFound step within' start' found
found_by step within within' start start' found nets starts is =
    let same_nets : within ≡ within' = λ k i. nets i k in
    let same_start : start ≡ start' = λ k i. starts i k in
    subst (λ (w : ℕ → Bool). IsFound step w start' found) same_nets (subst (λ (s : ℕ → Bool). IsFound step within s found) same_start is)

-- what was put into an empty set alone
pub put_alone : (p : ℕ → Bool) (n : ℕ) (cleared started : Queue) → cleared.marks ≡ replicate n false → Extends p cleared started → (i : ℕ) → marked_in started.marks i ≡ p i
put_alone p n cleared started none extends i =
    extends.adds.marks i ∙ ap (λ b. b || p i) (ap (λ (ms : List Bool). marked_in ms i) none ∙ same_at false n i)

module _ (c : Circuit) (looped : ℕ → Bool) (ws : Waves) where
  pub launched_is : (set : List Bool) (clock n : ℕ) (cleared started : Queue) (marks : List Bool) → ArePassable c looped ws set →
      cleared.marks ≡ replicate n false → Extends (λ i. marked_in set i && is_clocked_by clock (driver c i)) cleared started →
      IsFound (leads_in c ws) (marked_in set) (marked_in started.marks) (marked_in marks) → IsLaunched c looped ws clock marks
  launched_is set clock n cleared started marks are none extends found launched tells net =
      one_found (leads_in c ws) (is_passable c looped ws) (is_started c looped ws clock) (launched clock) (marked_in marks) (tells clock)
      (found_by (leads_in c ws) (marked_in set) (is_passable c looped ws) (marked_in started.marks) (is_started c looped ws clock) (marked_in marks) are.are
      (λ i. put_alone (λ k. marked_in set k && is_clocked_by clock (driver c k)) n cleared started none extends i
      ∙ ap (λ b. b && is_clocked_by clock (driver c i)) (are.are i)) found) net
