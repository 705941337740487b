-- Classes of nets that have one wave in every round, and how many evaluations that leaves.
use Rattle.std.specs.Prelude.{◌≡◌, ℕ, zero, suc, ◌+◌, ◌<◌, ◌≤◌, Bool, false, not, ◌&&◌, ◌==◌, List, length, count_by}
use Rattle.std.specs.List.{list_any, range_with_len}
use Rattle.flat_circuit.specs.Circuit.{Circuit}
use Rattle.flat_circuit.specs.Alike.{class_of}
use Rattle.fixpoint_engine.specs.Waves.{Waves}
use Rattle.fixpoint_engine.specs.Rounds.{round}
use Rattle.fixpoint_engine.specs.Work.{is_due}

-- nets of one class have one wave
abbrev pub HaveOneWave : Circuit → List ℕ → Waves → Type 0
HaveOneWave c classes ws =
    (i j : ℕ) → i < length c.nets → j < length c.nets → class_of classes i ≡ class_of classes j →
    ws i ≡ ws j

-- the nets of each class are all in a set, or none is
abbrev pub AreTogether : Circuit → List ℕ → (ℕ → Bool) → Type 0
AreTogether c classes set =
    (i j : ℕ) → i < length c.nets → j < length c.nets → class_of classes i ≡ class_of classes j →
    set i ≡ set j

-- In each round the nets of a class have one wave, and are all due, or none is.
pub record GoTogether (c : Circuit) (classes : List ℕ) (active : ℕ → Bool)
    (rounds : ℕ → Waves) : Type 0 where
  pub waves : (r : ℕ) → HaveOneWave c classes (rounds r)
  pub due : (r : ℕ) → AreTogether c classes (is_due c active rounds r)

-- One net of each class may stand for all, in every round from these waves.
pub record OneStandsForAll (c : Circuit) (active : ℕ → Bool) (classes : List ℕ)
    (start : Waves) : Type 0 where
  pub each_net : length classes ≡ length c.nets
  pub one : (r : ℕ) → HaveOneWave c classes (round c active start r)
  pub none : (i : ℕ) → length c.nets ≤ i → active i ≡ false

-- no net before it is of its class
abbrev pub is_first : List ℕ → ℕ → Bool
is_first classes i =
    not (list_any (λ j. class_of classes j == class_of classes i) (range_with_len 0 i))

-- how many classes have nets that are due in a round
abbrev pub due_classes : Circuit → List ℕ → (ℕ → Bool) → (ℕ → Waves) → ℕ → ℕ
due_classes c classes active rounds r =
    count_by (λ i. is_first classes i && is_due c active rounds r i)
    (range_with_len 0 (length c.nets))

-- how many that are in the rounds 1 to r together
unfoldable pub class_work_to : Circuit → List ℕ → (ℕ → Bool) → (ℕ → Waves) → ℕ → ℕ
class_work_to c classes active rounds zero = 0
class_work_to c classes active rounds (suc r) =
    class_work_to c classes active rounds r + due_classes c classes active rounds (suc r)
