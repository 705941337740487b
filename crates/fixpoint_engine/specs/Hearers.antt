-- Which nets hear a class: those that stand for their classes and whose drivers listen to a net of
-- it.
use Rattle.std.specs.Prelude.{◌≡◌, ℕ, ◌==◌, true, false, Bool, ◌&&◌, List, [], length, slice_index_or, Option, Some, None}
use Rattle.flat_circuit.specs.Circuit.{Circuit, driver}
use Rattle.flat_circuit.specs.Alike.{class_of}
use Rattle.fixpoint_engine.specs.Members.{leads_in}
use Rattle.fixpoint_engine.specs.Work.{hears_in}
use Rattle.fixpoint_engine.specs.Worklist.{among}

-- of rows of nets, one for each net, that of a net
abbrev pub row_of : List (List ℕ) → ℕ → List ℕ
row_of rows i = slice_index_or rows i []

-- the net is this one
abbrev pub is_net : Option ℕ → ℕ → Bool
is_net None i = false
is_net (Some net) i = net == i

-- whether a net hears a class and stands for its own
abbrev pub hears_class : Circuit → List ℕ → ℕ → ℕ → Bool
hears_class c classes class i =
    leads_in (Some classes) i && hears_in (λ j. class == class_of classes j) (driver c i)

-- If a net stands for its class, its row has the nets that hear the class.
pub record AreHearers (c : Circuit) (classes : List ℕ) (rows : List (List ℕ)) : Type 0 where
  pub each_net : length rows ≡ length classes
  pub are : (net i : ℕ) → leads_in (Some classes) net ≡ true →
      among (row_of rows net) i ≡ hears_class c classes (class_of classes net) i
