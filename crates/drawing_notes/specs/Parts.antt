-- Loops by a number for each of their nets.
use Rattle.std.specs.Prelude.{◌≡◌, ◌↔◌, ℕ, ◌<◌, ◌==◌, Bool, true, false, List, length, count_by, slice_index_or, Option, Some, None}
use Rattle.std.specs.List.{range_with_len}
use Rattle.flat_circuit.specs.Circuit.{Circuit}
use Rattle.fixpoint_engine.specs.Settled.{marked_in}
use Rattle.drawing_notes.specs.Paths.{AreTogether}

-- a net of the loop of a net, the same for all of its nets; none if the net is on no loop
abbrev pub part_at : List (Option ℕ) → ℕ → Option ℕ
part_at parts i = slice_index_or parts i None

abbrev pub same_part : Option ℕ → Option ℕ → Bool
same_part (Some a) (Some b) = a == b
same_part (Some a) None = false
same_part None part = false

abbrev pub together : List (Option ℕ) → ℕ → ℕ → Bool
together parts i j = same_part (part_at parts i) (part_at parts j)

-- Of the nets that are not fresh any more the loops are known, and each loop is either known or
-- fresh as a whole. A loop goes by one of its nets that is not fresh.
pub record ArePartly (c : Circuit) (fresh : List Bool) (parts : List (Option ℕ)) : Type 0 where
  pub each_net : length fresh ≡ length c.nets
  pub each_part : length parts ≡ length c.nets
  pub whole : (i j : ℕ) → marked_in fresh i ≡ false → AreTogether c i j → marked_in fresh j ≡ false
  pub known : (i j : ℕ) → marked_in fresh i ≡ false →
      (together parts i j ≡ true) ↔ AreTogether c i j
  pub unknown : (i : ℕ) → marked_in fresh i ≡ true → part_at parts i ≡ None
  pub by : (i root : ℕ) → part_at parts i ≡ Some root → marked_in fresh root ≡ false
  pub inside : (i root : ℕ) → part_at parts i ≡ Some root → root < length c.nets

-- a loop goes by a net that there is
abbrev pub AreInside : ℕ → List (Option ℕ) → Type 0
AreInside nets parts = (i root : ℕ) → part_at parts i ≡ Some root → root < nets

-- how many of so many nets are on the loop that goes by this one
abbrev pub nets_on : ℕ → List (Option ℕ) → ℕ → ℕ
nets_on nets parts root =
    count_by (λ j. same_part (Some root) (part_at parts j)) (range_with_len 0 nets)

abbrev pub AreSizes : ℕ → List (Option ℕ) → List ℕ → Type 0
AreSizes nets parts sizes = (root : ℕ) → root < length sizes →
    slice_index_or sizes root 0 ≡ nets_on nets parts root
