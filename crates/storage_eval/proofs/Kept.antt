-- The waves of the listening pins, as they are gathered pin by pin.
use Rattle.std.proofs.Common.{◌≡◌, ℕ, List, ◌++◌, map, drop}
use Rattle.step_values.specs.declared.value.Value.{Value}
use Rattle.skew_algebra.specs.Wave.{Wave}
use Rattle.element_kinds.specs.declared.kind.Kind.{Kind}
use Rattle.storage_eval.specs.Storage.{listening_from, listening}

-- what is gathered of the pins before a place, with what is still to come, is all of it
pub record Kept {P : Type 0} (kind : Kind) (wave : P → Wave Value) (pins : List P) (place : ℕ) (kept : List (Wave Value)) : Type 0 where
  pub all : kept ++ listening_from kind place (map wave (drop place pins)) ≡ listening kind (map wave pins)
