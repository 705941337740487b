use Rattle.std.proofs.Common.{◌≡◌, ◌<◌, ℕ}
use Rattle.flat_circuit.specs.Alike.{class_of}
use Rattle.flat_circuit.specs.Stable.{AreAlikeAt}
use Rattle.flat_circuit.proofs.stability.is_as_those_before.Given as goal

abbrev pub invariant-loop-other : goal.invariant-loop-other
invariant-loop-other l = (j : ℕ) → j < l.other → class_of l.classes l.net ≡ class_of l.classes j → AreAlikeAt l.c l.cases l.classes l.net j
