use Rattle.std.proofs.Common.{◌<◌, ℕ, []}
use Rattle.flat_circuit.specs.Alike.{class_of}
use Rattle.flat_circuit.specs.Stable.{AreAlikeAt}
use Rattle.flat_circuit.proofs.stability.are_nets_as_their_numbers.Given as goal

abbrev pub invariant-loop-net : goal.invariant-loop-net
invariant-loop-net l = (i : ℕ) → i < l.net → AreAlikeAt l.c [] l.classes i (class_of l.classes i)
