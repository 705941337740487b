use Rattle.std.proofs.Common.{◌≡◌, ℕ, ◌<◌, slice_get}
use Rattle.narrowing.specs.Narrowed.{narrowed_nets}
use Rattle.narrowing.proofs.same.has_narrowed_nets.Given as goal

abbrev pub invariant-loop-net : goal.invariant-loop-net
invariant-loop-net l =
    (i : ℕ) → i < l.net →
    slice_get l.a.nets i ≡ slice_get (narrowed_nets l.b.header l.parts 0 l.b.nets) i
