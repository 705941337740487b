-- Runs that are written out, of circuits of one instance, and tests of which one tick alone passes.
use Rattle.std.proofs.Common.{◌≡◌, ℕ, ◌<◌, ◌==◌, Bool, true, List, [], ◌∷◌}
use Rattle.std.proofs.lemmas.Bool.{eqb-true}
use Rattle.element_kinds.specs.declared.kind.Kind.{Kind}
use Rattle.flat_circuit.specs.declared.instance.Pin.{Pin}
use Rattle.flat_circuit.specs.declared.instance.Instance.{Instance}
use Rattle.flat_circuit.specs.Circuit.{Circuit}
use Rattle.flat_circuit.specs.Run.{Run}
use Rattle.flat_circuit.proofs.RunTables.{checker, circuit, late}
use Rattle.flat_circuit.specs.declared.limits.Limits.{Limits}
use Rattle.pin_waves.proofs.Tests.{implies, implies_is, all_below, each_passes}

-- an instance without an output, with these limits and pins, and the circuit that has it alone
abbrev pub element : Kind → Limits → List Pin → Instance
element kind limits pins = record (checker kind pins) { limits = limits }

abbrev pub alone : Instance → Circuit
alone j = circuit [] (j ∷ [])

-- a run of so many ticks, with wires of these delays to the pins and these bits on the nets
abbrev pub run_of : ℕ → List ℕ → List (List Bool) → Run
run_of ticks wires nets = record { ticks = ticks; choices = late 0 wires ∷ []; bits = nets }

-- of those below n, k alone may pass
abbrev pub only : (ℕ → Bool) → ℕ → ℕ → Bool
only test n k = all_below (λ t. implies (test t) (t == k)) n

pub only_at : (test : ℕ → Bool) (n k t : ℕ) → only test n k ≡ true → t < n → test t ≡ true → t ≡ k
only_at test n k t is less passes =
    eqb-true t k
    (implies_is (test t) (t == k) (each_passes (λ t. implies (test t) (t == k)) n is t less) passes)
