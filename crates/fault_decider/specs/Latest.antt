-- The latest tick that a report prints: of a case, or from which on a fault of it is refuted.
use Rattle.std.specs.Prelude.{ℕ, max, List, [], ◌∷◌}
use Rattle.flat_circuit.specs.Circuit.{Circuit}
use Rattle.timing_analysis.specs.Case.{Case, printed_tick}
use Rattle.fault_decider.specs.declared.verdict.Verdict.{Verdict}
use Rattle.fault_decider.specs.declared.verdict.Verdict.TheVariants.{Shown, Refuted, Window, Open}

-- the tick from which on a verdict refutes its fault
abbrev pub tick_of : Verdict → ℕ
tick_of (Shown s) = 0
tick_of (Refuted from leaves) = from
tick_of (Window from) = from
tick_of Open = 0

-- the greatest of the printed ticks of cases, and of the ticks of refutations
abbrev pub latest_case : Circuit → ℕ → List Case → ℕ
latest_case c base [] = 0
latest_case c base (k ∷ ks) = max (printed_tick c base k) (latest_case c base ks)

abbrev pub latest_verdict : List Verdict → ℕ
latest_verdict [] = 0
latest_verdict (v ∷ vs) = max (tick_of v) (latest_verdict vs)

abbrev pub latest : Circuit → ℕ → List Case → List Verdict → ℕ
latest c base cases vs = max (latest_case c base cases) (latest_verdict vs)
