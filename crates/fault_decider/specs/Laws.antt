-- What a report is worth in which each fault is refuted.
use Rattle.std.specs.Prelude.{ℕ, List}
use Rattle.std.specs.List.{All}
use Rattle.flat_circuit.specs.Circuit.{Circuit}
use Rattle.timing_analysis.specs.Case.{Case}
use Rattle.timing_analysis.specs.Promise.{IsKept}
use Rattle.fault_decider.specs.declared.verdict.Verdict.{Verdict}
use Rattle.fault_decider.specs.Decided.{AreCasesDecided, IsUnbrokenIfSettled}

-- Where the report of settled cases ends `Settled`, nothing is broken in any of the cases from the
-- latest tick on that it prints: it is as good as one without faults.
abbrev pub SettledIsUnbroken : Type 0
SettledIsUnbroken =
    (c : Circuit) (base : ℕ) (cases : List Case) (vs : List Verdict) (bytes : List ℕ) →
    AreCasesDecided c base cases vs bytes → All (IsKept c base) cases →
    IsUnbrokenIfSettled c base cases vs
