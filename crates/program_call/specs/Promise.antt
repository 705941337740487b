-- What a program without words promises beside its answer.
use Rattle.std.specs.Prelude.{◌≡◌, ◌≢◌, ◌⊎◌, ℕ, ◌==◌, Bool, true, false, not, List, Option, None}
use Rattle.std.specs.Io.KnownBytes.{Appends}
use Rattle.scald_base.specs.declared.outcome.Outcome.{Outcome}
use Rattle.scald_base.specs.declared.outcome.Outcome.TheVariants.{Clean, Faulty, Done, Refused, Unsettled, BadWords, TooLong, ReadFault, WriteFault, NoMemory}
use Rattle.drawing_tree.specs.Tree.{Drawing}
use Rattle.flat_circuit.specs.declared.case.CaseValue.{CaseValue}
use Rattle.flat_circuit.specs.Circuit.{Circuit}
use Rattle.fixpoint_engine.specs.Rounds.{SettlesAt}
use Rattle.case_analysis.specs.Base.{base_round}
use Rattle.timing_analysis.specs.Case.{Case, AreSettled, listed_cases}
use Rattle.timing_analysis.specs.Drawn.{DrawsCircuit, IsLoopless}
use Rattle.program_call.specs.Answer.{Reporting, limit_for}

-- The outcomes that speak of a text in which something is counted: it has none of it, or some; it
-- is refused, or its waves do not settle.
abbrev pub may_count : Outcome → Bool
may_count Clean = true
may_count (Faulty n) = not (n == 0)
may_count (Refused r) = true
may_count (Unsettled place round) = true
may_count Done = false
may_count (BadWords i) = false
may_count TooLong = false
may_count ReadFault = false
may_count WriteFault = false
may_count NoMemory = false

-- The outcome is the one that is replied and the sink took exactly these bytes, or there is no
-- memory.
abbrev pub Writes : Outcome → List ℕ → Outcome → Option (List ℕ) → Option (List ℕ) → Type 0
Writes replied bytes o taken taken' = (o ≡ NoMemory) ⊎ ((o ≡ replied) × Appends taken taken' bytes)

-- The text draws a circuit, and nothing of it is refused; its base and each of its cases settle,
-- within this limit if one is given, and else within the circuit's own.
pub record TextSettles (rounds : Option ℕ) (text : List ℕ) : Type 0 where
  pub circuit : Circuit
  pub values : List (List CaseValue)
  pub drawn : DrawsCircuit text circuit values
  pub base : ℕ
  pub settles : SettlesAt (base_round circuit) (limit_for circuit rounds) base
  pub cases : List Case
  pub are_settled : AreSettled circuit (limit_for circuit rounds) base (listed_cases values) cases

-- If the text settles within its circuit's own limit of rounds, what is reported of the circuit
-- and its cases is written.
abbrev pub WritesReport : (Drawing → Reporting) → List ℕ → Outcome → Option (List ℕ) →
    Option (List ℕ) → Type 0
WritesReport Reports text o taken taken' =
    (text_settles : TextSettles None text) (reply : Outcome) (bytes : List ℕ) →
    Reports text_settles.drawn.drawing text_settles.circuit text_settles.base text_settles.cases
    reply bytes → Writes reply bytes o taken taken'

-- Waves of a circuit without a loop settle.
abbrev pub SettlesLoopless : List ℕ → Outcome → Type 0
SettlesLoopless text o = IsLoopless text → (place round : ℕ) → o ≢ Unsettled place round
