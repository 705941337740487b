-- What is answered if a circuit or a case of it never settles.
use Rattle.std.specs.Prelude.{◌≡◌, ℕ, List}
use Rattle.flat_circuit.specs.Circuit.{Circuit}
use Rattle.fixpoint_engine.specs.declared.rounds.EngineEnd.{EngineEnd}
use Rattle.fixpoint_engine.specs.declared.rounds.EngineEnd.TheVariants.{Unsettled}
use Rattle.listing.specs.Answer.{unsettled_line}
use Rattle.scald_base.specs.declared.outcome.Outcome.{Outcome}
use Rattle.scald_base.specs.declared.outcome.Outcome.TheVariants.{Unsettled as UnsettledOutcome}

-- The outcome and the bytes are those of an end that names a net.
pub record IsEnded (c : Circuit) (end : EngineEnd) (o : Outcome) (bytes : List ℕ) : Type 0 where
  pub place : ℕ
  pub round : ℕ
  pub end_is : end ≡ Unsettled place round
  pub outcome : o ≡ UnsettledOutcome place round
  pub text : bytes ≡ unsettled_line c place round
