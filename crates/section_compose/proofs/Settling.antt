-- What the answer of settling says of the rounds of a section, whatever code calls the nets that it
-- evaluates, the waves that it begins with and its limit.
use Rattle.std.proofs.Common.{◌≡◌, ℕ, ◌≤◌, Bool, IfErr, IfOk, subst, arith}
use Rattle.std.specs.Prelude.{Err, Ok, Result}
use Rattle.flat_circuit.specs.Circuit.{Circuit}
use Rattle.fixpoint_engine.specs.Waves.{Waves}
use Rattle.fixpoint_engine.specs.declared.rounds.EngineEnd.{EngineEnd}
use Rattle.fixpoint_engine.specs.End.{EndsFor}
use Rattle.fixpoint_engine.specs.Rounds.{round}
use Rattle.fixpoint_engine.specs.Settled.{AreSettled}
use Rattle.fixpoint_engine.specs.Start.{default_limit, is_driven}
use Rattle.case_analysis.proofs.Inputs.{as_same}

pub settled_soon : {A : Type 0} (result : Result A EngineEnd) (c : Circuit) (active : ℕ → Bool) (first : Waves) (limit : ℕ) (rounds : A → ℕ) (waves : A → Waves) →
    limit ≤ 81936 → IfOk result (λ s. AreSettled c active first limit (rounds s) (waves s)) → IfOk result (λ s. rounds s ≤ 81936)
settled_soon (Ok s) c active first limit rounds waves bounded settling = let within = settling.settles.within in omega (arith, within, bounded)
settled_soon (Err e) c active first limit rounds waves bounded settling = tt

module _ {A : Type 0} (result : Result A EngineEnd) (c : Circuit) (active : ℕ → Bool) (first start : Waves) (limit : ℕ)
    (driven : (i : ℕ) → active i ≡ is_driven c i) (begins : (i : ℕ) → first i ≡ start i) (limited : limit ≡ default_limit c) where
  pub settled_so : (rounds : A → ℕ) (waves : A → Waves) →
      IfOk result (λ s. AreSettled c active first limit (rounds s) (waves s)) →
      IfOk result (λ s. AreSettled c (is_driven c) start (default_limit c) (rounds s) (waves s))
  settled_so rounds waves settling =
      as_same active (is_driven c) first start (λ a f. IfOk result (λ s. AreSettled c a f (default_limit c) (rounds s) (waves s))) driven begins
      (subst (λ (n : ℕ). IfOk result (λ s. AreSettled c active first n (rounds s) (waves s))) limited settling)

  pub settled_ends : IfErr result (EndsFor c.order (round c active first) limit) →
      IfErr result (EndsFor c.order (round c (is_driven c) start) (default_limit c))
  settled_ends ends =
      as_same active (is_driven c) first start (λ a f. IfErr result (EndsFor c.order (round c a f) (default_limit c))) driven begins
      (subst (λ (n : ℕ). IfErr result (EndsFor c.order (round c active first) n)) limited ends)
