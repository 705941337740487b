-- A round more, by changes that lead to it: settling, movement and the limit follow, whichever nets were evaluated for them.
use Rattle.std.proofs.Common.{◌≡◌, ℕ, suc, ◌<◌, ◌≤◌, Bool, true, false, not, ◌||◌, List, [], ◌∷◌, length, map, refl, sym, ap, ◌∙◌, arith}
use Rattle.std.proofs.lemmas.Bool.{both_ways, eq-eqb, not-false}
use Rattle.scald_base.specs.Time.{period}
use Rattle.step_values.specs.declared.value.Value.{Value}
use Rattle.skew_algebra.specs.Wave.{Wave}
use Rattle.flat_circuit.specs.Circuit.{Circuit, IsCircuit}
use Rattle.fixpoint_engine.specs.Same.{same_wave}
use Rattle.fixpoint_engine.specs.Waves.{Waves, waves_of, FitWaves}
use Rattle.flat_circuit.specs.Name.{net_at}
use Rattle.fixpoint_engine.proofs.Fits.{AreLong}
use Rattle.fixpoint_engine.specs.declared.rounds.EngineEnd.{EngineEnd}
use Rattle.fixpoint_engine.specs.declared.rounds.EngineEnd.TheVariants.{Unsettled, NoMemory}
use Rattle.fixpoint_engine.specs.Rounds.{round, AreSame}
use Rattle.fixpoint_engine.specs.Work.{differs}
use Rattle.fixpoint_engine.specs.Settled.{AreSettled}
use Rattle.fixpoint_engine.specs.End.{EndsAt, EndsFor}
use Rattle.fixpoint_engine.specs.Worklist.{Change, changed, among}
use Rattle.fixpoint_engine.proofs.Same.{same_wave_is, same_wave_self}
use Rattle.fixpoint_engine.proofs.Changing.{length_changed}
use Rattle.fixpoint_engine.proofs.Reached.{Reached, reached_more, are_settled, not_settled}
use Rattle.fixpoint_engine.proofs.Sound.{round_long}

abbrev pub nets_of : List Change → ℕ → Bool
nets_of made = among (map (λ (ch : Change). ch.0) made)

-- The nets of the changes are those whose waves differ in the next round, and the changed waves are those of that round.
pub record Turn (c : Circuit) (active : ℕ → Bool) (start : Waves) (waves : List (Wave Value)) (r : ℕ) (made : List Change) : Type 0 where
  pub nets : (i : ℕ) → nets_of made i ≡ differs (round c active start r) (round c active start (suc r)) i
  pub next : AreSame (waves_of (changed waves made)) (round c active start (suc r))

module _ (c : Circuit) (active : ℕ → Bool) (start : Waves) (waves : List (Wave Value)) (r : ℕ) (reached : Reached c active start r (waves_of waves)) where
  pub turn_settles : (limit : ℕ) (made : List Change) → Turn c active start waves r made → length made ≡ 0 → r ≤ limit → AreSettled c active start limit r (waves_of waves)
  turn_settles limit [] turn none within = are_settled c active start (waves_of waves) limit r reached within (λ i. sym (turn.next i) ∙ reached.is i)
  turn_settles limit (ch ∷ made) turn none within = absurd (omega arith)

  pub turn_moves : (made : List Change) → Turn c active start waves r made → 0 < length made → ¬ AreSame (round c active start (suc r)) (round c active start r)
  turn_moves [] turn some same = omega arith
  turn_moves (ch ∷ made) turn some same =
      let listed : nets_of (ch ∷ made) ch.0 ≡ true = λ k. eq-eqb ch.0 ch.0 refl k || nets_of made ch.0 in
      let equal : differs (round c active start r) (round c active start (suc r)) ch.0 ≡ false =
      ap (λ (w : Wave Value). not (same_wave (round c active start r ch.0) w)) (same ch.0) ∙ ap not (same_wave_self (round c active start r ch.0)) in
      both_ways (differs (round c active start r) (round c active start (suc r)) ch.0) equal (sym (turn.nets ch.0) ∙ listed)

  module _ (made : List Change) (turn : Turn c active start waves r made) where
    pub turn_ends : (e : EngineEnd) → EndsAt c.order (nets_of made) r e → EndsFor c.order (round c active start) r e
    turn_ends NoMemory at = tt
    turn_ends (Unsettled place n) at = (
      not_settled c active start (waves_of waves) r place reached (record {
        below = at.0.below;
        differs = λ same. both_ways (differs (round c active start r) (round c active start (suc r)) (net_at c.order place))
            (ap (λ (w : Wave Value). not (same_wave (round c active start r (net_at c.order place)) w)) (sym same) ∙ ap not (same_wave_self (round c active start r (net_at c.order place))))
            (sym (turn.nets (net_at c.order place)) ∙ at.0.is);
        same = λ k below. same_wave_is (round c active start r (net_at c.order k)) (round c active start (suc r) (net_at c.order k))
            (not-false _ (sym (turn.nets (net_at c.order k)) ∙ at.0.first k below));
      }),
      at.1,
    )

    module _ (after : List (Wave Value)) (same : after ≡ changed waves made) where
      next_round : AreSame (waves_of after) (round c active start (suc r))
      next_round i = ap (λ (ws : List (Wave Value)). waves_of ws i) same ∙ turn.next i

      pub turn_reaches : 0 < length made → Reached c active start (suc r) (waves_of after)
      turn_reaches some = reached_more c active start (waves_of waves) (waves_of after) r reached next_round (turn_moves made turn some)

      pub turn_fits : IsCircuit c → 0 < period c.header → AreLong c start → FitWaves c waves → FitWaves c after
      turn_fits known some fit waves-fit = record {
        each_net = ap length same ∙ length_changed made waves ∙ waves-fit.each_net;
        each_slot = λ i below. ap (λ (w : Wave Value). length w.cells) (next_round i) ∙ round_long c active start (suc r) some known fit i below;
      }
