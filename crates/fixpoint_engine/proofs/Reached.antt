-- Rounds one after the other: what is not due stays, and how rounds settle or do not.
use Rattle.std.proofs.Common.{◌≡◌, ℕ, zero, suc, ◌<◌, ◌≤◌, Bool, true, false, ◌&&◌, cond, refl, sym, ◌∙◌, arith, below_more}
use Rattle.flat_circuit.specs.Circuit.{Circuit, driver}
use Rattle.fixpoint_engine.specs.Waves.{Waves}
use Rattle.fixpoint_engine.specs.Rounds.{evaluated, next, round, AreSame, DiffersFirst, IsUnsettled}
use Rattle.fixpoint_engine.specs.Work.{differs, hears_in, is_due}
use Rattle.fixpoint_engine.specs.Settled.{AreSettled}
use Rattle.fixpoint_engine.proofs.Hearing.{stays}

pub round_next : (c : Circuit) (active : ℕ → Bool) (start : Waves) (r i : ℕ) → round c active start (suc r) i ≡ next c active (round c active start r) i
unfolding round
round_next c active start r i = refl

pub inactive_stays : (c : Circuit) (active : ℕ → Bool) (ws : Waves) (i : ℕ) → active i ≡ false → next c active ws i ≡ ws i
unfolding next
inactive_stays c active ws i passive = rw passive refl

-- A net that is not due in the next round stays as it is.
pub undue_stays : (c : Circuit) (active : ℕ → Bool) (start : Waves) (r i : ℕ) → is_due c active (round c active start) (suc r) i ≡ false →
    round c active start (suc r) i ≡ round c active start r i
unfolding is_due
undue_stays c active start zero i undue = round_next c active start 0 i ∙ inactive_stays c active (round c active start 0) i undue
undue_stays c active start (suc r) i undue = round_next c active start (suc r) i ∙ by (active i) refl undue
  where
    by : (a : Bool) → active i ≡ a → (a && hears_in (differs (round c active start r) (round c active start (suc r))) (driver c i)) ≡ false →
        next c active (round c active start (suc r)) i ≡ round c active start (suc r) i
    by false passive undue = inactive_stays c active (round c active start (suc r)) i passive
    by true a unheard = stays c active (round c active start r) (round c active start (suc r)) i (round_next c active start r i) unheard

-- A net that is due is active, and takes its value.
pub due_takes : (c : Circuit) (active : ℕ → Bool) (start : Waves) (r i : ℕ) → is_due c active (round c active start) (suc r) i ≡ true →
    round c active start (suc r) i ≡ evaluated c (round c active start r) i
unfolding is_due next
due_takes c active start zero i due = round_next c active start 0 i ∙ (rw due refl)
due_takes c active start (suc r) i due = round_next c active start (suc r) i ∙ by (active i) due
  where
    by : (a : Bool) → (a && hears_in (differs (round c active start r) (round c active start (suc r))) (driver c i)) ≡ true →
        cond a (evaluated c (round c active start (suc r)) i) (round c active start (suc r) i) ≡ evaluated c (round c active start (suc r)) i
    by true due = refl
    by false due = cc

-- what has been found after r rounds: these waves are those of round r, and no round before had settled
pub record Reached (c : Circuit) (active : ℕ → Bool) (start : Waves) (r : ℕ) (ws : Waves) : Type 0 where
  pub is : AreSame ws (round c active start r)
  pub moving : (s : ℕ) → s < r → ¬ AreSame (round c active start (suc s)) (round c active start s)

pub reached_start : (c : Circuit) (active : ℕ → Bool) (start ws : Waves) → AreSame ws start → Reached c active start 0 ws
unfolding round
reached_start c active start ws same = record { is = same; moving = λ s below. absurd (omega arith) }

pub reached_more : (c : Circuit) (active : ℕ → Bool) (start ws after : Waves) (r : ℕ) → Reached c active start r ws → AreSame after (round c active start (suc r)) →
    ¬ AreSame (round c active start (suc r)) (round c active start r) → Reached c active start (suc r) after
reached_more c active start ws after r reached same moves = record {
  is = same;
  moving =
      λ s below. below_more (λ k. ¬ AreSame (round c active start (suc k)) (round c active start k)) r reached.moving moves s (omega arith);
}

pub are_settled : (c : Circuit) (active : ℕ → Bool) (start ws : Waves) (limit r : ℕ) → Reached c active start r ws → r ≤ limit → AreSame (round c active start (suc r)) (round c active start r) →
    AreSettled c active start limit r ws
are_settled c active start ws limit r reached within still = record { settles = record { still = still; first = reached.moving; within = within }; waves = reached.is }

pub not_settled : (c : Circuit) (active : ℕ → Bool) (start ws : Waves) (limit place : ℕ) → Reached c active start limit ws →
    DiffersFirst c.order (round c active start limit) (round c active start (suc limit)) place → IsUnsettled c.order (round c active start) limit place
not_settled c active start ws limit place reached differs = record {
  never = λ r within. below_more (λ s. ¬ AreSame (round c active start (suc s)) (round c active start s)) limit reached.moving
      (λ still. differs.differs (sym (still _))) r (omega arith);
  first = differs;
}
