-- Which nets are due, that these wait, and what their evaluation changes.
use Rattle.std.proofs.Common.{◌≡◌, ℕ, suc, ◌==◌, Bool, true, false, not, ◌&&◌, length, map, refl, sym, ap, subst, ◌∙◌, count_by}
use Rattle.std.specs.Cmp.{both_ways}
use Rattle.std.specs.List.{Contains, range_with_len}
use Rattle.std.proofs.lemmas.Bool.{eqb-true, eq-eqb}
use Rattle.std.proofs.lemmas.List.{map-id}
use Rattle.std.proofs.lemmas.List.FromFn.{fill_by_all}
use Rattle.std.proofs.lemmas.List.Folds.{Any-from_list_any, list_any-from_Any}
use Rattle.step_values.specs.declared.value.Value.{Value}
use Rattle.skew_algebra.specs.Wave.{Wave}
use Rattle.flat_circuit.specs.Circuit.{Circuit, driver}
use Rattle.fixpoint_engine.specs.Same.{same_wave}
use Rattle.fixpoint_engine.specs.Waves.{Waves}
use Rattle.fixpoint_engine.proofs.Marks.{count_marks}
use Rattle.fixpoint_engine.specs.Rounds.{evaluated, round}
use Rattle.fixpoint_engine.specs.Work.{differs, hears_in, is_due}
use Rattle.fixpoint_engine.specs.Settled.{marked_in}
use Rattle.fixpoint_engine.specs.Worklist.{Queue, IsQueue, among}
use Rattle.fixpoint_engine.proofs.Same.{same_wave_is, same_wave_self}
use Rattle.fixpoint_engine.proofs.Changing.{moves}
use Rattle.fixpoint_engine.proofs.Reached.{undue_stays, due_takes}

-- ---- the nets that wait

pub among_waiting : (q : Queue) (i : ℕ) → IsQueue q → among q.nets i ≡ marked_in q.marks i
among_waiting q i queue = both_ways (among q.nets i) (marked_in q.marks i) to from
  where
    to : among q.nets i ≡ true → marked_in q.marks i ≡ true
    to any =
        let at = Any-from_list_any (λ net. net == i) q.nets any in
        (queue.are i).1 (subst (Contains q.nets) (eqb-true at.1 i at.4) (at.0, at.2, at.3))

    from : marked_in q.marks i ≡ true → among q.nets i ≡ true
    from marked = let at = (queue.are i).0 marked in list_any-from_Any (λ net. net == i) q.nets (at.0, i, at.1, at.2, eq-eqb i i refl)

-- as many wait as are due
pub waiting_count : (c : Circuit) (due : ℕ → Bool) (q : Queue) → IsQueue q → length q.marks ≡ length c.nets →
    ((i : ℕ) → marked_in q.marks i ≡ due i) → length q.nets ≡ count_by due (range_with_len 0 (length c.nets))
waiting_count c due q queue each is =
    let marks : q.marks ≡ map due (range_with_len 0 (length c.nets)) = fill_by_all due q.marks (length c.nets) false each (λ k below. is k) in
    queue.once ∙ count_marks (λ b. b) due q.marks (range_with_len 0 (length c.nets)) (map-id q.marks ∙ marks)

-- ---- the nets that are due

pub first_due : (c : Circuit) (active : ℕ → Bool) (rounds : ℕ → Waves) (i : ℕ) → is_due c active rounds 1 i ≡ active i
unfolding is_due
first_due c active rounds i = refl

pub later_due : (c : Circuit) (active : ℕ → Bool) (rounds : ℕ → Waves) (r i : ℕ) → is_due c active rounds (suc (suc r)) i ≡ (active i && hears_in (differs (rounds r) (rounds (suc r))) (driver c i))
unfolding is_due
later_due c active rounds r i = refl

-- what the evaluation of a net in round r changes
pub changes_is : (c : Circuit) (active : ℕ → Bool) (start : Waves) (r i : ℕ) → (is_due c active (round c active start) (suc r) i
    && moves c (round c active start r) i) ≡ differs (round c active start r) (round c active start (suc r)) i
changes_is c active start r i = by (is_due c active (round c active start) (suc r) i) refl
  where
    turned : (w v : Wave Value) → same_wave w v ≡ same_wave v w
    turned w v = both_ways (same_wave w v) (same_wave v w) (λ same. flip w v (same_wave_is w v same)) (λ same. flip v w (same_wave_is v w same))
      where
        flip : (w v : Wave Value) → w ≡ v → same_wave v w ≡ true
        flip w v same = ap (same_wave v) same ∙ same_wave_self v

    by : (due : Bool) → is_due c active (round c active start) (suc r) i ≡ due → (due && moves c (round c active start r) i) ≡ differs (round c active start r) (round c active start (suc r)) i
    by true due =
        ap not (turned (evaluated c (round c active start r) i) (round c active start r i))
        ∙ ap (λ (w : Wave Value). not (same_wave (round c active start r i) w)) (sym (due_takes c active start r i due))
    by false undue =
        sym (ap (λ (w : Wave Value). not (same_wave (round c active start r i) w)) (undue_stays c active start r i undue) ∙ ap not (same_wave_self (round c active start r i)))
