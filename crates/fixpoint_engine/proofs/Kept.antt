-- What the worklist has come to after some rounds, and how a round more, settling and the limit follow.
use Rattle.std.proofs.Common.{◌≡◌, ℕ, Option, zero, suc, ◌+◌, ◌*◌, ◌<◌, ◌≤◌, ◌==◌, inl, inr, Bool}
use Rattle.std.proofs.Common.{true, false, not, ◌&&◌, ◌||◌, cond, All, List, [], ◌∷◌, length, map}
use Rattle.std.proofs.Common.{refl, sym, ap, subst, ◌∙◌, arith, Some, None}
use Rattle.std.specs.Prelude.{IfSome}
use Rattle.std.specs.Cmp.{both_ways}
use Rattle.std.specs.List.{list_any, range_with_len}
use Rattle.std.proofs.Math.Bool.{and_assoc, and_comm}
use Rattle.std.proofs.lemmas.Bool.{cases_lt, and_parts, and_from, eqb-true, eq-eqb, false_from_ne_true, not-false}
use Rattle.std.proofs.lemmas.List.{length-set}
use Rattle.std.proofs.lemmas.List.Elements.{All-filter, All-map, All-head, All-tail, Contains-get_or}
use Rattle.std.proofs.lemmas.List.FromFn.{get_or-range_with_len, length-range_with_len}
use Rattle.std.proofs.lemmas.List.Folds.{Any-from_list_any, list_any-from_Any}
use Rattle.std.proofs.Math.ListN.{set}
use Rattle.scald_base.specs.Time.{period}
use Rattle.step_values.specs.declared.value.Value.{Value}
use Rattle.step_values.specs.Cell.{values}
use Rattle.skew_algebra.specs.Wave.{Wave}
use Rattle.skew_algebra.specs.Permits.{Permits}
use Rattle.flat_circuit.specs.declared.case.CaseValue.{CaseValue}
use Rattle.flat_circuit.specs.Circuit.{Circuit, IsCircuit, driver}
use Rattle.flat_circuit.specs.Run.{net_signal}
use Rattle.flat_circuit.specs.Alike.{class_of}
use Rattle.flat_circuit.specs.Stable.{IsStable}
use Rattle.fixpoint_engine.specs.Same.{same_wave}
use Rattle.fixpoint_engine.specs.Waves.{Waves, waves_of, FitWaves}
use Rattle.fixpoint_engine.proofs.Fits.{AreLong}
use Rattle.fixpoint_engine.proofs.WavesOf.{set_at}
use Rattle.fixpoint_engine.specs.declared.rounds.EngineEnd.{EngineEnd}
use Rattle.fixpoint_engine.specs.Reach.{reach}
use Rattle.fixpoint_engine.specs.Rounds.{evaluated, round, AreSame}
use Rattle.fixpoint_engine.specs.Work.{differs, hears_in, is_due}
use Rattle.fixpoint_engine.specs.Settled.{marked_in, FitActive, AreSettled, KeepRuns}
use Rattle.fixpoint_engine.specs.End.{EndsAt, EndsFor}
use Rattle.fixpoint_engine.specs.Worklist.{Queue, IsQueue, Change, changes_of, changed, among}
use Rattle.fixpoint_engine.specs.Classes.{HaveOneWave, AreTogether, OneStandsForAll, is_first, due_classes, class_work_to}
use Rattle.fixpoint_engine.specs.Members.{for_classes, numbers_in, for_all}
use Rattle.fixpoint_engine.proofs.Same.{same_wave_is, same_wave_self}
use Rattle.fixpoint_engine.proofs.Drivers.{active_past}
use Rattle.fixpoint_engine.proofs.Listening.{hears_same}
use Rattle.fixpoint_engine.proofs.Changing.{moves, changed_nets, changes_exist, nets_made}
use Rattle.fixpoint_engine.proofs.Waiting.{waiting_below, waiting_few}
use Rattle.fixpoint_engine.proofs.Reached.{Reached, reached_start, undue_stays, due_takes}
use Rattle.fixpoint_engine.proofs.Due.{among_waiting, waiting_count, changes_is, first_due, later_due}
use Rattle.fixpoint_engine.proofs.Sound.{round_sound}
use Rattle.fixpoint_engine.proofs.Turns.{nets_of, Turn, turn_settles, turn_reaches, turn_fits, turn_ends}
use Rattle.fixpoint_engine.proofs.Classes.{differ_together, rounds_same}
use Rattle.fixpoint_engine.specs.Members.{is_with}
use Rattle.fixpoint_engine.proofs.Members.{nets_in, nets_for_classes, exist_for_classes, waves_for_classes, IsTo}
use Rattle.fixpoint_engine.proofs.Alone.{for_all_is, own_classes}

-- ---- the first net of a class

-- the first net of its class, of which there is one
record Leads (ks : List ℕ) (f i : ℕ) : Type 0 where
  before : f ≤ i
  first : is_first ks f ≡ true
  same : class_of ks f ≡ class_of ks i

leader : (ks : List ℕ) (bound i : ℕ) → i < bound → (f : ℕ) × Leads ks f i
leader ks zero i below = absurd (omega arith)
leader ks (suc bound) i below = by (list_any (λ j. class_of ks j == class_of ks i) (range_with_len 0 i)) refl (λ j. leader ks bound j)
  where
    by : (earlier : Bool) → list_any (λ j. class_of ks j == class_of ks i) (range_with_len 0 i) ≡ earlier → ((j : ℕ) → j < bound → (f : ℕ) × Leads ks f j) → (f : ℕ) × Leads ks f i
    by false none lead = (i, record { before = omega arith; first = ap not none; same = refl })
    by true some lead =
        let at = Any-from_list_any (λ j. class_of ks j == class_of ks i) (range_with_len 0 i) some in
        let long = length-range_with_len 0 i in
        let place : at.0 < i = let within = at.2 in omega (arith, within, long) in
        let less : at.1 < i = let is : at.1 ≡ 0 + at.0 = sym at.3 ∙ get_or-range_with_len 0 i at.0 at.1 place in omega (arith, is, place) in
        let found = lead at.1 (omega (arith, less, below)) in (
          found.0,
          record {
            before = let before = found.1.before in omega (arith, before, less);
            first = found.1.first;
            same = found.1.same ∙ eqb-true (class_of ks at.1) (class_of ks i) at.4;
          },
        )

-- ---- changes to given waves

-- A net has the wave that it changes to, or the one that it had.
changed_to : (ws : Waves) (changes : List Change) (waves : List (Wave Value)) (i : ℕ) → All (λ (ch : Change). ch.0 < length waves) changes → All (IsTo ws) changes →
    waves_of (changed waves changes) i ≡ cond (nets_of changes i) (ws i) (waves_of waves i)
changed_to ws [] waves i exist to = refl
changed_to ws (ch ∷ changes) waves i exist to =
    changed_to ws changes (set waves ch.0 ch.1) i
    (subst (λ (long : ℕ). All (λ (one : Change). one.0 < long) changes) (sym (length-set waves ch.0 ch.1)) (All-tail (λ (one : Change). one.0 < length waves) ch changes exist))
    (All-tail (IsTo ws) ch changes to)
    ∙ (λ k. cond (nets_of changes i) (ws i) (set_at waves ch.0 i ch.1 (All-head (λ (one : Change). one.0 < length waves) ch changes exist) k))
    ∙ by (ch.0 == i) refl (nets_of changes i)
  where
    by : (here : Bool) → (ch.0 == i) ≡ here → (later : Bool) → cond later (ws i) (cond here ch.1 (waves_of waves i)) ≡ cond (here || later) (ws i) (waves_of waves i)
    by true e true = refl
    by true e false = All-head (IsTo ws) ch changes to ∙ ap ws (eqb-true ch.0 i e)
    by false e later = refl

-- ---- what has been found

work_more : (c : Circuit) (ks : List ℕ) (active : ℕ → Bool) (rounds : ℕ → Waves) (r : ℕ) →
    class_work_to c ks active rounds (suc r) ≡ class_work_to c ks active rounds r + due_classes c ks active rounds (suc r)
unfolding class_work_to
work_more c ks active rounds r = refl

-- After r rounds: the waves are those of round r, the queue has the first nets of the classes that are due in the next round,
-- and so many evaluations were made.
pub record Kept (c : Circuit) (active : ℕ → Bool) (ks : List ℕ) (start : Waves) (waves : List (Wave Value)) (q : Queue) (r evals : ℕ) : Type 0 where
  pub reached : Reached c active start r (waves_of waves)
  pub fit : FitWaves c waves
  pub each_net : length q.marks ≡ length c.nets
  pub due : (i : ℕ) → marked_in q.marks i ≡ (is_first ks i && is_due c active (round c active start) (suc r) i)
  pub works : evals ≡ class_work_to c ks active (round c active start) r
  pub bound : evals ≤ 65536 * r

-- these changes are what evaluating the nets that wait gives, for all nets of their classes
pub record IsMade (c : Circuit) (ks : List ℕ) (waves : List (Wave Value)) (q : Queue) (made : List Change) : Type 0 where
  pub queue : IsQueue q
  pub is : made ≡ for_classes ks (changes_of c (waves_of waves) q.nets)

module _ (c : Circuit) (active : ℕ → Bool) (ks : List ℕ) (start : Waves) (are : OneStandsForAll c active ks start) where
  -- nets of one class differ in the same rounds
  differ_same : (r : ℕ) → AreTogether c ks (differs (round c active start r) (round c active start (suc r)))
  differ_same r = differ_together c ks (round c active start r) (round c active start (suc r)) (are.one r) (are.one (suc r))

  -- none past the last net does
  none_differs : (r i : ℕ) → length c.nets ≤ i → differs (round c active start r) (round c active start (suc r)) i ≡ false
  none_differs r i past =
      ap (λ (w : Wave Value). not (same_wave (round c active start r i) w)) (undue_stays c active start r i (undue r)) ∙ ap not (same_wave_self (round c active start r i))
    where
      undue : (r : ℕ) → is_due c active (round c active start) (suc r) i ≡ false
      undue zero = first_due c active (round c active start) i ∙ are.none i past
      undue (suc r) = later_due c active (round c active start) r i
          ∙ ap (λ (b : Bool). b && hears_in (differs (round c active start r) (round c active start (suc r))) (driver c i)) (are.none i past)

  module _ (waves : List (Wave Value)) (q : Queue) (r evals : ℕ) (kept : Kept c active ks start waves q r evals) where
    waves_are : waves_of waves ≡ round c active start r
    waves_are = λ k i. kept.reached.is i k

    waiting_is : IsQueue q → (i : ℕ) → among q.nets i ≡ (is_first ks i && is_due c active (round c active start) (suc r) i)
    waiting_is queue i = among_waiting q i queue ∙ kept.due i

    pub waiting_exist : IsQueue q → All (λ net. net < length c.nets) q.nets
    waiting_exist queue = subst (λ (long : ℕ). All (λ net. net < long) q.nets) kept.each_net (waiting_below q queue)

    -- the nets that change are the first ones of those that differ
    firsts_change : IsQueue q → (i : ℕ) → nets_of (changes_of c (waves_of waves) q.nets) i ≡ (is_first ks i && differs (round c active start r) (round c active start (suc r)) i)
    firsts_change queue i =
        changed_nets c (waves_of waves) q.nets i
        ∙ (λ k. waiting_is queue i k && moves c (waves_are k) i)
        ∙ and_assoc (is_first ks i) (is_due c active (round c active start) (suc r) i) (moves c (round c active start r) i)
        ∙ ap (λ (b : Bool). is_first ks i && b) (changes_is c active start r i)

    -- a class has a net that changes if its nets differ
    class_changes : IsQueue q → (i : ℕ) → i < length c.nets → is_with ks (nets_in (changes_of c (waves_of waves) q.nets)) i ≡ differs (round c active start r) (round c active start (suc r)) i
    class_changes queue i below = both_ways _ _ to from
      where
        exist : All (λ net. net < length c.nets) (nets_in (changes_of c (waves_of waves) q.nets))
        exist = All-map (λ net. net < length c.nets) (λ (ch : Change). ch.0) (changes_of c (waves_of waves) q.nets) (changes_exist c (waves_of waves) q.nets (length c.nets) (waiting_exist queue))

        to : is_with ks (nets_in (changes_of c (waves_of waves) q.nets)) i ≡ true → differs (round c active start r) (round c active start (suc r)) i ≡ true
        to any =
            let at = Any-from_list_any (λ net. class_of ks net == class_of ks i) (nets_in (changes_of c (waves_of waves) q.nets)) any in
            let listed : nets_of (changes_of c (waves_of waves) q.nets) at.1 ≡ true = list_any-from_Any (λ net. net == at.1)
            (nets_in (changes_of c (waves_of waves) q.nets)) (at.0, at.1, at.2, at.3, eq-eqb at.1 at.1 refl) in
            let there : at.1 < length c.nets = subst (λ (n : ℕ). n < length c.nets) at.3 (exist at.0 at.1 at.2) in
            differ_same r i at.1 below there (sym (eqb-true (class_of ks at.1) (class_of ks i) at.4))
            ∙ (and_parts (is_first ks at.1) (differs (round c active start r) (round c active start (suc r)) at.1) (sym (firsts_change queue at.1) ∙ listed)).1

        from : differs (round c active start r) (round c active start (suc r)) i ≡ true → is_with ks (nets_in (changes_of c (waves_of waves) q.nets)) i ≡ true
        from differ =
            let lead = leader ks (suc i) i (omega arith) in
            let there : lead.0 < length c.nets = let before = lead.1.before in omega (arith, before, below) in
            let moved : differs (round c active start r) (round c active start (suc r)) lead.0 ≡ true = differ_same r lead.0 i there below lead.1.same ∙ differ in
            let listed : nets_of (changes_of c (waves_of waves) q.nets) lead.0 ≡ true = firsts_change queue lead.0
            ∙ and_from (is_first ks lead.0) (differs (round c active start r) (round c active start (suc r)) lead.0) lead.1.first moved in
            let at = Any-from_list_any (λ net. net == lead.0) (nets_in (changes_of c (waves_of waves) q.nets)) listed in
            list_any-from_Any (λ net. class_of ks net == class_of ks i) (nets_in (changes_of c (waves_of waves) q.nets))
            (at.0, at.1, at.2, at.3, eq-eqb (class_of ks at.1) (class_of ks i) (ap (class_of ks) (eqb-true at.1 lead.0 at.4) ∙ lead.1.same))

    module _ (made : List Change) (is : IsMade c ks waves q made) where
      pub made_exist : All (λ (ch : Change). ch.0 < length c.nets) made
      made_exist =
          subst (λ (chs : List Change). All (λ (ch : Change). ch.0 < length c.nets) chs) (sym is.is)
          (subst (λ (long : ℕ). All (λ (ch : Change). ch.0 < long) (for_classes ks (changes_of c (waves_of waves) q.nets))) are.each_net (exist_for_classes ks (changes_of c (waves_of waves) q.nets)))

      -- The nets of the changes are those whose waves differ in the next round.
      nets_are : (i : ℕ) → nets_of made i ≡ differs (round c active start r) (round c active start (suc r)) i
      nets_are i = elim (cases_lt i (length c.nets)) [
        | inl below ↦
            ap (λ (chs : List Change). nets_of chs i) is.is
            ∙ nets_for_classes ks (changes_of c (waves_of waves) q.nets) i (let each = are.each_net in omega (arith, each, below))
            ∙ class_changes is.queue i below
        | inr past ↦ false_from_ne_true (nets_of made i) (λ any. no_net past any) ∙ sym (none_differs r i past)
      ]
        where
          no_net : length c.nets ≤ i → nets_of made i ≡ true → ⊥
          no_net past any =
              let at = Any-from_list_any (λ net. net == i) (nets_in made) any in
              let exist = All-map (λ net. net < length c.nets) (λ (ch : Change). ch.0) made made_exist in
              let there : at.1 < length c.nets = subst (λ (n : ℕ). n < length c.nets) at.3 (exist at.0 at.1 at.2) in
              let same : at.1 ≡ i = eqb-true at.1 i at.4 in
              omega (arith, there, same, past)

      -- Each change is to the wave of the next round.
      made_to : All (IsTo (round c active start (suc r))) made
      made_to =
          subst (λ (chs : List Change). All (IsTo (round c active start (suc r))) chs) (sym is.is)
          (waves_for_classes ks (changes_of c (waves_of waves) q.nets) (round c active start (suc r)) one
          (subst (λ (long : ℕ). All (λ (ch : Change). ch.0 < long) (changes_of c (waves_of waves) q.nets)) (sym are.each_net)
          (changes_exist c (waves_of waves) q.nets (length c.nets) (waiting_exist is.queue)))
          (All-filter _ (IsTo (round c active start (suc r))) (map (λ i. (i, evaluated c (waves_of waves) i)) q.nets)
          (All-map (IsTo (round c active start (suc r))) (λ i. (i, evaluated c (waves_of waves) i)) q.nets taken)))
        where
          one : (i j : ℕ) → i < length ks → j < length ks → class_of ks i ≡ class_of ks j → round c active start (suc r) i ≡ round c active start (suc r) j
          one i j below below' same = let each = are.each_net in are.one (suc r) i j (omega (arith, each, below)) (omega (arith, each, below')) same

          takes : (i : ℕ) → marked_in q.marks i ≡ true → evaluated c (waves_of waves) i ≡ round c active start (suc r) i
          takes i marked =
              (λ k. evaluated c (waves_are k) i)
              ∙ sym (due_takes c active start r i (and_parts (is_first ks i) (is_due c active (round c active start) (suc r) i) (sym (kept.due i) ∙ marked)).1)

          taken : All (λ i. evaluated c (waves_of waves) i ≡ round c active start (suc r) i) q.nets
          taken k d below = takes _ ((is.queue.are _).1 (Contains-get_or q.nets k d below))

      -- The changed waves are those of the next round.
      next_is : AreSame (waves_of (changed waves made)) (round c active start (suc r))
      next_is i =
          changed_to (round c active start (suc r)) made waves i (subst (λ (long : ℕ). All (λ (ch : Change). ch.0 < long) made) (sym kept.fit.each_net) made_exist) made_to
          ∙ by (nets_of made i) refl
        where
          by : (new : Bool) → nets_of made i ≡ new → cond new (round c active start (suc r) i) (waves_of waves i) ≡ round c active start (suc r) i
          by true e = refl
          by false e = kept.reached.is i ∙ same_wave_is (round c active start r i) (round c active start (suc r) i) (not-false _ (sym (nets_are i) ∙ e))

      pub turn : Turn c active start waves r made
      turn = record { nets = nets_are; next = next_is }

      pub settles : (limit : ℕ) → length made ≡ 0 → r ≤ limit → AreSettled c active start limit r (waves_of waves)
      settles limit none within = turn_settles c active start waves r kept.reached limit made turn none within

      -- ---- how many evaluations

      works_out : evals + length q.nets ≡ class_work_to c ks active (round c active start) (suc r)
      works_out =
          (λ k. kept.works k + waiting_count c (λ i. is_first ks i && is_due c active (round c active start) (suc r) i) q is.queue kept.each_net kept.due k)
          ∙ sym (work_more c ks active (round c active start) r)

      pub works : (nets : List ℕ) → nets ≡ q.nets → evals + length nets ≡ class_work_to c ks active (round c active start) (r + 1)
      works nets same =
          ap (λ (ns : List ℕ). evals + length ns) same ∙ works_out ∙ ap (class_work_to c ks active (round c active start)) (let e : suc r ≡ r + 1 = omega arith in e)

      evals_fit : IsCircuit c → evals + length q.nets ≤ 65536 * (r + 1)
      evals_fit known =
          let few = waiting_few q is.queue in
          let each = kept.each_net in
          let bound = kept.bound in
          let nets = known.few_nets in
          omega (arith, few, each, bound, nets)

      -- ---- the loop

      pub kept_more : (after : List (Wave Value)) (more : Queue) (nets : List ℕ) (leading : ℕ → Bool) →
          IsCircuit c → 0 < period c.header → AreLong c start → nets ≡ q.nets → 0 < length made → after ≡ changed waves made →
          length more.marks ≡ length c.nets → ((i : ℕ) → leading i ≡ (active i && is_first ks i)) → ((i : ℕ) → marked_in more.marks i ≡ (leading i && hears_in (nets_of made) (driver c i))) →
          Kept c active ks start after more (r + 1) (evals + length nets)
      kept_more after more nets leading known some fit waiting moves same each lead refilled =
          subst (λ (ns : List ℕ). Kept c active ks start after more (r + 1) (evals + length ns)) (sym waiting)
          (subst (λ (n : ℕ). Kept c active ks start after more n (evals + length q.nets)) (let e : suc r ≡ r + 1 = omega arith in e) (record {
            reached = turn_reaches c active start waves r kept.reached made turn after same moves;
            fit = turn_fits c active start waves r kept.reached made turn after same known some fit kept.fit;
            each_net = each;
            due = λ i. refilled i ∙ (λ k. lead i k && hears_same (nets_of made) (differs (round c active start r) (round c active start (suc r))) (driver c i) nets_are k)
                ∙ turned (active i) (is_first ks i) (hears_in (differs (round c active start r) (round c active start (suc r))) (driver c i))
                ∙ ap (λ (b : Bool). is_first ks i && b) (sym (later_due c active (round c active start) r i));
            works = works_out;
            bound = let most = evals_fit known in omega (arith, most);
          }))
        where
          turned : (x y z : Bool) → ((x && y) && z) ≡ (y && (x && z))
          turned true true z = refl
          turned true false z = refl
          turned false true z = refl
          turned false false z = refl

    -- ---- runs

    pub keeps : IsCircuit c → 0 < period c.header → AreLong c start → KeepRuns c start r (waves_of waves)
    keeps known some fit run v isrun v1 permits i below =
        subst (λ (w : Wave Value). Permits values w run.ticks (net_signal run i) (v + r * reach c))
        (sym (kept.reached.is i)) (round_sound c active start r some known fit run v isrun v1 permits i below)

-- ---- before the first round

no_work : (c : Circuit) (ks : List ℕ) (active : ℕ → Bool) (rounds : ℕ → Waves) → class_work_to c ks active rounds 0 ≡ 0
unfolding class_work_to
no_work c ks active rounds = refl

pub kept_start : (c : Circuit) (active : ℕ → Bool) (ks : List ℕ) (start waves : List (Wave Value)) (q : Queue) (leading : ℕ → Bool) → FitWaves c start →
    ((i : ℕ) → leading i ≡ (active i && is_first ks i)) → waves ≡ start → length q.marks ≡ length c.nets → ((i : ℕ) → marked_in q.marks i ≡ leading i) → Kept c active ks (waves_of start) waves q 0 0
kept_start c active ks start waves q leading fit lead same each marks = record {
  reached = reached_start c active (waves_of start) (waves_of waves) (λ i. ap (λ (ws : List (Wave Value)). waves_of ws i) same);
  fit = subst (FitWaves c) (sym same) fit;
  each_net = each;
  due = λ i. marks i ∙ lead i ∙ and_comm (active i) (is_first ks i)
      ∙ ap (λ (b : Bool). is_first ks i && b) (sym (first_due c active (round c active (waves_of start)) i));
  works = sym (no_work c ks active (round c active (waves_of start)));
  bound = omega arith;
}

-- ---- what the caller knows

pub classes_are : (c : Circuit) (cases : List (List CaseValue)) (active : List Bool) (ks : List ℕ) (start : Waves) →
    IsCircuit c → FitActive c active → length ks ≡ length c.nets → IsStable c cases ks → HaveOneWave c ks start →
    AreTogether c ks (marked_in active) → OneStandsForAll c (marked_in active) ks start
classes_are c cases active ks start known fit each stable one together = record {
  each_net = each;
  one = rounds_same c cases ks known stable (marked_in active) start together one;
  none = λ i past. active_past c active i fit past;
}

-- with classes or without
pub each_stands : (c : Circuit) (cases : List (List CaseValue)) (active : List Bool)
    (classes : Option (List ℕ)) (start : Waves) →
    IsCircuit c → FitActive c active →
    IfSome classes (λ ks. (length ks ≡ length c.nets) × IsStable c cases ks) →
    ((ks : List ℕ) → IsStable c cases ks →
    HaveOneWave c ks start × AreTogether c ks (marked_in active)) →
    OneStandsForAll c (marked_in active) (numbers_in (length c.nets) classes) start
each_stands c cases active None start known fit stable alike = own_classes c active start fit
each_stands c cases active (Some ks) start known fit stable alike =
    let both = alike ks stable.1 in
    classes_are c cases active ks start known fit stable.0 stable.1 both.0 both.1

-- ---- the limit, as code has the changes

pub ends_by : {A : Type 0} (pair : A → Change) (net : A → ℕ) (c : Circuit) (active : ℕ → Bool) (ks : List ℕ) (start : Waves)
    (are : OneStandsForAll c active ks start) (waves : List (Wave Value)) (q : Queue) (limit r evals : ℕ) (xs ys : List A) (e : EngineEnd) →
    ((x : A) → net x ≡ (pair x).0) → Kept c active ks start waves q r evals → IsMade c ks waves q (map pair xs) →
    r ≡ limit → ys ≡ xs → EndsAt c.order (among (map net ys)) limit e → EndsFor c.order (round c active start) limit e
ends_by pair net c active ks start are waves q limit r evals xs ys e is kept made last same at =
    subst (λ (n : ℕ). EndsFor c.order (round c active start) n e) last
    (turn_ends c active start waves r kept.reached (map pair xs) (turn c active ks start are waves q r evals kept (map pair xs) made) e
    (subst (λ (ns : List ℕ). EndsAt c.order (among ns) r e) (nets_made pair net xs ys is same) (subst (λ (n : ℕ). EndsAt c.order (among (map net ys)) n e) (sym last) at)))

pub made_of : (c : Circuit) (active : ℕ → Bool) (classes : Option (List ℕ)) (start : Waves)
    (are : OneStandsForAll c active (numbers_in (length c.nets) classes) start) (waves : List (Wave Value)) (q : Queue) (r evals : ℕ) →
    Kept c active (numbers_in (length c.nets) classes) start waves q r evals → (nets : List ℕ) (made : List Change) →
    IsQueue q → nets ≡ q.nets → made ≡ for_all classes (changes_of c (waves_of waves) nets) →
    IsMade c (numbers_in (length c.nets) classes) waves q made
made_of c active classes start are waves q r evals kept nets made queue same is = record {
  queue = queue;
  is = is ∙ ap (λ (ns : List ℕ). for_all classes (changes_of c (waves_of waves) ns)) same
      ∙ for_all_is (length c.nets) classes are.each_net (changes_of c (waves_of waves) q.nets)
      (changes_exist c (waves_of waves) q.nets (length c.nets) (waiting_exist c active (numbers_in (length c.nets) classes) start are waves q r evals kept queue));
}
