-- What is told of the pins beside a marked one, one after another, and of a net's steps in each direction.
use Rattle.std.proofs.Common.{◌≡◌, ℕ, ◌+◌, Bool, true, false, not, ◌&&◌, ◌||◌, cond, refl, sym, ap, subst, ◌∙◌, zero-add, List, [], ◌∷◌, ◌++◌, length, map, Option, Some, None}
use Rattle.std.specs.Prelude.{filter}
use Rattle.std.specs.Option.{option_map}
use Rattle.step_values.specs.declared.value.Value.{Value}
use Rattle.step_values.specs.Cell.{same}
use Rattle.element_kinds.specs.declared.kind.Kind.{Kind}
use Rattle.element_kinds.specs.Kinds.{closes_of}
use Rattle.gate_eval.specs.Hold.{is_settled, staying}
use Rattle.fixpoint_engine.specs.Pins.{read}
use Rattle.critical_paths.specs.declared.region.Test.TheVariants.{Unlike}
use Rattle.critical_paths.specs.Views.{passing}
use Rattle.slack_rows.specs.Watch.{opens}
use Rattle.slack_rows.specs.declared.slack.Reason.{Reason}
use Rattle.slack_rows.specs.declared.slack.Reason.TheVariants.{Level}
use Rattle.std.specs.List.{list_any, range_with_len}
use Rattle.std.proofs.lemmas.List.Folds.{list_any-append}
use Rattle.scald_base.specs.Time.{period}
use Rattle.vector_names.proofs.Ranges.{range_more}
use Rattle.flat_circuit.specs.declared.instance.Instance.{Instance}
use Rattle.flat_circuit.specs.Circuit.{Circuit}
use Rattle.fixpoint_engine.specs.Waves.{Waves}
use Rattle.point_check.specs.Window.{Folds}
use Rattle.critical_paths.specs.declared.direction.Direction.{Direction}
use Rattle.critical_paths.specs.declared.direction.Direction.TheVariants.{Change}
use Rattle.critical_paths.specs.Event.{Events}
use Rattle.critical_paths.specs.Region.{Region}
use Rattle.slack_rows.specs.declared.parameter.Word.{Word as Limit}
use Rattle.slack_rows.specs.declared.parameter.Word.TheVariants.{Gate, Before as GateBefore, After as GateAfter}
use Rattle.slack_rows.specs.declared.slack.Slacks.{Slacks}
use Rattle.slack_rows.specs.declared.slack.Finding.{Finding as Found}
use Rattle.slack_rows.specs.Window.{Window, met}
use Rattle.slack_rows.specs.Slack.{AtLevel, Free, NoNumber, Finding, is_open, least, lesser, no_launches, finding_after, finding_alone, finding_at, finding_before, finding_of, two_alone, two_in}
use Rattle.slack_rows.specs.Limit.{beside_by_arrivals, in_windows, is_beside, mark_by_arrivals, finding_mark, finding_never, finding_outside, finding_pin}
use Rattle.slack_rows.specs.Views.{Tells, lesser_found, slack_finding, finding_level_by}
use Rattle.slack_rows.specs.Held.{AreAlike, IsLevelIn, IsLevelFinding, TellBeside, TellDirections, TellParts, TellSides, steps_watch}
use Rattle.slack_rows.proofs.Alike.{alike_lesser, alike_none, alike_same}
use Rattle.slack_rows.proofs.Kept.{filter_more}
use Rattle.slack_rows.proofs.Ordered.{before_free, free_is_last}
use Rattle.slack_rows.proofs.Findings.{least_more, least_passing_more, tells_lesser}

-- ---- nothing more

pub lesser_none : (best : Option Found) → lesser_found best None ≡ best
lesser_none best = ap (λ (b : Bool). cond b None best) (free_is_last (slack_finding best))

pub none_lesser : (found : Option Found) → lesser_found None found ≡ found
none_lesser None = refl
none_lesser (Some finding) = ap (λ (b : Bool). cond b (Some finding) None) (before_free finding.slack)

pub tells_one : (p : ℕ) (found : Option Found) (finding : Finding) → Tells p found finding → Tells p found (least (finding ∷ []))
tells_one p found finding tells =
    subst (λ (o : Option Found). Tells p o (least (finding ∷ []))) (none_lesser found)
    (subst (Tells p (lesser_found None found)) (sym (least_more [] finding))
    (tells_lesser p None found (finding_alone Free) finding refl tells))

pub or_none : (a b : Bool) → (a || b) ≡ false → (a ≡ false) × (b ≡ false)
or_none true b is = absurd (cc)
or_none false b is = (refl, is)

-- ---- pins beside a marked one

module _ (c : Circuit) (ws : Waves) (j : Instance) (marked : ℕ) where
  abbrev pub so_far : ℕ → List ℕ
  so_far n = filter (is_beside j marked) (range_with_len 0 n)

  abbrev pub finding_to : Limit → ℕ → Finding
  finding_to limit n = least (map (λ i. finding_of i Change (finding_pin c ws j limit marked i)) (so_far n))

  -- those of the places so far
  pub record MarkedTo (n : ℕ) (found : Slacks) : Type 0 where
    pub level : Tells (period c.header) found.level (finding_to Gate n)
    pub before : list_any (beside_by_arrivals c ws j marked) (so_far n) ≡ false → Tells (period c.header) found.before (finding_to GateBefore n)
    pub after : list_any (beside_by_arrivals c ws j marked) (so_far n) ≡ false → Tells (period c.header) found.after (finding_to GateAfter n)
    pub alike : AreAlike found (finding_to GateBefore n).slack (finding_to GateAfter n).slack

  pub marked_none : (all : Slacks) → all ≡ record { level = None; before = None; after = None } → MarkedTo 0 all
  marked_none all is =
      record {
        level = subst (λ (o : Option Found). Tells (period c.header) o (finding_to Gate 0)) (sym (ap (λ (s : Slacks). s.level) is)) refl;
        before = λ exact. subst (λ (o : Option Found). Tells (period c.header) o (finding_to GateBefore 0)) (sym (ap (λ (s : Slacks). s.before) is)) refl;
        after = λ exact. subst (λ (o : Option Found). Tells (period c.header) o (finding_to GateAfter 0)) (sym (ap (λ (s : Slacks). s.after) is)) refl;
        alike = alike_none all Free Free (ap (λ (s : Slacks). s.before) is) (ap (λ (s : Slacks). s.after) is) refl refl;
      }

  far_more : (n : ℕ) (b : Bool) → is_beside j marked n ≡ b → so_far (n + 1) ≡ so_far n ++ cond b (n ∷ []) []
  far_more n b is =
      ap (filter (is_beside j marked)) (range_more 0 n n (zero-add n)) ∙ filter_more (is_beside j marked) (range_with_len 0 n) n
      ∙ ap (λ (x : Bool). so_far n ++ cond x (n ∷ []) []) is

  finding_more : (limit : Limit) (n : ℕ) (b : Bool) → is_beside j marked n ≡ b →
      finding_to limit (n + 1) ≡ cond b (lesser (finding_to limit n) (finding_of n Change (finding_pin c ws j limit marked n))) (finding_to limit n)
  finding_more limit n b is =
      least_passing_more (λ i. finding_of i Change (finding_pin c ws j limit marked i)) (is_beside j marked) n
      ∙ ap (λ (x : Bool). cond x (lesser (finding_to limit n) (finding_of n Change (finding_pin c ws j limit marked n))) (finding_to limit n)) is

  any_parts : (n : ℕ) → is_beside j marked n ≡ true → list_any (beside_by_arrivals c ws j marked) (so_far (n + 1)) ≡ false →
      (list_any (beside_by_arrivals c ws j marked) (so_far n) ≡ false) × (beside_by_arrivals c ws j marked n ≡ false)
  any_parts n is none =
      let both = or_none (list_any (beside_by_arrivals c ws j marked) (so_far n)) (beside_by_arrivals c ws j marked n || false)
      (sym (ap (list_any (beside_by_arrivals c ws j marked)) (far_more n true is) ∙ list_any-append (beside_by_arrivals c ws j marked) (so_far n) (n ∷ [])) ∙ none) in
      (both.0, (or_none (beside_by_arrivals c ws j marked n) false both.1).0)

  append_none : (xs : List ℕ) → xs ++ [] ≡ xs
  append_none [] = refl
  append_none (x ∷ xs) = ap (λ (ys : List ℕ). x ∷ ys) (append_none xs)

  any_same : (n : ℕ) → is_beside j marked n ≡ false → list_any (beside_by_arrivals c ws j marked) (so_far (n + 1)) ≡ false →
      list_any (beside_by_arrivals c ws j marked) (so_far n) ≡ false
  any_same n is none = sym (ap (list_any (beside_by_arrivals c ws j marked)) (far_more n false is ∙ append_none (so_far n))) ∙ none

  pub marked_more : (n : ℕ) (all found next : Slacks) → MarkedTo n all → TellBeside c ws j marked n found →
      next.level ≡ lesser_found all.level found.level → next.before ≡ lesser_found all.before found.before →
      next.after ≡ lesser_found all.after found.after → MarkedTo (n + 1) next
  marked_more n all found next so here level_is before_is after_is = by (is_beside j marked n) refl
    where
      with_one : (limit : Limit) (best one all : Option Found) → is_beside j marked n ≡ true → all ≡ lesser_found best one →
          Tells (period c.header) best (finding_to limit n) → Tells (period c.header) one (finding_of n Change (finding_pin c ws j limit marked n)) →
          Tells (period c.header) all (finding_to limit (n + 1))
      with_one limit best one all is all_is first second =
          subst (λ (o : Option Found). Tells (period c.header) o (finding_to limit (n + 1))) (sym all_is)
          (subst (Tells (period c.header) (lesser_found best one)) (sym (finding_more limit n true is))
          (tells_lesser (period c.header) best one (finding_to limit n) (finding_of n Change (finding_pin c ws j limit marked n)) first second))

      with_none : (limit : Limit) (best one all : Option Found) → is_beside j marked n ≡ false → all ≡ lesser_found best one → one ≡ None →
          Tells (period c.header) best (finding_to limit n) → Tells (period c.header) all (finding_to limit (n + 1))
      with_none limit best one all is all_is none first =
          subst (λ (o : Option Found). Tells (period c.header) o (finding_to limit (n + 1))) (sym (all_is ∙ ap (lesser_found best) none ∙ lesser_none best))
          (subst (Tells (period c.header) best) (sym (finding_more limit n false is)) first)

      by : (b : Bool) → is_beside j marked n ≡ b → MarkedTo (n + 1) next
      by true is =
          record {
            level = with_one Gate all.level found.level next.level is level_is so.level (here.level is);
            before = λ exact. let parts = any_parts n is exact in
                with_one GateBefore all.before found.before next.before is before_is (so.before parts.0) (here.before is parts.1);
            after = λ exact. let parts = any_parts n is exact in
                with_one GateAfter all.after found.after next.after is after_is (so.after parts.0) (here.after is parts.1);
            alike =
                subst (λ (finding : Finding). AreAlike next finding.slack (finding_to GateAfter (n + 1)).slack) (sym (finding_more GateBefore n true is))
                (subst (λ (finding : Finding). AreAlike next (lesser (finding_to GateBefore n) (finding_of n Change (finding_pin c ws j GateBefore marked n))).slack finding.slack)
                (sym (finding_more GateAfter n true is))
                (alike_lesser all found next (finding_to GateBefore n) (finding_to GateAfter n) (finding_of n Change (finding_pin c ws j GateBefore marked n))
                (finding_of n Change (finding_pin c ws j GateAfter marked n)) so.alike (here.alike is) before_is after_is));
          }
      by false is =
          let none = here.none is in
          record {
            level = with_none Gate all.level found.level next.level is level_is none.0 so.level;
            before = λ exact. with_none GateBefore all.before found.before next.before is before_is none.1 (so.before (any_same n is exact));
            after = λ exact. with_none GateAfter all.after found.after next.after is after_is none.2 (so.after (any_same n is exact));
            alike =
                subst (λ (finding : Finding). AreAlike next finding.slack (finding_to GateAfter (n + 1)).slack) (sym (finding_more GateBefore n false is))
                (subst (λ (finding : Finding). AreAlike next (finding_to GateBefore n).slack finding.slack) (sym (finding_more GateAfter n false is))
                (alike_same all next (finding_to GateBefore n).slack (finding_to GateAfter n).slack so.alike
                (before_is ∙ ap (lesser_found all.before) none.1 ∙ lesser_none all.before)
                (after_is ∙ ap (lesser_found all.after) none.2 ∙ lesser_none all.after)));
          }

  -- those of all places
  pub marked_all : (n : ℕ) (found : Slacks) → n ≡ length j.pins → MarkedTo n found →
      (Tells (period c.header) found.level (finding_mark c ws j Gate (Some marked)))
      × (TellSides (period c.header) (mark_by_arrivals c ws j (Some marked)) (finding_mark c ws j GateBefore (Some marked))
      (finding_mark c ws j GateAfter (Some marked)) found)
  marked_all n found all finding =
      let at : MarkedTo (length j.pins) found = subst (λ (k : ℕ). MarkedTo k found) all finding in
      (at.level, record { before = at.before; after = at.after; alike = at.alike })

-- ---- directions of a net's steps

-- of a net nothing is known of launches
pub no_two_in : (p : ℕ) (ev : Events) (windows : List Window) → list_any (two_in p ev (λ w r. false)) windows ≡ false
no_two_in p ev [] = refl
no_two_in p ev (w ∷ windows) = (λ i. alone (met p ev w) i || no_two_in p ev windows i)
  where
    and_none : (b : Bool) → (b && false) ≡ false
    and_none true = refl
    and_none false = refl

    alone : (rs : List Region) → two_alone (λ w r. false) w rs ≡ false
    alone [] = refl
    alone (r ∷ []) = and_none (is_open w r)
    alone (r ∷ s ∷ more) = refl

module _ (p : ℕ) (folds wide : Folds) where
  abbrev TellSteps : Direction → Slacks → Type 0
  TellSteps d found = TellParts p no_launches (λ w r. false) 0 d (steps_watch p folds wide d) found

  abbrev never : Direction → Finding
  never d = finding_of 0 d (finding_never p (steps_watch p folds wide d))

  abbrev before : Direction → Finding
  before d = finding_of 0 d (finding_before p no_launches (in_windows (steps_watch p folds wide d)))

  abbrev after : Direction → Finding
  after d = finding_of 0 d (finding_after p no_launches (in_windows (steps_watch p folds wide d)))

  pub no_direction : (found : Slacks) → found ≡ record { level = None; before = None; after = None } → TellDirections p folds wide [] found
  no_direction found is =
      record {
        level = subst (λ (o : Option Found). Tells p o (finding_alone Free)) (sym (ap (λ (s : Slacks). s.level) is)) refl;
        before = subst (λ (o : Option Found). Tells p o (finding_alone Free)) (sym (ap (λ (s : Slacks). s.before) is)) refl;
        after = subst (λ (o : Option Found). Tells p o (finding_alone Free)) (sym (ap (λ (s : Slacks). s.after) is)) refl;
      }

  pub one_direction : (d : Direction) (found : Slacks) → TellSteps d found → TellDirections p folds wide (d ∷ []) found
  one_direction d found finding =
      let exact = no_two_in p (steps_watch p folds wide d).changes (steps_watch p folds wide d).windows in
      record {
        level = tells_one p found.level (never d) finding.level;
        before = tells_one p found.before (before d) (finding.before exact);
        after = tells_one p found.after (after d) (finding.after exact);
      }

  pub two_directions : (d e : Direction) (first second found : Slacks) → TellSteps d first → TellSteps e second →
      found.level ≡ lesser_found first.level second.level → found.before ≡ lesser_found first.before second.before →
      found.after ≡ lesser_found first.after second.after → TellDirections p folds wide (d ∷ e ∷ []) found
  two_directions d e first second found one other level_is before_is after_is =
      let exact = no_two_in p (steps_watch p folds wide d).changes (steps_watch p folds wide d).windows in
      let exact_other = no_two_in p (steps_watch p folds wide e).changes (steps_watch p folds wide e).windows in
      record {
        level = both first.level second.level found.level (never d) (never e) level_is one.level other.level;
        before = both first.before second.before found.before (before d) (before e) before_is (one.before exact) (other.before exact_other);
        after = both first.after second.after found.after (after d) (after e) after_is (one.after exact) (other.after exact_other);
      }
    where
      both : (a b all : Option Found) (s t : Finding) → all ≡ lesser_found a b → Tells p a s → Tells p b t → Tells p all (least (s ∷ t ∷ []))
      both a b all s t all_is tells_a tells_b =
          subst (λ (o : Option Found). Tells p o (least (s ∷ t ∷ []))) (sym all_is)
          (subst (Tells p (lesser_found a b)) (sym (least_more (s ∷ []) t))
          (tells_lesser p a b (least (s ∷ [])) t (tells_one p a s tells_a) tells_b))

-- ---- a mark that lets nothing through

pub rest_is : (closes : Option Bool) (rest v : Value) → option_map staying closes ≡ Some rest → not (same v rest) ≡ not (is_settled closes v)
rest_is None rest v is = absurd (cc)
rest_is (Some bit) rest v is = let same_value : staying bit ≡ rest = cc in ap (λ (x : Value). not (same v x)) (sym same_value)

pub lets_are : (kind : Kind) (rest : Value) (cells : List Value) → option_map staying (closes_of kind) ≡ Some rest →
    passing (Unlike rest) cells ≡ opens kind (read cells)
unfolding passing
lets_are kind rest cells is = λ i t. rest_is (closes_of kind) rest (read cells t) is i

-- ---- a level beside the steps

pub level_finding : (p : ℕ) (high : ℕ → Bool) (found : Option Reason) (outside : Bool) (excess : Option ℕ) → IsLevelFinding high found outside excess →
    Tells p (finding_level_by found) (finding_outside outside excess)
level_finding p high found true excess none = subst (λ (o : Option Reason). Tells p (finding_level_by o) (finding_alone Free)) (sym none) refl
level_finding p high found false None none = subst (λ (o : Option Reason). Tells p (finding_level_by o) (finding_alone Free)) (sym none) refl
level_finding p high found false (Some slot) is =
    subst (λ (o : Option Reason). Tells p (finding_level_by o) (finding_at NoNumber (AtLevel slot))) (sym is) record { is = refl; near = tt }

-- a level that is not permitted
pub level_is : (high : ℕ → Bool) (found : Option Reason) (outside : Bool) (excess : Option ℕ) (slot : ℕ) → outside ≡ false →
    excess ≡ Some slot → found ≡ Some (Level (high slot) slot) → IsLevelFinding high found outside excess
level_is high found outside excess slot none is level =
    subst (λ (b : Bool). IsLevelFinding high found b excess) (sym none) (subst (IsLevelIn high found) (sym is) level)

pub with_outside : (p : ℕ) (best found all : Option Found) (findings : List Finding) (finding : Finding) → all ≡ lesser_found best found →
    Tells p best (least findings) → Tells p found finding → Tells p all (least (findings ++ finding ∷ []))
with_outside p best found all findings finding is first second =
    subst (λ (o : Option Found). Tells p o (least (findings ++ finding ∷ []))) (sym is)
    (subst (Tells p (lesser_found best found)) (sym (least_more findings finding)) (tells_lesser p best found (least findings) finding first second))
