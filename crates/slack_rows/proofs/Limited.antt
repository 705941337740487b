-- What is told of each limit of a subject.
use Rattle.std.proofs.Common.{◌≡◌, ℕ, zero, suc, Bool, true, false, ◌||◌, cond, refl, sym, ap, subst, ◌∙◌, arith, List, [], ◌∷◌, Option, Some, None}
use Rattle.std.specs.List.{All}
use Rattle.std.specs.Prelude.{Result, Ok, Err, IfOk, slice_get}
use Rattle.std.proofs.lemmas.Result.{IfOk-weaker}
use Rattle.scald_base.specs.Time.{period}
use Rattle.element_kinds.specs.declared.form.Check.{Check}
use Rattle.element_kinds.specs.declared.form.Check.TheVariants.{SetupHold as AboutRise, RiseFall as RiseToFall, MinPulse as Widths}
use Rattle.element_kinds.specs.Kinds.{check_of, may_be_marked}
use Rattle.flat_circuit.specs.declared.instance.Instance.{Instance}
use Rattle.flat_circuit.specs.declared.net.Net.{Net}
use Rattle.flat_circuit.specs.Circuit.{Circuit}
use Rattle.fixpoint_engine.specs.Waves.{Waves, marked_pin}
use Rattle.point_check.specs.Assertion.{is_held}
use Rattle.slack_rows.specs.declared.parameter.Subject.{Subject}
use Rattle.slack_rows.specs.declared.parameter.Subject.TheVariants.{Net as OfNet}
use Rattle.slack_rows.specs.declared.parameter.Word.{Word as Limit}
use Rattle.slack_rows.specs.declared.parameter.Word.TheVariants.{Setup, Hold, High, Low, Gate, Before as GateBefore, After as GateAfter, Assert, From as StableFrom, To as StableTo}
use Rattle.slack_rows.specs.declared.slack.Slacks.{Slacks}
use Rattle.slack_rows.specs.Limit.{beside, by_arrivals, check_by_arrivals, instance_by_arrivals, mark_by_arrivals, finding_check, finding_held, finding_in, finding_instance, finding_mark, finding_net}
use Rattle.slack_rows.specs.Rows.{if_some, limits_of, limits_of_check, limits_of_instance, limits_of_mark, limits_of_net, partner}
use Rattle.slack_rows.specs.Held.{TellSides}
use Rattle.slack_rows.specs.Known.{BreakAlike, IsAlike, TellLimits, may_be_two}
use Rattle.slack_rows.specs.Slack.{Finding, Free, finding_alone, is_broken, is_free}
use Rattle.slack_rows.specs.Views.{Tells, slack_for, slack_finding}
use Rattle.slack_rows.proofs.Checking.{FindingBoth}
use Rattle.slack_rows.proofs.Findings.{finding_slack}

pub all_none : {A : Type 0} (P : A → Type 0) → All P []
all_none P k d within = absurd (omega (arith, within))

pub all_two : {A : Type 0} (P : A → Type 0) (a b : A) → P a → P b → All P (a ∷ b ∷ [])
all_two P a b x y zero d within = x
all_two P a b x y (suc zero) d within = y
all_two P a b x y (suc (suc k)) d within = absurd (omega (arith, within))

pub all_three : {A : Type 0} (P : A → Type 0) (a b e : A) → P a → P b → P e → All P (a ∷ b ∷ e ∷ [])
all_three P a b e x y z zero d within = x
all_three P a b e x y z (suc zero) d within = y
all_three P a b e x y z (suc (suc zero)) d within = z
all_three P a b e x y z (suc (suc (suc k))) d within = absurd (omega (arith, within))

-- ---- the limits of one subject

module _ (p : ℕ) (found : Slacks) (finding : Limit → Finding) where
  -- what is told exactly, of a limit that has no other side
  alone : (word : Limit) → partner word ≡ None → Tells p (slack_for found word) (finding word) → IsAlike finding found word
  alone word none tells =
      let same = finding_slack p (slack_for found word) (finding word) tells in
      record {
        free = ap is_free same;
        alone = λ is. ap is_broken same;
        both = subst (BreakAlike finding found word) (sym none) tt;
      }

  -- what is told exactly, of one that has
  beside_it : (before word : Limit) → partner word ≡ Some before → Tells p (slack_for found before) (finding before) →
      Tells p (slack_for found word) (finding word) → IsAlike finding found word
  beside_it before word is one tells =
      let first = finding_slack p (slack_for found before) (finding before) one in
      let same = finding_slack p (slack_for found word) (finding word) tells in
      record {
        free = ap is_free same;
        alone = λ is. ap is_broken same;
        both = subst (BreakAlike finding found word) (sym is) (λ i. is_broken (first i) || is_broken (same i));
      }

  -- where arrivals may say which side is broken
  first_side : (word : Limit) → may_be_two word ≡ true → partner word ≡ None →
      is_free (slack_finding (slack_for found word)) ≡ is_free (finding word).slack → IsAlike finding found word
  first_side word two none free =
      record {
        free = free;
        alone = λ is. absurd (cc (sym two ∙ is));
        both = subst (BreakAlike finding found word) (sym none) tt;
      }

  second_side : (before word : Limit) → may_be_two word ≡ true → partner word ≡ Some before →
      is_free (slack_finding (slack_for found word)) ≡ is_free (finding word).slack →
      (is_broken (slack_finding (slack_for found before)) || is_broken (slack_finding (slack_for found word)))
      ≡ (is_broken (finding before).slack || is_broken (finding word).slack) → IsAlike finding found word
  second_side before word two is free both =
      record {
        free = free;
        alone = λ one. absurd (cc (sym two ∙ one));
        both = subst (BreakAlike finding found word) (sym is) both;
      }

  pub tell_none : (except : Bool) → TellLimits p except finding [] found
  tell_none except =
      record { exact = λ sure. all_none (λ word. Tells p (slack_for found word) (finding word)); alike = all_none (IsAlike finding found) }

  pub tell_edges : (except : Bool) → TellSides p except (finding Setup) (finding Hold) found → TellLimits p except finding (Setup ∷ Hold ∷ []) found
  tell_edges except sides =
      record {
        exact = λ sure. all_two (λ word. Tells p (slack_for found word) (finding word)) Setup Hold (sides.before sure) (sides.after sure);
        alike = all_two (IsAlike finding found) Setup Hold (first_side Setup refl refl sides.alike.before)
            (second_side Setup Hold refl refl sides.alike.after sides.alike.broken);
      }

  pub tell_widths : (except : Bool) → Tells p found.before (finding High) → Tells p found.after (finding Low) →
      TellLimits p except finding (High ∷ Low ∷ []) found
  tell_widths except high low =
      record {
        exact = λ sure. all_two (λ word. Tells p (slack_for found word) (finding word)) High Low high low;
        alike = all_two (IsAlike finding found) High Low (alone High refl high) (alone Low refl low);
      }

  tell_gate : (except : Bool) → Tells p found.level (finding Gate) → TellSides p except (finding GateBefore) (finding GateAfter) found →
      TellLimits p except finding (Gate ∷ GateBefore ∷ GateAfter ∷ []) found
  tell_gate except level sides =
      record {
        exact = λ sure. all_three (λ word. Tells p (slack_for found word) (finding word)) Gate GateBefore GateAfter level (sides.before sure) (sides.after sure);
        alike = all_three (IsAlike finding found) Gate GateBefore GateAfter (alone Gate refl level)
            (first_side GateBefore refl refl sides.alike.before)
            (second_side GateBefore GateAfter refl refl sides.alike.after sides.alike.broken);
      }

  pub tell_mark : {A : Type 0} (some : List A) (except : Bool) → Tells p found.level (finding Gate) →
      TellSides p except (finding GateBefore) (finding GateAfter) found →
      TellLimits p except finding (if_some some (Gate ∷ GateBefore ∷ GateAfter ∷ [])) found
  tell_mark [] except level sides = tell_none except
  tell_mark (x ∷ some) except level sides = tell_gate except level sides

  pub tell_held : (except : Bool) → Tells p found.level (finding Assert) → Tells p found.before (finding StableFrom) →
      Tells p found.after (finding StableTo) → TellLimits p except finding (Assert ∷ StableFrom ∷ StableTo ∷ []) found
  tell_held except level before after =
      record {
        exact = λ sure. all_three (λ word. Tells p (slack_for found word) (finding word)) Assert StableFrom StableTo level before after;
        alike = all_three (IsAlike finding found) Assert StableFrom StableTo (alone Assert refl level) (alone StableFrom refl before)
            (beside_it StableFrom StableTo refl before after);
      }

-- ---- by what an instance is

module _ (c : Circuit) (ws : Waves) (j : Instance) (found : Slacks) where
  -- what is told, by whether the instance may be marked, by the marked pin and by what it checks
  abbrev FindingBy : Bool → Option ℕ → Option Check → Type 0
  FindingBy marks marked check =
      TellLimits (period c.header) (cond marks (mark_by_arrivals c ws j marked) (check_by_arrivals c ws j check))
      (λ word. cond marks (finding_mark c ws j word marked) (finding_check c ws j word check))
      (cond marks (limits_of_mark j marked) (limits_of_check check)) found

  abbrev pub FindingInstance : Type 0
  FindingInstance =
      TellLimits (period c.header) (instance_by_arrivals c ws (Some j)) (λ word. finding_instance c ws word (Some j)) (limits_of_instance (Some j)) found

  finding_by : (marks : Bool) (marked : Option ℕ) (check : Option Check) → may_be_marked j.kind ≡ marks → marked_pin j ≡ marked →
      check_of j.kind ≡ check → FindingBy marks marked check → FindingInstance
  finding_by marks marked check is at checks finding =
      subst (λ (b : Bool). FindingBy b (marked_pin j) (check_of j.kind)) (sym is)
      (subst (λ (m : Option ℕ). FindingBy marks m (check_of j.kind)) (sym at)
      (subst (λ (x : Option Check). FindingBy marks marked x) (sym checks) finding))

  pub of_mark : (marked : ℕ) → may_be_marked j.kind ≡ true → marked_pin j ≡ Some marked →
      Tells (period c.header) found.level (finding_mark c ws j Gate (Some marked)) →
      TellSides (period c.header) (mark_by_arrivals c ws j (Some marked)) (finding_mark c ws j GateBefore (Some marked))
      (finding_mark c ws j GateAfter (Some marked)) found → FindingInstance
  of_mark marked is at level sides =
      finding_by true (Some marked) (check_of j.kind) is at refl
      (tell_mark (period c.header) found (λ word. finding_mark c ws j word (Some marked)) (beside j marked)
      (mark_by_arrivals c ws j (Some marked)) level sides)

  pub of_no_mark : may_be_marked j.kind ≡ true → marked_pin j ≡ None → FindingInstance
  of_no_mark is at =
      finding_by true None (check_of j.kind) is at refl (tell_none (period c.header) found (λ word. finding_mark c ws j word None) false)

  pub of_rise : may_be_marked j.kind ≡ false → check_of j.kind ≡ Some AboutRise → FindingBoth c ws j AboutRise found → FindingInstance
  of_rise is checks sides =
      finding_by false (marked_pin j) (Some AboutRise) is refl checks
      (tell_edges (period c.header) found (λ word. finding_check c ws j word (Some AboutRise)) (check_by_arrivals c ws j (Some AboutRise)) sides)

  pub of_span : may_be_marked j.kind ≡ false → check_of j.kind ≡ Some RiseToFall → FindingBoth c ws j RiseToFall found → FindingInstance
  of_span is checks sides =
      finding_by false (marked_pin j) (Some RiseToFall) is refl checks
      (tell_edges (period c.header) found (λ word. finding_check c ws j word (Some RiseToFall)) (check_by_arrivals c ws j (Some RiseToFall)) sides)

  pub of_widths : may_be_marked j.kind ≡ false → check_of j.kind ≡ Some Widths →
      Tells (period c.header) found.before (finding_check c ws j High (Some Widths)) →
      Tells (period c.header) found.after (finding_check c ws j Low (Some Widths)) → FindingInstance
  of_widths is checks high low =
      finding_by false (marked_pin j) (Some Widths) is refl checks
      (tell_widths (period c.header) found (λ word. finding_check c ws j word (Some Widths)) false high low)

  pub of_nothing : may_be_marked j.kind ≡ false → check_of j.kind ≡ None → FindingInstance
  of_nothing is checks =
      finding_by false (marked_pin j) None is refl checks (tell_none (period c.header) found (λ word. finding_check c ws j word None) false)

-- ---- of an answer of the program

both_ok : {E : Type 0} (r : Result Slacks E) (P Q R : Slacks → Type 0) → ((found : Slacks) → P found → Q found → R found) → IfOk r P → IfOk r Q → IfOk r R
both_ok (Ok found) P Q R step one other = step found one other
both_ok (Err e) P Q R step one other = tt

pub mark_finding : {E : Type 0} (c : Circuit) (ws : Waves) (j : Instance) (marked : ℕ) (r : Result Slacks E) → may_be_marked j.kind ≡ true →
    marked_pin j ≡ Some marked → IfOk r (λ found. Tells (period c.header) found.level (finding_mark c ws j Gate (Some marked))) →
    IfOk r (TellSides (period c.header) (mark_by_arrivals c ws j (Some marked)) (finding_mark c ws j GateBefore (Some marked))
    (finding_mark c ws j GateAfter (Some marked))) → IfOk r (FindingInstance c ws j)
mark_finding c ws j marked r is at =
    both_ok r (λ found. Tells (period c.header) found.level (finding_mark c ws j Gate (Some marked)))
    (TellSides (period c.header) (mark_by_arrivals c ws j (Some marked)) (finding_mark c ws j GateBefore (Some marked)) (finding_mark c ws j GateAfter (Some marked)))
    (FindingInstance c ws j) (λ found level sides. of_mark c ws j found marked is at level sides)

pub rise_finding : {E : Type 0} (c : Circuit) (ws : Waves) (j : Instance) (r : Result Slacks E) → may_be_marked j.kind ≡ false →
    check_of j.kind ≡ Some AboutRise → IfOk r (FindingBoth c ws j AboutRise) → IfOk r (FindingInstance c ws j)
rise_finding c ws j r is checks =
    IfOk-weaker r (FindingBoth c ws j AboutRise) (FindingInstance c ws j) (λ found sides. of_rise c ws j found is checks sides)

pub span_finding : {E : Type 0} (c : Circuit) (ws : Waves) (j : Instance) (r : Result Slacks E) → may_be_marked j.kind ≡ false →
    check_of j.kind ≡ Some RiseToFall → IfOk r (FindingBoth c ws j RiseToFall) → IfOk r (FindingInstance c ws j)
span_finding c ws j r is checks =
    IfOk-weaker r (FindingBoth c ws j RiseToFall) (FindingInstance c ws j) (λ found sides. of_span c ws j found is checks sides)

pub widths_finding : {E : Type 0} (c : Circuit) (ws : Waves) (j : Instance) (r : Result Slacks E) → may_be_marked j.kind ≡ false →
    check_of j.kind ≡ Some Widths →
    IfOk r (λ found. (Tells (period c.header) found.before (finding_check c ws j High (Some Widths)))
    × (Tells (period c.header) found.after (finding_check c ws j Low (Some Widths)))) → IfOk r (FindingInstance c ws j)
widths_finding c ws j r is checks =
    IfOk-weaker r
    (λ found. (Tells (period c.header) found.before (finding_check c ws j High (Some Widths)))
    × (Tells (period c.header) found.after (finding_check c ws j Low (Some Widths)))) (FindingInstance c ws j)
    (λ found finding. of_widths c ws j found is checks finding.0 finding.1)

-- of a net with an assertion
pub net_finding : {E : Type 0} (c : Circuit) (ws : Waves) (i : ℕ) (net : Net) (subject : Subject) (r : Result Slacks E) → subject ≡ OfNet i →
    Some net ≡ slice_get c.nets i → is_held net ≡ true →
    IfOk r (λ found. (Tells (period c.header) found.level (finding_net c ws i net Assert))
    × (Tells (period c.header) found.before (finding_net c ws i net StableFrom)) × (Tells (period c.header) found.after (finding_net c ws i net StableTo))) →
    IfOk r (TellLimits (period c.header) (by_arrivals c ws subject) (finding_in c ws subject) (limits_of c subject))
unfolding finding_in by_arrivals
net_finding c ws i net subject r is at held so =
    let p = period c.header in
    let own = (λ (word : Limit). finding_net c ws i net word) in
    subst (λ (s : Subject). IfOk r (TellLimits p (by_arrivals c ws s) (finding_in c ws s) (limits_of c s))) (sym is)
    (subst (λ (o : Option Net). IfOk r (TellLimits p false (λ word. finding_held c ws i word o) (limits_of_net o))) at
    (subst (λ (b : Bool). IfOk r (TellLimits p false (λ word. cond b (finding_net c ws i net word) (finding_alone Free))
    (cond b (Assert ∷ StableFrom ∷ StableTo ∷ []) []))) (sym held)
    (IfOk-weaker r
    (λ found. (Tells p found.level (finding_net c ws i net Assert)) × (Tells p found.before (finding_net c ws i net StableFrom))
    × (Tells p found.after (finding_net c ws i net StableTo)))
    (TellLimits p false own (Assert ∷ StableFrom ∷ StableTo ∷ []))
    (λ found tells. tell_held p found own false tells.0 tells.1 tells.2) so)))
