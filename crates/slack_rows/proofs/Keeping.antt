-- The slacks of a subject are those of each of its limits, as these come one after another.
use Rattle.std.proofs.Common.{inl, inr, ◌≡◌, ℕ, zero, suc, ◌+◌, ◌-◌, ◌<◌, false, refl, sym, ap, subst, ◌∙◌, arith, List, [], ◌∷◌, ◌++◌, map, length, Option, Some}
use Rattle.std.specs.Prelude.{slice_get, slice_index_or}
use Rattle.std.specs.List.{flat_map}
use Rattle.std.proofs.lemmas.Bool.{cases_lt}
use Rattle.scald_base.specs.Time.{period}
use Rattle.flat_circuit.specs.Circuit.{Circuit}
use Rattle.fixpoint_engine.specs.Waves.{Waves}
use Rattle.slack_rows.specs.declared.parameter.Parameter.{Parameter}
use Rattle.slack_rows.specs.declared.parameter.Subject.{Subject}
use Rattle.slack_rows.specs.declared.parameter.Word.{Word as Limit}
use Rattle.slack_rows.specs.declared.slack.Slacks.{Slacks}
use Rattle.slack_rows.specs.declared.slack.Finding.{Finding as Found}
use Rattle.slack_rows.specs.Limit.{Case, by_arrivals, finding_case, finding_in}
use Rattle.slack_rows.specs.Rows.{all_limits, limit_with, limits_at, limits_of, subjects}
use Rattle.slack_rows.specs.Known.{IsAlike, SlacksKnown}
use Rattle.slack_rows.specs.Views.{Tells, slack_for}
use Rattle.slack_rows.proofs.Levels.{get_first, get_second}
use Rattle.slack_rows.proofs.Stepwise.{some_same}

module _ (c : Circuit) where
  pub word_at : (subject : Subject) (words : List Limit) (i : ℕ) (q : Parameter) → slice_get (map (limit_with c subject) words) i ≡ Some q →
      (q.subject ≡ subject) × (slice_get words i ≡ Some q.word)
  word_at subject [] i q at = absurd (cc)
  word_at subject (word ∷ words) zero q at =
      let same = some_same (limit_with c subject word) q (Some (limit_with c subject word)) refl at in
      (ap (λ (r : Parameter). r.subject) (sym same), ap (λ (r : Parameter). Some r.word) same)
  word_at subject (word ∷ words) (suc i) q at = word_at subject words i q at

  abbrev HasWord : Parameter → Type 0
  HasWord q = (k : ℕ) × (slice_get (limits_of c q.subject) k ≡ Some q.word)

  word_of : (some : List Subject) (i : ℕ) (q : Parameter) → slice_get (flat_map (limits_at c) some) i ≡ Some q → HasWord q
  word_of [] i q at = absurd (cc)
  word_of (subject ∷ some) i q at = elim (cases_lt i (length (limits_at c subject))) [
    | inl less ↦
        let found = word_at subject (limits_of c subject) i q (sym (get_first (limits_at c subject) (flat_map (limits_at c) some) i less) ∙ at) in
        (i, ap (λ (s : Subject). slice_get (limits_of c s) i) found.0 ∙ found.1)
    | inr past ↦
        let same : length (limits_at c subject) + (i - length (limits_at c subject)) ≡ i = omega (arith, past) in
        word_of some (i - length (limits_at c subject)) q
        (sym (get_second (limits_at c subject) (flat_map (limits_at c) some) (i - length (limits_at c subject)))
        ∙ ap (slice_get (limits_at c subject ++ flat_map (limits_at c) some)) same ∙ at)
  ]

read_some : (words : List Limit) (k : ℕ) (word : Limit) → slice_get words k ≡ Some word → (k < length words) × (slice_index_or words k word ≡ word)
read_some [] k word at = absurd (cc)
read_some (w ∷ words) zero word at = (omega arith, some_same w word (Some w) refl at)
read_some (w ∷ words) (suc k) word at = let rest = read_some words k word at in let below = rest.0 in (omega (arith, below), rest.1)

-- that of a limit
pub finding_now : (c : Circuit) (ws : Waves) (one : Case) (slacks : Slacks) (limits : List Parameter) (i : ℕ) (q : Parameter) →
    limits ≡ all_limits c → slice_get limits i ≡ Some q → one.waves ≡ ws → SlacksKnown c ws (Some q.subject) slacks →
    by_arrivals c one.waves q.subject ≡ false → Tells (period c.header) (slack_for slacks q.word) (finding_case c q.subject q.word one)
finding_now c ws one slacks limits i q are at same known sure =
    let found = word_of c (subjects c) i q (ap (λ (xs : List Parameter). slice_get xs i) (sym are) ∙ at) in
    let read = read_some (limits_of c q.subject) found.0 q.word found.1 in
    subst (λ (waves : Waves). Tells (period c.header) (slack_for slacks q.word) (finding_in c waves q.subject q.word)) (sym same)
    (subst (λ (word : Limit). Tells (period c.header) (slack_for slacks word) (finding_in c ws q.subject word)) read.1
    (known.exact (ap (λ (waves : Waves). by_arrivals c waves q.subject) (sym same) ∙ sure) found.0 q.word read.0))

pub tells_now : (c : Circuit) (ws : Waves) (one : Case) (slacks : Slacks) (limits : List Parameter) (i : ℕ) (q : Parameter) (found : Option Found) →
    found ≡ slack_for slacks q.word → limits ≡ all_limits c → slice_get limits i ≡ Some q → one.waves ≡ ws →
    SlacksKnown c ws (Some q.subject) slacks → by_arrivals c one.waves q.subject ≡ false →
    Tells (period c.header) found (finding_case c q.subject q.word one)
tells_now c ws one slacks limits i q found is are at same known sure =
    subst (λ (o : Option Found). Tells (period c.header) o (finding_case c q.subject q.word one)) (sym is)
    (finding_now c ws one slacks limits i q are at same known sure)

-- whatever arrivals say
pub alike_now : (c : Circuit) (ws : Waves) (one : Case) (slacks : Slacks) (limits : List Parameter) (i : ℕ) (q : Parameter) →
    limits ≡ all_limits c → slice_get limits i ≡ Some q → one.waves ≡ ws → SlacksKnown c ws (Some q.subject) slacks →
    IsAlike (finding_in c one.waves q.subject) slacks q.word
alike_now c ws one slacks limits i q are at same known =
    let found = word_of c (subjects c) i q (ap (λ (xs : List Parameter). slice_get xs i) (sym are) ∙ at) in
    let read = read_some (limits_of c q.subject) found.0 q.word found.1 in
    subst (λ (waves : Waves). IsAlike (finding_in c waves q.subject) slacks q.word) (sym same)
    (subst (λ (word : Limit). IsAlike (finding_in c ws q.subject) slacks word) read.1 (known.alike found.0 q.word read.0))
