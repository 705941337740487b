-- The limits of a subject stand together, and those of two sides beside each other.
use Rattle.std.proofs.Common.{inl, inr, ◌≡◌, ℕ, zero, suc, ◌+◌, ◌-◌, ◌≤◌, true, refl, sym, ap, subst, ◌∙◌, arith, List, [], ◌∷◌, ◌++◌, length, map, Option, Some, None}
use Rattle.std.specs.Prelude.{slice_get}
use Rattle.std.specs.List.{flat_map}
use Rattle.std.proofs.lemmas.Bool.{cases_lt}
use Rattle.flat_circuit.specs.Circuit.{Circuit}
use Rattle.slack_rows.specs.declared.parameter.Parameter.{Parameter}
use Rattle.slack_rows.specs.declared.parameter.Subject.{Subject}
use Rattle.slack_rows.specs.declared.parameter.Word.{Word as Limit}
use Rattle.slack_rows.specs.declared.parameter.Word.TheVariants.{Setup, Hold, High, Low, Gate, Before as GateBefore, After as GateAfter, Assert, From as StableFrom, To as StableTo}
use Rattle.slack_rows.specs.Known.{may_be_two}
use Rattle.slack_rows.specs.Rows.{all_limits, limit_with, limits_at, limits_of, partner, subjects}
use Rattle.slack_rows.proofs.Forms.{forms}
use Rattle.slack_rows.proofs.Keeping.{word_at}
use Rattle.slack_rows.proofs.Levels.{Form, NoLimits, OfEdges, OfWidths, OfMark, OfHeld, get_first, get_second}
use Rattle.slack_rows.proofs.Stepwise.{some_same, within_list}

-- the limit on the other side of the same edges, which comes after this one
abbrev pub follower : Limit → Option Limit
follower Setup = Some Hold
follower Hold = None
follower High = None
follower Low = None
follower Gate = None
follower GateBefore = Some GateAfter
follower GateAfter = None
follower Assert = None
follower StableFrom = Some StableTo
follower StableTo = None

pub follows : (word : Limit) → may_be_two word ≡ true → partner word ≡ None → (after : Limit) × (follower word ≡ Some after) × (partner after ≡ Some word)
follows Setup two none = (Hold, refl, refl)
follows Hold two none = absurd (cc)
follows High two none = absurd (cc)
follows Low two none = absurd (cc)
follows Gate two none = absurd (cc)
follows GateBefore two none = (GateAfter, refl, refl)
follows GateAfter two none = absurd (cc)
follows Assert two none = absurd (cc)
follows StableFrom two none = absurd (cc)
follows StableTo two none = absurd (cc)

module _ (c : Circuit) (subject : Subject) where
  abbrev of_words : List Limit → List Parameter
  of_words words = map (limit_with c subject) words

  is_partner : {X : Type 0} (word : Limit) (q : Parameter) (o : Option Parameter) → o ≡ Some (limit_with c subject word) → o ≡ Some q →
      (before : Limit) → partner q.word ≡ Some before → (partner word ≡ Some before → X) → X
  is_partner word q o is at before found next =
      let same = some_same (limit_with c subject word) q o is at in
      next (ap (λ (r : Parameter). partner r.word) same ∙ found)

  is_follower : {X : Type 0} (word : Limit) (q : Parameter) (o : Option Parameter) → o ≡ Some (limit_with c subject word) → o ≡ Some q →
      (after : Limit) → follower q.word ≡ Some after → (follower word ≡ Some after → X) → X
  is_follower word q o is at after found next =
      let same = some_same (limit_with c subject word) q o is at in
      next (ap (λ (r : Parameter). follower r.word) same ∙ found)

  in_words : (word before : Limit) (o : Option Limit) → o ≡ Some word → o ≡ Some before → Some (limit_with c subject word) ≡ Some (limit_with c subject before)
  in_words word before o is found = ap (λ (w : Limit). Some (limit_with c subject w)) (some_same word before o is found)

  abbrev StandsBefore : List Limit → ℕ → Limit → Type 0
  StandsBefore words k before = (1 ≤ k) × (slice_get (of_words words) (k - 1) ≡ Some (limit_with c subject before))

  before_in : (words : List Limit) → Form words → (k : ℕ) (q : Parameter) → slice_get (of_words words) k ≡ Some q →
      (before : Limit) → partner q.word ≡ Some before → StandsBefore words k before
  before_in words NoLimits k q at before found = absurd (cc)
  before_in words OfEdges zero q at before found = is_partner Setup q (Some (limit_with c subject Setup)) refl at before found (λ is. absurd (cc))
  before_in words OfEdges (suc zero) q at before found =
      is_partner Hold q (Some (limit_with c subject Hold)) refl at before found (λ is. (omega arith, in_words Setup before (Some Setup) refl is))
  before_in words OfEdges (suc (suc k)) q at before found = absurd (cc)
  before_in words OfWidths zero q at before found = is_partner High q (Some (limit_with c subject High)) refl at before found (λ is. absurd (cc))
  before_in words OfWidths (suc zero) q at before found = is_partner Low q (Some (limit_with c subject Low)) refl at before found (λ is. absurd (cc))
  before_in words OfWidths (suc (suc k)) q at before found = absurd (cc)
  before_in words OfMark zero q at before found = is_partner Gate q (Some (limit_with c subject Gate)) refl at before found (λ is. absurd (cc))
  before_in words OfMark (suc zero) q at before found = is_partner GateBefore q (Some (limit_with c subject GateBefore)) refl at before found (λ is. absurd (cc))
  before_in words OfMark (suc (suc zero)) q at before found =
      is_partner GateAfter q (Some (limit_with c subject GateAfter)) refl at before found
      (λ is. (omega arith, in_words GateBefore before (Some GateBefore) refl is))
  before_in words OfMark (suc (suc (suc k))) q at before found = absurd (cc)
  before_in words OfHeld zero q at before found = is_partner Assert q (Some (limit_with c subject Assert)) refl at before found (λ is. absurd (cc))
  before_in words OfHeld (suc zero) q at before found = is_partner StableFrom q (Some (limit_with c subject StableFrom)) refl at before found (λ is. absurd (cc))
  before_in words OfHeld (suc (suc zero)) q at before found =
      is_partner StableTo q (Some (limit_with c subject StableTo)) refl at before found
      (λ is. (omega arith, in_words StableFrom before (Some StableFrom) refl is))
  before_in words OfHeld (suc (suc (suc k))) q at before found = absurd (cc)

  after_in : (words : List Limit) → Form words → (k : ℕ) (q : Parameter) → slice_get (of_words words) k ≡ Some q →
      (after : Limit) → follower q.word ≡ Some after → slice_get (of_words words) (k + 1) ≡ Some (limit_with c subject after)
  after_in words NoLimits k q at after found = absurd (cc)
  after_in words OfEdges zero q at after found =
      is_follower Setup q (Some (limit_with c subject Setup)) refl at after found (λ is. in_words Hold after (Some Hold) refl is)
  after_in words OfEdges (suc zero) q at after found = is_follower Hold q (Some (limit_with c subject Hold)) refl at after found (λ is. absurd (cc))
  after_in words OfEdges (suc (suc k)) q at after found = absurd (cc)
  after_in words OfWidths zero q at after found = is_follower High q (Some (limit_with c subject High)) refl at after found (λ is. absurd (cc))
  after_in words OfWidths (suc zero) q at after found = is_follower Low q (Some (limit_with c subject Low)) refl at after found (λ is. absurd (cc))
  after_in words OfWidths (suc (suc k)) q at after found = absurd (cc)
  after_in words OfMark zero q at after found = is_follower Gate q (Some (limit_with c subject Gate)) refl at after found (λ is. absurd (cc))
  after_in words OfMark (suc zero) q at after found =
      is_follower GateBefore q (Some (limit_with c subject GateBefore)) refl at after found (λ is. in_words GateAfter after (Some GateAfter) refl is)
  after_in words OfMark (suc (suc zero)) q at after found =
      is_follower GateAfter q (Some (limit_with c subject GateAfter)) refl at after found (λ is. absurd (cc))
  after_in words OfMark (suc (suc (suc k))) q at after found = absurd (cc)
  after_in words OfHeld zero q at after found = is_follower Assert q (Some (limit_with c subject Assert)) refl at after found (λ is. absurd (cc))
  after_in words OfHeld (suc zero) q at after found =
      is_follower StableFrom q (Some (limit_with c subject StableFrom)) refl at after found (λ is. in_words StableTo after (Some StableTo) refl is)
  after_in words OfHeld (suc (suc zero)) q at after found =
      is_follower StableTo q (Some (limit_with c subject StableTo)) refl at after found (λ is. absurd (cc))
  after_in words OfHeld (suc (suc (suc k))) q at after found = absurd (cc)

module _ (c : Circuit) where
  -- the limits of the subject of one stand here
  record Block (xs : List Parameter) (i : ℕ) (q : Parameter) : Type 0 where
    start : ℕ
    k : ℕ
    at : i ≡ start + k
    own : slice_get (limits_at c q.subject) k ≡ Some q
    whole : (j : ℕ) (r : Parameter) → slice_get (limits_at c q.subject) j ≡ Some r → slice_get xs (start + j) ≡ Some r

  in_block : (some : List Subject) (i : ℕ) (q : Parameter) → slice_get (flat_map (limits_at c) some) i ≡ Some q →
      Block (flat_map (limits_at c) some) i q
  in_block [] i q at = absurd (cc)
  in_block (subject ∷ some) i q at = elim (cases_lt i (length (limits_at c subject))) [
    | inl less ↦
        let here : slice_get (limits_at c subject) i ≡ Some q = sym (get_first (limits_at c subject) (flat_map (limits_at c) some) i less) ∙ at in
        let same : q.subject ≡ subject = (word_at c subject (limits_of c subject) i q here).0 in
        record {
          start = 0;
          k = i;
          at = omega arith;
          own = ap (λ (s : Subject). slice_get (limits_at c s) i) same ∙ here;
          whole = λ j r is.
              (let there : slice_get (limits_at c subject) j ≡ Some r = ap (λ (s : Subject). slice_get (limits_at c s) j) (sym same) ∙ is in
              let none : 0 + j ≡ j = omega arith in
              ap (slice_get (limits_at c subject ++ flat_map (limits_at c) some)) none
              ∙ get_first (limits_at c subject) (flat_map (limits_at c) some) j (within_list (limits_at c subject) j r there) ∙ there);
        }
    | inr past ↦
        let n : ℕ = length (limits_at c subject) in
        let split : length (limits_at c subject) + (i - length (limits_at c subject)) ≡ i = omega (arith, past) in
        let rest = in_block some (i - length (limits_at c subject)) q
        (sym (get_second (limits_at c subject) (flat_map (limits_at c) some) (i - length (limits_at c subject)))
        ∙ ap (slice_get (limits_at c subject ++ flat_map (limits_at c) some)) split ∙ at) in
        let at_rest = rest.at in
        record {
          start = length (limits_at c subject) + rest.start;
          k = rest.k;
          at = omega (arith, at_rest, past);
          own = rest.own;
          whole = λ j r is.
              (let along : length (limits_at c subject) + rest.start + j ≡ length (limits_at c subject) + (rest.start + j) = omega arith in
              ap (slice_get (limits_at c subject ++ flat_map (limits_at c) some)) along
              ∙ get_second (limits_at c subject) (flat_map (limits_at c) some) (rest.start + j) ∙ rest.whole j r is);
        }
  ]

  module _ (limits : List Parameter) (are : limits ≡ all_limits c) where
    block : (i : ℕ) (q : Parameter) → slice_get limits i ≡ Some q → Block limits i q
    block i q at =
        subst (λ (xs : List Parameter). Block xs i q) (sym are)
        (in_block (subjects c) i q (ap (λ (xs : List Parameter). slice_get xs i) (sym are) ∙ at))

    -- the other side stands one place before
    pub before_it : (i : ℕ) (q : Parameter) → slice_get limits i ≡ Some q → (before : Limit) → partner q.word ≡ Some before →
        (1 ≤ i) × (slice_get limits (i - 1) ≡ Some (limit_with c q.subject before))
    before_it i q at before found =
        let b = block i q at in
        let stands = before_in c q.subject (limits_of c q.subject) (forms c q.subject) b.k q b.own before found in
        let from = stands.0 in
        let is = b.at in
        let same : b.start + (b.k - 1) ≡ i - 1 = omega (arith, from, is) in
        (omega (arith, from, is), ap (slice_get limits) (sym same) ∙ b.whole (b.k - 1) (limit_with c q.subject before) stands.1)

    -- or one place after
    pub after_it : (i : ℕ) (q : Parameter) → slice_get limits i ≡ Some q → (after : Limit) → follower q.word ≡ Some after →
        slice_get limits (i + 1) ≡ Some (limit_with c q.subject after)
    after_it i q at after found =
        let b = block i q at in
        let stands = after_in c q.subject (limits_of c q.subject) (forms c q.subject) b.k q b.own after found in
        let is = b.at in
        let same : b.start + (b.k + 1) ≡ i + 1 = omega (arith, is) in
        ap (slice_get limits) (sym same) ∙ b.whole (b.k + 1) (limit_with c q.subject after) stands
