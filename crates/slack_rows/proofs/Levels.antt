-- Where the limit of a mark or an assertion stands beside the others of its subject.
use Rattle.std.proofs.Common.{inl, inr, ◌≡◌, ℕ, zero, suc, ◌+◌, ◌-◌, ◌<◌, ◌≤◌, Bool, true, false, ◌&&◌, cond, refl, sym, ap, subst, ◌∙◌, arith, List, [], ◌∷◌, ◌++◌, map, length, take, Option, Some, None}
use Rattle.std.specs.Prelude.{slice_get, slice_index_or, nat_le, is_none}
use Rattle.std.specs.List.{count_by, flat_map}
use Rattle.std.proofs.lemmas.Bool.{cases_lt}
use Rattle.std.proofs.lemmas.List.Sums.{count_by_more_no, count_by_more_yes}
use Rattle.flat_circuit.specs.Circuit.{Circuit}
use Rattle.slack_rows.specs.declared.parameter.Parameter.{Parameter}
use Rattle.slack_rows.specs.declared.parameter.Subject.{Subject}
use Rattle.slack_rows.specs.declared.parameter.Word.{Word as Limit}
use Rattle.slack_rows.specs.declared.parameter.Word.TheVariants.{Setup, Hold, High, Low, Gate, Before as GateBefore, After as GateAfter, Assert, From as StableFrom, To as StableTo}
use Rattle.slack_rows.specs.declared.rows.Least.{Least}
use Rattle.slack_rows.specs.Slack.{is_free}
use Rattle.slack_rows.specs.Limit.{Case, least_finding}
use Rattle.slack_rows.specs.Rows.{is_free_limit, limit_with, limits_at, limits_of, row, subjects}
use Rattle.slack_rows.specs.Known.{AreKnown, free_by, least_at}
use Rattle.slack_rows.proofs.Alike.{and_true}
use Rattle.slack_rows.proofs.Stepwise.{some_same, within_list}
use Rattle.slack_rows.proofs.Totals.{at_0}

-- ---- what stands so many places before

-- the limits before one of a mark or an assertion
abbrev pub StandsAt : List Parameter → ℕ → Subject → ℕ → Limit → Type 0
StandsAt xs i subject back word =
    (back ≤ i) × ((q : Parameter) × (slice_get xs (i - back) ≡ Some q) × (q.subject ≡ subject) × (q.word ≡ word))

abbrev pub HasLevel : List Parameter → ℕ → Subject → Limit → Type 0
HasLevel xs i subject Setup = Unit {0}
HasLevel xs i subject Hold = Unit {0}
HasLevel xs i subject High = Unit {0}
HasLevel xs i subject Low = Unit {0}
HasLevel xs i subject Gate = Unit {0}
HasLevel xs i subject GateBefore = StandsAt xs i subject 1 Gate
HasLevel xs i subject GateAfter = StandsAt xs i subject 2 Gate
HasLevel xs i subject Assert = Unit {0}
HasLevel xs i subject StableFrom = StandsAt xs i subject 1 Assert
HasLevel xs i subject StableTo = StandsAt xs i subject 2 Assert

abbrev pub HaveLevels : List Parameter → Type 0
HaveLevels xs = (i : ℕ) (q : Parameter) → slice_get xs i ≡ Some q → HasLevel xs i q.subject q.word

-- ---- lists one after another

pub read_at : {A : Type 0} (xs : List A) (i : ℕ) (d : A) → i < length xs → slice_get xs i ≡ Some (slice_index_or xs i d)
read_at [] i d within = absurd (omega (arith, within))
read_at (x ∷ xs) zero d within = refl
read_at (x ∷ xs) (suc i) d within = read_at xs i d (omega (arith, within))

pub get_first : {A : Type 0} (xs ys : List A) (i : ℕ) → i < length xs → slice_get (xs ++ ys) i ≡ slice_get xs i
get_first [] ys i within = absurd (omega (arith, within))
get_first (x ∷ xs) ys zero within = refl
get_first (x ∷ xs) ys (suc i) within = get_first xs ys i (omega (arith, within))

pub get_second : {A : Type 0} (xs ys : List A) (i : ℕ) → slice_get (xs ++ ys) (length xs + i) ≡ slice_get ys i
get_second [] ys i = let same : 0 + i ≡ i = omega arith in ap (slice_get ys) same
get_second (x ∷ xs) ys i =
    let same : length (x ∷ xs) + i ≡ suc (length xs + i) = omega arith in
    ap (slice_get (x ∷ xs ++ ys)) same ∙ get_second xs ys i

first_level : (xs ys : List Parameter) (i : ℕ) (subject : Subject) (word : Limit) → i < length xs → HasLevel xs i subject word →
    HasLevel (xs ++ ys) i subject word
first_level xs ys i subject Setup within has = has
first_level xs ys i subject Hold within has = has
first_level xs ys i subject High within has = has
first_level xs ys i subject Low within has = has
first_level xs ys i subject Gate within has = has
first_level xs ys i subject GateBefore within has =
    (has.0, (has.1.0, get_first xs ys (i - 1) (omega (arith, within)) ∙ has.1.1, has.1.2, has.1.3))
first_level xs ys i subject GateAfter within has =
    (has.0, (has.1.0, get_first xs ys (i - 2) (omega (arith, within)) ∙ has.1.1, has.1.2, has.1.3))
first_level xs ys i subject Assert within has = has
first_level xs ys i subject StableFrom within has =
    (has.0, (has.1.0, get_first xs ys (i - 1) (omega (arith, within)) ∙ has.1.1, has.1.2, has.1.3))
first_level xs ys i subject StableTo within has =
    (has.0, (has.1.0, get_first xs ys (i - 2) (omega (arith, within)) ∙ has.1.1, has.1.2, has.1.3))

second_at : (xs ys : List Parameter) (i : ℕ) (subject : Subject) (back : ℕ) (word : Limit) → StandsAt ys i subject back word →
    StandsAt (xs ++ ys) (length xs + i) subject back word
second_at xs ys i subject back word has =
    let from = has.0 in
    let same : length xs + i - back ≡ length xs + (i - back) = omega (arith, from) in
    (omega (arith, from), (has.1.0, ap (slice_get (xs ++ ys)) same ∙ get_second xs ys (i - back) ∙ has.1.1, has.1.2, has.1.3))

second_level : (xs ys : List Parameter) (i : ℕ) (subject : Subject) (word : Limit) → HasLevel ys i subject word →
    HasLevel (xs ++ ys) (length xs + i) subject word
second_level xs ys i subject Setup has = has
second_level xs ys i subject Hold has = has
second_level xs ys i subject High has = has
second_level xs ys i subject Low has = has
second_level xs ys i subject Gate has = has
second_level xs ys i subject GateBefore has = second_at xs ys i subject 1 Gate has
second_level xs ys i subject GateAfter has = second_at xs ys i subject 2 Gate has
second_level xs ys i subject Assert has = has
second_level xs ys i subject StableFrom has = second_at xs ys i subject 1 Assert has
second_level xs ys i subject StableTo has = second_at xs ys i subject 2 Assert has

both_levels : (xs ys : List Parameter) → HaveLevels xs → HaveLevels ys → HaveLevels (xs ++ ys)
both_levels xs ys first second i q at = elim (cases_lt i (length xs)) [
  | inl less ↦ first_level xs ys i q.subject q.word less (first i q (sym (get_first xs ys i less) ∙ at))
  | inr past ↦
      let same : length xs + (i - length xs) ≡ i = omega (arith, past) in
      subst (λ (k : ℕ). HasLevel (xs ++ ys) k q.subject q.word) same
      (second_level xs ys (i - length xs) q.subject q.word
      (second (i - length xs) q (sym (get_second xs ys (i - length xs)) ∙ ap (slice_get (xs ++ ys)) same ∙ at)))
]

-- ---- the limits of one subject

no_levels : HaveLevels []
no_levels i q at = absurd (cc)

module _ (q0 q1 : Parameter) where
  two_levels : HasLevel (q0 ∷ q1 ∷ []) 0 q0.subject q0.word → HasLevel (q0 ∷ q1 ∷ []) 1 q1.subject q1.word → HaveLevels (q0 ∷ q1 ∷ [])
  two_levels one two zero q at = subst (λ (r : Parameter). HasLevel (q0 ∷ q1 ∷ []) 0 r.subject r.word) (some_same q0 q (Some q0) refl at) one
  two_levels one two (suc zero) q at = subst (λ (r : Parameter). HasLevel (q0 ∷ q1 ∷ []) 1 r.subject r.word) (some_same q1 q (Some q1) refl at) two
  two_levels one two (suc (suc i)) q at = absurd (cc)

module _ (q0 q1 q2 : Parameter) where
  three_levels : HasLevel (q0 ∷ q1 ∷ q2 ∷ []) 0 q0.subject q0.word → HasLevel (q0 ∷ q1 ∷ q2 ∷ []) 1 q1.subject q1.word →
      HasLevel (q0 ∷ q1 ∷ q2 ∷ []) 2 q2.subject q2.word → HaveLevels (q0 ∷ q1 ∷ q2 ∷ [])
  three_levels one two three zero q at =
      subst (λ (r : Parameter). HasLevel (q0 ∷ q1 ∷ q2 ∷ []) 0 r.subject r.word) (some_same q0 q (Some q0) refl at) one
  three_levels one two three (suc zero) q at =
      subst (λ (r : Parameter). HasLevel (q0 ∷ q1 ∷ q2 ∷ []) 1 r.subject r.word) (some_same q1 q (Some q1) refl at) two
  three_levels one two three (suc (suc zero)) q at =
      subst (λ (r : Parameter). HasLevel (q0 ∷ q1 ∷ q2 ∷ []) 2 r.subject r.word) (some_same q2 q (Some q2) refl at) three
  three_levels one two three (suc (suc (suc i))) q at = absurd (cc)

pub data Form : List Limit → Type 0 where
  NoLimits : Form []
  OfEdges : Form (Setup ∷ Hold ∷ [])
  OfWidths : Form (High ∷ Low ∷ [])
  OfMark : Form (Gate ∷ GateBefore ∷ GateAfter ∷ [])
  OfHeld : Form (Assert ∷ StableFrom ∷ StableTo ∷ [])

module _ (c : Circuit) where
  of_form : (subject : Subject) (words : List Limit) → Form words → HaveLevels (map (limit_with c subject) words)
  of_form subject words NoLimits = no_levels
  of_form subject words OfEdges = two_levels (limit_with c subject Setup) (limit_with c subject Hold) tt tt
  of_form subject words OfWidths = two_levels (limit_with c subject High) (limit_with c subject Low) tt tt
  of_form subject words OfMark =
      three_levels (limit_with c subject Gate) (limit_with c subject GateBefore) (limit_with c subject GateAfter) tt
      (omega arith, (limit_with c subject Gate, refl, refl, refl)) (omega arith, (limit_with c subject Gate, refl, refl, refl))
  of_form subject words OfHeld =
      three_levels (limit_with c subject Assert) (limit_with c subject StableFrom) (limit_with c subject StableTo) tt
      (omega arith, (limit_with c subject Assert, refl, refl, refl)) (omega arith, (limit_with c subject Assert, refl, refl, refl))

  module _ (forms : (subject : Subject) → Form (limits_of c subject)) where
    of_all : (some : List Subject) → HaveLevels (flat_map (limits_at c) some)
    of_all [] = no_levels
    of_all (subject ∷ some) =
        both_levels (limits_at c subject) (flat_map (limits_at c) some) (of_form subject (limits_of c subject) (forms subject)) (of_all some)

    -- ---- what nothing can break

    module _ (cases : List Case) (limits : List Parameter) (least : List (Option Least)) (numbers : List ℕ) (sets : List (ℕ × ℕ))
        (known : AreKnown c cases limits least numbers sets) where
      at_index : (i : ℕ) → i < length least → slice_get least i ≡ Some (slice_index_or least i None)
      at_index i within = read_at least i None within

      free_index : (i : ℕ) (q : Parameter) → slice_get limits i ≡ Some q →
          is_none (slice_index_or least i None) ≡ is_free (least_finding c cases q.subject q.word).slack
      free_index i q at =
          let within = within_list limits i q at in
          let long = known.count in
          known.free i q (slice_index_or least i None) at (at_index i (omega (arith, within, long)))

      free_back : (place back : ℕ) (subject : Subject) (word : Limit) → StandsAt limits place subject back word →
          is_none (least_at least place back) ≡ is_free (least_finding c cases subject word).slack
      free_back place back subject word has =
          let from = has.0 in
          let le : nat_le back place ≡ true = grind (arith, from) in
          ap (λ (b : Bool). is_none (cond b (slice_index_or least (place - back) None) None)) le
          ∙ free_index (place - back) has.1.0 has.1.1
          ∙ ap (λ (s : Subject). is_free (least_finding c cases s has.1.0.word).slack) has.1.2
          ∙ ap (λ (w : Limit). is_free (least_finding c cases subject w).slack) has.1.3

      levels : HaveLevels limits
      levels = subst HaveLevels (sym known.are_limits) (of_all (subjects c))

      pub free_place : (place : ℕ) (q : Parameter) → slice_get limits place ≡ Some q →
          free_by q.word least place ≡ is_free_limit c cases (row c cases q.subject q.word)
      free_place place q at = by q.word (levels place q at) (ap is_none (at_0 least place) ∙ free_index place q at)
        where
          own : Limit → Bool
          own word = is_free (least_finding c cases q.subject word).slack

          by : (word : Limit) → HasLevel limits place q.subject word → is_none (least_at least place 0) ≡ own word →
              free_by word least place ≡ is_free_limit c cases (row c cases q.subject word)
          by Setup has is = is ∙ and_true (own Setup)
          by Hold has is = is ∙ and_true (own Hold)
          by High has is = is ∙ and_true (own High)
          by Low has is = is ∙ and_true (own Low)
          by Gate has is = refl
          by GateBefore has is =
              ap (λ (b : Bool). b && is_none (least_at least place 1)) is
              ∙ ap (λ (b : Bool). own GateBefore && b) (free_back place 1 q.subject Gate has)
          by GateAfter has is =
              ap (λ (b : Bool). b && is_none (least_at least place 2)) is
              ∙ ap (λ (b : Bool). own GateAfter && b) (free_back place 2 q.subject Gate has)
          by Assert has is = refl
          by StableFrom has is =
              ap (λ (b : Bool). b && is_none (least_at least place 1)) is
              ∙ ap (λ (b : Bool). own StableFrom && b) (free_back place 1 q.subject Assert has)
          by StableTo has is =
              ap (λ (b : Bool). b && is_none (least_at least place 2)) is
              ∙ ap (λ (b : Bool). own StableTo && b) (free_back place 2 q.subject Assert has)

      -- how many so far
      abbrev free_of : Parameter → Bool
      free_of q = is_free_limit c cases (row c cases q.subject q.word)

      pub free_more : (place count next : ℕ) (b : Bool) (q : Parameter) → slice_get limits place ≡ Some q → b ≡ free_by q.word least place →
          count ≡ count_by free_of (take place limits) → next ≡ count + cond b 1 0 → next ≡ count_by free_of (take (place + 1) limits)
      free_more place count next b q at is are more =
          by b (is ∙ free_place place q at) more
        where
          within : place < length limits
          within = within_list limits place q at

          own : slice_index_or limits place q ≡ q
          own = some_same (slice_index_or limits place q) q (slice_get limits place) (read_at limits place q within) at

          by : (x : Bool) → x ≡ free_of q → next ≡ count + cond x 1 0 → next ≡ count_by free_of (take (place + 1) limits)
          by true passes now =
              now ∙ ap (λ (n : ℕ). n + 1) are
              ∙ sym (count_by_more_yes free_of limits place q within (ap free_of own ∙ sym passes))
          by false passes now =
              now ∙ (omega arith) ∙ are
              ∙ sym (count_by_more_no free_of limits place q within (ap free_of own ∙ sym passes))
