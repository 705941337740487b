-- One loop more is known.
use Rattle.std.proofs.Common.{◌≡◌, ℕ, ◌<◌, ◌==◌, ◌&&◌, ◌⊎◌, inl, inr, Bool, true, false, cond, not, List, length, ap, sym, subst, refl, ◌∙◌, Option, Some, None}
use Rattle.std.specs.Prelude.{◌↔◌}
use Rattle.std.proofs.lemmas.Bool.{and_parts, eqb-true, eq-eqb}
use Rattle.flat_circuit.specs.Circuit.{Circuit}
use Rattle.fixpoint_engine.specs.Settled.{marked_in}
use Rattle.drawing_notes.specs.Parts.{ArePartly, part_at, same_part, together}
use Rattle.drawing_notes.specs.Paths.{AreTogether, TellsLoops}
use Rattle.drawing_notes.proofs.Reaching.{turned, both, together_below}

-- ---- booleans

data Which (b : Bool) : Type 0 where
  Yes : b ≡ true → Which b
  No : b ≡ false → Which b

which : (b : Bool) → Which b
which true = Yes refl
which false = No refl

-- ---- the parts after one more

-- The net of a fresh root and those on its loop are known, and its loop goes by it where there is one.
pub record Learns (c : Circuit) (root : ℕ) (member : ℕ → Bool) (part : Option ℕ)
    (fresh less : List Bool) (parts more : List (Option ℕ)) : Type 0 where
  pub exists : root < length c.nets
  pub at_root : marked_in fresh root ≡ true
  pub members : (i : ℕ) → member i ≡ true → (root ≡ i) ⊎ AreTogether c root i
  pub all : (i : ℕ) → (root ≡ i) ⊎ AreTogether c root i → member i ≡ true
  pub looped : part ≡ Some root → AreTogether c root root
  pub alone : part ≡ None → AreTogether c root root → ⊥
  pub either : (part ≡ Some root) ⊎ (part ≡ None)
  pub each_net : length less ≡ length fresh
  pub each_part : length more ≡ length parts
  pub less_is : (i : ℕ) → marked_in less i ≡ (marked_in fresh i && not (member i))
  pub more_is : (i : ℕ) → part_at more i ≡ cond (member i) part (part_at parts i)

module _ (c : Circuit) (root : ℕ) (member : ℕ → Bool) (part : Option ℕ) (fresh less : List Bool) (parts more : List (Option ℕ))
    (old : ArePartly c fresh parts) (learns : Learns c root member part fresh less parts more) where
  -- what is on one loop with a member is one
  joins : (i j : ℕ) → member i ≡ true → AreTogether c i j → member j ≡ true
  joins i j is together = elim (learns.members i is) [
    | inl same ↦ learns.all j (inr (subst (λ k. AreTogether c k j) (sym same) together))
    | inr from ↦ learns.all j (inr (both from together))
  ]

  member_fresh : (i : ℕ) → member i ≡ true → marked_in fresh i ≡ true
  member_fresh i is = elim (learns.members i is) [
    | inl same ↦ subst (λ k. marked_in fresh k ≡ true) same learns.at_root
    | inr together ↦ elim (which (marked_in fresh i)) [
      | Yes marked ↦ marked
      | No known ↦ let at = old.whole i root known (turned together) in let fresh_root = learns.at_root in absurd cc
    ]
  ]

  in_part : (i : ℕ) → member i ≡ true → part_at more i ≡ part
  in_part i is = learns.more_is i ∙ ap (λ b. cond b part (part_at parts i)) is

  out_part : (i : ℕ) → member i ≡ false → part_at more i ≡ part_at parts i
  out_part i is = learns.more_is i ∙ ap (λ b. cond b part (part_at parts i)) is

  in_less : (i : ℕ) → member i ≡ true → marked_in less i ≡ false
  in_less i is = learns.less_is i ∙ ap (λ b. marked_in fresh i && not b) is ∙ never (marked_in fresh i)
    where
      never : (b : Bool) → (b && false) ≡ false
      never true = refl
      never false = refl

  out_less : (i : ℕ) → member i ≡ false → marked_in less i ≡ marked_in fresh i
  out_less i is = learns.less_is i ∙ ap (λ b. marked_in fresh i && not b) is ∙ always (marked_in fresh i)
    where
      always : (b : Bool) → (b && true) ≡ b
      always true = refl
      always false = refl

  still_known : (i : ℕ) → marked_in fresh i ≡ false → marked_in less i ≡ false
  still_known i known = learns.less_is i ∙ ap (λ b. b && not (member i)) known

  root_in : member root ≡ true
  root_in = learns.all root (inl refl)

  pub root_known : marked_in less root ≡ false
  root_known = in_less root root_in

  -- no loop that was known goes by the root
  apart : (p : Option ℕ) (i : ℕ) → part_at parts i ≡ p → same_part (Some root) p ≡ false
  apart None i is = refl
  apart (Some r) i is = elim (which (root == r)) [
    | Yes same ↦
        let known = old.by i r is in let at = learns.at_root in
        let again : marked_in fresh root ≡ false = subst (λ k. marked_in fresh k ≡ false) (sym (eqb-true root r same)) known in
        absurd cc
    | No other ↦ other
  ]

  apart_turned : (p : Option ℕ) (i : ℕ) → part_at parts i ≡ p → same_part p (Some root) ≡ false
  apart_turned None i is = refl
  apart_turned (Some r) i is = elim (which (r == root)) [
    | Yes same ↦
        let known = old.by i r is in let at = learns.at_root in
        let again : marked_in fresh root ≡ false = subst (λ k. marked_in fresh k ≡ false) (eqb-true r root same) known in
        absurd cc
    | No other ↦ other
  ]

  none_right : (p : Option ℕ) → same_part p None ≡ false
  none_right None = refl
  none_right (Some r) = refl

  -- a member and what is none have different parts
  differ : (i : ℕ) (p : Option ℕ) → part_at parts i ≡ p → same_part part p ≡ false
  differ i p is = elim learns.either [
    | inl some ↦ ap (λ (q : Option ℕ). same_part q p) some ∙ apart p i is
    | inr none ↦ ap (λ (q : Option ℕ). same_part q p) none
  ]

  differ_turned : (i : ℕ) (p : Option ℕ) → part_at parts i ≡ p → same_part p part ≡ false
  differ_turned i p is = elim learns.either [
    | inl some ↦ ap (same_part p) some ∙ apart_turned p i is
    | inr none ↦ ap (same_part p) none ∙ none_right p
  ]

  -- two members are on one loop where there is one
  two_members : (i j : ℕ) → AreTogether c root root → member i ≡ true → member j ≡ true → AreTogether c i j
  two_members i j loop here there = both (turned (from_root i here)) (from_root j there)
    where
      from_root : (k : ℕ) → member k ≡ true → AreTogether c root k
      from_root k is = elim (learns.members k is) [
        | inl same ↦ subst (AreTogether c root) same loop
        | inr together ↦ together
      ]

  -- where two members are on one loop, so is the root
  root_looped : (i j : ℕ) → member i ≡ true → AreTogether c i j → AreTogether c root root
  root_looped i j is together = elim (learns.members i is) [
    | inl same ↦ let t : AreTogether c root j = subst (λ k. AreTogether c k j) (sym same) together in both t (turned t)
    | inr from ↦ both from (turned from)
  ]

  inside_known : (i j : ℕ) → member i ≡ true → member j ≡ true → (together more i j ≡ true) ↔ AreTogether c i j
  inside_known i j here there = elim learns.either [
    | inl some ↦ (
      (λ is. two_members i j (learns.looped some) here there),
      (λ t. ap (λ (p : Option ℕ). same_part p (part_at more j)) (in_part i here ∙ some) ∙ ap (same_part (Some root)) (in_part j there ∙ some) ∙ eq-eqb root root refl),
    )
    | inr none ↦ (
      (λ is. let no : together more i j ≡ false = ap (λ (p : Option ℕ). same_part p (part_at more j)) (in_part i here ∙ none) in absurd cc),
      (λ t. absurd (learns.alone none (root_looped i j here t))),
    )
  ]

  pub learned : ArePartly c less more
  learned = record {
    each_net = learns.each_net ∙ old.each_net;
    each_part = learns.each_part ∙ old.each_part;
    whole = λ i j known t. elim (which (member i)) [
      | Yes is ↦ in_less j (joins i j is t)
      | No other ↦ still_known j (old.whole i j (sym (out_less i other) ∙ known) t)
    ];
    known = λ i j known. by_members i j known (which (member i)) (which (member j));
    unknown = λ i is.
        let both = and_parts (marked_in fresh i) (not (member i)) (sym (learns.less_is i) ∙ is) in
        elim (which (member i)) [
          | Yes in_ ↦ let no = in_less i in_ in absurd cc
          | No out ↦ out_part i out ∙ old.unknown i both.0
        ];
    by = λ i r is. elim (which (member i)) [
      | Yes here ↦ elim learns.either [
        | inl some ↦
            let same : Some root ≡ Some r = sym some ∙ sym (in_part i here) ∙ is in
            let r_is : root ≡ r = cc in
            subst (λ k. marked_in less k ≡ false) r_is (in_less root root_in)
        | inr none ↦ let no : None ≡ Some r = sym none ∙ sym (in_part i here) ∙ is in absurd cc
      ]
      | No other ↦ still_known r (old.by i r (sym (out_part i other) ∙ is))
    ];
    inside = λ i r is. elim (which (member i)) [
      | Yes here ↦ elim learns.either [
        | inl some ↦
            let same : Some root ≡ Some r = sym some ∙ sym (in_part i here) ∙ is in
            let r_is : root ≡ r = cc in
            subst (λ k. k < length c.nets) r_is learns.exists
        | inr none ↦ let no : None ≡ Some r = sym none ∙ sym (in_part i here) ∙ is in absurd cc
      ]
      | No other ↦ old.inside i r (sym (out_part i other) ∙ is)
    ];
  }
    where
      by_members : (i j : ℕ) → marked_in less i ≡ false → Which (member i) → Which (member j) → (together more i j ≡ true) ↔ AreTogether c i j
      by_members i j known (Yes here) (Yes there) = inside_known i j here there
      by_members i j known (Yes here) (No out) =
          let no : together more i j ≡ false =
          ap (λ (p : Option ℕ). same_part p (part_at more j)) (in_part i here) ∙ ap (same_part part) (out_part j out) ∙ differ j (part_at parts j) refl in
          ((λ is. absurd cc), (λ t. let in_ = joins i j here t in absurd cc))
      by_members i j known (No other) (Yes there) =
          let no : together more i j ≡ false =
          ap (λ (p : Option ℕ). same_part p (part_at more j)) (out_part i other) ∙ ap (same_part (part_at parts i)) (in_part j there) ∙ differ_turned i (part_at parts i) refl in (
            (λ is. absurd cc),
            (λ t. let k = old.whole i j (sym (out_less i other) ∙ known) t in let f = member_fresh j there in absurd cc),
          )
      by_members i j known (No other) (No out) =
          let same : together more i j ≡ together parts i j =
          ap (λ (p : Option ℕ). same_part p (part_at more j)) (out_part i other) ∙ ap (same_part (part_at parts i)) (out_part j out) in
          let was = old.known i j (sym (out_less i other) ∙ known) in
          ((λ is. was.0 (sym same ∙ is)), (λ t. same ∙ was.1 t))

-- ---- before any, and after all

pub partly_start : (c : Circuit) (fresh : List Bool) (parts : List (Option ℕ)) → length fresh ≡ length c.nets → length parts ≡ length c.nets →
    ((i : ℕ) → i < length c.nets → marked_in fresh i ≡ true) → ((i : ℕ) → part_at parts i ≡ None) → ArePartly c fresh parts
partly_start c fresh parts each each_part all none = record {
  each_net = each;
  each_part = each_part;
  whole = λ i j known t. let is = all i (together_below c i j t) in absurd cc;
  known = λ i j known. (
    (λ is. let no : together parts i j ≡ false = ap (λ (p : Option ℕ). same_part p (part_at parts j)) (none i) in absurd cc),
    (λ t. let is = all i (together_below c i j t) in absurd cc),
  );
  unknown = λ i is. none i;
  by = λ i r is. let no : None ≡ Some r = sym (none i) ∙ is in absurd cc;
  inside = λ i r is. let no : None ≡ Some r = sym (none i) ∙ is in absurd cc;
}

pub partly_end : (c : Circuit) (fresh : List Bool) (parts : List (Option ℕ)) → ArePartly c fresh parts →
    ((i : ℕ) → marked_in fresh i ≡ false) → TellsLoops c (together parts)
partly_end c fresh parts partly none i j = partly.known i j (none i)
