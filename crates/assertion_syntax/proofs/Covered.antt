-- Units that intervals have, by how far the intervals go that begin in each unit.
use Rattle.std.proofs.Common.{◌≡◌, ◌≢◌, ℕ, ◌+◌, ◌<◌, ◌≤◌, Bool, true, false, cond, ltb, leb, ◌&&◌, ◌||◌, List, [], length, take, max, set, get_or, replicate, ◌⊎◌, inl, inr, refl, sym, ap, ◌∙◌, arith}
use Rattle.std.specs.List.{All}
use Rattle.std.proofs.lemmas.Bool.{and_from, and_parts, both_ways, cases_eq, cases_lt, le-leb, le-ltb, leb-true, lt-ltb, ltb-true, or_cases, or_left, or_right}
use Rattle.std.proofs.lemmas.List.{get_or-replicate, get_or-set_other, get_or-set_same, get_or_past, length-replicate, length-set}
use Rattle.std.proofs.lemmas.List.Elements.{All-get_or}
use Rattle.std.proofs.lemmas.List.Folds.{list_any_more}
use Rattle.scald_base.specs.declared.assertion.Span.{Span}
use Rattle.scald_base.specs.Span.{SpanFits, holds_unit}
use Rattle.assertion_syntax.specs.Units.{longer, with_span, is_held, IsCovered, IsEndsAt, AreEnds, AreHeld}

-- ---- one interval more

-- what the longer ends cover the ends before covered, or the interval does
covered_before : (ends : List ℕ) (begin end unit : ℕ) → begin < length ends → IsCovered (longer ends begin end) unit → IsCovered ends unit ⊎ ((begin ≤ unit) × (unit < end))
covered_before ends begin end unit below c = go (cases_eq c.begin begin)
  where
    there : ℕ
    there = get_or ends begin 0

    go : (c.begin ≡ begin) ⊎ (c.begin ≢ begin) → IsCovered ends unit ⊎ ((begin ≤ unit) × (unit < end))
    go (inl same) =
        let reaches : unit < max there end = rw (sym (get_or-set_same ends begin (max there end) 0 below)) (rw same at c.reaches) in
        let before : begin ≤ unit = rw (sym same) c.before in
        elim (cases_lt unit end) [
          | inl less ↦ inr (before, less)
          | inr more ↦ inl (record { begin = begin; before = before; reaches = omega (arith, reaches, more) })
        ]
    go (inr other) = inl (record { begin = c.begin; before = c.before; reaches = rw (sym (get_or-set_other ends begin c.begin (max there end) 0 other)) c.reaches })

covered_still : (ends : List ℕ) (begin end unit : ℕ) → begin < length ends → IsCovered ends unit → IsCovered (longer ends begin end) unit
covered_still ends begin end unit below c = go (cases_eq c.begin begin)
  where
    there : ℕ
    there = get_or ends begin 0

    go : (c.begin ≡ begin) ⊎ (c.begin ≢ begin) → IsCovered (longer ends begin end) unit
    go (inl same) =
        let reaches : unit < there = rw (sym same) c.reaches in
        record { begin = begin; before = rw (sym same) c.before; reaches = rw (get_or-set_same ends begin (max there end) 0 below) (omega (arith, reaches)) }
    go (inr other) = record { begin = c.begin; before = c.before; reaches = rw (get_or-set_other ends begin c.begin (max there end) 0 other) c.reaches }

covered_now : (ends : List ℕ) (begin end unit : ℕ) → begin < length ends → begin ≤ unit → unit < end → IsCovered (longer ends begin end) unit
covered_now ends begin end unit below from to =
    record { begin = begin; before = from; reaches = rw (get_or-set_same ends begin (max (get_or ends begin 0) end) 0 below) (omega (arith, to)) }

longer_length : (ends : List ℕ) (begin end : ℕ) → length (longer ends begin end) ≡ length ends
longer_length ends begin end = length-set ends begin (max (get_or ends begin 0) end)

-- ---- one span more

module _ (units : ℕ) (ends : List ℕ) (s : Span) (size : length ends ≡ 4096) (few : units ≤ 4096) (fit : SpanFits units s) (unit : ℕ) (below : unit < units) where
  -- it begins at one of the ends
  at_begin : s.lo < length ends
  at_begin = omega (arith, size, few, fit.begins)

  at_zero : 0 < length (longer ends s.lo units)
  at_zero = omega (arith, size, longer_length ends s.lo units)

  span_before : (b : Bool) → IsCovered (cond b (longer ends s.lo s.hi) (longer (longer ends s.lo units) 0 s.hi)) unit →
      IsCovered ends unit ⊎ (cond b (leb s.lo unit && ltb unit s.hi) (leb s.lo unit || ltb unit s.hi) ≡ true)
  span_before true c = elim (covered_before ends s.lo s.hi unit at_begin c) [
    | inl was ↦ inl was
    | inr now ↦ inr (and_from (leb s.lo unit) (ltb unit s.hi) (le-leb s.lo unit now.0) (lt-ltb unit s.hi now.1))
  ]
  span_before false c = elim (covered_before (longer ends s.lo units) 0 s.hi unit at_zero c) [
    | inl was ↦ elim (covered_before ends s.lo units unit at_begin was) [
      | inl old ↦ inl old
      | inr now ↦ inr (or_left (leb s.lo unit) (ltb unit s.hi) (le-leb s.lo unit now.0))
    ]
    | inr now ↦ inr (or_right (leb s.lo unit) (ltb unit s.hi) (lt-ltb unit s.hi now.1))
  ]

  span_still : (b : Bool) → IsCovered ends unit → IsCovered (cond b (longer ends s.lo s.hi) (longer (longer ends s.lo units) 0 s.hi)) unit
  span_still true c = covered_still ends s.lo s.hi unit at_begin c
  span_still false c = covered_still (longer ends s.lo units) 0 s.hi unit at_zero (covered_still ends s.lo units unit at_begin c)

  span_now : (b : Bool) → cond b (leb s.lo unit && ltb unit s.hi) (leb s.lo unit || ltb unit s.hi) ≡ true →
      IsCovered (cond b (longer ends s.lo s.hi) (longer (longer ends s.lo units) 0 s.hi)) unit
  span_now true e =
      let both = and_parts (leb s.lo unit) (ltb unit s.hi) e in
      covered_now ends s.lo s.hi unit at_begin (leb-true s.lo unit both.0) (ltb-true unit s.hi both.1)
  span_now false e = elim (or_cases (leb s.lo unit) (ltb unit s.hi) e) [
    | inl from ↦ covered_still (longer ends s.lo units) 0 s.hi unit at_zero (covered_now ends s.lo units unit at_begin (leb-true s.lo unit from) below)
    | inr to ↦ covered_now (longer ends s.lo units) 0 s.hi unit at_zero (omega arith) (ltb-true unit s.hi to)
  ]

  ends_at_more : (spans : List Span) (i : ℕ) (d : Span) → i < length spans → s ≡ get_or spans i d → IsEndsAt ends (take i spans) unit →
      IsEndsAt (with_span units ends s) (take (i + 1) spans) unit
  ends_at_more spans i d inside is at =
      let more : is_held (take (i + 1) spans) unit ≡ (is_held (take i spans) unit || holds_unit s unit) =
      list_any_more (λ z. holds_unit z unit) spans i d inside ∙ ap (λ (z : Span). is_held (take i spans) unit || holds_unit z unit) (sym is) in
      record {
        holds = λ c. elim (span_before (ltb s.lo s.hi) c) [
          | inl was ↦ more ∙ or_left (is_held (take i spans) unit) (holds_unit s unit) (at.holds was)
          | inr now ↦ more ∙ or_right (is_held (take i spans) unit) (holds_unit s unit) now
        ];
        covers = λ e. elim (or_cases (is_held (take i spans) unit) (holds_unit s unit) (sym more ∙ e)) [
          | inl was ↦ span_still (ltb s.lo s.hi) (at.covers was)
          | inr now ↦ span_now (ltb s.lo s.hi) now
        ];
      }

pub ends_more : (units : ℕ) (ends : List ℕ) (spans : List Span) (i : ℕ) (d : Span) → length ends ≡ 4096 → units ≤ 4096 → All (SpanFits units) spans → i < length spans →
    AreEnds units ends (take i spans) → AreEnds units (with_span units ends (get_or spans i d)) (take (i + 1) spans)
ends_more units ends spans i d size few fit inside are =
    let fits : SpanFits units (get_or spans i d) = All-get_or (SpanFits units) spans i d inside fit in
    record { at = λ unit below. ends_at_more units ends (get_or spans i d) size few fits unit below spans i d inside refl (are.at unit below) }

zeros : (n i : ℕ) → get_or (replicate {A = ℕ} n 0) i 0 ≡ 0
zeros n i = elim (cases_lt i n) [
  | inl below ↦ get_or-replicate n i 0 0 below
  | inr past ↦ get_or_past (replicate n 0) i 0 (omega (arith, length-replicate {A = ℕ} n 0))
]

pub no_ends : (units n : ℕ) → AreEnds units (replicate n 0) []
no_ends units n = record {
  at = λ unit below. record {
    holds = λ c. absurd (omega (arith, c.reaches, zeros n c.begin));
    covers = λ e. absurd cc;
  };
}

-- ---- from the ends to the units

-- the greatest of the first n ends, or 0
pub record IsLatest (ends : List ℕ) (n latest : ℕ) : Type 0 where
  pub most : (begin : ℕ) → begin < n → get_or ends begin 0 ≤ latest
  pub one : (latest ≡ 0) ⊎ ((begin : ℕ) × (begin < n) × (get_or ends begin 0 ≡ latest))

pub latest_none : (ends : List ℕ) → IsLatest ends 0 0
latest_none ends = record { most = λ begin below. absurd (omega (arith, below)); one = inl refl }

pub latest_more : (ends : List ℕ) (n latest : ℕ) → IsLatest ends n latest → IsLatest ends (n + 1) (max (get_or ends n 0) latest)
latest_more ends n latest is = record {
  most = λ begin below. elim (cases_eq begin n) [
    | inl same ↦ rw same (omega arith)
    | inr other ↦ omega (arith, is.most begin (omega (arith, below, other)))
  ];
  one = elim (cases_lt latest (get_or ends n 0)) [
    | inl less ↦ inr (n, omega arith, omega (arith, less))
    | inr more ↦ elim is.one [
      | inl none ↦ inl (omega (arith, more, none))
      | inr b ↦ inr (b.0, omega (arith, b.1), b.2 ∙ omega (arith, more))
    ]
  ];
}

pub held_at : (units : ℕ) (ends : List ℕ) (spans : List Span) (unit latest : ℕ) → AreEnds units ends spans → unit < units → IsLatest ends (unit + 1) latest → ltb unit latest ≡ is_held spans unit
held_at units ends spans unit latest are below is = go (is_held spans unit) refl
  where
    at : IsEndsAt ends spans unit
    at = are.at unit below

    go : (b : Bool) → is_held spans unit ≡ b → ltb unit latest ≡ is_held spans unit
    go true e =
        let c = at.covers e in
        lt-ltb unit latest (omega (arith, c.reaches, is.most c.begin (omega (arith, c.before)))) ∙ sym e
    go false e = elim (cases_lt unit latest) [
      | inl less ↦ elim is.one [
        | inl none ↦ absurd (omega (arith, less, none))
        | inr b ↦ absurd (both_ways (is_held spans unit) e (at.holds (record { begin = b.0; before = omega (arith, b.1); reaches = omega (arith, less, b.2) })))
      ]
      | inr more ↦ le-ltb unit latest more ∙ sym e
    ]

pub held_more : (held : List Bool) (spans : List Span) (unit : ℕ) (b : Bool) → unit < length held → AreHeld unit held spans → b ≡ is_held spans unit → AreHeld (unit + 1) (set held unit b) spans
held_more held spans unit b inside are is other below = elim (cases_eq other unit) [
  | inl same ↦ rw same (get_or-set_same held unit b false inside ∙ is)
  | inr apart ↦ get_or-set_other held unit other b false apart ∙ are other (omega (arith, below, apart))
]
