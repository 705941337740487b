-- A wave that is late by a delay makes a change exactly where the wave makes it, a delay of its
-- bounds before.
use Rattle.std.proofs.Common.{inl, inr, ◌≡◌, ◌≢◌, ◌⊎◌, ℕ, zero, suc, ◌+◌, ◌-◌, ◌*◌, ◌%◌, ◌<◌, ◌≤◌, min, Bool, true, false, not, ◌||◌, cond, length, refl, sym, ap, ◌∙◌, arith}
use Rattle.std.proofs.lemmas.Bool.{and_parts, cases_eq, cases_lt}
use Rattle.std.proofs.Math.Nat.{mod-le, mod-lt}
use Rattle.scald_base.specs.Clock.{back}
use Rattle.scald_base.specs.Time.{Bounds}
use Rattle.scald_base.proofs.Back.{back_later, back_lt}
use Rattle.step_values.specs.declared.value.Value.{Value}
use Rattle.step_values.specs.declared.value.Value.TheVariants.{U}
use Rattle.step_values.specs.Steps.{has, is_quiet, join}
use Rattle.step_values.specs.Cell.{values}
use Rattle.step_values.specs.Each.{agree, agree_is, at_values}
use Rattle.step_values.specs.Lawful.{values_lawful}
use Rattle.wave_core.specs.Slots.{earlier, join_to, later, slots}
use Rattle.wave_core.proofs.Slots.{earlier_slots}
use Rattle.skew_algebra.specs.Wave.{Wave, all_equal, cell_at, fold, is_steady, joined, moved, normal, skewed}
use Rattle.skew_algebra.proofs.Cells.{all_at, equal_at, join_to_has}
use Rattle.skew_algebra.proofs.Moves.{earlier_earlier, earlier_period, earlier_turned, length_later}
use Rattle.critical_paths.specs.Laws.{ChangesMove, FirstIsAtCorner, IsAtCorner, LastIsAtCorner, MovesWithin}

-- ---- changes of joins

joined_rise : (v w : Value) → has (join v w) false true ≡ (has v false true || has w false true)
joined_rise v w =
    agree_is (has (join v w) false true) (has v false true || has w false true)
    (at_values (λ v w. agree (has (join v w) false true) (has v false true || has w false true))
    refl v w)

joined_fall : (v w : Value) → has (join v w) true false ≡ (has v true false || has w true false)
joined_fall v w =
    agree_is (has (join v w) true false) (has v true false || has w true false)
    (at_values (λ v w. agree (has (join v w) true false) (has v true false || has w true false))
    refl v w)

pub joined_moves : (before after : Bool) → before ≢ after → (v w : Value) →
    has (join v w) before after ≡ (has v before after || has w before after)
joined_moves false true apart v w = joined_rise v w
joined_moves true false apart v w = joined_fall v w
joined_moves true true apart v w = absurd (apart refl)
joined_moves false false apart v w = absurd (apart refl)

either : (a b : Bool) → (a || b) ≡ true → (a ≡ true) ⊎ (b ≡ true)
either true b is = inl refl
either false b is = inr is

-- what is quiet makes no change
pub quiet_moves : (v : Value) (before after : Bool) → before ≢ after → is_quiet v ≡ true →
    has v before after ≡ true → ⊥
quiet_moves v false true apart quiet moves =
    let parts = and_parts (not (has v false true)) (not (has v true false)) quiet in
    absurd (cc (sym (ap not moves) ∙ parts.0))
quiet_moves v true false apart quiet moves =
    let parts = and_parts (not (has v false true)) (not (has v true false)) quiet in
    absurd (cc (sym (ap not moves) ∙ parts.1))
quiet_moves v true true apart quiet moves = apart refl
quiet_moves v false false apart quiet moves = apart refl

module _ (before after : Bool) (apart : before ≢ after) where
  -- one of several makes it
  pub record SomeMoves (f : ℕ → Value) (n : ℕ) : Type 0 where
    pub at : ℕ
    pub within : at ≤ n
    pub is : has (f at) before after ≡ true

  pub join_to_moves : (f : ℕ → Value) (n : ℕ) → has (join_to values f n) before after ≡ true →
      SomeMoves f n
  join_to_moves f zero is = record { at = 0; within = omega arith; is = is }
  join_to_moves f (suc n) is =
      by (either (has (join_to values f n) before after) (has (f (suc n)) before after)
      (sym (joined_moves before after apart (join_to values f n) (f (suc n))) ∙ is))
      (λ less. join_to_moves f n less)
    where
      by : ((has (join_to values f n) before after ≡ true) ⊎ (has (f (suc n)) before after ≡ true))
          →
          (has (join_to values f n) before after ≡ true → SomeMoves f n) → SomeMoves f (suc n)
      by (inl less) rest = let found = rest less in let within = found.within in
          record { at = found.at; within = omega (arith, within); is = found.is }
      by (inr here) rest = record { at = suc n; within = omega arith; is = here }

  pub moves_join_to : (f : ℕ → Value) (n i : ℕ) → i ≤ n → has (f i) before after ≡ true →
      has (join_to values f n) before after ≡ true
  moves_join_to f n i within is = join_to_has values values_lawful f n i before after within is

  -- ---- the normal form makes the same changes

  module _ (w : Wave Value) (some : 0 < length w.cells) (s : ℕ) where
    abbrev cell : ℕ → Value
    cell o = earlier values w.cells s o

    still : is_steady values w.cells ≡ true → (o : ℕ) → has (cell o) before after ≡ true → ⊥
    unfolding earlier
    still steady o is =
        quiet_moves (earlier values w.cells s o) before after apart
        (all_at is_quiet w.cells (back (length w.cells) s o) U steady
        (back_lt (length w.cells) s o some)) is

    still_joined : is_steady values w.cells ≡ true → has (joined values w.cells) before after
        ≡ true → ⊥
    still_joined steady is =
        let found = join_to_moves (cell_at values w.cells) (length w.cells - 1) is in
        let within = found.within in
        quiet_moves (cell_at values w.cells found.at) before after apart
        (all_at is_quiet w.cells found.at U steady (omega (arith, within, some))) found.is

    alike : all_equal values w.cells ≡ true → (o : ℕ) → cell o ≡ cell 0
    unfolding earlier
    alike equal o =
        equal_at values values_lawful w.cells (back (length w.cells) s o)
        (back (length w.cells) s 0) equal
        (back_lt (length w.cells) s o some) (back_lt (length w.cells) s 0 some)

    pub normal_moves : has (fold values (normal values w) s) before after ≡ true →
        has (fold values w s) before after ≡ true
    unfolding normal
    normal_moves is = by (is_steady values w.cells) refl is
      where
        capped : (b : Bool) → all_equal values w.cells ≡ b →
            has (fold values (skewed w.cells (cond b 0 (min w.skew (length w.cells - 1)))) s) before
            after ≡ true → has (fold values w s) before after ≡ true
        capped true equal is = moves_join_to cell w.skew 0 (omega arith) is
        capped false other is =
            let found = join_to_moves cell (min w.skew (length w.cells - 1)) is in
            let within = found.within in
            moves_join_to cell w.skew found.at (omega (arith, within)) found.is

        by : (b : Bool) → is_steady values w.cells ≡ b →
            has (fold values (cond b (record {
              cells = slots (length w.cells)
                  (λ p. joined values w.cells);
              skew = 0;
            })
            (record {
              cells = w.cells;
              skew = cond (all_equal values w.cells) 0
                  (min w.skew (length w.cells - 1));
            })) s) before after ≡ true →
            has (fold values w s) before after ≡ true
        by true steady is =
            absurd (still_joined steady (ap (λ v. has v before after)
            (sym (earlier_slots values (length w.cells) (λ p. joined values w.cells) s 0 some))
            ∙ is))
        by false other is = capped (all_equal values w.cells) refl is

    pub moves_normal : has (fold values w s) before after ≡ true →
        has (fold values (normal values w) s) before after ≡ true
    unfolding normal
    moves_normal is = by (is_steady values w.cells) refl (join_to_moves cell w.skew is)
      where
        capped : (b : Bool) → all_equal values w.cells ≡ b → SomeMoves cell w.skew →
            has (fold values (skewed w.cells (cond b 0 (min w.skew (length w.cells - 1)))) s) before
            after ≡ true
        capped true equal found = ap (λ v. has v before after) (sym (alike equal found.at))
            ∙ found.is
        capped false other found =
            let within = found.within in
            let small : found.at % length w.cells < length w.cells = mod-lt found.at some in
            let less : found.at % length w.cells ≤ found.at = mod-le found.at (length w.cells) in
            moves_join_to cell (min w.skew (length w.cells - 1)) (found.at % length w.cells)
            (omega (arith, within, small, less))
            (ap (λ v. has v before after) (earlier_period values w.cells s found.at) ∙ found.is)

        by : (b : Bool) → is_steady values w.cells ≡ b → SomeMoves cell w.skew →
            has (fold values (cond b (record {
              cells = slots (length w.cells)
                  (λ p. joined values w.cells);
              skew = 0;
            })
            (record {
              cells = w.cells;
              skew = cond (all_equal values w.cells) 0
                  (min w.skew (length w.cells - 1));
            })) s) before after ≡ true
        by true steady found = absurd (still steady found.at found.is)
        by false other found = capped (all_equal values w.cells) refl found

  -- ---- late by a delay

  module _ (z : Wave Value) (d : Bounds) (s : ℕ) (some : 0 < length z.cells)
      (ordered : d.min ≤ d.max) where
    abbrev late : Wave Value
    late = skewed (later values z.cells d.min) (z.skew + (d.max - d.min))

    late_long : 0 < length late.cells
    late_long = let long : length (later values z.cells d.min)
        ≡ length z.cells = length_later values z.cells d.min in omega (arith, long, some)

    from_delay : (delay o : ℕ) → d.min ≤ delay → delay ≤ d.max → o ≤ z.skew →
        has (earlier values z.cells (back (length z.cells) s delay) o) before after ≡ true →
        has (fold values late s) before after ≡ true
    from_delay delay o least most within is =
        let whole : delay - d.min + o + d.min ≡ delay + o = omega (arith, least) in
        moves_join_to (λ o. earlier values (later values z.cells d.min) s o)
        (z.skew + (d.max - d.min)) (delay - d.min + o) (omega (arith, least, most, within))
        (ap (λ v. has v before after) (earlier_turned values z.cells d.min s (delay - d.min + o)
        some ∙ ap (earlier values z.cells s) whole
        ∙ sym (earlier_earlier values z.cells s delay o)) ∙ is)

    pub within_moved : MovesWithin z d s before after → has (fold values (moved values z d) s)
        before after ≡ true
    unfolding moved
    within_moved m =
        let found = join_to_moves (λ o. earlier values z.cells (back (length z.cells) s m.delay) o)
        z.skew m.is in
        moves_normal late late_long s (from_delay m.delay found.at m.least m.most found.within
        found.is)

    pub moved_within : has (fold values (moved values z d) s) before after ≡ true →
        MovesWithin z d s before after
    unfolding moved
    moved_within is = by (join_to_moves (λ o. earlier values (later values z.cells d.min) s o)
        (z.skew + (d.max - d.min)) (normal_moves late late_long s is))
      where
        at_delay : (at delay o : ℕ) → at + d.min ≡ delay + o → d.min ≤ delay → delay ≤ d.max →
            o ≤ z.skew →
            has (earlier values (later values z.cells d.min) s at) before after ≡ true →
            MovesWithin z d s before after
        at_delay at delay o whole least most within is =
            record {
              delay = delay;
              least = least;
              most = most;
              is = moves_join_to (λ o. earlier values z.cells (back (length z.cells) s delay) o)
                  z.skew o within
                  (ap (λ v. has v before after) (earlier_earlier values z.cells s delay o
                  ∙ ap (earlier values z.cells s) (sym whole)
                  ∙ sym (earlier_turned values z.cells d.min s at some)) ∙ is);
            }

        by : SomeMoves (λ o. earlier values (later values z.cells d.min) s o)
            (z.skew + (d.max - d.min)) → MovesWithin z d s before after
        by found =
            let within = found.within in
            elim (cases_lt found.at (d.max - d.min)) [
              | inl less ↦ at_delay found.at (found.at + d.min) 0 (omega arith) (omega arith)
                  (omega (arith, less)) (omega arith) found.is
              | inr more ↦ at_delay found.at d.max (found.at - (d.max - d.min))
                  (omega (arith, more, ordered)) ordered (omega arith) (omega (arith, within, more))
                  found.is
            ]

pub changes_move : ChangesMove
changes_move z d slot before after long ordered apart = (
  moved_within before after apart z d slot (omega (arith, long)) ordered,
  within_moved before
      after apart z d slot (omega (arith, long)) ordered,
)

-- ---- corners

no_longer : (b : Bool) → b ≡ false → b ≡ true → ⊥
no_longer true is moves = absurd (cc)
no_longer false is moves = absurd (cc)

is_false : (b : Bool) → (b ≡ true → ⊥) → b ≡ false
is_false true none = absurd (none refl)
is_false false none = refl

pub last_is_at_corner : LastIsAtCorner
last_is_at_corner z d slot before after long ordered apart here none =
    let some : 0 < length z.cells = omega (arith, long) in
    let within = within_moved before after apart z d (slot + 1) some ordered in
    by some within (moved_within before after apart z d slot some ordered here)
  where
    by : 0 < length z.cells → (MovesWithin z d (slot + 1) before after →
        has (fold values (moved values z d) (slot + 1)) before after ≡ true) →
        MovesWithin z d slot before after → IsAtCorner z d.max slot (slot + 1) before after
    by some within m =
        let least = m.least in
        let most = m.most in
        elim (cases_eq m.delay d.max) [
          | inl same ↦ record {
            here = ap (λ (delay : ℕ). has (fold values z (back (length z.cells) slot delay)) before
                after) (sym same) ∙ m.is;
            ends = is_false (has (fold values z (back (length z.cells) (slot + 1) d.max)) before
                after)
                (λ moves. no_longer (has (fold values (moved values z d) (slot + 1)) before after)
                none
                (within record { delay = d.max; least = ordered; most = omega arith; is = moves }));
          }
          | inr other ↦
              let next : back (length z.cells) (slot + 1) (m.delay + 1)
              ≡ back (length z.cells) slot m.delay =
              (let turned : m.delay + 1 ≡ 1 + m.delay = omega arith in
              ap (back (length z.cells) (slot + 1)) turned ∙ back_later (length z.cells) slot 1
              m.delay some) in
              absurd (no_longer (has (fold values (moved values z d) (slot + 1)) before after) none
              (within record {
                delay = m.delay + 1;
                least = omega (arith, least);
                most = omega (arith, most, other);
                is = ap (λ (p : ℕ). has (fold values z p) before after) next ∙ m.is;
              }))
        ]

before_that : (p slot delay : ℕ) → 1 ≤ delay → back p (slot + (p - 1)) (delay - 1)
    ≡ back p slot delay
unfolding back
before_that p slot delay some =
    let apart : delay ≡ delay - 1 + 1 = omega (arith, some) in
    let whole : slot + (p - 1) + (delay - 1) * (p - 1) ≡ slot + (delay - 1 + 1) * (p - 1) = grind
    arith in
    ap (λ (z : ℕ). z % p) (whole ∙ ap (λ (z : ℕ). slot + z * (p - 1)) (sym apart))

pub first_is_at_corner : FirstIsAtCorner
first_is_at_corner z d slot before after long ordered apart here none =
    let some : 0 < length z.cells = omega (arith, long) in
    let within = within_moved before after apart z d (slot + (length z.cells - 1)) some ordered in
    by within (moved_within before after apart z d slot some ordered here)
  where
    by : (MovesWithin z d (slot + (length z.cells - 1)) before after →
        has (fold values (moved values z d) (slot + (length z.cells - 1))) before after ≡ true) →
        MovesWithin z d slot before after → IsAtCorner z d.min slot (slot + (length z.cells - 1))
        before after
    by within m =
        let least = m.least in
        let most = m.most in
        elim (cases_eq m.delay d.min) [
          | inl same ↦ record {
            here = ap (λ (delay : ℕ). has (fold values z (back (length z.cells) slot delay)) before
                after) (sym same) ∙ m.is;
            ends = is_false (has (fold values z (back (length z.cells) (slot + (length z.cells - 1))
                d.min)) before after)
                (λ moves. no_longer (has (fold values (moved values z d)
                (slot + (length z.cells - 1))) before after) none
                (within record { delay = d.min; least = omega arith; most = ordered; is = moves }));
          }
          | inr other ↦
              absurd (no_longer (has (fold values (moved values z d) (slot + (length z.cells - 1)))
              before after) none
              (within record {
                delay = m.delay - 1;
                least = omega (arith, least, other);
                most = omega (arith, most);
                is = ap (λ (p : ℕ). has (fold values z p) before after)
                    (before_that (length z.cells) slot m.delay (omega (arith, least, other)))
                    ∙ m.is;
              }))
        ]
