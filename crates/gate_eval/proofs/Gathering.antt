-- Windows of joined waves, and of pins one after another.
use Rattle.std.proofs.Common.{◌≡◌, ℕ, zero, suc, ◌+◌, ◌-◌, ◌<◌, min, List, [], ◌∷◌, length, map, get_or, refl, sym, ap, ◌∙◌, arith}
use Rattle.std.specs.List.{zip}
use Rattle.std.proofs.lemmas.List.{length-map, ext_get_or}
use Rattle.scald_base.specs.Clock.{back}
use Rattle.scald_base.specs.Time.{Bounds}
use Rattle.scald_base.proofs.Back.{back_lt}
use Rattle.wave_core.specs.Slots.{slots, earlier, later, join_to, fold_at}
use Rattle.wave_core.proofs.Slots.{length_zip, length_slots, get_or_slots}
use Rattle.wave_core.proofs.Fold.{join_to_same}
use Rattle.step_values.specs.declared.value.Value.{Value}
use Rattle.step_values.specs.declared.value.Value.TheVariants.{S, U}
use Rattle.step_values.specs.Steps.{join}
use Rattle.step_values.specs.Cell.{values}
use Rattle.step_values.specs.Lawful.{values_lawful}
use Rattle.skew_algebra.specs.Wave.{Wave, skewed, cell_at}
use Rattle.skew_algebra.proofs.Moves.{earlier_turned}
use Rattle.gate_eval.specs.Window.{window, seen_at, found_at, Counts}

-- two joins, pair by pair
paired : (a b c d : Value) → join (join a b) (join c d) ≡ join (join a c) (join b d)
paired a b c d =
    values_lawful.join_regroups a b (join c d)
    ∙ ap (join a) (sym (values_lawful.join_regroups b c d) ∙ ap (λ v. join v d) (values_lawful.join_turns b c) ∙ values_lawful.join_regroups c b d)
    ∙ sym (values_lawful.join_regroups a c (join b d))

join_to_paired : (f h : ℕ → Value) (n : ℕ) → join_to values (λ o. join (f o) (h o)) n ≡ join (join_to values f n) (join_to values h n)
join_to_paired f h zero = refl
join_to_paired f h (suc n) =
    ap (λ v. join v (join (f (suc n)) (h (suc n)))) (join_to_paired f h n)
    ∙ paired (join_to values f n) (join_to values h n) (f (suc n)) (h (suc n))

abbrev joined : List Value → List Value → List Value
joined a b = map (λ (q : Value × Value). join q.0 q.1) (zip a b)

pub joined_at : (a b : List Value) (i : ℕ) (d : Value) → length a ≡ length b → i < length a → get_or (joined a b) i d ≡ join (get_or a i d) (get_or b i d)
joined_at [] b i d e below = absurd (omega arith)
joined_at (x ∷ xs) [] i d e below = absurd (omega arith)
joined_at (x ∷ xs) (y ∷ ys) zero d e below = refl
joined_at (x ∷ xs) (y ∷ ys) (suc i) d e below = joined_at xs ys i d (omega arith) (omega arith)

pub length_joined : (a b : List Value) → length a ≡ length b → length (joined a b) ≡ length a
length_joined a b e = length-map (zip a b) (λ (q : Value × Value). join q.0 q.1) ∙ length_zip a b e

earlier_joined : (a b : List Value) (t o : ℕ) → 0 < length a → length a ≡ length b →
    earlier values (joined a b) t o ≡ join (earlier values a t o) (earlier values b t o)
unfolding earlier
earlier_joined a b t o some e =
    ap (λ (n : ℕ). get_or (joined a b) (back n t o) U) (length_joined a b e)
    ∙ joined_at a b (back (length a) t o) U e (back_lt (length a) t o some)
    ∙ ap (λ (n : ℕ). join (get_or a (back (length a) t o) U) (get_or b (back n t o) U)) e

-- the window of joined waves of one skew
pub window_joined : (a b : List Value) (skew : ℕ) (d : Bounds) (p : ℕ) → 0 < length a → length a ≡ length b →
    window (skewed (joined a b) skew) d p ≡ join (window (skewed a skew) d p) (window (skewed b skew) d p)
window_joined a b skew d p some e =
    let n : ℕ = min (skew + (d.max - d.min)) (length a - 1) in
    let long : length (joined a b) ≡ length a = length_joined a b e in
    ap (λ (m : ℕ). fold_at values (later values (joined a b) d.min) (min (skew + (d.max - d.min)) (m - 1)) p) long
    ∙ join_to_same values (λ o. earlier values (later values (joined a b) d.min) p o)
    (λ o. join (earlier values (later values a d.min) p o) (earlier values (later values b d.min) p o)) (min (skew + (d.max - d.min)) (length a - 1))
    (λ o l. earlier_turned values (joined a b) d.min p o (omega (arith, long))
    ∙ earlier_joined a b p (o + d.min) some e
    ∙ (λ i. join (sym (earlier_turned values a d.min p o some) i) (sym (earlier_turned values b d.min p o (omega (arith, e))) i)))
    ∙ join_to_paired (λ o. earlier values (later values a d.min) p o) (λ o. earlier values (later values b d.min) p o) (min (skew + (d.max - d.min)) (length a - 1))
    ∙ ap (λ (m : ℕ). join (fold_at values (later values a d.min) (min (skew + (d.max - d.min)) (length a - 1)) p)
    (fold_at values (later values b d.min) (min (skew + (d.max - d.min)) (m - 1)) p)) e

-- what code makes of the two parts
pub found_slots : (seen made : List Value) (last : Wave Value) (d : Bounds) (w : List Value) → length seen ≡ length last.cells →
    made ≡ slots (length last.cells) (window last d) → w ≡ joined seen made → w ≡ slots (length seen) (found_at seen last d)
found_slots seen made last d w one is joins =
    let long : length made ≡ length seen = ap length is ∙ length_slots (length last.cells) (window last d) ∙ sym one in
    let same : length (joined seen made) ≡ length seen = length_joined seen made (sym long) in
    joins ∙ ext_get_or U (joined seen made) (slots (length seen) (found_at seen last d))
    (same ∙ sym (length_slots (length seen) (found_at seen last d)))
    (λ i below.
    let near : i < length seen = omega (arith, same) in
    joined_at seen made i U (sym long) near
    ∙ ap (join (get_or seen i U)) (ap (λ l. get_or l i U) is ∙ get_or_slots (length last.cells) i (window last d) U (omega (arith, one)))
    ∙ sym (get_or_slots (length seen) i (found_at seen last d) U near))

-- ---- one pin more

pub counts_apart : (pin last last' : Wave Value) (d : Bounds) (seen seen' : List Value) → length last.cells ≡ length pin.cells → pin.skew < 4096 →
    seen' ≡ slots (length seen) (found_at seen last d) → last' ≡ pin → Counts pin d seen last seen' last'
counts_apart pin last last' d seen seen' long short is same = record {
  seen_long = ap length is ∙ length_slots (length seen) (found_at seen last d);
  last_long = ap (λ (w : Wave Value). length w.cells) same ∙ sym long;
  short = let e : last'.skew ≡ pin.skew = ap (λ (w : Wave Value). w.skew) same in omega arith;
  found = λ p below.
      (λ i. join (get_or (is i) p U) (window (same i) d p))
      ∙ ap (λ v. join v (window pin d p)) (get_or_slots (length seen) p (found_at seen last d) U below);
}

pub counts_equal : (pin last : Wave Value) (d : Bounds) (seen : List Value) → last.skew < 4096 → last ≡ pin → Counts pin d seen last seen last
counts_equal pin last d seen short same = record {
  seen_long = refl;
  last_long = refl;
  short = short;
  found = λ p below.
      sym (values_lawful.join_above_right (cell_at values seen p) (window last d p))
      ∙ ap (λ (w : Wave Value). join (found_at seen last d p) (window w d p)) same;
}

pub counts_joined : (pin last last' : Wave Value) (d : Bounds) (seen : List Value) → 0 < length last.cells → length last.cells ≡ length pin.cells → last.skew < 4096 →
    pin.skew ≡ last.skew → last' ≡ skewed (joined last.cells pin.cells) last.skew → Counts pin d seen last seen last'
counts_joined pin last last' d seen some long short same is = record {
  seen_long = refl;
  last_long = ap (λ (w : Wave Value). length w.cells) is ∙ length_joined last.cells pin.cells long;
  short = let e : last'.skew ≡ last.skew = ap (λ (w : Wave Value). w.skew) is in omega arith;
  found = λ p below.
      ap (λ (w : Wave Value). join (cell_at values seen p) (window w d p)) is
      ∙ ap (join (cell_at values seen p)) (window_joined last.cells pin.cells last.skew d p some long)
      ∙ sym (values_lawful.join_regroups (cell_at values seen p) (window last d p) (window (skewed pin.cells last.skew) d p))
      ∙ ap (λ (s : ℕ). join (found_at seen last d p) (window (skewed pin.cells s) d p)) (sym same);
}

-- ---- all pins

-- what is found so far stands for these pins
pub record StandsFor (waves : List (Wave Value)) (d : Bounds) (n : ℕ) (seen : List Value) (last : Wave Value) : Type 0 where
  pub seen_long : length seen ≡ n
  pub last_long : length last.cells ≡ n
  pub short : last.skew < 4096
  pub found : (p : ℕ) → p < n → found_at seen last d p ≡ seen_at waves d p

pub stands_first : (w last : Wave Value) (d : Bounds) (n : ℕ) (seen : List Value) → length w.cells ≡ n → last.skew < 4096 → seen ≡ slots (length w.cells) (λ p. S) →
    last ≡ w → StandsFor (w ∷ []) d n seen last
stands_first w last d n seen long short is same = record {
  seen_long = ap length is ∙ length_slots (length w.cells) (λ p. S) ∙ long;
  last_long = ap (λ (v : Wave Value). length v.cells) same ∙ long;
  short = short;
  found = λ p below.
      (λ i. join (get_or (is i) p U) (window (same i) d p))
      ∙ ap (λ v. join v (window w d p)) (get_or_slots (length w.cells) p (λ p. S) U (omega (arith, long)));
}

pub stands_next : (waves more : List (Wave Value)) (pin : Wave Value) (d : Bounds) (n : ℕ) (seen seen' : List Value) (last last' : Wave Value) →
    ((p : ℕ) → seen_at more d p ≡ join (seen_at waves d p) (window pin d p)) →
    StandsFor waves d n seen last → Counts pin d seen last seen' last' → StandsFor more d n seen' last'
stands_next waves more pin d n seen seen' last last' next so_far counts = record {
  seen_long = counts.seen_long ∙ so_far.seen_long;
  last_long = counts.last_long ∙ so_far.last_long;
  short = counts.short;
  found = λ p below.
      counts.found p (let e = so_far.seen_long in omega arith)
      ∙ ap (λ v. join v (window pin d p)) (so_far.found p below)
      ∙ sym (next p);
}
