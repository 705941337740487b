-- What a pin shows, by the cells of its net's wave.
use Rattle.std.proofs.Common.{◌≡◌, ℕ, zero, suc, ◌+◌, ◌-◌, ◌%◌, ◌<◌, ◌≤◌, min, Bool, true, false, cond, List, [], ◌∷◌, ◌++◌, length, get_or, map, take, refl, sym, ap, ◌∙◌, arith, ℤ, pos, ◌-ℤ◌}
use Rattle.std.proofs.lemmas.List.{get_or-map, length-map, map-append}
use Rattle.std.proofs.Math.Nat.{mod-eq_of_lt}
use Rattle.scald_base.specs.Clock.{back}
use Rattle.scald_base.specs.Time.{Bounds, Header, period}
use Rattle.scald_base.proofs.Back.{back_later, back_lt, back_sub, back_zero}
use Rattle.step_values.specs.declared.value.Value.{Value}
use Rattle.step_values.specs.declared.value.Value.TheVariants.{Zero, One, U}
use Rattle.step_values.specs.Steps.{flip, is_quiet, join}
use Rattle.step_values.specs.Cell.{values}
use Rattle.step_values.specs.Lawful.{values_lawful}
use Rattle.wave_core.specs.Slots.{earlier, fold_at, join_round, join_to, later, slots}
use Rattle.wave_core.proofs.Fold.{join_to_same}
use Rattle.wave_core.proofs.Slots.{earlier_slots, get_or_slots, length_slots}
use Rattle.skew_algebra.specs.Wave.{IsNormal, Wave, all_equal, cell_at, flipped, fold, is_steady, joined, moved, normal}
use Rattle.skew_algebra.proofs.Cells.{all_at, all_from, equal_at, equal_from}
use Rattle.skew_algebra.proofs.Moves.{earlier_earlier, earlier_turned, fold_at_mod, length_later}
use Rattle.skew_algebra.proofs.Normal.{uniform_equal, uniform_normal}
use Rattle.skew_algebra.proofs.Round.{fold_by}
use Rattle.pin_waves.specs.Interface.{constant_wave}
use Rattle.pin_waves.proofs.Pins.{length_moved}
use Rattle.vector_names.specs.declared.bits.Target.{Target}
use Rattle.vector_names.specs.declared.bits.Target.TheVariants.{Net as OnNet, Constant}
use Rattle.flat_circuit.specs.declared.instance.Pin.{Pin}
use Rattle.flat_circuit.specs.Circuit.{Circuit}
use Rattle.flat_circuit.specs.Instances.{TargetExists}
use Rattle.fixpoint_engine.specs.Waves.{Waves, pin_wave, target_wave, target_wire}
use Rattle.fixpoint_engine.proofs.Fits.{AreLong, long_target}
use Rattle.critical_paths.specs.declared.event.Reading.{Reading}
use Rattle.critical_paths.specs.declared.event.Reading.TheVariants.{Folded, Unfolded}
use Rattle.critical_paths.specs.declared.direction.Corner.{Corner}
use Rattle.critical_paths.specs.Event.{beside}
use Rattle.critical_paths.specs.Tick.{slot_of, tick_beside}
use Rattle.critical_paths.specs.Views.{pins_shown, reach_of, shown, target_shown}
use Rattle.critical_paths.proofs.Making.{taken}
use Rattle.critical_paths.proofs.Ticks.{slot_back, slot_beside, slot_lt}

-- the join of one cell over and over
pub join_to_one : (f : ℕ → Value) (v : Value) (n : ℕ) → ((i : ℕ) → i ≤ n → f i ≡ v) →
    join_to values f n ≡ v
join_to_one f v zero e = e 0 (omega arith)
join_to_one f v (suc n) e =
    let before : join_to values f n ≡ v = join_to_one f v n (λ i l. e i (omega (arith, l))) in
    let last : f (suc n) ≡ v = e (suc n) (omega arith) in
    (λ i. join (before i) (last i)) ∙ values_lawful.join_absorbs v

-- ---- late by a wire

module _ (w : Wave Value) (d : Bounds) (some : 0 < length w.cells) where
  abbrev late : List Value
  late = later values w.cells d.min

  late_long : length late ≡ length w.cells
  late_long = length_later values w.cells d.min

  late_at : (i : ℕ) → i < length w.cells → cell_at values late i ≡ earlier values w.cells i d.min
  late_at i below = get_or_slots (length w.cells) i (λ p. earlier values w.cells p d.min) U below

  -- the slot of the late wave that has a cell of the wave
  abbrev there : ℕ → ℕ
  there i = back (length w.cells) (i + d.min) 0

  there_is : (i : ℕ) → i < length w.cells → cell_at values late (there i) ≡ cell_at values w.cells i
  unfolding earlier
  there_is i below =
      let none : 0 + d.min ≡ d.min + 0 = omega arith in
      late_at (there i) (back_lt (length w.cells) (i + d.min) 0 some)
      ∙ earlier_earlier values w.cells (i + d.min) 0 d.min
      ∙ ap (earlier values w.cells (i + d.min)) none
      ∙ ap (λ (z : ℕ). get_or w.cells z U) (back_later (length w.cells) i d.min 0 some
      ∙ back_zero (length w.cells) i ∙ mod-eq_of_lt below)

  there_lt : (i : ℕ) → there i < length late
  there_lt i =
      let long = late_long in
      let below : there i < length w.cells = back_lt (length w.cells) (i + d.min) 0 some in
      omega (arith, long, below)

  steady_before : is_steady values late ≡ true → is_steady values w.cells ≡ true
  steady_before steady =
      all_from is_quiet w.cells U
      (λ i below. ap is_quiet (sym (there_is i below))
      ∙ all_at is_quiet late (there i) U steady (there_lt i))

  equal_before : all_equal values late ≡ true → all_equal values w.cells ≡ true
  equal_before equal =
      let long = late_long in
      equal_from values values_lawful w.cells (cell_at values late 0)
      (λ i below. sym (there_is i below) ∙ equal_at values values_lawful late (there i) 0 equal
      (there_lt i) (omega (arith, long, some)))

  alike : all_equal values w.cells ≡ true → (t o : ℕ) →
      earlier values w.cells t o ≡ cell_at values w.cells 0
  unfolding earlier
  alike equal t o = equal_at values values_lawful w.cells (back (length w.cells) t o) 0 equal
      (back_lt (length w.cells) t o some) some

  fold_alike : all_equal values w.cells ≡ true → (n q : ℕ) →
      fold_at values w.cells n q ≡ cell_at values w.cells 0
  fold_alike equal n q = join_to_one (λ o. earlier values w.cells q o) (cell_at values w.cells 0) n
      (λ o l. alike equal q o)

  joined_alike : all_equal values w.cells ≡ true → joined values late ≡ cell_at values w.cells 0
  joined_alike equal =
      let long = late_long in
      join_to_one (cell_at values late) (cell_at values w.cells 0) (length late - 1)
      (λ i l. late_at i (omega (arith, long, l, some)) ∙ alike equal i d.min)

  fold_late : (n p : ℕ) → fold_at values late n p ≡ fold_at values w.cells n
      (back (length w.cells) p d.min)
  fold_late n p =
      join_to_same values (λ o. earlier values late p o)
      (λ o. earlier values w.cells (back (length w.cells) p d.min) o) n
      (λ o l.
      let whole : o + d.min ≡ d.min + o = omega arith in
      earlier_turned values w.cells d.min p o some ∙ ap (earlier values w.cells p) whole
      ∙ sym (earlier_earlier values w.cells p d.min o))

  module _ (is : IsNormal values w) (p : ℕ) (inside : p < length w.cells) where
    abbrev q : ℕ
    q = back (length w.cells) p d.min

    abbrev most : ℕ
    most = min (w.skew + (d.max - d.min)) (length w.cells - 1)

    shown_folded : fold values (moved values w d) p ≡ fold_at values w.cells most q
    unfolding moved normal
    shown_folded = by (is_steady values late) refl
      where
        capped : (b : Bool) → all_equal values late ≡ b →
            fold_at values late (cond b 0 (min (w.skew + (d.max - d.min)) (length late - 1))) p ≡
            fold_at values w.cells most q
        capped true equal = fold_late 0 p ∙ fold_alike (equal_before equal) 0 q
            ∙ sym (fold_alike (equal_before equal) most q)
        capped false other =
            let long : length late ≡ length w.cells = late_long in
            ap (λ (n : ℕ). fold_at values late (min (w.skew + (d.max - d.min)) (n - 1)) p) long
            ∙ fold_late most p

        by : (b : Bool) → is_steady values late ≡ b →
            fold values (cond b (record {
              cells = slots (length late) (λ p. joined values late);
              skew = 0;
            })
            (record {
              cells = late;
              skew = cond (all_equal values late) 0
                  (min (w.skew + (d.max - d.min)) (length late - 1));
            })) p
            ≡ fold_at values w.cells most q
        by true steady =
            let long = late_long in
            let equal : all_equal values w.cells ≡ true = is.steady (steady_before steady) in
            earlier_slots values (length late) (λ p. joined values late) p 0
            (omega (arith, long, some))
            ∙ joined_alike equal ∙ sym (fold_alike equal most q)
        by false other = capped (all_equal values late) refl

    shown_unfolded : cell_at values (moved values w d).cells p ≡ fold_at values w.cells 0 q
    unfolding moved normal
    shown_unfolded = by (is_steady values late) refl
      where
        by : (b : Bool) → is_steady values late ≡ b →
            cell_at values (cond {A = Wave Value} b (record
            { cells = slots (length late) (λ p. joined values late); skew = 0 })
            (record {
              cells = late;
              skew = cond (all_equal values late) 0
                  (min (w.skew + (d.max - d.min)) (length late - 1));
            })).cells p
            ≡ fold_at values w.cells 0 q
        by true steady =
            let long = late_long in
            let equal : all_equal values w.cells ≡ true = is.steady (steady_before steady) in
            get_or_slots (length late) p (λ p. joined values late) U (omega (arith, long, inside))
            ∙ joined_alike equal ∙ sym (fold_alike equal 0 q)
        by false other =
            let none : d.min ≡ d.min + 0 = omega arith in
            late_at p inside ∙ ap (earlier values w.cells p) none
            ∙ sym (earlier_earlier values w.cells p d.min 0)

    pub shown_moved : (reading : Reading) → shown reading (moved values w d) p ≡ fold_at values
        w.cells (reach_of reading w.skew d (length w.cells)) q
    shown_moved Folded = shown_folded
    shown_moved Unfolded = shown_unfolded

-- ---- read round the period

round_back : (cells : List Value) (slot n : ℕ) → slot < length cells → n < length cells →
    join_round values cells (back (length cells) slot n) n ≡ fold_at values cells n slot
round_back cells slot n inside short =
    let small : n % length cells ≡ n = mod-eq_of_lt short in
    let some : 0 < length cells = omega (arith, inside) in
    let first : (slot + (length cells - n)) % length cells ≡ back (length cells) slot n =
    ap (λ (z : ℕ). (slot + (length cells - z)) % length cells) (sym small)
    ∙ back_sub (length cells) slot n some in
    let same : n + 1 - 1 ≡ n = omega arith in
    sym (λ i. join_round values cells (first i) (same i))
    ∙ fold_by values values_lawful cells (length cells) slot n refl inside short

-- what a net may do at a tick, read off its wave
pub net_shows : (w : Wave Value) (d : Bounds) (reading : Reading) (p n : ℕ) (tick : ℤ)
    (read : Value) → IsNormal values w → length w.cells ≡ p → 0 < p → n < p →
    n ≡ reach_of reading w.skew d p → read ≡ join_round values w.cells
    (slot_of p ((tick -ℤ pos d.min) -ℤ pos n)) (n + 1 - 1) →
    read ≡ shown reading (moved values w d) (slot_of p tick)
net_shows w d reading p n tick read is long some short reach e =
    let l : 0 < length w.cells = omega (arith, long, some) in
    let inside : slot_of p tick < length w.cells =
    (let lt = slot_lt p tick some in omega (arith, long, lt)) in
    let at : slot_of p ((tick -ℤ pos d.min) -ℤ pos n) ≡ back p (back p (slot_of p tick) d.min) n =
    slot_back p n (tick -ℤ pos d.min) some ∙ ap (λ (z : ℕ). back p z n)
    (slot_back p d.min tick some) in
    let same : n + 1 - 1 ≡ n = omega arith in
    let here : back (length w.cells) (slot_of p tick) d.min < length w.cells =
    back_lt (length w.cells) (slot_of p tick) d.min l in
    e ∙ (λ i. join_round values w.cells (at i) (same i))
    ∙ ap (λ (z : ℕ). join_round values w.cells (back z (back z (slot_of p tick) d.min) n) n)
    (sym long)
    ∙ round_back w.cells (back (length w.cells) (slot_of p tick) d.min) n here
    (omega (arith, long, short))
    ∙ ap (λ (z : ℕ). fold_at values w.cells z (back (length w.cells) (slot_of p tick) d.min)) (reach
    ∙ ap (reach_of reading w.skew d) (sym long))
    ∙ sym (shown_moved w d l is (slot_of p tick) inside reading)

-- ---- complements and constants

earlier_flipped : (cells : List Value) (p o : ℕ) → 0 < length cells →
    earlier values (map flip cells) p o ≡ flip (earlier values cells p o)
unfolding earlier
earlier_flipped cells p o some =
    ap (λ (z : ℕ). get_or (map flip cells) (back z p o) U) (length-map cells flip)
    ∙ get_or-map flip cells (back (length cells) p o) U U (back_lt (length cells) p o some)

fold_flipped : (w : Wave Value) (p : ℕ) → 0 < length w.cells →
    fold values (flipped values w) p ≡ flip (fold values w p)
fold_flipped w p some = by w.skew
  where
    by : (n : ℕ) → fold_at values (map flip w.cells) n p ≡ flip (fold_at values w.cells n p)
    by zero = earlier_flipped w.cells p 0 some
    by (suc n) =
        let before = by n in
        let last = earlier_flipped w.cells p (suc n) some in
        (λ i. join (before i) (last i))
        ∙ sym (values_lawful.flip_joins (fold_at values w.cells n p)
        (earlier values w.cells p (suc n)))

shown_flipped : (reading : Reading) (w : Wave Value) (p : ℕ) → p < length w.cells →
    shown reading (flipped values w) p ≡ flip (shown reading w p)
shown_flipped Folded w p inside = fold_flipped w p (omega (arith, inside))
shown_flipped Unfolded w p inside = get_or-map flip w.cells p U U inside

-- the pin shows the net, or its complement
pub pin_shows : (inverted : Bool) (reading : Reading) (w : Wave Value) (p : ℕ) (v : Value) →
    p < length w.cells → v ≡ shown reading w p →
    cond inverted (flip v) v ≡ shown reading (cond inverted (flipped values w) w) p
pin_shows true reading w p v inside e = ap flip e ∙ sym (shown_flipped reading w p inside)
pin_shows false reading w p v inside e = e

abbrev bit_value : Bool → Value
bit_value one = cond one One Zero

pub constant_shows : (h : Header) (one : Bool) (reading : Reading) (p : ℕ) → 0 < period h →
    p < period h →
    bit_value one ≡ shown reading (moved values (constant_wave h one) (record { min = 0; max = 0 }))
    p
constant_shows h one reading p some inside =
    let w = constant_wave h one in
    let long : length w.cells ≡ period h = length_slots (period h) (λ p. bit_value one) in
    let l : 0 < length w.cells = omega (arith, long, some) in
    let first : cell_at values w.cells 0 ≡ bit_value one =
    get_or_slots (period h) 0 (λ p. bit_value one) U some in
    let d : Bounds = record { min = 0; max = 0 } in
    sym (shown_moved w d l (uniform_normal values values_lawful (period h) (bit_value one) some) p
    (omega (arith, long, inside)) reading
    ∙ fold_alike w d l (uniform_equal values values_lawful (period h) (bit_value one))
    (reach_of reading w.skew d (length w.cells)) (back (length w.cells) p 0)
    ∙ first)

quiet_bit : (one : Bool) → is_quiet (bit_value one) ≡ true
quiet_bit true = refl
quiet_bit false = refl

pub constant_steady : (h : Header) (one : Bool) →
    true ≡ is_steady values (constant_wave h one).cells
constant_steady h one =
    let long : length (constant_wave h one).cells ≡ period h =
    length_slots (period h) (λ p. bit_value one) in
    sym (all_from is_quiet (constant_wave h one).cells U
    (λ i below. ap is_quiet (get_or_slots (period h) i (λ p. bit_value one) U
    (omega (arith, long, below))) ∙ quiet_bit one))

-- the same of a wave and of cells by other names
pub read_shows : (w w' : Wave Value) (cells : List Value) (d : Bounds) (reading : Reading)
    (p skew n from : ℕ) (tick : ℤ) (read : Value) →
    IsNormal values w → length w.cells ≡ p → 0 < p → n < p → w' ≡ w → cells ≡ w'.cells →
    skew ≡ w'.skew → n ≡ reach_of reading skew d p →
    from ≡ slot_of p ((tick -ℤ pos d.min) -ℤ pos n) →
    read ≡ join_round values cells from (n + 1 - 1) →
    read ≡ shown reading (moved values w d) (slot_of p tick)
read_shows w w' cells d reading p skew n from tick read is long some short same cells_are skew_is
    reach from_is e =
    net_shows w d reading p n tick read is long some short
    (reach ∙ ap (λ (z : ℕ). reach_of reading z d p) (skew_is
    ∙ ap (λ (v : Wave Value). v.skew) same))
    (e ∙ (λ i. join_round values ((cells_are ∙ ap (λ (v : Wave Value). v.cells) same) i) (from_is i)
    (n + 1 - 1)))

-- ---- what is behind a pin

pub net_target : (c : Circuit) (ws : Waves) (target : Target) (i : ℕ) (wire : Bounds)
    (reading : Reading) (p : ℕ) (r : Value) →
    target ≡ OnNet i → wire ≡ target_wire c.nets target →
    r ≡ shown reading (moved values (ws i) wire) p → r ≡ shown reading (target_shown c ws target) p
net_target c ws target i wire reading p r is same e =
    let on : OnNet i ≡ target = sym is in
    e ∙ (λ k. shown reading (moved values (target_wave c.header ws (on k)) (same k)) p)

pub constant_target : (c : Circuit) (ws : Waves) (target : Target) (one : Bool) (reading : Reading)
    (p : ℕ) (r : Value) →
    0 < period c.header → p < period c.header → target ≡ Constant one → r ≡ bit_value one →
    r ≡ shown reading (target_shown c ws target) p
constant_target c ws target one reading p r some inside is e =
    e ∙ constant_shows c.header one reading p some inside
    ∙ ap (λ t. shown reading (target_shown c ws t) p) (sym is)

long_shown : (c : Circuit) (ws : Waves) (target : Target) → AreLong c ws →
    TargetExists (length c.nets) target →
    length (target_shown c ws target).cells ≡ period c.header
long_shown c ws target long exists =
    length_moved (target_wave c.header ws target) (target_wire c.nets target)
    ∙ long_target c ws target long exists

-- the pin shows it, or its complement
pub pin_shown : (c : Circuit) (ws : Waves) (pin : Pin) (b : Bool) (reading : Reading) (p : ℕ)
    (v r : Value) → AreLong c ws →
    TargetExists (length c.nets) pin.target → p < period c.header → pin.inverted ≡ b →
    v ≡ shown reading (target_shown c ws pin.target) p →
    r ≡ cond b (flip v) v → r ≡ shown reading (pin_wave c ws pin) p
pin_shown c ws pin b reading p v r long exists inside is e f =
    let w = target_shown c ws pin.target in
    let cells : length (target_shown c ws pin.target).cells ≡ period c.header =
    long_shown c ws pin.target long exists in
    f ∙ pin_shows b reading w p v (omega (arith, cells, inside)) e
    ∙ ap (λ (x : Bool). shown reading (cond x (flipped values w) w) p) (sym is)

-- the pins so far, and one more
pub shown_more : (c : Circuit) (ws : Waves) (pins : List Pin) (reading : Reading) (p n : ℕ)
    (d : Pin) (v : Value) (old new : List Value) → n < length pins →
    old ≡ pins_shown c ws (take n pins) reading p →
    v ≡ shown reading (pin_wave c ws (get_or pins n d)) p → new ≡ old ++ v ∷ [] →
    new ≡ pins_shown c ws (take (n + 1) pins) reading p
shown_more c ws pins reading p n d v old new below before here e =
    let pin = get_or pins n d in
    e
    ∙ (λ i. before i ++ here i ∷ [])
    ∙ sym (ap (λ xs. pins_shown c ws xs reading p) (taken pins n d below)
    ∙ ap (map (λ w. shown reading w p)) (map-append (pin_wave c ws) (take n pins) (pin ∷ []))
    ∙ map-append (λ w. shown reading w p) (map (pin_wave c ws) (take n pins))
    (pin_wave c ws pin ∷ []))

-- the tick beside one, away from the region that ends there
pub past_shows : (w : Wave Value) (p : ℕ) (corner : Corner) (tick : ℤ) (v : Value) →
    length w.cells ≡ p → 0 < p →
    v ≡ fold values w (slot_of p (tick_beside corner tick)) →
    v ≡ fold values w (beside p corner (slot_of p tick))
past_shows w p corner tick v long some e =
    e
    ∙ ap (fold values w) (slot_beside p corner tick some
    ∙ ap (λ (z : ℕ). back z (beside p corner (slot_of p tick)) 0) (sym long)
    ∙ back_zero (length w.cells) (beside p corner (slot_of p tick)))
    ∙ fold_at_mod values w.cells w.skew (beside p corner (slot_of p tick))
