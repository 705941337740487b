-- The pin that an event comes through, pin by pin.
use Rattle.std.proofs.Common.{◌≡◌, ℕ, zero, suc, ◌+◌, ◌<◌, Bool, true, false, not, ◌&&◌, ◌||◌, cond, List, [], length, get_or, map, refl, sym, ap, ◌∙◌, arith, Option, Some, None}
use Rattle.std.specs.Option.{option_map, option_or}
use Rattle.std.proofs.lemmas.List.{get_or-map, get_or_default, length-map}
use Rattle.scald_base.specs.Time.{period}
use Rattle.step_values.specs.declared.value.Value.{Value}
use Rattle.step_values.specs.declared.value.Value.TheVariants.{U}
use Rattle.step_values.specs.Steps.{Steps, has}
use Rattle.step_values.specs.Cell.{values}
use Rattle.skew_algebra.specs.Wave.{fold, skewed}
use Rattle.flat_circuit.specs.declared.instance.Instance.{Instance}
use Rattle.flat_circuit.specs.declared.instance.Pin.{Pin}
use Rattle.flat_circuit.specs.Circuit.{Circuit}
use Rattle.gate_eval.specs.Hold.{first_some}
use Rattle.gate_eval.specs.Instance.{wave_of_pin}
use Rattle.fixpoint_engine.specs.Waves.{Waves, pin_wave, pin_waves}
use Rattle.critical_paths.specs.declared.cause.Cause.{Cause as Pinned}
use Rattle.critical_paths.specs.declared.cause.Causes.{Causes}
use Rattle.critical_paths.specs.declared.direction.Corner.{Corner}
use Rattle.critical_paths.specs.declared.direction.Direction.{Direction}
use Rattle.critical_paths.specs.declared.event.Reading.TheVariants.{Folded}
use Rattle.critical_paths.specs.declared.path.Word.{Word}
use Rattle.critical_paths.specs.declared.path.Word.TheVariants.{Tight, Bounded, Loose}
use Rattle.critical_paths.specs.Event.{beside, direction_by}
use Rattle.critical_paths.specs.Cause.{Cause, are_among, bounding_at, cause_at, cause_of, causes, ends, held_pin, if_loose, is_heard, is_heard_by, loose_at, partly_tight_at, pin_fold, tight_at}
use Rattle.critical_paths.proofs.Cutting.{map_or, or_none, or_or}
use Rattle.critical_paths.proofs.Pins.{long_shown}
use Rattle.critical_paths.specs.Views.{best_of, may_make, pinned, pins_shown, whole_of, with_word}

-- ---- one more

pub first_more : {A : Type 0} (f : ℕ → Option A) (n i : ℕ) →
    first_some f (n + 1) i ≡ option_or (first_some f n i) (f (i + n))
first_more f zero i = let same : i ≡ i + 0 = omega arith in or_none (f i) ∙ ap f same
first_more f (suc n) i =
    let next : suc n + 1 ≡ suc (n + 1) = omega arith in
    let at : i + 1 + n ≡ i + suc n = omega arith in
    ap (λ (z : ℕ). first_some f z i) next
    ∙ ap (option_or (f i)) (first_more f n (i + 1)
    ∙ ap (λ (z : ℕ). option_or (first_some f n (i + 1)) (f z)) at)
    ∙ sym (or_or (f i) (first_some f n (i + 1)) (f (i + suc n)))

-- a pin more of those that are found
first_with : (word : Word) (f : ℕ → Option Cause) (n : ℕ) (old : Option Pinned)
    (d : Option Direction) (new : Option Pinned) →
    option_map (with_word word) old ≡ first_some f n 0 →
    option_map (with_word word) (pinned n d) ≡ f n →
    new ≡ option_or old (pinned n d) → option_map (with_word word) new ≡ first_some f (n + 1) 0
first_with word f n old d new before here is =
    let at : 0 + n ≡ n = omega arith in
    ap (option_map (with_word word)) is
    ∙ map_or (with_word word) old (pinned n d)
    ∙ (λ i. option_or (before i) (here i))
    ∙ sym (first_more f n 0 ∙ ap (λ (z : ℕ). option_or (first_some f n 0) (f z)) at)

pinned_at : (i : ℕ) (word : Word) (d : Option Direction) →
    option_map (with_word word) (pinned i d) ≡ cause_at i word d
pinned_at i word None = refl
pinned_at i word (Some d) = refl

-- ---- what is made and what ends

module _ (c : Circuit) (ws : Waves) (j : Instance) (corner : Corner) (d : Direction) (p : ℕ) where
  abbrev shown : List Value
  shown = pins_shown c ws j.pins Folded p

  abbrev made : ℕ → Steps
  made i = causes c ws j d p i

  abbrev ended : ℕ → Steps
  ended i = ends c ws j corner p i

  -- the first of each kind, of so many pins
  pub record AreFirst (n : ℕ) (found : Causes) : Type 0 where
    pub whole : option_map (with_word Tight) found.whole ≡ first_some (tight_at c ws j corner d p) n
        0
    pub part : option_map (with_word Tight) found.part ≡ first_some
        (partly_tight_at c ws j corner d p) n 0
    pub bound : (other : ℕ) → option_map (with_word (Bounded other)) found.bound ≡ first_some
        (bounding_at c ws j corner p other) n 0
    pub loose : option_map (with_word Loose) found.loose ≡ first_some (loose_at c ws j d p) n 0

  pub none_yet : AreFirst 0 (record { whole = None; part = None; bound = None; loose = None })
  none_yet = record { whole = refl; part = refl; bound = λ other. refl; loose = refl }

  -- a pin more, by what it makes and what of it ends
  pub record IsPin (i : ℕ) (m e : Bool × Bool) : Type 0 where
    pub made_rise : m.0 ≡ made i false true
    pub made_fall : m.1 ≡ made i true false
    pub ended_rise : e.0 ≡ ended i false true
    pub ended_fall : e.1 ≡ ended i true false

  pub with_pin : (n : ℕ) (old new : Causes) (m e : Bool × Bool) → AreFirst n old → IsPin n m e →
      new.whole ≡ option_or old.whole (pinned n (whole_of m e)) →
      new.part ≡ option_or old.part (pinned n (direction_by (m.0 && e.0) (m.1 && e.1))) →
      new.bound ≡ option_or old.bound (pinned n (direction_by e.0 e.1)) →
      new.loose ≡ option_or old.loose (pinned n (direction_by m.0 m.1)) → AreFirst (n + 1) new
  with_pin n old new m e first pin whole part bound loose =
      let mr = pin.made_rise in
      let mf = pin.made_fall in
      let er = pin.ended_rise in
      let ef = pin.ended_fall in
      record {
        whole = first_with Tight (tight_at c ws j corner d p) n old.whole (whole_of m e) new.whole
            first.whole
            (pinned_at n Tight (whole_of m e)
            ∙ (λ i. cause_at n Tight (cond ((not (mr i) || er i) && (not (mf i) || ef i))
            (direction_by (mr i) (mf i)) None))
            ∙ whole_is (are_among (made n) (ended n))
            (direction_by (made n false true) (made n true false))) whole;
        part = first_with Tight (partly_tight_at c ws j corner d p) n old.part
            (direction_by (m.0 && e.0) (m.1 && e.1)) new.part first.part
            (pinned_at n Tight (direction_by (m.0 && e.0) (m.1 && e.1))
            ∙ (λ i. cause_at n Tight (direction_by (mr i && er i) (mf i && ef i)))) part;
        bound = λ other. first_with (Bounded other) (bounding_at c ws j corner p other) n old.bound
            (direction_by e.0 e.1) new.bound (first.bound other)
            (pinned_at n (Bounded other) (direction_by e.0 e.1)
            ∙ (λ i. cause_at n (Bounded other) (direction_by (er i) (ef i)))) bound;
        loose = first_with Loose (loose_at c ws j d p) n old.loose (direction_by m.0 m.1) new.loose
            first.loose
            (pinned_at n Loose (direction_by m.0 m.1)
            ∙ (λ i. cause_at n Loose (direction_by (mr i) (mf i)))) loose;
      }
    where
      whole_is : (all : Bool) (found : Option Direction) →
          cause_at n Tight (cond all found None) ≡ cond all (cause_at n Tight found) None
      whole_is true found = refl
      whole_is false found = refl

  -- a pin that is not listened to
  none_at : {A : Type 0} (f : ℕ → Option A) (n : ℕ) (o : Option A) → o ≡ first_some f n 0 →
      f n ≡ None → o ≡ first_some f (n + 1) 0
  none_at f n o before here =
      let at : 0 + n ≡ n = omega arith in
      before ∙ sym (first_more f n 0 ∙ ap (λ (z : ℕ). option_or (first_some f n 0) (f z)) at
      ∙ ap (option_or (first_some f n 0)) here ∙ or_none (first_some f n 0))

  no_step : (h rest : Bool) → h ≡ false → (h && rest) ≡ false
  no_step true rest h = absurd (cc)
  no_step false rest h = refl

  pub without_pin : (n : ℕ) (found : Causes) → AreFirst n found → is_heard c ws j n ≡ false →
      AreFirst (n + 1) found
  without_pin n found first unheard =
      let mr : made n false true ≡ false = no_step (is_heard c ws j n) _ unheard in
      let mf : made n true false ≡ false = no_step (is_heard c ws j n) _ unheard in
      let er : ended n false true ≡ false = no_step (is_heard c ws j n) _ unheard in
      let ef : ended n true false ≡ false = no_step (is_heard c ws j n) _ unheard in
      record {
        whole = none_at (tight_at c ws j corner d p) n (option_map (with_word Tight) found.whole)
            first.whole
            (λ i. cond ((not (mr i) || er i) && (not (mf i) || ef i))
            (cause_at n Tight (direction_by (mr i) (mf i))) None);
        part = none_at (partly_tight_at c ws j corner d p) n
            (option_map (with_word Tight) found.part) first.part
            (λ i. cause_at n Tight (direction_by (mr i && er i) (mf i && ef i)));
        bound = λ other. none_at (bounding_at c ws j corner p other) n
            (option_map (with_word (Bounded other)) found.bound) (first.bound other)
            (λ i. cause_at n (Bounded other) (direction_by (er i) (ef i)));
        loose = none_at (loose_at c ws j d p) n (option_map (with_word Loose) found.loose)
            first.loose
            (λ i. cause_at n Loose (direction_by (mr i) (mf i)));
      }

  pub best_is : (found : Causes) (r : Option Cause) → AreFirst (length j.pins) found →
      r ≡ best_of found → r ≡ cause_of c ws j corner d p
  best_is found r first is =
      let whole = first.whole in
      let part = first.part in
      let loose = first.loose in
      is
      ∙ (λ i. option_or (whole i) (option_or (part i)
      (if_loose (λ other. first.bound other i) (loose i))))

  -- ---- by what the program asks

  value_here : (i q : ℕ) → i < length j.pins →
      get_or (map (λ w. fold values w q) (pin_waves c ws j)) i U ≡ pin_fold c ws j i q
  value_here i q below =
      let long : length (pin_waves c ws j) ≡ length j.pins = length-map j.pins (pin_wave c ws) in
      get_or-map (λ w. fold values w q) (pin_waves c ws j) i (skewed [] 0) U
      (omega (arith, long, below))

  pub pin_is : (i : ℕ) (m e : Bool × Bool) (now : Value) (pin : Pin) → i < length j.pins →
      is_heard c ws j i ≡ true →
      now ≡ get_or shown i U → pin ≡ get_or j.pins i pin →
      m.0 ≡ may_make (held_pin c ws j) j.kind shown i false true d →
      m.1 ≡ may_make (held_pin c ws j) j.kind shown i true false d →
      e.0 ≡ (has now false true && not (has (fold values (pin_wave c ws pin)
      (beside (period c.header) corner p)) false true)) →
      e.1 ≡ (has now true false && not (has (fold values (pin_wave c ws pin)
      (beside (period c.header) corner p)) true false)) →
      IsPin i m e
  pin_is i m e now pin below heard value at rise fall rises_end falls_end =
      let v : get_or shown i U ≡ pin_fold c ws j i p = value_here i p below in
      let wave : pin_wave c ws pin ≡ wave_of_pin (pin_waves c ws j) i =
      ap (pin_wave c ws) at ∙ sym (get_or-map (pin_wave c ws) j.pins i pin (skewed [] 0) below) in
      record {
        made_rise = rise ∙ heard_is (has (get_or shown i U) false true)
            (has (pin_fold c ws j i p) false true) _ _ (ap (λ x. has x false true) v) heard;
        made_fall = fall ∙ heard_is (has (get_or shown i U) true false)
            (has (pin_fold c ws j i p) true false) _ _ (ap (λ x. has x true false) v) heard;
        ended_rise = rises_end ∙ (λ k. has ((value ∙ v) k) false true && not
            (has (fold values (wave k) (beside (period c.header) corner p)) false true))
            ∙ ended_is _ (is_heard c ws j i) heard;
        ended_fall = falls_end ∙ (λ k. has ((value ∙ v) k) true false && not
            (has (fold values (wave k) (beside (period c.header) corner p)) true false))
            ∙ ended_is _ (is_heard c ws j i) heard;
      }
    where
      heard_is : (a b rest h : Bool) → a ≡ b → h ≡ true → (a && rest) ≡ (h && (true && (b && rest)))
      heard_is a b rest true e h = ap (λ (x : Bool). x && rest) e
      heard_is a b rest false e h = absurd (cc)

      ended_is : (x h : Bool) → h ≡ true → x ≡ (h && (true && x))
      ended_is x true h = refl
      ended_is x false h = absurd (cc)

  -- by what it has at hand: the pin that alone counts, and what each pin shows
  pub heard_as : (i : ℕ) (held : Option ℕ) (b x : Bool) → held ≡ held_pin c ws j →
      b ≡ is_heard_by held j.kind i → b ≡ x → is_heard c ws j i ≡ x
  heard_as i held b x is e at = sym (e ∙ ap (λ h. is_heard_by h j.kind i) is) ∙ at

  pub asked_is : (i : ℕ) (m e : Bool × Bool) (held : Option ℕ) (pins : List Pin) (slot : ℕ)
      (found : List Value) (x : Value) (q : Pin) →
      pins ≡ j.pins → slot ≡ p → i < length pins → is_heard c ws j i ≡ true →
      held ≡ held_pin c ws j → found ≡ pins_shown c ws pins Folded slot →
      m.0 ≡ may_make held j.kind found i false true d →
      m.1 ≡ may_make held j.kind found i true false d →
      e.0 ≡ (has (get_or found i x) false true
      && not (has (fold values (pin_wave c ws (get_or pins i q))
      (beside (period c.header) corner slot)) false true)) →
      e.1 ≡ (has (get_or found i x) true false
      && not (has (fold values (pin_wave c ws (get_or pins i q))
      (beside (period c.header) corner slot)) true false)) →
      IsPin i m e
  asked_is i m e held pins slot found x q pins_are slot_is below heard is are rise fall rises_end
      falls_end =
      let pin = get_or j.pins i q in
      let shows : found ≡ shown = are ∙ (λ k. pins_shown c ws (pins_are k) Folded (slot_is k)) in
      let long : length found ≡ length j.pins = long_shown c ws j.pins Folded p found shows in
      let many : length pins ≡ length j.pins = ap length pins_are in
      let inside : i < length j.pins = omega (arith, below, many) in
      pin_is i m e (get_or found i x) pin inside heard
      (get_or_default found i x U (omega (arith, long, inside)) ∙ ap (λ xs. get_or xs i U) shows)
      (get_or_default j.pins i q pin inside)
      (rise ∙ (λ k. may_make (is k) j.kind (shows k) i false true d)) (fall
      ∙ (λ k. may_make (is k) j.kind (shows k) i true false d))
      (rises_end ∙ (λ k. has (get_or found i x) false true
      && not (has (fold values (pin_wave c ws (get_or (pins_are k) i q))
      (beside (period c.header) corner (slot_is k))) false true)))
      (falls_end ∙ (λ k. has (get_or found i x) true false
      && not (has (fold values (pin_wave c ws (get_or (pins_are k) i q))
      (beside (period c.header) corner (slot_is k))) true false)))
