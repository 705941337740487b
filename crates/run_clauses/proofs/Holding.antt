-- What clauses of each form say: where it is so, none of them fails.
use Rattle.std.specs.Prelude.{◌&&◌, if◌then◌else◌}
use Rattle.std.proofs.Common.{◌≡◌, ℕ, ◌+◌, ◌-◌, ◌<◌, Bool, true, false, true≢false, not, [], ◌∷◌, refl, sym, ap, ◌∙◌}
use Rattle.scald_base.specs.Signal.{turned}
use Rattle.scald_base.specs.Clock.{back, ideal}
use Rattle.scald_base.specs.Fitting.{skew_of}
use Rattle.scald_base.specs.Time.{Bounds, Header, period}
use Rattle.scald_base.specs.declared.assertion.ClockSpec.{ClockSpec}
use Rattle.element_kinds.specs.Equation.{IsForced, IsInReach}
use Rattle.run_clauses.specs.declared.driven.Driven.{Driven}
use Rattle.run_clauses.specs.declared.fact.Fact.{Fact}
use Rattle.run_clauses.specs.declared.fact.Fact.TheVariants.{Delay, Fall, Lasts, Net, Offset, Own, Parity, Pin, Rise, Wire}
use Rattle.run_clauses.specs.declared.fact.Said.{Said}
use Rattle.run_clauses.specs.declared.gates.Gate.{Gate}
use Rattle.run_clauses.specs.declared.pins.At.{At}
use Rattle.run_clauses.specs.declared.storage.Storage.{Storage}
use Rattle.run_clauses.specs.declared.undriven.Input.{Input}
use Rattle.run_clauses.specs.Clauses.{said_holds}
use Rattle.run_clauses.specs.Forms.{differ, forced_said, not_said, old_said, out_said, said}
use Rattle.run_clauses.specs.Meaning.{AreSame, Bits, HasBefore, IsAll, IsBetween, IsBuffer, IsChange, IsClock, IsFree, IsGate, IsKept, IsLatch, IsOther, IsParity, IsRegister, IsSameAt, IsSetOrReset, IsStoredBit, IsTaken, NoneSteps, ShowsNet, Stores, old_of, out_of, own_of, parity_of, pin_of, shows}
use Rattle.run_clauses.proofs.Pushing.{NoneHolds, differs, not_false, other_bit, other_out, own_bit, own_out}

module _ (bits : Bits) where
  -- ---- the ticks of a run

  pub lasts_before : (tick : ℕ) → HasBefore tick bits →
      NoneHolds bits (said (Lasts tick) false ∷ said (Lasts (tick - 1)) true ∷ []) → ⊥
  lasts_before tick is none =
      true≢false (sym (is (not_false (bits (Lasts tick)) none.0)) ∙ none.1.0)

  -- ---- one of two facts, and not both

  module _ (f a b : Fact) (is : IsOther f a b bits) where
    pub other_1 : NoneHolds bits (said f false ∷ said a true ∷ said b true ∷ []) → ⊥
    other_1 none =
        true≢false
        (sym (not_false (bits f) none.0) ∙ is ∙ ap (λ (x : Bool). differ x (bits b)) none.1.0
        ∙ none.1.1.0)

    pub other_2 : NoneHolds bits (said f false ∷ said a false ∷ said b false ∷ []) → ⊥
    other_2 none =
        true≢false
        (sym (not_false (bits f) none.0) ∙ is
        ∙ ap (λ (x : Bool). differ x (bits b)) (not_false (bits a) none.1.0)
        ∙ ap not (not_false (bits b) none.1.1.0))

    pub other_3 : NoneHolds bits (said f true ∷ said a true ∷ said b false ∷ []) → ⊥
    other_3 none =
        true≢false
        (sym (ap (λ (x : Bool). differ x (bits b)) none.1.0 ∙ not_false (bits b) none.1.1.0)
        ∙ sym is
        ∙ none.0)

    pub other_4 : NoneHolds bits (said f true ∷ said a false ∷ said b true ∷ []) → ⊥
    other_4 none =
        true≢false
        (sym
        (ap (λ (x : Bool). differ x (bits b)) (not_false (bits a) none.1.0) ∙ ap not none.1.1.0)
        ∙ sym is ∙ none.0)

  -- ---- two things that are the same

  negated_bit : (fact holds : Bool) → (if not holds then fact else not fact) ≡ false →
      (if holds then fact else not fact) ≡ true
  negated_bit true true is = refl
  negated_bit false true is = absurd (true≢false is)
  negated_bit true false is = absurd (true≢false is)
  negated_bit false false is = refl

  module _ (one two a b : Said) (same : AreSame one two a b bits) where
    pub same_1 : NoneHolds bits (one ∷ two ∷ not_said a ∷ b ∷ []) → ⊥
    same_1 none =
        true≢false
        (sym (negated_bit (bits a.fact) a.holds none.1.1.0) ∙ same none.0 none.1.0 ∙ none.1.1.1.0)

    pub same_2 : NoneHolds bits (one ∷ two ∷ a ∷ not_said b ∷ []) → ⊥
    same_2 none =
        true≢false
        (sym (negated_bit (bits b.fact) b.holds none.1.1.1.0) ∙ sym (same none.0 none.1.0)
        ∙ none.1.1.0)

  flipped : (inverted x : Bool) → turned inverted x ≡ (if not inverted then x else not x)
  flipped true x = refl
  flipped false x = refl

  said_out : (inverted x : Bool) → (if turned inverted true then x else not x) ≡ turned inverted x
  said_out true x = refl
  said_out false x = refl

  -- ---- pins

  pub shows_same : (at : At) (net ticks : ℕ) (inverted : Bool) → ShowsNet at net inverted bits →
      let off = said (Wire at.instance at.pin ticks) false in
      AreSame off off (said (Pin at.instance at.pin at.tick) true)
      (said (Net net (at.tick - ticks)) (not inverted)) bits
  shows_same at net ticks inverted is off again =
      is ticks (not_false (bits (Wire at.instance at.pin ticks)) off)
      ∙ flipped inverted (bits (Net net (at.tick - ticks)))

  -- ---- gates

  module _ (g : Gate) where
    pub buffer_1 : IsBuffer g bits →
        NoneHolds bits (said (Own g.instance g.tick) false ∷ said (Pin g.instance 0 g.tick) true
        ∷ []) → ⊥
    buffer_1 is none = true≢false (sym (not_false (own_of g bits) none.0) ∙ is ∙ none.1.0)

    pub buffer_2 : IsBuffer g bits →
        NoneHolds bits (said (Own g.instance g.tick) true ∷ said (Pin g.instance 0 g.tick) false
        ∷ []) → ⊥
    buffer_2 is none = true≢false (sym (not_false (pin_of g bits 0) none.1.0) ∙ sym is ∙ none.0)

    pub all_each : (bit : Bool) → IsAll g bit bits → (pin : ℕ) → pin < g.pins →
        NoneHolds bits
        (said (Own g.instance g.tick) (not bit) ∷ said (Pin g.instance pin g.tick) bit ∷ []) → ⊥
    all_each bit is pin below none =
        differs (pin_of g bits pin) bit (is.each pin below (own_bit bit (own_of g bits) none.0))
        (other_bit bit (pin_of g bits pin) none.1.0)

    pub parity_last : IsParity g bits →
        NoneHolds bits (said (Parity g.instance g.pins g.tick) false ∷ []) → ⊥
    parity_last is none = true≢false (sym (not_false (parity_of g bits g.pins) none.0) ∙ is.last)

    pub parity_1 : IsParity g bits →
        NoneHolds bits (said (Own g.instance g.tick) false ∷ said (Parity g.instance 0 g.tick) true
        ∷ []) → ⊥
    parity_1 is none = true≢false (sym (not_false (own_of g bits) none.0) ∙ is.own ∙ none.1.0)

    pub parity_2 : IsParity g bits →
        NoneHolds bits (said (Own g.instance g.tick) true ∷ said (Parity g.instance 0 g.tick) false
        ∷ []) → ⊥
    parity_2 is none =
        true≢false (sym (not_false (parity_of g bits 0) none.1.0) ∙ sym is.own ∙ none.0)

  -- ---- gates with delays

  pub gate_same : (d : Driven) (ticks : ℕ) → IsGate d bits →
      AreSame (said (Lasts d.tick) false) (said (Delay d.instance ticks) false) (out_said d true)
      (said (Own d.instance (d.tick - ticks)) true) bits
  gate_same d ticks is past off =
      said_out d.inverted (bits (Net d.net d.tick))
      ∙ is (not_false (bits (Lasts d.tick)) past) ticks
      (not_false (bits (Delay d.instance ticks)) off)

  -- one pair of a rise and a fall delay
  module _ (d : Driven) (rise fall : ℕ) where
    pub between_some : (bit : Bool) (bounds : Bounds) (u : ℕ) → IsInReach bounds d.tick u →
        (bits (Lasts d.tick) ≡ true → bits (Rise d.instance rise) ≡ true →
        bits (Fall d.instance fall) ≡ true → IsBetween d bit bounds bits) →
        NoneHolds bits
        (said (Lasts d.tick) false ∷ said (Rise d.instance rise) false
        ∷ said (Fall d.instance fall) false ∷ out_said d bit
        ∷ said (Own d.instance u) (not bit) ∷ []) → ⊥
    between_some bit bounds u within is none =
        let here =
        is (not_false (bits (Lasts d.tick)) none.0)
        (not_false (bits (Rise d.instance rise)) none.1.0)
        (not_false (bits (Fall d.instance fall)) none.1.1.0) in
        differs (out_of d bits) bit
        (here.some u within (own_bit bit (bits (Own d.instance u)) none.1.1.1.1.0))
        (other_out d.inverted bit (bits (Net d.net d.tick)) none.1.1.1.0)

    pub between_each : (bit : Bool) (bounds : Bounds) →
        (bits (Lasts d.tick) ≡ true → bits (Rise d.instance rise) ≡ true →
        bits (Fall d.instance fall) ≡ true → IsBetween d bit bounds bits) →
        NoneHolds bits
        (said (Lasts d.tick) false ∷ said (Rise d.instance rise) false
        ∷ said (Fall d.instance fall) false ∷ out_said d (not bit) ∷ []) →
        ((u : ℕ) → IsInReach bounds d.tick u → bits (Own d.instance u) ≡ not bit) → ⊥
    between_each bit bounds is none others =
        let here =
        is (not_false (bits (Lasts d.tick)) none.0)
        (not_false (bits (Rise d.instance rise)) none.1.0)
        (not_false (bits (Fall d.instance fall)) none.1.1.0) in
        differs (out_of d bits) bit (own_out d.inverted bit (bits (Net d.net d.tick)) none.1.1.1.0)
        (here.each others)

  -- ---- change functions

  pub change_none : (d : Driven) (pins : ℕ) (delay : Bounds) (bit : Bool) →
      IsChange d pins delay bits →
      NoneHolds bits
      (said (Lasts d.tick) false ∷ out_said d (not bit) ∷ old_said d bit ∷ []) →
      NoneSteps d pins delay bits → ⊥
  change_none d pins delay bit is none still =
      differs (old_of d bits) bit
      (is (not_false (bits (Lasts d.tick)) none.0) still
      ∙ own_out d.inverted bit (bits (Net d.net d.tick)) none.1.0)
      (other_out d.inverted bit (bits (Net d.net (d.tick - 1))) none.1.1.0)

  -- ---- storage

  module _ (s : Storage) where
    is_not : (forced : Bool) (x y : Said) → forced ≡ true →
        said_holds bits (if forced then x else y) ≡ false → said_holds bits x ≡ false
    is_not true x y e fails = fails
    is_not false x y e fails = absurd (true≢false (sym e))

    forced_free : (set reset free out : Bool) → set ≡ false → reset ≡ false →
        IsForced set reset free out → out ≡ free
    forced_free true reset free out a b is = absurd (true≢false a)
    forced_free false true free out a b is = absurd (true≢false b)
    forced_free false false free out a b is = is

    stored_free : (forced set reset free out : Bool) → (forced ≡ true → set ≡ false) →
        (forced ≡ true → reset ≡ false) → IsStoredBit forced set reset free out → out ≡ free
    stored_free true set reset free out a b is =
        forced_free set reset free out (a refl) (b refl) is
    stored_free false set reset free out a b is = is

    free_is : (free : Bool) → Stores s free bits → IsFree s bits → out_of s.net bits ≡ free
    free_is free is at =
        stored_free s.forced (shows s bits 2 s.tick) (shows s bits 3 s.tick) free
        (out_of s.net bits)
        (λ e.
        is_not s.forced (said (Pin s.net.instance 2 s.tick) true) (said (Lasts s.net.tick) false) e
        at.not_set)
        (λ e.
        is_not s.forced (said (Pin s.net.instance 3 s.tick) true) (said (Lasts s.net.tick) false) e
        at.not_reset)
        (is at.lasts at.delay)

    rise_taken : (a b x y : Bool) → a ≡ false → b ≡ true → (if not a && b then x else y) ≡ x
    rise_taken true b x y off on = absurd (true≢false off)
    rise_taken false true x y off on = refl
    rise_taken false false x y off on = absurd (true≢false (sym on))

    rise_kept : (a b x y : Bool) → a ≡ true → (if not a && b then x else y) ≡ y
    rise_kept true b x y on = refl
    rise_kept false b x y on = absurd (true≢false (sym on))

    high_kept : (a b x y : Bool) → b ≡ false → (if not a && b then x else y) ≡ y
    high_kept a true x y off = absurd (true≢false off)
    high_kept true false x y off = refl
    high_kept false false x y off = refl

    enabled_taken : (b x y : Bool) → b ≡ true → (if b then x else y) ≡ x
    enabled_taken true x y on = refl
    enabled_taken false x y on = absurd (true≢false (sym on))

    enabled_kept : (b x y : Bool) → b ≡ false → (if b then x else y) ≡ y
    enabled_kept true x y off = absurd (true≢false off)
    enabled_kept false x y off = refl

    abbrev before : Fact
    before = Pin s.net.instance 0 (s.tick - 1)

    abbrev after : Fact
    after = Pin s.net.instance 0 s.tick

    abbrev register_free : Bool
    register_free =
        if not (bits before) && bits after then shows s bits 1 s.tick else old_of s.net bits

    abbrev latch_free : Bool
    latch_free = if bits after then shows s bits 1 s.tick else old_of s.net bits

    module _ (is : IsRegister s bits) where
      pub register_taken : IsTaken s (said before true) (said after false) bits
      register_taken at low high =
          free_is register_free is at
          ∙ rise_taken (bits before) (bits after) (shows s bits 1 s.tick) (old_of s.net bits) low
          (not_false (bits after) high)

      pub register_kept : IsKept s (said before false) bits
      register_kept at high =
          free_is register_free is at
          ∙ rise_kept (bits before) (bits after) (shows s bits 1 s.tick) (old_of s.net bits)
          (not_false (bits before) high)

      pub register_low : IsKept s (said after true) bits
      register_low at low =
          free_is register_free is at
          ∙ high_kept (bits before) (bits after) (shows s bits 1 s.tick) (old_of s.net bits) low

    module _ (is : IsLatch s bits) where
      pub latch_taken : IsTaken s (said after false) (said after false) bits
      latch_taken at on again =
          free_is latch_free is at
          ∙ enabled_taken (bits after) (shows s bits 1 s.tick) (old_of s.net bits)
          (not_false (bits after) on)

      pub latch_kept : IsKept s (said after true) bits
      latch_kept at off =
          free_is latch_free is at
          ∙ enabled_kept (bits after) (shows s bits 1 s.tick) (old_of s.net bits) off

    -- a set and a reset
    own_forced : (set reset free out : Bool) → IsForced set reset free out →
        IsForced set reset out out
    own_forced true true free out is = tt
    own_forced true false free out is = is
    own_forced false true free out is = is
    own_forced false false free out is = refl

    own_stored : (forced set reset free out : Bool) → forced ≡ true →
        IsStoredBit forced set reset free out → IsForced set reset out out
    own_stored true set reset free out e is = own_forced set reset free out is
    own_stored false set reset free out e is = absurd (true≢false (sym e))

    set_or_reset : (free : Bool) → Stores s free bits → IsSetOrReset s bits
    set_or_reset free is e lasts delay =
        own_stored s.forced (shows s bits 2 s.tick) (shows s bits 3 s.tick) free
        (out_of s.net bits) e
        (is lasts delay)

    pub register_forced : IsRegister s bits → IsSetOrReset s bits
    register_forced is = set_or_reset register_free is

    pub latch_forced : IsLatch s bits → IsSetOrReset s bits
    latch_forced is = set_or_reset latch_free is

    forced_set : (set reset out : Bool) → set ≡ true → reset ≡ false → IsForced set reset out out →
        out ≡ true
    forced_set true true out a b is = absurd (true≢false b)
    forced_set true false out a b is = is
    forced_set false reset out a b is = absurd (true≢false (sym a))

    forced_reset : (set reset out : Bool) → set ≡ false → reset ≡ true →
        IsForced set reset out out →
        out ≡ false
    forced_reset true reset out a b is = absurd (true≢false a)
    forced_reset false true out a b is = is
    forced_reset false false out a b is = absurd (true≢false (sym b))

    pub set_alone : s.forced ≡ true → IsSetOrReset s bits →
        NoneHolds bits
        (said (Lasts s.net.tick) false ∷ s.unless ∷ said (Pin s.net.instance 2 s.tick) false
        ∷ said (Pin s.net.instance 3 s.tick) true ∷ out_said s.net true ∷ []) → ⊥
    set_alone e is none =
        differs (out_of s.net bits) true
        (forced_set (shows s bits 2 s.tick) (shows s bits 3 s.tick) (out_of s.net bits)
        (not_false (shows s bits 2 s.tick) none.1.1.0) none.1.1.1.0
        (is e (not_false (bits (Lasts s.net.tick)) none.0) none.1.0))
        (other_out s.net.inverted true (bits (Net s.net.net s.net.tick)) none.1.1.1.1.0)

    pub reset_alone : s.forced ≡ true → IsSetOrReset s bits →
        NoneHolds bits
        (said (Lasts s.net.tick) false ∷ s.unless ∷ said (Pin s.net.instance 2 s.tick) true
        ∷ said (Pin s.net.instance 3 s.tick) false ∷ out_said s.net false ∷ []) → ⊥
    reset_alone e is none =
        differs (out_of s.net bits) false
        (forced_reset (shows s bits 2 s.tick) (shows s bits 3 s.tick) (out_of s.net bits) none.1.1.0
        (not_false (shows s bits 3 s.tick) none.1.1.1.0)
        (is e (not_false (bits (Lasts s.net.tick)) none.0) none.1.0))
        (other_out s.net.inverted false (bits (Net s.net.net s.net.tick)) none.1.1.1.1.0)

    pub taken_as : (one two own_one own_two : Said) → one ≡ own_one → two ≡ own_two →
        IsTaken s own_one own_two bits → IsTaken s one two bits
    taken_as one two own_one own_two e1 e2 is at x y =
        is at (ap (said_holds bits) (sym e1) ∙ x) (ap (said_holds bits) (sym e2) ∙ y)

    pub kept_as : (one own_one : Said) → one ≡ own_one → IsKept s own_one bits → IsKept s one bits
    kept_as one own_one e1 is at x = is at (ap (said_holds bits) (sym e1) ∙ x)

    pub taken : (one two : Said) (bit : Bool) → IsTaken s one two bits →
        NoneHolds bits
        (said (Lasts s.net.tick) false ∷ s.unless ∷ forced_said s 2 ∷ forced_said s 3 ∷ one ∷ two
        ∷ out_said s.net (not bit) ∷ said (Pin s.net.instance 1 s.tick) bit ∷ []) → ⊥
    taken one two bit is none =
        differs (shows s bits 1 s.tick) bit
        (sym
        (is
        (record {
          lasts = not_false (bits (Lasts s.net.tick)) none.0;
          delay = none.1.0;
          not_set = none.1.1.0;
          not_reset = none.1.1.1.0;
        }) none.1.1.1.1.0 none.1.1.1.1.1.0)
        ∙ own_out s.net.inverted bit (bits (Net s.net.net s.net.tick)) none.1.1.1.1.1.1.0)
        (other_bit bit (shows s bits 1 s.tick) none.1.1.1.1.1.1.1.0)

    pub kept : (one : Said) (bit : Bool) → IsKept s one bits →
        NoneHolds bits
        (said (Lasts s.net.tick) false ∷ s.unless ∷ forced_said s 2 ∷ forced_said s 3 ∷ one
        ∷ out_said s.net (not bit) ∷ old_said s.net bit ∷ []) → ⊥
    kept one bit is none =
        differs (old_of s.net bits) bit
        (sym
        (is
        (record {
          lasts = not_false (bits (Lasts s.net.tick)) none.0;
          delay = none.1.0;
          not_set = none.1.1.0;
          not_reset = none.1.1.1.0;
        }) none.1.1.1.1.0)
        ∙ own_out s.net.inverted bit (bits (Net s.net.net s.net.tick)) none.1.1.1.1.1.0)
        (other_out s.net.inverted bit (bits (Net s.net.net (s.net.tick - 1))) none.1.1.1.1.1.1.0)

  -- ---- nets that nothing drives

  module _ (i : Input) (tick : ℕ) (is : IsSameAt i tick bits) where
    pub same_at_1 : NoneHolds bits
        (said (Lasts i.tick) false ∷ said (Net i.net i.tick) false ∷ said (Net i.net tick) true
        ∷ []) → ⊥
    same_at_1 none =
        true≢false
        (sym (not_false (bits (Net i.net i.tick)) none.1.0)
        ∙ is (not_false (bits (Lasts i.tick)) none.0) ∙ none.1.1.0)

    pub same_at_2 : NoneHolds bits
        (said (Lasts i.tick) false ∷ said (Net i.net i.tick) true ∷ said (Net i.net tick) false
        ∷ []) → ⊥
    same_at_2 none =
        true≢false
        (sym (not_false (bits (Net i.net tick)) none.1.1.0)
        ∙ sym (is (not_false (bits (Lasts i.tick)) none.0)) ∙ none.1.0)

  -- ---- breaks

  -- one fact, if another
  pub implied : (f g : Fact) (bit : Bool) → (bits f ≡ true → bits g ≡ bit) →
      NoneHolds bits (said f false ∷ said g bit ∷ []) → ⊥
  implied f g bit is none =
      differs (bits g) bit (is (not_false (bits f) none.0)) (other_bit bit (bits g) none.1.0)

  -- one fact, if two others
  pub implied_by_two : (f g h : Fact) → (bits f ≡ true → bits g ≡ true → bits h ≡ true) →
      NoneHolds bits (said f false ∷ said g false ∷ said h true ∷ []) → ⊥
  implied_by_two f g h is none =
      true≢false
      (sym (is (not_false (bits f) none.0) (not_false (bits g) none.1.0)) ∙ none.1.1.0)

  -- not both of two bits, if a fact
  pub not_both : (f g h : Fact) (a b : Bool) →
      (bits f ≡ true → bits g ≡ a → bits h ≡ b → ⊥) →
      NoneHolds bits (said f false ∷ said g (not a) ∷ said h (not b) ∷ []) → ⊥
  not_both f g h a b isnt none =
      isnt (not_false (bits f) none.0) (own_bit a (bits g) none.1.0) (own_bit b (bits h) none.1.1.0)

  -- what is the same of literals is so of calls that give them
  pub same_as : (one two a b own_one own_two own_a own_b : Said) → one ≡ own_one → two ≡ own_two →
      a ≡ own_a → b ≡ own_b → AreSame own_one own_two own_a own_b bits → AreSame one two a b bits
  same_as one two a b own_one own_two own_a own_b e1 e2 ea eb same x y =
      ap (said_holds bits) ea
      ∙ same (ap (said_holds bits) (sym e1) ∙ x) (ap (said_holds bits) (sym e2) ∙ y)
      ∙ ap (said_holds bits) (sym eb)

  -- ---- clocks that nothing drives

  pub clock_none : (i : Input) (h : Header) (clock : ClockSpec) (by : ℕ) (bit : Bool) →
      IsClock i h clock bits →
      bit ≡ ideal clock h (back (period h) (i.tick + (skew_of clock h.pskew).0) by) →
      NoneHolds bits
      (said (Lasts i.tick) false ∷ said (Offset i.net by) false ∷ said (Net i.net i.tick) bit ∷ [])
      → ⊥
  clock_none i h clock by bit is same none =
      differs (bits (Net i.net i.tick)) bit
      (is (not_false (bits (Lasts i.tick)) none.0) by (not_false (bits (Offset i.net by)) none.1.0)
      ∙ sym same)
      (other_bit bit (bits (Net i.net i.tick)) none.1.1.0)
