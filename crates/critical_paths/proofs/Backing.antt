-- The delay of a link: none in a period of delays from the corner inward is none at all.
use Rattle.std.proofs.Common.{◌≡◌, ℕ, zero, suc, ◌+◌, ◌-◌, ◌*◌, ◌/◌, ◌%◌, ◌<◌, ◌≤◌, min, Bool, true, false, cond, below_more, refl, sym, ap, subst, ◌∙◌, arith, Option, Some, None, ℤ, pos, ◌-ℤ◌}
use Rattle.std.specs.Prelude.{is_some, nat_lt, slice_get}
use Rattle.std.specs.Option.{option_map, option_or}
use Rattle.std.proofs.lemmas.Bool.{lt-ltb}
use Rattle.std.proofs.Math.Nat.{add-mul-mod_self_right, mod-add-div', mod-le, mod-lt}
use Rattle.scald_base.specs.Clock.{back}
use Rattle.scald_base.specs.Time.{Bounds, period}
use Rattle.scald_base.proofs.Back.{back_period}
use Rattle.vector_names.specs.declared.bits.Target.{Target}
use Rattle.vector_names.specs.declared.bits.Target.TheVariants.{Net as OnNet, Constant}
use Rattle.flat_circuit.specs.declared.instance.Pin.{Pin}
use Rattle.flat_circuit.specs.declared.instance.Instance.{Instance}
use Rattle.flat_circuit.specs.Circuit.{Circuit, wire_at}
use Rattle.gate_eval.specs.Hold.{first_some}
use Rattle.gate_eval.proofs.Found.{first_some_at, first_some_nowhere}
use Rattle.fixpoint_engine.specs.Waves.{Waves}
use Rattle.critical_paths.specs.declared.direction.Corner.{Corner}
use Rattle.critical_paths.specs.declared.direction.Corner.TheVariants.{Late, Early}
use Rattle.critical_paths.specs.declared.direction.Direction.{Direction}
use Rattle.critical_paths.specs.declared.path.Word.{Word}
use Rattle.critical_paths.specs.declared.path.Word.TheVariants.{Inside}
use Rattle.critical_paths.specs.declared.path.Passage.TheVariants.{Through}
use Rattle.critical_paths.specs.Event.{turned}
use Rattle.critical_paths.specs.Cause.{Cause, cause_of}
use Rattle.critical_paths.specs.Path.{Arc, Before, arc, arc_in, arc_inward, before_arc, before_pin, before_target, before_wire, choices, event_before, inward, is_event, word_off}
use Rattle.critical_paths.proofs.Cutting.{map_or}
use Rattle.critical_paths.proofs.Ticks.{slot_back}
use Rattle.critical_paths.specs.Tick.{slot_of}
use Rattle.critical_paths.specs.Views.{Hidden, arc_off, behind, behind_at}

-- ---- delays a period apart

back_wrap : (p t x k : ℕ) → back p t (x + k * p) ≡ back p t x
back_wrap p t x k = sym (back_period p t (x + k * p)) ∙ ap (back p t) (add-mul-mod_self_right x k p)
    ∙ back_period p t x

same_slot : (corner : Corner) (p t : ℕ) (d : Bounds) (n : ℕ) → d.min + n ≤ d.max →
    back p t (inward corner d (n % p)) ≡ back p t (inward corner d n)
same_slot Late p t d n within =
    let parts : n % p + n / p * p ≡ n = mod-add-div' n p in
    let whole : d.max - n % p ≡ d.max - n + n / p * p = omega (arith, parts, within) in
    ap (back p t) whole ∙ back_wrap p t (d.max - n) (n / p)
same_slot Early p t d n within =
    let parts : n % p + n / p * p ≡ n = mod-add-div' n p in
    let whole : d.min + n ≡ d.min + n % p + n / p * p = omega (arith, parts) in
    sym (ap (back p t) whole ∙ back_wrap p t (d.min + n % p) (n / p))

-- what holds in the first period of delays holds of each
pub each_delay : (P : ℕ → Type 0) (corner : Corner) (p t : ℕ) (d : Bounds) (count : ℕ) → 0 < p →
    d.min ≤ d.max → count ≡ min (choices d) p →
    ((n : ℕ) → n < count → P (back p t (inward corner d n))) → (n : ℕ) → n < choices d →
    P (back p t (inward corner d n))
each_delay P corner p t d count some ordered is each n below =
    let small : n % p < p = mod-lt n some in
    let less : n % p ≤ n = mod-le n p in
    subst P (same_slot corner p t d n (omega (arith, below, ordered)))
    (each (n % p) (omega (arith, is, small, less, below)))

-- ---- the net behind a pin

module _ (c : Circuit) (ws : Waves) (corner : Corner) (p : ℕ) (d : Direction) (i : ℕ) where
  abbrev pub wire : Bounds
  wire = wire_at c.nets i

  abbrev pub sees : ℕ → Bool
  sees n = is_event c ws (event_before corner (period c.header) p wire d i n)

  abbrev pub found_at : ℕ → Hidden
  found_at n = record {
    event = event_before corner (period c.header) p wire d i n;
    wire = inward corner wire n;
    is_inside = nat_lt 0 n;
  }

  pub behind_some : (n : ℕ) → n < choices wire → ((m : ℕ) → m < n → sees m ≡ false) → sees n
      ≡ true →
      behind c ws corner p d (OnNet i) ≡ Some (found_at n)
  behind_some n below before here =
      first_some_at (behind_at c ws corner p d i) (choices wire) 0 n (found_at n)
      (λ m less. ap (λ (b : Bool). cond b (Some (found_at m)) None) (before m less)) (omega arith)
      (omega (arith, below))
      (ap (λ (b : Bool). cond b (Some (found_at n)) None) here)

  pub behind_none : (count : ℕ) → 0 < period c.header → wire.min ≤ wire.max → count
      ≡ min (choices wire) (period c.header) →
      ((n : ℕ) → n < count → sees n ≡ false) → behind c ws corner p d (OnNet i) ≡ None
  behind_none count some ordered is none =
      first_some_nowhere (behind_at c ws corner p d i) (choices wire) 0
      (λ n below. ap (λ (b : Bool). cond b (Some (found_at n)) None)
      (each_delay (λ slot. is_event c ws (record { net = i; direction = d; slot = slot }) ≡ false)
      corner (period c.header) p wire count some ordered is none n (omega (arith, below))))

-- ---- the pin that makes a step

word_is : (n : ℕ) (word : Word) → cond (nat_lt 0 n) Inside word ≡ word_off n word
word_is zero word = refl
word_is (suc n) word = ap (λ (b : Bool). cond b Inside word) (lt-ltb 0 (suc n) (omega arith))

module _ (c : Circuit) (ws : Waves) (j : Instance) (corner : Corner) (d : Direction)
    (delay : Bounds) (tick : ℤ)
    (some : 0 < period c.header) where
  -- what makes the step so many ticks later
  abbrev pub caused : ℕ → Option Cause
  caused late = cause_of c ws j corner d (slot_of (period c.header) (tick -ℤ pos late))

  tried : (n late : ℕ) → late ≡ inward corner delay n →
      option_map (arc late n) (caused late)
      ≡ arc_inward c ws j corner d (slot_of (period c.header) tick) delay n
  tried n late is =
      ap (λ (p : ℕ). option_map (arc late n) (cause_of c ws j corner d p))
      (slot_back (period c.header) late tick some)
      ∙ ap (λ (o : ℕ). option_map (arc o n)
      (cause_of c ws j corner d (back (period c.header) (slot_of (period c.header) tick) o))) is

  pub arc_tried : (n late : ℕ) (found : Option Cause) (noted : Option Arc) → late
      ≡ inward corner delay n → found ≡ caused late →
      noted ≡ option_map (arc_off late (nat_lt 0 n)) found →
      noted ≡ arc_inward c ws j corner d (slot_of (period c.header) tick) delay n
  arc_tried n late found noted is by noted_is =
      noted_is ∙ off found ∙ ap (option_map (arc late n)) by ∙ tried n late is
    where
      off : (o : Option Cause) → option_map (arc_off late (nat_lt 0 n)) o
          ≡ option_map (arc late n) o
      off None = refl
      off (Some cause) =
          ap (λ (w : Word). Some (record {
            cause = record { pin = cause.pin; direction = cause.direction; word = w };
            delay = late;
          })) (word_is n cause.word)

-- ---- the first of so many tries

pub unmapped : {A B : Type 0} (f : A → B) (o : Option A) → option_map f o ≡ None → o ≡ None
unmapped f None none = refl
unmapped f (Some x) none = absurd (cc)

missing : {A B : Type 0} (f : A → B) (o : Option A) → is_some o ≡ false → option_map f o ≡ None
missing f None none = refl
missing f (Some x) none = absurd (cc)

-- this one is the first
pub first_here : {A B : Type 0} (g : A → B) (f : ℕ → Option B) (count n : ℕ) (found : Option A) →
    is_some found ≡ true →
    option_map g found ≡ f n → ((m : ℕ) → m < n → f m ≡ None) → n < count → option_map g found
    ≡ first_some f count 0
first_here g f count n None some is before below = absurd (cc)
first_here g f count n (Some x) some is before below =
    sym (first_some_at f count 0 n (g x) before (omega arith) (omega (arith, below)) (sym is))

-- nor is this one there
pub none_more : {A B : Type 0} (g : A → B) (f : ℕ → Option B) (n : ℕ) (found : Option A) →
    is_some found ≡ false →
    option_map g found ≡ f n → ((m : ℕ) → m < n → f m ≡ None) → (m : ℕ) → m < n + 1 → f m ≡ None
none_more g f n found none is before = below_more (λ m. f m ≡ None) n before
    (sym is ∙ missing g found none)

-- none of as many as a period has
pub arc_nowhere : (c : Circuit) (ws : Waves) (j : Instance) (corner : Corner) (d : Direction)
    (q : ℕ) (delay : Bounds) (count : ℕ) →
    0 < period c.header → delay.min ≤ delay.max → count ≡ min (choices delay) (period c.header) →
    ((n : ℕ) → n < count → arc_inward c ws j corner d q delay n ≡ None) → None
    ≡ arc_in c ws j corner d q delay
arc_nowhere c ws j corner d q delay count some ordered is none =
    let each : (n : ℕ) → n < choices delay →
    cause_of c ws j corner d (back (period c.header) q (inward corner delay n)) ≡ None =
    each_delay (λ slot. cause_of c ws j corner d slot ≡ None) corner
    (period c.header) q delay count some ordered is
    (λ n below. unmapped (arc (inward corner delay n) n)
    (cause_of c ws j corner d (back (period c.header) q (inward corner delay n))) (none n below)) in
    sym (first_some_nowhere (arc_inward c ws j corner d q delay) (choices delay) 0
    (λ n below. ap (option_map (arc (inward corner delay n) n)) (each n (omega (arith, below)))))

-- ---- through the pin

map_first : {A B : Type 0} (h : A → B) (f : ℕ → Option A) (g : ℕ → Option B) (n i : ℕ) →
    ((k : ℕ) → g k ≡ option_map h (f k)) →
    first_some g n i ≡ option_map h (first_some f n i)
map_first h f g zero i same = refl
map_first h f g (suc n) i same =
    let rest : first_some g n (i + 1)
    ≡ option_map h (first_some f n (i + 1)) = map_first h f g n (i + 1) same in
    let here : g i ≡ option_map h (f i) = same i in
    (λ k. option_or (here k) (rest k)) ∙ sym (map_or h (f i) (first_some f n (i + 1)))

-- by the net behind the pin
abbrev pub through_hidden : Arc → Hidden → Before
through_hidden a h = record {
  passage = Through a.cause.pin h.wire a.delay (cond h.is_inside Inside a.cause.word);
  event = h.event;
}

module _ (c : Circuit) (ws : Waves) (corner : Corner) (p : ℕ) (a : Arc) where
  by_wire : (d : Direction) (i n : ℕ) → before_wire c ws corner p a d i n
      ≡ option_map (through_hidden a) (behind_at c ws corner p d i n)
  by_wire d i n = by (is_event c ws
      (event_before corner (period c.header) p (wire_at c.nets i) d i n))
    where
      by : (b : Bool) →
          cond b (Some (record {
            passage = Through a.cause.pin (inward corner (wire_at c.nets i) n) a.delay
                (word_off n a.cause.word);
            event = event_before corner (period c.header) p (wire_at c.nets i) d i n;
          })) None
          ≡ option_map (through_hidden a) (cond b (Some (found_at c ws corner p d i n)) None)
      by false = refl
      by true = ap (λ word. Some (record {
        passage = Through a.cause.pin (inward corner (wire_at c.nets i) n) a.delay word;
        event = event_before corner (period c.header) p (wire_at c.nets i) d i n;
      })) (sym (word_is n a.cause.word))

  by_target : (inverted : Bool) (target : Target) →
      before_target c ws corner p a inverted target
      ≡ option_map (through_hidden a)
      (behind c ws corner p (turned inverted a.cause.direction) target)
  by_target inverted (OnNet i) =
      map_first (through_hidden a) (behind_at c ws corner p (turned inverted a.cause.direction) i)
      (before_wire c ws corner p a (turned inverted a.cause.direction) i)
      (choices (wire_at c.nets i)) 0
      (by_wire (turned inverted a.cause.direction) i)
  by_target inverted (Constant b) = refl

pub before_arc_is : (c : Circuit) (ws : Waves) (j : Instance) (corner : Corner) (q : ℕ) (a : Arc)
    (pin : Pin) → slice_get j.pins a.cause.pin ≡ Some pin →
    before_arc c ws j corner q a
    ≡ option_map (through_hidden a)
    (behind c ws corner (back (period c.header) q a.delay)
    (turned pin.inverted a.cause.direction) pin.target)
before_arc_is c ws j corner q a pin is =
    ap (before_pin c ws corner (back (period c.header) q a.delay) a) is
    ∙ by_target c ws corner (back (period c.header) q a.delay) a pin.inverted pin.target

-- ---- by what is found behind the pin

module _ (c : Circuit) (ws : Waves) (j : Instance) (corner : Corner) (tick : ℤ) (a : Arc)
    (pin : Pin) (some : 0 < period c.header)
    (is : slice_get j.pins a.cause.pin ≡ Some pin) where
  abbrev at_tick : Option Hidden
  at_tick = behind c ws corner (slot_of (period c.header) (tick -ℤ pos a.delay))
      (turned pin.inverted a.cause.direction) pin.target

  at_tick_is : option_map (through_hidden a) at_tick
      ≡ before_arc c ws j corner (slot_of (period c.header) tick) a
  at_tick_is =
      ap (λ (q : ℕ). option_map (through_hidden a)
      (behind c ws corner q (turned pin.inverted a.cause.direction) pin.target))
      (slot_back (period c.header) a.delay tick some)
      ∙ sym (before_arc_is c ws j corner (slot_of (period c.header) tick) a pin is)

  pub through_found : (b : Hidden) (r : Before) → Some b ≡ at_tick → r ≡ through_hidden a b →
      Some r ≡ before_arc c ws j corner (slot_of (period c.header) tick) a
  through_found b r found e = ap Some e ∙ ap (option_map (through_hidden a)) found ∙ at_tick_is

  pub through_none : None ≡ at_tick → None
      ≡ before_arc c ws j corner (slot_of (period c.header) tick) a
  through_none none = ap (option_map (through_hidden a)) none ∙ at_tick_is
