-- The event before one, through one of two delays.
use Rattle.std.proofs.Common.{◌≡◌, ℕ, ◌<◌, Bool, true, false, ◌&&◌, cond, refl, sym, ap, subst, ◌∙◌, Option, Some, None, ℤ, pos, negsuc}
use Rattle.std.specs.Prelude.{is_some}
use Rattle.std.specs.Option.{option_and_then, option_map, option_or}
use Rattle.scald_base.specs.Time.{Bounds, period}
use Rattle.element_kinds.specs.Kinds.{may_split}
use Rattle.flat_circuit.specs.declared.instance.Instance.{Instance}
use Rattle.flat_circuit.specs.declared.split.Split.{Split}
use Rattle.flat_circuit.specs.Circuit.{Circuit}
use Rattle.flat_circuit.specs.Split.{SplitFits, two_delays}
use Rattle.fixpoint_engine.specs.Waves.{Waves}
use Rattle.critical_paths.specs.declared.direction.Corner.{Corner}
use Rattle.critical_paths.specs.declared.direction.Direction.{Direction}
use Rattle.critical_paths.specs.declared.direction.Direction.TheVariants.{Rise, Fall, Change}
use Rattle.critical_paths.specs.declared.path.Word.{Word}
use Rattle.critical_paths.specs.Tick.{slot_of}
use Rattle.critical_paths.specs.Event.{Event, is_step, opposite, turned}
use Rattle.critical_paths.specs.Path.{Arc, Before, arc_at_corner, arc_in, arc_inward, arc_with, asks, before, before_arc, before_by, cut, cut_at, cut_by, cut_off, delay_to, firm_arc, free_arc, if_word, inner_arc, is_any, is_bounded, is_cut_by, is_event, is_tight}
use Rattle.critical_paths.specs.Views.{cut_near, delay_by, delay_of_step}
use Rattle.critical_paths.proofs.Ticks.{slot_back, slot_next}

-- ---- the first of several

pub or_none : {A : Type 0} (o : Option A) → option_or o None ≡ o
or_none None = refl
or_none (Some x) = refl

pub or_or : {A : Type 0} (a b c : Option A) → option_or (option_or a b) c
    ≡ option_or a (option_or b c)
or_or None b c = refl
or_or (Some x) b c = refl

pub map_or : {A B : Type 0} (f : A → B) (a b : Option A) → option_map f (option_or a b)
    ≡ option_or (option_map f a) (option_map f b)
map_or f None b = refl
map_or f (Some x) b = refl

-- one of two that were found
pub or_found : {A B : Type 0} (f : A → B) (a b x : Option A) (first more : Option B) → x
    ≡ option_or a b →
    option_map f a ≡ first → option_map f b ≡ more → option_map f x ≡ option_or first more
or_found f a b x first more is l r = ap (option_map f) is ∙ map_or f a b
    ∙ (λ i. option_or (l i) (r i))

pub mapped_if : {A B : Type 0} (f : A → B) (b : Bool) (x : A) → option_map f (cond b (Some x) None)
    ≡ cond b (Some (f x)) None
mapped_if f true x = refl
mapped_if f false x = refl

pub some_mapped : {A B : Type 0} (f : A → B) (o : Option A) → is_some o ≡ is_some (option_map f o)
some_mapped f None = refl
some_mapped f (Some x) = refl

-- it is there, so it is the first
pub taken : {A B : Type 0} (f : A → B) (x : Option A) (first more : Option B) → is_some x ≡ true →
    option_map f x ≡ first →
    option_map f x ≡ option_or first more
taken f None first more some is = absurd (cc)
taken f (Some x) first more some is = ap (λ o. option_or o more) is

-- it is not, so the rest counts
pub left : {A B : Type 0} (f : A → B) (x : Option A) (first more found : Option B) → is_some x
    ≡ false → option_map f x ≡ first → found ≡ more →
    found ≡ option_or first more
left f None first more found none is rest = rest ∙ ap (λ o. option_or o more) is
left f (Some x) first more found none is rest = absurd (cc)

-- ---- one of two delays

pub has_split : (j : Instance) (s : Split) → two_delays j.kind j.split ≡ Some s → j.split ≡ Some s
has_split j s is = by (may_split j.kind) is
  where
    by : (b : Bool) → cond b j.split None ≡ Some s → j.split ≡ Some s
    by true e = e
    by false e = absurd (cc)

pub two_are : (j : Instance) (s : Split) → SplitFits j.kind j.delay j.split → j.split ≡ Some s →
    two_delays j.kind j.split ≡ Some s
two_are j s fits is =
    let may : may_split j.kind ≡ true = may_of (subst (SplitFits j.kind j.delay) is fits) in
    ap (λ (b : Bool). cond b j.split None) may ∙ is
  where
    may_of : SplitFits j.kind j.delay (Some s) → may_split j.kind ≡ true
    may_of h = h.0

pub two_none : (j : Instance) → j.split ≡ None → two_delays j.kind j.split ≡ None
two_none j is = by (may_split j.kind)
  where
    by : (b : Bool) → cond b j.split None ≡ None
    by true = is
    by false = refl

twice : (inverted : Bool) (d : Direction) → turned inverted (turned inverted d) ≡ d
twice false d = refl
twice true Rise = refl
twice true Fall = refl
twice true Change = refl

module _ (c : Circuit) (ws : Waves) (j : Instance) (corner : Corner) (s : Split)
    (split : j.split ≡ Some s) where
  own_is : (own : Direction) → delay_of_step j own ≡ delay_to s own
  own_is own = ap (delay_by j.delay own) split

  -- what is found at the corner of one of them
  abbrev pub StepFound : Direction → ℕ → Direction → Option Arc → Type 0
  StepFound d q own found = found
      ≡ cond (asks d own) (arc_inward c ws j corner own q (delay_of_step j own) 0) None

  step_is : (d : Direction) (q : ℕ) (own : Direction) (test : Word → Bool) (found : Option Arc) →
      StepFound d q own found →
      if_word test found ≡ arc_at_corner c ws j corner d q s test own
  step_is d q own test found is = ap (if_word test) is ∙ by (asks d own)
    where
      by : (b : Bool) →
          if_word test (cond b (arc_inward c ws j corner own q (delay_of_step j own) 0) None)
          ≡ cond b (if_word test (arc_inward c ws j corner own q (delay_to s own) 0)) None
      by true = ap (λ (d : Bounds). if_word test (arc_inward c ws j corner own q d 0)) (own_is own)
      by false = refl

  any_word : (found : Option Arc) → if_word is_any found ≡ found
  any_word None = refl
  any_word (Some a) = refl

  -- rises before falls, tight before bounded
  pub firm_is : (d : Direction) (q : ℕ) (rise fall : Option Arc) → StepFound d q Rise rise →
      StepFound d q Fall fall →
      option_or (option_or (if_word is_tight rise) (if_word is_tight fall))
      (option_or (if_word is_bounded rise) (if_word is_bounded fall))
      ≡ firm_arc c ws j corner d q s
  firm_is d q rise fall r f =
      let tr = step_is d q Rise is_tight rise r in
      let tf = step_is d q Fall is_tight fall f in
      let br = step_is d q Rise is_bounded rise r in
      let bf = step_is d q Fall is_bounded fall f in
      λ i. option_or (option_or (tr i) (tf i)) (option_or (br i) (bf i))

  -- what is found inside of the bounds of one of them
  pub inner_is : (d : Direction) (q : ℕ) (own : Direction) (found : Option Arc) →
      found ≡ cond (asks d own) (arc_in c ws j corner own q (delay_of_step j own)) None → found
      ≡ inner_arc c ws j corner d q s own
  inner_is d q own found is =
      is ∙ ap (λ (b : Bounds). cond (asks d own) (arc_in c ws j corner own q b) None) (own_is own)

  pub free_is : (d : Direction) (q : ℕ) (rise fall inner found : Option Arc) →
      StepFound d q Rise rise → StepFound d q Fall fall →
      inner ≡ option_or (inner_arc c ws j corner d q s Rise) (inner_arc c ws j corner d q s Fall) →
      found ≡ option_or (option_or rise fall) inner → found ≡ free_arc c ws j corner d q s
  free_is d q rise fall inner found r f is by =
      let ar : rise ≡ arc_at_corner c ws j corner d q s is_any Rise = sym (any_word rise)
      ∙ step_is d q Rise is_any rise r in
      let af : fall ≡ arc_at_corner c ws j corner d q s is_any Fall = sym (any_word fall)
      ∙ step_is d q Fall is_any fall f in
      by ∙ (λ i. option_or (option_or (ar i) (af i)) (is i))

  -- ---- what cuts it

  tight_with : (other : Direction) (q : ℕ) → is_step other ≡ true →
      arc_at_corner c ws j corner other q s is_tight other
      ≡ arc_with c ws j corner other q s is_tight
  tight_with Rise q step = sym (or_none (arc_at_corner c ws j corner Rise q s is_tight Rise))
  tight_with Fall q step = refl
  tight_with Change q step = absurd (cc)

  abbrev pub may_come : ℕ → Direction → ℕ → Bool
  may_come net other q = is_event c ws
      (record { net = net; direction = turned j.out_inverted other; slot = q })

  -- the other step may not come there
  pub cut_not : (net : ℕ) (other : Direction) (after : ℤ) (q : ℕ) → may_come net other q ≡ false →
      false ≡ is_cut_by c ws j corner s (cut_off net (turned j.out_inverted other) after q)
  cut_not net other after q not_there =
      sym (ap (λ (b : Bool). b
      && is_some (arc_with c ws j corner
      (turned j.out_inverted (turned j.out_inverted other)) q s is_tight)) not_there)

  -- it may, and ends by its own delay
  pub cut_is : (net : ℕ) (other : Direction) (after : ℤ) (q : ℕ) (found : Option Arc) →
      is_step other ≡ true →
      may_come net other q ≡ true → StepFound other q other found →
      is_some (if_word is_tight found)
      ≡ is_cut_by c ws j corner s (cut_off net (turned j.out_inverted other) after q)
  cut_is net other after q found step may is =
      let tight : if_word is_tight found
      ≡ arc_with c ws j corner (turned j.out_inverted (turned j.out_inverted other)) q s
      is_tight =
      step_is other q other is_tight found is ∙ tight_with other q step
      ∙ ap (λ d. arc_with c ws j corner d q s is_tight) (sym (twice j.out_inverted other)) in
      ap is_some tight
      ∙ sym (ap (λ (b : Bool). b
      && is_some (arc_with c ws j corner
      (turned j.out_inverted (turned j.out_inverted other)) q s is_tight)) may)

  pub cut_noted : (net : ℕ) (other : Direction) (after : ℤ) (q : ℕ) (may : Bool)
      (noted : Option Before) →
      may ≡ is_cut_by c ws j corner s (cut_off net (turned j.out_inverted other) after q) →
      noted ≡ cond may (Some (cut_off net (turned j.out_inverted other) after q)) None →
      noted ≡ cut_at c ws j corner s (cut_off net (turned j.out_inverted other) after q)
  cut_noted net other after q may noted is noted_is =
      noted_is ∙ ap (λ (b : Bool). cond b
      (Some (cut_off net (turned j.out_inverted other) after q)) None) is

  -- the ticks at which it is looked for
  pub looked : (net : ℕ) (other : Direction) (tick : ℤ) → 0 < period c.header →
      cut_near c ws j corner net tick s other
      ≡ cut_by c ws j corner net (slot_of (period c.header) tick) s other
  looked net other tick some =
      let a = slot_back (period c.header) 0 tick some in
      let b = slot_back (period c.header) 1 tick some in
      let e = slot_next (period c.header) tick some in
      λ i.
      option_or (cut_at c ws j corner s (cut_off net other (pos 0) (a i)))
      (option_or (cut_at c ws j corner s (cut_off net other (pos 1) (b i)))
      (cut_at c ws j corner s (cut_off net other (negsuc 0) (e i))))

-- the step is asked for, or it is not
pub if_asked : {A : Type 0} (d own : Direction) (found first : Option A) → asks d own ≡ true → found
    ≡ first →
    found ≡ cond (asks d own) first None
if_asked d own found first asked is = is ∙ sym (ap (λ (b : Bool). cond b first None) asked)

pub unasked : {A : Type 0} (d own : Direction) (first : Option A) → asks d own ≡ false → None
    ≡ cond (asks d own) first None
unasked d own first not_asked = sym (ap (λ (b : Bool). cond b first None) not_asked)

pub step_turned : (d : Direction) → is_step d ≡ true → is_step (opposite d) ≡ true
step_turned Rise step = refl
step_turned Fall step = refl
step_turned Change step = absurd (cc)

-- there are two
pub split_there : (o : Option Split) → is_some o ≡ true → (s : Split) × (o ≡ Some s)
split_there None some = absurd (cc)
split_there (Some s) some = (s, refl)

pub gone : {A : Type 0} (o : Option A) → is_some o ≡ false → o ≡ None
gone None none = refl
gone (Some x) none = absurd (cc)

-- ---- the event before

pub one_before : (c : Circuit) (ws : Waves) (j : Instance) (corner : Corner) (e : Event)
    (d : Direction) (q : ℕ) →
    turned j.out_inverted e.direction ≡ d → e.slot ≡ q → j.split ≡ None →
    option_and_then (before_arc c ws j corner q) (arc_in c ws j corner d q j.delay)
    ≡ before c ws corner e j
one_before c ws j corner e d q own at is =
    sym ((λ i. before_by c ws j corner e (own i) (two_none j is i))
    ∙ ap (λ (z : ℕ). option_and_then (before_arc c ws j corner z)
    (arc_in c ws j corner d z j.delay)) at)

pub two_before : (c : Circuit) (ws : Waves) (j : Instance) (corner : Corner) (e : Event)
    (d : Direction) (q : ℕ) (s : Split) →
    turned j.out_inverted e.direction ≡ d → e.slot ≡ q → two_delays j.kind j.split ≡ Some s →
    option_or (option_and_then (before_arc c ws j corner q) (firm_arc c ws j corner d q s))
    (option_or (cut c ws j corner e d s)
    (option_and_then (before_arc c ws j corner q) (free_arc c ws j corner d q s)))
    ≡ before c ws corner e j
two_before c ws j corner e d q s own at two =
    sym ((λ i. before_by c ws j corner e (own i) (two i))
    ∙ ap (λ (z : ℕ). option_or (option_and_then (before_arc c ws j corner z)
    (firm_arc c ws j corner d z s))
    (option_or (cut c ws j corner e d s)
    (option_and_then (before_arc c ws j corner z) (free_arc c ws j corner d z s)))) at)
