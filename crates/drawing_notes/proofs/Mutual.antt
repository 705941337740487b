-- What two searches from a net find: the nets that are on one loop with it, and itself.
use Rattle.std.proofs.Common.{◌≡◌, ℕ, ◌==◌, ◌⊎◌, inl, inr, Bool, true, List, [], ◌∷◌, ap, sym, subst, refl, ◌∙◌}
use Rattle.std.specs.List.{list_any}
use Rattle.std.proofs.lemmas.Bool.{eqb-true, eq-eqb, and_parts, and_from, or_cases, or_left, or_right}
use Rattle.vector_names.specs.declared.bits.Target.{Target}
use Rattle.vector_names.specs.declared.bits.Target.TheVariants.{Net as OnNet, Constant}
use Rattle.flat_circuit.specs.declared.instance.Pin.{Pin}
use Rattle.flat_circuit.specs.declared.instance.Instance.{Instance}
use Rattle.flat_circuit.specs.Instances.{is_on}
use Rattle.flat_circuit.specs.Circuit.{Circuit, driver}
use Rattle.flat_circuit.specs.Loop.{Reaches, By_one, And_then}
use Rattle.fixpoint_engine.specs.Work.{is_on_any}
use Rattle.std.specs.Prelude.{Option, Some, None}
use Rattle.drawing_notes.specs.Paths.{leads, Leads, passes_on, AreTogether}
use Rattle.drawing_notes.specs.Pins.{passes}
use Rattle.drawing_notes.specs.Search.{Over, At_start, By_step, IsFound, passes_from, is_led_to}
use Rattle.drawing_notes.proofs.Reaching.{OrSame, joined, then_one, one_then, last_step}

abbrev back : Circuit → ℕ → ℕ → Bool
back c from i = leads c i from

module _ (c : Circuit) (root : ℕ) where
  abbrev begun : ℕ → Bool
  begun i = root == i

  -- what is found is reached
  over_reached : (within : ℕ → Bool) {i : ℕ} → Over (leads c) within begun i → OrSame (Leads c) root i
  over_reached within (At_start {i = i} is) = inl (eqb-true root i is)
  over_reached within (By_step {from = from} {i = i} inner step inside) = inr (then_one (over_reached within inner) step)

  -- what is found on the way back reaches
  over_reaches : (within : ℕ → Bool) {i : ℕ} → Over (back c) within begun i → OrSame (Leads c) i root
  over_reaches within (At_start {i = i} is) = inl (sym (eqb-true root i is))
  over_reaches within (By_step {from = from} {i = i} inner step inside) = inr (one_then step (over_reaches within inner))

  -- The nets that are reached over fresh ones, and of these the ones that reach back.
  pub record IsMutual (fresh reached shared : ℕ → Bool) : Type 0 where
    pub reached_are : IsFound (leads c) fresh begun reached
    pub mutual_are : IsFound (back c) reached begun shared
    pub all_fresh : (i : ℕ) → AreTogether c root i → fresh i ≡ true

  module _ (fresh reached shared : ℕ → Bool) (is : IsMutual fresh reached shared) where
    to_mutual : {i : ℕ} → Over (back c) reached begun i → (root ≡ i) ⊎ AreTogether c root i
    to_mutual (At_start {i = i} at) = inl (eqb-true root i at)
    to_mutual (By_step {from = from} {i = i} inner step inside) =
        elim (over_reached fresh ((is.reached_are i).0 inside)) [
          | inl same ↦ inl same
          | inr there ↦ inr (record { there = there; back = one_then step (over_reaches reached inner) })
        ]

    pub mutual_is : (i : ℕ) → shared i ≡ true → (root ≡ i) ⊎ AreTogether c root i
    mutual_is i marked = to_mutual ((is.mutual_are i).0 marked)

    -- from a net that is reached on
    reached_on : {y x : ℕ} → OrSame (Leads c) root y → reached y ≡ true → Reaches (Leads c) y x → Reaches (Leads c) x root → reached x ≡ true
    reached_on {x = x} before at (By_one step) home =
        (is.reached_are x).1 (By_step ((is.reached_are _).0 at) step (is.all_fresh x (record { there = then_one before step; back = home })))
    reached_on before at (And_then {i} {m} {j} step more) home =
        let there = then_one before step in
        reached_on (inr there)
        ((is.reached_are m).1 (By_step ((is.reached_are i).0 at) step (is.all_fresh m (record { there = there; back = joined more home }))))
        more home

    root_reached : reached root ≡ true
    root_reached = (is.reached_are root).1 (At_start (eq-eqb root root refl))

    root_mutual : shared root ≡ true
    root_mutual = (is.mutual_are root).1 (At_start (eq-eqb root root refl))

    mutual_on : {x : ℕ} → Reaches (Leads c) root x → Reaches (Leads c) x root → shared x ≡ true
    mutual_on {x = x} there (By_one step) =
        (is.mutual_are x).1 (By_step ((is.mutual_are root).0 root_mutual) step (reached_on (inl refl) root_reached there (By_one step)))
    mutual_on there (And_then {i} {m} {j} step more) =
        (is.mutual_are i).1 (By_step ((is.mutual_are m).0 (mutual_on (then_one (inr there) step) more)) step
        (reached_on (inl refl) root_reached there (And_then step more)))

    pub is_mutual : (i : ℕ) → (root ≡ i) ⊎ AreTogether c root i → shared i ≡ true
    is_mutual i (inl same) = subst (λ k. shared k ≡ true) same root_mutual
    is_mutual i (inr together) = mutual_on together.there together.back

-- ---- a net of the set leads to a net

pub record LedFrom (c : Circuit) (nets : ℕ → Bool) (i : ℕ) : Type 0 where
  pub from : ℕ
  pub among : nets from ≡ true
  pub step : leads c from i ≡ true

record PinOn (nets : ℕ → Bool) (pins : List Pin) : Type 0 where
  net : ℕ
  among : nets net ≡ true
  on : list_any (λ (p : Pin). is_on net p.target) pins ≡ true

one_on : (nets : ℕ → Bool) (t : Target) (pins : List Pin) (p : Pin) → p.target ≡ t → is_on_any nets t ≡ true → PinOn nets (p ∷ pins)
one_on nets (OnNet n) pins p at any = record { net = n; among = any; on = or_left _ _ (ap (is_on n) at ∙ eq-eqb n n refl) }
one_on nets (Constant b) pins p at any = absurd cc

pin_on : (nets : ℕ → Bool) (pins : List Pin) → list_any (λ (p : Pin). is_on_any nets p.target) pins ≡ true → PinOn nets pins
pin_on nets [] any = absurd cc
pin_on nets (p ∷ pins) any = elim (or_cases (is_on_any nets p.target) (list_any (λ (q : Pin). is_on_any nets q.target) pins) any) [
  | inl here ↦ one_on nets p.target pins p refl here
  | inr later ↦ let found = pin_on nets pins later in record { net = found.net; among = found.among; on = or_right _ _ found.on }
]

on_one : (nets : ℕ → Bool) (net : ℕ) (t : Target) → nets net ≡ true → is_on net t ≡ true → is_on_any nets t ≡ true
on_one nets net (OnNet n) among on = subst (λ k. nets k ≡ true) (sym (eqb-true n net on)) among
on_one nets net (Constant b) among on = absurd cc

on_pins : (nets : ℕ → Bool) (net : ℕ) (pins : List Pin) → nets net ≡ true → list_any (λ (p : Pin). is_on net p.target) pins ≡ true →
    list_any (λ (p : Pin). is_on_any nets p.target) pins ≡ true
on_pins nets net [] among on = absurd cc
on_pins nets net (p ∷ pins) among on = elim (or_cases (is_on net p.target) (list_any (λ (q : Pin). is_on net q.target) pins) on) [
  | inl here ↦ or_left _ _ (on_one nets net p.target among here)
  | inr later ↦ or_right _ _ (on_pins nets net pins among later)
]

led_by : (c : Circuit) (nets : ℕ → Bool) (i : ℕ) (j : Option Instance) → driver c i ≡ j → passes_from nets j ≡ true → LedFrom c nets i
led_by c nets i None at led = absurd cc
led_by c nets i (Some j) at led =
    let both = and_parts (passes j.kind) (list_any (λ (p : Pin). is_on_any nets p.target) j.pins) led in
    let pin = pin_on nets j.pins both.1 in
    record { from = pin.net; among = pin.among; step = ap (passes_on pin.net) at ∙ and_from _ _ both.0 pin.on }

pub led_from : (c : Circuit) (nets : ℕ → Bool) (i : ℕ) → is_led_to c nets i ≡ true → LedFrom c nets i
led_from c nets i led = led_by c nets i (driver c i) refl led

leads_in : (c : Circuit) (nets : ℕ → Bool) (from : ℕ) (j : Option Instance) → nets from ≡ true → passes_on from j ≡ true → passes_from nets j ≡ true
leads_in c nets from None among led = absurd cc
leads_in c nets from (Some j) among led =
    let both = and_parts (passes j.kind) (list_any (λ (p : Pin). is_on from p.target) j.pins) led in
    and_from _ _ both.0 (on_pins nets from j.pins among both.1)

pub is_led : (c : Circuit) (nets : ℕ → Bool) (from i : ℕ) → nets from ≡ true → leads c from i ≡ true → is_led_to c nets i ≡ true
is_led c nets from i among led = leads_in c nets from (driver c i) among led

-- ---- the root is on a loop exactly where one of its part leads to it

module _ (c : Circuit) (root : ℕ) (fresh reached shared : ℕ → Bool) (is : IsMutual c root fresh reached shared) where
  pub led_looped : is_led_to c shared root ≡ true → AreTogether c root root
  led_looped led =
      let from = led_from c shared root led in
      let there : Reaches (Leads c) root root =
      elim (mutual_is c root fresh reached shared is from.from from.among) [
        | inl same ↦ By_one (subst (λ k. leads c k root ≡ true) (sym same) from.step)
        | inr together ↦ joined together.there (By_one from.step)
      ] in
      record { there = there; back = there }

  pub looped_led : AreTogether c root root → is_led_to c shared root ≡ true
  looped_led together =
      let last = last_step together.there in
      let member : (root ≡ last.from) ⊎ AreTogether c root last.from =
      elim last.before [
        | inl same ↦ inl same
        | inr there ↦ inr (record { there = there; back = By_one last.step })
      ] in
      is_led c shared last.from root (is_mutual c root fresh reached shared is last.from member) last.step
