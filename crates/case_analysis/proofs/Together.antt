-- If nets of one class are alike, they begin with one wave, are active together, and lie in the same cones.
use Rattle.std.proofs.Common.{◌≡◌, ℕ, ◌+◌, ◌<◌, ◌==◌, ◌&&◌, ◌||◌, Bool, true, false, cond, List, [], ◌∷◌, length, All, refl, sym, ap, subst, ◌∙◌, inl, inr, slice_get, Option, Some, None, is_some}
use Rattle.std.specs.Cmp.{both_ways}
use Rattle.std.specs.List.{AllZip}
use Rattle.std.proofs.lemmas.Bool.{and_parts, cases_lt, eq-eqb, eqb-true, or_cases, or_left, or_right}
use Rattle.std.proofs.lemmas.List.Elements.{All-head, All-tail}
use Rattle.std.proofs.lemmas.Option.{slice_get_past}
use Rattle.scald_base.specs.Time.{Header}
use Rattle.scald_base.specs.declared.assertion.AssertSpec.{AssertSpec}
use Rattle.vector_names.specs.declared.bits.Target.{Target}
use Rattle.vector_names.specs.declared.bits.Target.TheVariants.{Net as OnNet, Constant}
use Rattle.flat_circuit.specs.declared.case.CaseValue.{CaseValue}
use Rattle.flat_circuit.specs.declared.instance.Pin.{Pin}
use Rattle.flat_circuit.specs.declared.instance.Instance.{Instance}
use Rattle.element_kinds.specs.declared.kind.Kind.{Kind}
use Rattle.flat_circuit.specs.declared.net.Net.{Net}
use Rattle.element_kinds.specs.Kinds.{listens}
use Rattle.flat_circuit.specs.Instances.{PinExists, TargetExists, out_of}
use Rattle.flat_circuit.specs.Circuit.{Circuit, IsCircuit, driver_at, driver_in, driver, instance_in}
use Rattle.flat_circuit.specs.Alike.{class_of, TargetsAlike, PinsAlike, DriversAlike, value_after, value_in}
use Rattle.flat_circuit.specs.Stable.{IsStable}
use Rattle.fixpoint_engine.specs.Waves.{Waves}
use Rattle.fixpoint_engine.specs.Rounds.{round}
use Rattle.fixpoint_engine.specs.Start.{base_start, is_driven, start_in}
use Rattle.fixpoint_engine.specs.Work.{hears_from, hears_in, is_on_any}
use Rattle.fixpoint_engine.specs.Classes.{AreTogether, HaveOneWave}
use Rattle.fixpoint_engine.proofs.Classes.{drivers_alike, net_of, rounds_same}
use Rattle.fixpoint_engine.proofs.Drivers.{driver_fits}
use Rattle.case_analysis.specs.Base.{IsBase}
use Rattle.case_analysis.specs.Case.{Hears_one, InCone, IsCone, Is_set, NetsExist, case_active, case_at, case_start, case_wave, is_set}
use Rattle.case_analysis.proofs.Start.{started}

-- ---- sets and waves that are the same

pub as_together : (c : Circuit) (k : List ℕ) (set other : ℕ → Bool) → ((i : ℕ) → set i ≡ other i) → AreTogether c k other → AreTogether c k set
as_together c k set other is together i j below below' same = is i ∙ together i j below below' same ∙ sym (is j)

pub as_one_wave : (c : Circuit) (k : List ℕ) (ws vs : Waves) → ((i : ℕ) → ws i ≡ vs i) → HaveOneWave c k vs → HaveOneWave c k ws
as_one_wave c k ws vs is one i j below below' same = is i ∙ one i j below below' same ∙ sym (is j)

-- ---- the values of one case

some_after : (before : Option Bool) (vs : List CaseValue) (i : ℕ) → is_some (value_after before vs i) ≡ (is_some before || is_set vs i)
some_after before [] i = by before
  where
    by : (before : Option Bool) → is_some before ≡ (is_some before || false)
    by None = refl
    by (Some one) = refl
some_after before (v ∷ vs) i = some_after (cond (v.net == i) (Some v.one) before) vs i ∙ by (v.net == i) before
  where
    by : (here : Bool) (before : Option Bool) → (is_some (cond here (Some v.one) before) || is_set vs i) ≡ (is_some before || (here || is_set vs i))
    by true None = refl
    by true (Some one) = refl
    by false before = refl

pub set_is : (vs : List CaseValue) (i : ℕ) → is_some (value_in vs i) ≡ is_set vs i
set_is vs i = some_after None vs i

set_below : (n : ℕ) (vs : List CaseValue) (i : ℕ) → All (λ (v : CaseValue). v.net < n) vs → is_set vs i ≡ true → i < n
set_below n [] i exist set = cc
set_below n (v ∷ vs) i exist set = elim (or_cases (v.net == i) (is_set vs i) set) [
  | inl here ↦ subst (λ net. net < n) (eqb-true v.net i here) (All-head (λ (v : CaseValue). v.net < n) v vs exist)
  | inr later ↦ set_below n vs i (All-tail (λ (v : CaseValue). v.net < n) v vs exist) later
]

-- ---- one net

started_same : (h : Header) (a b : AssertSpec) (x y : Option ℕ) → a ≡ b → is_some x ≡ is_some y → started h a x ≡ started h b y
started_same h a b None None spec driven = ap (λ s. started h s None) spec
started_same h a b None (Some y) spec driven = cc
started_same h a b (Some x) None spec driven = cc
started_same h a b (Some x) (Some y) spec driven = refl

-- a driven net's driver is there
driver_there : (c : Circuit) (i : ℕ) → IsCircuit c → is_some (driver c i) ≡ is_driven c i
driver_there c i known = by (driver_at c.nets i) refl
  where
    some : (found : Option Instance) → out_of found ≡ Some (OnNet i) → is_some found ≡ true
    some None out = cc
    some (Some j) out = refl

    by : (found : Option ℕ) → driver_at c.nets i ≡ found → is_some (instance_in c found) ≡ is_some found
    by None at = refl
    by (Some k) at = some (slice_get c.instances k) (known.drivers.is i k at)

alike_some : (k : List ℕ) (a b : Option Instance) → DriversAlike k a b → is_some a ≡ is_some b
alike_some k None None h = refl
alike_some k None (Some b) h = absurd h
alike_some k (Some a) None h = absurd h
alike_some k (Some a) (Some b) h = refl

-- ---- pins that are alike

-- A listening pin is on a net of the class.
record OneHears (n : ℕ) (classes : List ℕ) (from : ℕ) (hears : ℕ → Bool) : Type 0 where
  net : ℕ
  exists : net < n
  alike : class_of classes from ≡ class_of classes net
  is : hears net ≡ true

pins_hear : (n : ℕ) (k : List ℕ) (kind : Kind) (place from : ℕ) (ps qs : List Pin) → AllZip (PinsAlike k) ps qs → All (PinExists n) qs → hears_from (λ i. i == from) kind place ps ≡ true →
    OneHears n k from (λ net. hears_from (λ i. i == net) kind place qs)
pins_hear n k kind place from [] qs alike exist hears = cc
pins_hear n k kind place from (p ∷ ps) [] alike exist hears = absurd alike
pins_hear n k kind place from (p ∷ ps) (q ∷ qs) alike exist hears =
    elim (or_cases (listens kind place && is_on_any (λ i. i == from) p.target) (hears_from (λ i. i == from) kind (place + 1) ps) hears) [
      | inl here ↦ let both = and_parts (listens kind place) (is_on_any (λ i. i == from) p.target) here in
          first p.target q.target refl alike.0.target (All-head (PinExists n) q qs exist) both.0 both.1
      | inr later ↦ let one = pins_hear n k kind (place + 1) from ps qs alike.1 (All-tail (PinExists n) q qs exist) later in
          record { net = one.net; exists = one.exists; alike = one.alike; is = or_right (listens kind place && is_on_any (λ i. i == one.net) q.target) _ one.is }
    ]
  where
    first : (a b : Target) → q.target ≡ b → TargetsAlike k a b → TargetExists n q.target → listens kind place ≡ true → is_on_any (λ i. i == from) a ≡ true →
        OneHears n k from (λ net. hears_from (λ i. i == net) kind place (q ∷ qs))
    first (OnNet i) (OnNet j) at same exists heard on = record {
      net = j;
      exists = subst (TargetExists n) at exists;
      alike = ap (class_of k) (sym (eqb-true i from on)) ∙ same;
      is = or_left (listens kind place && is_on_any (λ i. i == j) q.target) (hears_from (λ i. i == j) kind (place + 1) qs) ((λ t. heard t && is_on_any (λ i. i == j) (at t)) ∙ eq-eqb j j refl);
    }
    first (OnNet i) (Constant b) at same exists heard on = absurd same
    first (Constant a) b at same exists heard on = cc

drivers_hear : (n : ℕ) (k : List ℕ) (from : ℕ) (a b : Option Instance) → DriversAlike k a b → ((j : Instance) → b ≡ Some j → All (PinExists n) j.pins) → hears_in (λ i. i == from) a ≡ true →
    OneHears n k from (λ net. hears_in (λ i. i == net) b)
drivers_hear n k from None b alike exist hears = cc
drivers_hear n k from (Some a) None alike exist hears = absurd alike
drivers_hear n k from (Some a) (Some b) alike exist hears =
    let one = pins_hear n k a.kind 0 from a.pins b.pins alike.pins (exist b refl) hears in
    record { net = one.net; exists = one.exists; alike = one.alike; is = (λ t. hears_from (λ i. i == one.net) (sym alike.kind t) 0 b.pins) ∙ one.is }

-- ---- all nets

module _ (c : Circuit) (cases : List (List CaseValue)) (k : List ℕ) (known : IsCircuit c) (stable : IsStable c cases k) where
  pub driven_together : AreTogether c k (is_driven c)
  driven_together i j below below' same =
      sym (driver_there c i known) ∙ alike_some k (driver c i) (driver c j) (drivers_alike c cases k known stable i j below below' same) ∙ driver_there c j known

  -- ---- the base

  pub start_together : HaveOneWave c k (base_start c)
  start_together i j below below' same =
      let m = net_of c i below in
      let n = net_of c j below' in
      let driven : is_some m.0.driver ≡ is_some n.0.driver =
      sym (ap (λ (o : Option Net). is_some (driver_in o)) m.1) ∙ driven_together i j below below' same ∙ ap (λ (o : Option Net). is_some (driver_in o)) n.1 in
      ap (start_in c.header) m.1
      ∙ started_same c.header m.0.spec n.0.spec m.0.driver n.0.driver (stable i j same m.0 n.0 m.1 n.1).spec driven
      ∙ sym (ap (start_in c.header) n.1)

  pub base_together : (limit r : ℕ) (ws : Waves) → IsBase c limit r ws → HaveOneWave c k ws
  base_together limit r ws base =
      as_one_wave c k ws (round c (is_driven c) (base_start c) r) base.waves (rounds_same c cases k known stable (is_driven c) (base_start c) driven_together start_together r)

  -- ---- a case

  module _ (number : ℕ) (below : number < length cases) where
    values_same : (i j : ℕ) → i < length c.nets → j < length c.nets → class_of k i ≡ class_of k j → value_in (case_at cases number) i ≡ value_in (case_at cases number) j
    values_same i j below_i below_j same =
        let m = net_of c i below_i in
        let n = net_of c j below_j in
        (stable i j same m.0 n.0 m.1 n.1).values number [] below

    cone_closed : (exist : NetsExist c (case_at cases number)) {i : ℕ} → InCone c (case_at cases number) i →
        (j : ℕ) → j < length c.nets → class_of k i ≡ class_of k j → InCone c (case_at cases number) j
    cone_closed exist (Is_set {i = i} is) j below_j same =
        Is_set (sym (set_is (case_at cases number) j) ∙ ap is_some
        (sym (values_same i j (set_below (length c.nets) (case_at cases number) i exist is) below_j same)) ∙ set_is (case_at cases number) i ∙ is)
    cone_closed exist (Hears_one {from = from} {i = i} inner hears) j below_j same =
        let one = drivers_hear (length c.nets) k from (driver c i)
        (driver c j) (drivers_alike c cases k known stable i j heard below_j same) (λ d at. (driver_fits c j d known at).exists.reads) hears in
        Hears_one (cone_closed exist inner one.net one.exists one.alike) one.is
      where
        heard : i < length c.nets
        heard = elim (cases_lt i (length c.nets)) [
          | inl less ↦ less
          | inr past ↦ absurd (let none : hears_in (λ n. n == from) (driver c i) ≡ false =
              ap (λ (o : Option Net). hears_in (λ n. n == from) (instance_in c (driver_in o))) (slice_get_past c.nets i past) in
              let clash : false ≡ true = sym none ∙ hears in cc)
        ]

    pub cone_together : (cone : ℕ → Bool) → NetsExist c (case_at cases number) → IsCone c (case_at cases number) cone → AreTogether c k cone
    cone_together cone exist is i j below_i below_j same =
        both_ways (cone i) (cone j)
        (λ inside. (is j).1 (cone_closed exist ((is i).0 inside) j below_j same))
        (λ inside. (is i).1 (cone_closed exist ((is j).0 inside) i below_i (sym same)))

    pub active_together : (cone : ℕ → Bool) → AreTogether c k cone → AreTogether c k (case_active c cone)
    active_together cone together i j below_i below_j same =
        let inside = together i j below_i below_j same in
        let driven = driven_together i j below_i below_j same in
        λ t. inside t && driven t

    pub case_together : (cone : ℕ → Bool) (before : Waves) → AreTogether c k cone → HaveOneWave c k before → HaveOneWave c k (case_start c (case_at cases number) cone before)
    case_together cone before together one i j below_i below_j same =
        let value = values_same i j below_i below_j same in
        let inside = together i j below_i below_j same in
        let wave = one i j below_i below_j same in
        λ t. case_wave c.header (value t) (inside t) (wave t)
