-- A drawing has one circuit at most.
use Rattle.std.proofs.Common.{◌≡◌, ℕ, suc, Bool, List, [], ◌∷◌, length, map, Option, Some, None, refl, ap, sym, ◌∙◌, subst}
use Rattle.std.specs.List.{All}
use Rattle.std.proofs.lemmas.List.{length-map}
use Rattle.std.proofs.lemmas.List.Elements.{All-head, All-tail, All-weaker}
use Rattle.vector_names.specs.declared.bits.Target.{Target}
use Rattle.vector_names.specs.declared.bits.Target.TheVariants.{Net as OnNet, Constant}
use Rattle.scald_base.specs.Time.{Bounds}
use Rattle.scald_base.specs.declared.assertion.AssertSpec.{AssertSpec}
use Rattle.scald_base.specs.declared.refusal.Place.{Place}
use Rattle.element_kinds.specs.declared.kind.Kind.{Kind}
use Rattle.flat_circuit.specs.declared.limits.Limits.{Limits}
use Rattle.flat_circuit.specs.declared.net.Net.{Net}
use Rattle.flat_circuit.specs.declared.instance.Pin.{Pin}
use Rattle.flat_circuit.specs.declared.instance.Instance.{Instance}
use Rattle.flat_circuit.specs.declared.split.Split.{Split}
use Rattle.flat_circuit.specs.Name.{Name, name_at, AreDistinct}
use Rattle.flat_circuit.specs.Instances.{TargetExists, PinExists, OutExists, InstanceFits, AreDrivers}
use Rattle.flat_circuit.specs.Circuit.{Circuit, IsCircuit, net_name, net_names, driver_at}
use Rattle.drawing_tree.specs.Tree.{Drawing}
use Rattle.macro_expander.specs.Named.{State, NamedPin, NamedInstance}
use Rattle.macro_expander.specs.Outcome.{Gives}
use Rattle.macro_expander.specs.Numbered.{where_of, pin_of, out_of, instance_of}
use Rattle.macro_expander.specs.Stands.{Stands, IsCircuitOf}
use Rattle.macro_expander.proofs.Nets.{Exists}

-- lists that are seen alike are the same, if items that are seen alike are
same_by : {X Y : Type 0} (P : X → Type 0) (f : X → Y) → ((x y : X) → P x → P y → f x ≡ f y → x ≡ y) →
    (xs ys : List X) → All P xs → All P ys → map f xs ≡ map f ys → xs ≡ ys
same_by P f one [] [] a b e = refl
same_by P f one [] (y ∷ ys) a b e = absurd (cc)
same_by P f one (x ∷ xs) [] a b e = absurd (cc)
same_by P f one (x ∷ xs) (y ∷ ys) a b e =
    let first : f x ≡ f y = cc in
    let others : map f xs ≡ map f ys = cc in
    let head : x ≡ y = one x y (All-head P x xs a) (All-head P y ys b) first in
    let tail : xs ≡ ys = same_by P f one xs ys (All-tail P x xs a) (All-tail P y ys b) others in
    cc

module _ (names : List Name) (distinct : AreDistinct names) where
  same_target : (t u : Target) → TargetExists (length names) t → TargetExists (length names) u → where_of names t ≡ where_of names u → t ≡ u
  same_target (OnNet i) (OnNet j) a b e = let named : name_at names i ≡ name_at names j = cc in ap OnNet (distinct i j a b named)
  same_target (OnNet i) (Constant c) a b e = absurd (cc)
  same_target (Constant c) (OnNet j) a b e = absurd (cc)
  same_target (Constant c) (Constant d) a b e = let one : c ≡ d = cc in ap Constant one

  pin_by : (t u : Target) (i j h k : Bool) → t ≡ u → i ≡ j → h ≡ k →
      let p : Pin = record { target = t; inverted = i; hold = h } in let q : Pin = record { target = u; inverted = j; hold = k } in p ≡ q
  pin_by t u i j h k a b c = rw (a, b, c) refl

  same_pin : (p q : Pin) → PinExists (length names) p → PinExists (length names) q → pin_of names p ≡ pin_of names q → p ≡ q
  same_pin p q a b e =
      pin_by p.target q.target p.inverted q.inverted p.hold q.hold
      (same_target p.target q.target a b (ap (λ (x : NamedPin). x.target) e)) (ap (λ (x : NamedPin). x.inverted) e) (ap (λ (x : NamedPin). x.hold) e)

  same_out : (o p : Option Target) → OutExists (length names) o → OutExists (length names) p → out_of names o ≡ out_of names p → o ≡ p
  same_out None None a b e = refl
  same_out None (Some u) a b e = absurd (cc)
  same_out (Some t) None a b e = absurd (cc)
  same_out (Some t) (Some u) a b e = let target : where_of names t ≡ where_of names u = cc in ap Some (same_target t u a b target)

  instance_by : (j k : Instance) → j.path ≡ k.path → j.bit ≡ k.bit → j.kind ≡ k.kind → j.delay ≡ k.delay →
      j.split ≡ k.split → j.limits ≡ k.limits → j.pins ≡ k.pins → j.out ≡ k.out →
      j.out_inverted ≡ k.out_inverted → j.place ≡ k.place → j ≡ k
  instance_by j k a b c d s e f g h i =
      ap (λ (x : List ℕ). record j { path = x }) a
      ∙ (ap (λ (x : ℕ). record j { path = k.path; bit = x }) b
      ∙ (ap (λ (x : Kind). record j { path = k.path; bit = k.bit; kind = x }) c
      ∙ (ap (λ (x : Bounds). record j { path = k.path; bit = k.bit; kind = k.kind; delay = x }) d
      ∙ (ap (λ (x : Option Split). record j { path = k.path; bit = k.bit; kind = k.kind; delay = k.delay; split = x }) s
      ∙ (ap (λ (x : Limits). record k { limits = x; pins = j.pins; out = j.out; out_inverted = j.out_inverted; place = j.place }) e
      ∙ (ap (λ (x : List Pin). record k { pins = x; out = j.out; out_inverted = j.out_inverted; place = j.place }) f
      ∙ (ap (λ (x : Option Target). record k { out = x; out_inverted = j.out_inverted; place = j.place }) g
      ∙ (ap (λ (x : Bool). record k { out_inverted = x; place = j.place }) h
      ∙ ap (λ (x : Place). record k { place = x }) i))))))))

  same_instance : (j k : Instance) → Exists (length names) j → Exists (length names) k → instance_of names j ≡ instance_of names k → j ≡ k
  same_instance j k a b e =
      instance_by j k
      (ap (λ (x : NamedInstance). x.path) e) (ap (λ (x : NamedInstance). x.bit) e) (ap (λ (x : NamedInstance). x.kind) e)
      (ap (λ (x : NamedInstance). x.delay) e) (ap (λ (x : NamedInstance). x.split) e)
      (ap (λ (x : NamedInstance). x.limits) e)
      (same_by (PinExists (length names)) (pin_of names) same_pin j.pins k.pins a.reads b.reads (ap (λ (x : NamedInstance). x.pins) e))
      (same_out j.out k.out a.drives b.drives (ap (λ (x : NamedInstance). x.out) e))
      (ap (λ (x : NamedInstance). x.out_inverted) e) (ap (λ (x : NamedInstance). x.place) e)

  pub same_instances : (js ks : List Instance) → All (Exists (length names)) js → All (Exists (length names)) ks → map (instance_of names) js ≡ map (instance_of names) ks → js ≡ ks
  same_instances js ks a b e = same_by (Exists (length names)) (instance_of names) same_instance js ks a b e

-- ---- nets

same_driver : (js : List Instance) (d f : ℕ → Option ℕ) → AreDrivers js d → AreDrivers js f → (i : ℕ) → d i ≡ f i
same_driver js d f a b i = step (d i) (f i) refl refl where
  step : (x y : Option ℕ) → d i ≡ x → f i ≡ y → x ≡ y
  step None None p q = refl
  step None (Some k) p q = let driven : d i ≡ Some k = a.of i k (b.is i k q) in absurd (cc)
  step (Some k) y p q = let driven : f i ≡ Some k = b.of i k (a.is i k p) in cc

net_by : (m n : Net) → net_name m ≡ net_name n → m.wire ≡ n.wire → m.spec ≡ n.spec → m.driver ≡ n.driver → m ≡ n
net_by m n a b c d =
    ap (λ (x : Name). record m { name = x.text; bit = x.bit }) a
    ∙ (ap (λ (x : Bounds). record n { wire = x; spec = m.spec; driver = m.driver }) b
    ∙ (ap (λ (x : AssertSpec). record n { spec = x; driver = m.driver }) c
    ∙ ap (λ (x : Option ℕ). record n { driver = x }) d))

same_nets : (ms ns : List Net) → net_names ms ≡ net_names ns →
    map (λ (n : Net). n.wire) ms ≡ map (λ (n : Net). n.wire) ns →
    map (λ (n : Net). n.spec) ms ≡ map (λ (n : Net). n.spec) ns →
    ((i : ℕ) → driver_at ms i ≡ driver_at ns i) → ms ≡ ns
same_nets [] [] a b c d = refl
same_nets [] (n ∷ ns) a b c d = absurd (cc)
same_nets (m ∷ ms) [] a b c d = absurd (cc)
same_nets (m ∷ ms) (n ∷ ns) a b c d =
    let names : net_names ms ≡ net_names ns = cc in
    let wires : map (λ (x : Net). x.wire) ms ≡ map (λ (x : Net). x.wire) ns = cc in
    let specs : map (λ (x : Net). x.spec) ms ≡ map (λ (x : Net). x.spec) ns = cc in
    let others : ms ≡ ns = same_nets ms ns names wires specs (λ i. d (suc i)) in
    let named : net_name m ≡ net_name n = cc in
    let wire : m.wire ≡ n.wire = cc in
    let spec : m.spec ≡ n.spec = cc in
    let first : m ≡ n = net_by m n named wire spec (d 0) in
    cc

-- ---- circuits

-- the same header, nets, drivers among them, and instances
pub record Same (c d : Circuit) : Type 0 where
  pub header : c.header ≡ d.header
  pub nets : c.nets ≡ d.nets
  pub instances : c.instances ≡ d.instances

pub exist_in : (c : Circuit) → IsCircuit c → All (Exists (length (net_names c.nets))) c.instances
exist_in c h =
    let n = length-map c.nets net_name in
    subst (λ (k : ℕ). All (Exists k) c.instances) (sym n) (All-weaker (InstanceFits c.header (length c.nets))
    (Exists (length c.nets)) (λ j f. record { reads = f.exists.reads; drives = f.exists.drives }) c.instances h.each)

stand_alike : (s : State) (c d : Circuit) → IsCircuit c → IsCircuit d → Stands s c → Stands s d → Same c d
stand_alike s c d h i a b =
    let names : net_names c.nets ≡ net_names d.nets = a.names ∙ sym b.names in
    let mine : All (Exists (length s.names)) c.instances = subst (λ (ns : List Name). All (Exists (length ns)) c.instances) a.names (exist_in c h) in
    let other : All (Exists (length s.names)) d.instances = subst (λ (ns : List Name). All (Exists (length ns)) d.instances) b.names (exist_in d i) in
    let first : map (instance_of s.names) c.instances ≡ s.instances = subst (λ (ns : List Name). map (instance_of ns) c.instances ≡ s.instances) a.names a.instances in
    let second : map (instance_of s.names) d.instances ≡ s.instances = subst (λ (ns : List Name). map (instance_of ns) d.instances ≡ s.instances) b.names b.instances in
    let distinct : AreDistinct s.names = subst AreDistinct a.names h.distinct in
    let instances : c.instances ≡ d.instances = same_instances s.names distinct c.instances d.instances mine other (first ∙ sym second) in
    let drivers : AreDrivers c.instances (driver_at d.nets) = subst (λ (js : List Instance). AreDrivers js (driver_at d.nets)) (sym instances) i.drivers in
    record {
      header = a.header ∙ sym b.header;
      nets = same_nets c.nets d.nets names (a.wires ∙ sym b.wires) (a.assertions ∙ sym b.assertions) (same_driver c.instances (driver_at c.nets) (driver_at d.nets) h.drivers drivers);
      instances = instances;
    }

-- Two circuits of a drawing are the same.
pub only_circuit : (d : Drawing) (a b : Circuit) → IsCircuit a → IsCircuit b → IsCircuitOf d a → IsCircuitOf d b → Same a b
only_circuit d a b h i x y =
    let e : Gives tt x.state ≡ Gives tt y.state = sym x.expanded ∙ y.expanded in
    let s : x.state ≡ y.state = cc in
    stand_alike y.state a b h i (subst (λ (z : State). Stands z a) s x.stands) y.stands
