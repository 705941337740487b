-- A drawing has one circuit, or is refused by the circuit's rules in one way.
use Rattle.std.proofs.Common.{◌≡◌, ℕ, List, length, map, Option, Some, None, refl, sym, ap, subst, ◌∙◌, arith, inl, inr}
use Rattle.std.specs.Prelude.{slice_get}
use Rattle.std.specs.List.{All}
use Rattle.scald_base.specs.Time.{Bounds}
use Rattle.scald_base.specs.declared.refusal.Place.{Place}
use Rattle.scald_base.specs.declared.refusal.Refusal.{Refusal}
use Rattle.scald_base.specs.declared.refusal.RefusalKind.{RefusalKind}
use Rattle.scald_base.specs.declared.refusal.RefusalKind.TheVariants.{TwoDrivers, ZeroLoop}
use Rattle.flat_circuit.specs.declared.net.Net.{Net}
use Rattle.flat_circuit.specs.declared.instance.Instance.{Instance}
use Rattle.flat_circuit.specs.Name.{Name, IsNameOrder}
use Rattle.flat_circuit.specs.Instances.{AreDrivers, IsTaken, Is_constant, Is_driven}
use Rattle.flat_circuit.specs.Loop.{IsLooped, HoldsOfNone}
use Rattle.flat_circuit.specs.Circuit.{Circuit, IsCircuit, net_names, wire_at, driver_at}
use Rattle.flat_circuit.specs.Builder.{Built, IsBuilt, IsFirst, IsRuleBroken, StandsAt, bounds_at}
use Rattle.flat_circuit.proofs.Ends.{wire_by_bounds}
use Rattle.flat_circuit.proofs.Loops.{none_looped_by}
use Rattle.flat_circuit.proofs.Names.{below}
use Rattle.drawing_tree.specs.Tree.{Drawing}
use Rattle.drawing_grammar.proofs.Unique.{one_refusal_by}
use Rattle.macro_expander.specs.Named.{State}
use Rattle.macro_expander.specs.Numbered.{instance_of}
use Rattle.macro_expander.specs.Stands.{Stands, IsNumbered, IsCircuitOf}
use Rattle.macro_expander.proofs.Nets.{Exists, all_exist}
use Rattle.macro_expander.proofs.Only.{Same, same_instances, exist_in, only_circuit}
use Rattle.timing_analysis.proofs.OneOrder.{one_order}

-- ---- the circuit

-- A drawing has one circuit.
pub one_circuit : (d : Drawing) (c c' : Circuit) → IsCircuitOf d c → IsCircuitOf d c' → IsCircuit c → IsCircuit c' → c ≡ c'
one_circuit d c c' is is' fit fit' =
    let same : Same c c' = only_circuit d c c' fit fit' is is' in
    let names : net_names c.nets ≡ net_names c'.nets = ap net_names same.nets in
    let order : c.order ≡ c'.order =
    one_order (net_names c.nets) c.order c'.order fit.distinct fit.by_name (subst (λ (ns : List Name). IsNameOrder ns c'.order) (sym names) fit'.by_name) in
    same_circuit c c' same.header same.nets same.instances order
  where
    same_circuit : (c c' : Circuit) → c.header ≡ c'.header → c.nets ≡ c'.nets → c.instances ≡ c'.instances → c.order ≡ c'.order → c ≡ c'
    same_circuit c c' header nets instances order = grind arith

-- ---- the rules of circuits

same_built : (b b' : Built) → b.header ≡ b'.header → b.names ≡ b'.names → b.wires ≡ b'.wires → b.asserted ≡ b'.asserted → b.instances ≡ b'.instances → b ≡ b'
same_built b b' header names wires asserted instances = grind arith

-- what was built of a drawing is one thing
one_built : (s : State) (b b' : Built) → IsNumbered s b → IsNumbered s b' → IsBuilt b → IsBuilt b' → b ≡ b'
one_built s b b' is is' fit fit' =
    let names : b.names ≡ b'.names = is.names ∙ sym is'.names in
    same_built b b' (is.header ∙ sym is'.header) names (is.wires ∙ sym is'.wires) (is.asserted ∙ sym is'.asserted)
    (same_instances b.names fit.distinct b.instances b'.instances (all_exist b fit)
    (subst (λ (ns : List Name). All (Exists (length ns)) b'.instances) (sym names) (all_exist b' fit'))
    (is.instances ∙ sym is'.instances ∙ ap (λ (ns : List Name). map (instance_of ns) b'.instances) (sym names)))

-- what is first is one instance
first_same : (P : ℕ → Type 0) (js : List Instance) (at at' : Place) → IsFirst P js at → IsFirst P js at' → at ≡ at'
first_same P js at at' f g =
    elim (below f.k g.k) as (λ _. at ≡ at') [
      | inl l ↦ absurd (g.first f.k l f.is)
      | inr m ↦ elim (below g.k f.k) as (λ _. at ≡ at') [
        | inl l ↦ absurd (f.first g.k l g.is)
        | inr n ↦
            let same : f.k ≡ g.k = omega arith in
            one_place (slice_get js g.k) at at' (subst (λ (k : ℕ). StandsAt (slice_get js k) at) same f.stands) g.stands
      ]
    ]
  where
    one_place : (o : Option Instance) (at at' : Place) → StandsAt o at → StandsAt o at' → at ≡ at'
    one_place None at at' p q = absurd p
    one_place (Some j) at at' p q = p ∙ sym q

data IsRule (b : Built) (at : Place) (kind : RefusalKind) : Type 0 where
  Taken : kind ≡ TwoDrivers → IsFirst (IsTaken b.instances) b.instances at → IsRule b at kind
  Looped : kind ≡ ZeroLoop → HoldsOfNone (IsTaken b.instances) b.instances → IsFirst (IsLooped (bounds_at b.wires) b.instances) b.instances at → IsRule b at kind

rule_of : (b : Built) (at : Place) (kind : RefusalKind) → IsRuleBroken b at kind → IsRule b at kind
rule_of b at TwoDrivers broken = Taken refl broken
rule_of b at ZeroLoop broken = Looped refl broken.0 broken.1
rule_of b at kind broken = absurd broken

one_rule : (b : Built) (at at' : Place) (kind kind' : RefusalKind) → IsRule b at kind → IsRule b at' kind' → (kind ≡ kind') × (at ≡ at')
one_rule b at at' kind kind' (Taken e f) (Taken e' g) = (e ∙ sym e', first_same (IsTaken b.instances) b.instances at at' f g)
one_rule b at at' kind kind' (Taken e f) (Looped e' none g) = absurd (none f.k f.below f.is)
one_rule b at at' kind kind' (Looped e none f) (Taken e' g) = absurd (none g.k g.below g.is)
one_rule b at at' kind kind' (Looped e none f) (Looped e' none' g) = (e ∙ sym e', first_same (IsLooped (bounds_at b.wires) b.instances) b.instances at at' f g)

-- A circuit's rules are broken in one way.
pub one_break : (s : State) (b b' : Built) (r q : Refusal) → IsNumbered s b → IsNumbered s b' → IsBuilt b →
    IsBuilt b' → IsRuleBroken b r.place r.kind → IsRuleBroken b' q.place q.kind → r ≡ q
one_break s b b' r q is is' fit fit' broken broken' =
    let same : b' ≡ b = sym (one_built s b b' is is' fit fit') in
    let both : (r.kind ≡ q.kind) × (r.place ≡ q.place) =
    one_rule b r.place q.place r.kind q.kind (rule_of b r.place r.kind broken)
    (rule_of b q.place q.kind (subst (λ (x : Built). IsRuleBroken x q.place q.kind) same broken')) in
    one_refusal_by r q both.0 both.1

-- ---- a circuit breaks none

none_taken : (js : List Instance) (driver : ℕ → Option ℕ) (k : ℕ) → AreDrivers js driver → IsTaken js k → ⊥
none_taken js driver k are (Is_constant {b} x) = are.steady k b x
none_taken js driver k are (Is_driven {i} {d} l x y) =
    let a = are.of i d x in
    let c = are.of i k y in
    let same : d ≡ k = cc in
    omega arith

-- What was built of a drawing breaks no rule if there is a circuit of it.
pub no_break : (s : State) (b : Built) (c : Circuit) (r : Refusal) → IsNumbered s b → IsBuilt b → Stands s c → IsCircuit c → IsRuleBroken b r.place r.kind → ⊥
no_break s b c r is fit stands circuit broken =
    let names : net_names c.nets ≡ b.names = stands.names ∙ sym is.names in
    let instances : b.instances ≡ c.instances =
    same_instances b.names fit.distinct b.instances c.instances (all_exist b fit)
    (subst (λ (ns : List Name). All (Exists (length ns)) c.instances) names (exist_in c circuit))
    (is.instances ∙ sym stands.instances ∙ ap (λ (ns : List Name). map (instance_of ns) c.instances) names) in
    let drivers : AreDrivers b.instances (driver_at c.nets) = subst (λ (js : List Instance). AreDrivers js (driver_at c.nets)) (sym instances) circuit.drivers in
    let wires : map (λ (n : Net). n.wire) c.nets ≡ b.wires = stands.wires ∙ sym is.wires in
    let loopless : HoldsOfNone (IsLooped (bounds_at b.wires) b.instances) b.instances =
    none_looped_by (wire_at c.nets) (bounds_at b.wires) b.instances (λ i. wire_by_bounds c.nets i ∙ ap (λ (ws : List Bounds). bounds_at ws i) wires)
    (subst (λ (js : List Instance). HoldsOfNone (IsLooped (wire_at c.nets) js) js) (sym instances) circuit.no_loop) in
    unbroken (rule_of b r.place r.kind broken)
    (λ k taken. none_taken b.instances (driver_at c.nets) k drivers taken) loopless
  where
    unbroken : {b : Built} {at : Place} {kind : RefusalKind} → IsRule b at kind →
        ((k : ℕ) → IsTaken b.instances k → ⊥) →
        HoldsOfNone (IsLooped (bounds_at b.wires) b.instances) b.instances → ⊥
    unbroken (Taken e f) free loopless = free f.k f.is
    unbroken (Looped e none f) free loopless = loopless f.k f.below f.is
