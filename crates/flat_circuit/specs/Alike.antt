-- What two nets have in common that nothing tells apart, if each net has a class: all that is
-- said of them, and drivers that differ at most in which nets of their classes the pins are on.
use Rattle.std.specs.Prelude.{◌≡◌, ℕ, ◌==◌, Bool, if◌then◌else◌, List, [], ◌∷◌, slice_get, slice_index_or, Option, Some, None, ⊤}
use Rattle.std.specs.List.{All, AllZip}
use Rattle.vector_names.specs.declared.bits.Target.{Target}
use Rattle.vector_names.specs.declared.bits.Target.TheVariants.{Net as OnNet, Constant}
use Rattle.flat_circuit.specs.declared.case.CaseValue.{CaseValue}
use Rattle.flat_circuit.specs.declared.instance.Pin.{Pin}
use Rattle.flat_circuit.specs.declared.instance.Instance.{Instance}
use Rattle.flat_circuit.specs.declared.net.Net.{Net}
use Rattle.flat_circuit.specs.Circuit.{Circuit}

-- the class of the net of a number
abbrev pub class_of : List ℕ → ℕ → ℕ
class_of classes i = slice_index_or classes i 0

-- ---- drivers

-- two pins are on nets of one class, or on the same constant
abbrev pub TargetsAlike : List ℕ → Target → Target → Type 0
TargetsAlike classes (OnNet i) (OnNet j) = class_of classes i ≡ class_of classes j
TargetsAlike classes (OnNet i) (Constant b) = ⊥
TargetsAlike classes (Constant a) (OnNet j) = ⊥
TargetsAlike classes (Constant a) (Constant b) = a ≡ b

pub record PinsAlike (classes : List ℕ) (p q : Pin) : Type 0 where
  pub target : TargetsAlike classes p.target q.target
  pub complement : p.inverted ≡ q.inverted
  pub mark : p.hold ≡ q.hold

-- Two instances make the same of waves that are equal within the classes. They have equally many
-- pins, and those at the same place are alike.
pub record InstancesAlike (classes : List ℕ) (a b : Instance) : Type 0 where
  pub kind : a.kind ≡ b.kind
  pub delay : a.delay ≡ b.delay
  pub split : a.split ≡ b.split
  pub complement : a.out_inverted ≡ b.out_inverted
  pub pins : AllZip (PinsAlike classes) a.pins b.pins

-- the instance of a driver's number
abbrev pub instance_of : Circuit → Option ℕ → Option Instance
instance_of c None = None
instance_of c (Some k) = slice_get c.instances k

-- none is driven, or both are, by instances that are alike
abbrev pub DriversAlike : List ℕ → Option Instance → Option Instance → Type 0
DriversAlike classes None None = ⊤
DriversAlike classes None (Some b) = ⊥
DriversAlike classes (Some a) None = ⊥
DriversAlike classes (Some a) (Some b) = InstancesAlike classes a b

-- ---- cases

-- the value that a case gives the net of a number, after what was known of it before
abbrev pub value_after : Option Bool → List CaseValue → ℕ → Option Bool
value_after before [] i = before
value_after before (v ∷ vs) i = value_after (if v.net == i then Some v.one else before) vs i

abbrev pub value_in : List CaseValue → ℕ → Option Bool
value_in values i = value_after None values i

-- each case gives both the same value, or none
abbrev pub CasesAlike : List (List CaseValue) → ℕ → ℕ → Type 0
CasesAlike cases i j =
    All (λ (values : List CaseValue). value_in values i ≡ value_in values j) cases

-- ---- nets

-- Net m has number i, and n has j.
pub record NetsAlike (c : Circuit) (cases : List (List CaseValue)) (classes : List ℕ) (i j : ℕ)
    (m n : Net) : Type 0 where
  pub spec : m.spec ≡ n.spec
  pub wire : m.wire ≡ n.wire
  pub values : CasesAlike cases i j
  pub drivers : DriversAlike classes (instance_of c m.driver) (instance_of c n.driver)
