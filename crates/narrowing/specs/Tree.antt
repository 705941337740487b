-- Trees of narrowings: each inner node is split in two, and in each leaf a constraint has no fault.
use Rattle.std.specs.Prelude.{◌≡◌, ℕ, ◌+◌, ◌<◌, ◌≤◌, max, Bool, true, false, ◌++◌, List, [], ◌∷◌, Option, Some, None, ⊤}
use Rattle.std.specs.List.{All}
use Rattle.scald_base.specs.Time.{Bounds, Header}
use Rattle.scald_base.specs.declared.assertion.ClockSpec.{ClockSpec}
use Rattle.flat_circuit.specs.declared.case.CaseValue.{CaseValue}
use Rattle.flat_circuit.specs.declared.instance.Instance.{Instance}
use Rattle.flat_circuit.specs.declared.split.Split.{Split}
use Rattle.flat_circuit.specs.Circuit.{Circuit}
use Rattle.narrowing.specs.declared.constraint.Constraint.{Constraint}
use Rattle.narrowing.specs.declared.part.Part.{Part}
use Rattle.narrowing.specs.declared.part.Part.TheVariants.{Constant, Delay, Offset, Rise, Fall}
use Rattle.narrowing.specs.Part.{MayBeLate, MayBeSet, HasOneDelay, HasTwoDelays, OfInstance, PartFits, between, most_late, same_thing, with_part}
use Rattle.narrowing.specs.Narrowed.{narrowed, offset_in}
use Rattle.narrowing.specs.Leaf.{IsFreeLeaf}

-- ---- splits

-- two halves of bounds, the lower one first
pub record AreHalves (bounds : Bounds) (least last first greatest : ℕ) : Type 0 where
  pub begins : least ≡ bounds.min
  pub ordered : least ≤ last
  pub follows : first ≡ last + 1
  pub more : last < greatest
  pub ends : greatest ≡ bounds.max

-- the halves of a delay that instance k has in a circuit, which is its one, or one of two
abbrev pub HalvesOne : Circuit → ℕ → ℕ → ℕ → ℕ → ℕ → Type 0
HalvesOne c k least last first greatest =
    OfInstance c k (λ j.
    HasOneDelay j least greatest × AreHalves j.delay least last first greatest)

pub record SplitsTwo (j : Instance) (which : Split → Bounds)
    (least last first greatest : ℕ) : Type 0 where
  pub has : HasTwoDelays j which least greatest
  pub halves : AreHalves (which has.split) least last first greatest

abbrev pub HalvesTwo : Circuit → ℕ → (Split → Bounds) → ℕ → ℕ → ℕ → ℕ → Type 0
HalvesTwo c k which least last first greatest =
    OfInstance c k (λ j. SplitsTwo j which least last first greatest)

-- the bounds that a narrowing gives the offset of a clock, or else all that it has
abbrev pub offset_bounds : Header → ClockSpec → Option Bounds → Bounds
offset_bounds h clock None = between 0 (most_late h clock)
offset_bounds h clock (Some b) = b

-- the halves of the offset that a narrowing leaves a clock
pub record HalvesOffset (c : Circuit) (parts : List Part) (net least last first greatest : ℕ) :
    Type 0 where
  pub clock : ClockSpec
  pub may : MayBeLate c net clock
  pub halves : AreHalves (offset_bounds c.header clock (offset_in net parts)) least last first
      greatest

-- the two bits of a net that no part is of
pub record AreBits (c : Circuit) (values : List CaseValue) (parts : List Part)
    (net other : ℕ) (one next : Bool) : Type 0 where
  pub may : MayBeSet c values net
  pub unset : All (λ q. same_thing (Constant net one) q ≡ false) parts
  pub same : other ≡ net
  pub zero : one ≡ false
  pub then_one : next ≡ true

-- A narrowing is split at one thing: into the two bits of a net, or into the two halves of the
-- bounds that it gives a delay or an offset, the circuit's own if it gives none.
abbrev pub IsSplit : Circuit → List CaseValue → List Part → Part → Part → Type 0
IsSplit c values parts (Constant net one) (Constant other next) =
    AreBits c values parts net other one next
IsSplit c values parts (Delay k least last) (Delay i first greatest) =
    (i ≡ k) × HalvesOne (narrowed c parts) k least last first greatest
IsSplit c values parts (Rise k least last) (Rise i first greatest) =
    (i ≡ k) × HalvesTwo (narrowed c parts) k (λ (s : Split). s.rise) least last first greatest
IsSplit c values parts (Fall k least last) (Fall i first greatest) =
    (i ≡ k) × HalvesTwo (narrowed c parts) k (λ (s : Split). s.fall) least last first greatest
IsSplit c values parts (Offset net least last) (Offset other first greatest) =
    (other ≡ net) × HalvesOffset c parts net least last first greatest
IsSplit c values parts p q = ⊥

-- ---- trees

-- the parts of the two halves at an inner node, and what stands under each
pub data Tree : Type 0 where
  leaf : Tree
  split : (lower upper : Part) → Tree → Tree → Tree

-- the narrowings at the leaves, from one at the root on, the lower half first
abbrev pub leaves : Tree → List Part → List (List Part)
leaves leaf parts = parts ∷ []
leaves (split lower upper low high) parts =
    leaves low (with_part parts lower) ++ leaves high (with_part parts upper)

-- A tree is over a narrowing of a case if each inner node is split at one thing, and the halves
-- are parts of the circuit.
abbrev pub IsOver : Circuit → List CaseValue → Tree → List Part → Type 0
IsOver c values leaf parts = ⊤
IsOver c values (split lower upper low high) parts =
    IsSplit c values parts lower upper
    × (PartFits c values lower × PartFits c values upper)
    × IsOver c values low (with_part parts lower)
    × IsOver c values high (with_part parts upper)

-- the greatest of two ticks, if there are both
abbrev pub greatest_of : Option ℕ → Option ℕ → Option ℕ
greatest_of (Some low) (Some high) = Some (max low high)
greatest_of low high = None

pub record AreRefuted (tick : ℕ) (low high : ℕ → Type 0) : Type 0 where
  pub low_tick : ℕ
  pub high_tick : ℕ
  pub in_low : low low_tick
  pub in_high : high high_tick
  pub greatest : tick ≡ max low_tick high_tick

-- In each leaf the constraint has no fault, and the tick is the greatest of the leaves' printed
-- ticks.
abbrev pub RefutesFrom : Circuit → List CaseValue → Constraint → Tree → List Part → ℕ → Type 0
RefutesFrom c values x leaf parts tick = IsFreeLeaf c values parts x tick
RefutesFrom c values x (split lower upper low high) parts tick =
    AreRefuted tick (RefutesFrom c values x low (with_part parts lower))
    (RefutesFrom c values x high (with_part parts upper))

-- A tree over a narrowing of a case refutes the constraint from a tick on, and its leaves were
-- appended to narrowings.
pub record IsRefuted (c : Circuit) (values : List CaseValue) (x : Constraint) (parts : List Part)
    (tick : ℕ) (old new : List (List Part)) : Type 0 where
  pub tree : Tree
  pub over : IsOver c values tree parts
  pub refutes : RefutesFrom c values x tree parts tick
  pub appended : new ≡ old ++ leaves tree parts

-- The tree over a case refutes the constraint from a tick on, which is the greatest of the leaves'
-- printed ticks and of the case's own, T.
pub record Refutes (c : Circuit) (values : List CaseValue) (x : Constraint) (tree : Tree)
    (printed from : ℕ) : Type 0 where
  pub tick : ℕ
  pub over : IsOver c values tree []
  pub refutes : RefutesFrom c values x tree [] tick
  pub greatest : from ≡ max printed tick
