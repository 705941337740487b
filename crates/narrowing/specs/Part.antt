-- Parts of a narrowing: what each fixes, and the runs that keep to it.
use Rattle.std.specs.Prelude.{◌≡◌, ℕ, ◌+◌, ◌<◌, ◌≤◌, ◌==◌, ◌++◌, Bool, true, false, not, List, [], ◌∷◌, filter, slice_get, Some, None, ⊤}
use Rattle.std.specs.List.{All}
use Rattle.scald_base.specs.Clock.{back, ideal}
use Rattle.scald_base.specs.Fitting.{skew_of}
use Rattle.scald_base.specs.Signal.{Signal}
use Rattle.scald_base.specs.Time.{Bounds, Header, period}
use Rattle.scald_base.specs.declared.assertion.AssertSpec.{AssertSpec}
use Rattle.scald_base.specs.declared.assertion.AssertSpec.TheVariants.{None as Unasserted, Precision, Clock, Stable}
use Rattle.scald_base.specs.declared.assertion.ClockSpec.{ClockSpec}
use Rattle.element_kinds.specs.declared.form.Form.{Form}
use Rattle.element_kinds.specs.declared.form.Form.TheVariants.{Gate, Change, Register, Latch as Enabled, Checker}
use Rattle.element_kinds.specs.Kinds.{form_of, may_split}
use Rattle.flat_circuit.specs.declared.case.CaseValue.{CaseValue}
use Rattle.flat_circuit.specs.declared.instance.Instance.{Instance}
use Rattle.flat_circuit.specs.declared.net.Net.{Net}
use Rattle.flat_circuit.specs.declared.split.Split.{Split}
use Rattle.flat_circuit.specs.Circuit.{Circuit}
use Rattle.flat_circuit.specs.Run.{Choice, Run, Within, net_signal}
use Rattle.case_analysis.specs.Case.{IsInCase, is_set}
use Rattle.narrowing.specs.declared.part.Part.{Part}
use Rattle.narrowing.specs.declared.part.Part.TheVariants.{Constant, Delay, Offset, Rise, Fall}

-- from the least to the greatest
abbrev pub between : ℕ → ℕ → Bounds
between least greatest = record { min = least; max = greatest }

-- ---- which parts a circuit has in a case

-- an assertion by which a net is constant, or none
abbrev pub IsConstantBy : AssertSpec → Type 0
IsConstantBy Unasserted = ⊤
IsConstantBy (Stable []) = ⊤
IsConstantBy (Stable (s ∷ ss)) = ⊥
IsConstantBy (Precision clock) = ⊥
IsConstantBy (Clock clock) = ⊥

-- Nothing drives the net, it is constant by its assertion or has none, and the case does not set
-- it.
pub record MayBeSet (c : Circuit) (values : List CaseValue) (net : ℕ) : Type 0 where
  pub is : Net
  pub there : slice_get c.nets net ≡ Some is
  pub undriven : is.driver ≡ None
  pub constant : IsConstantBy is.spec
  pub free : is_set values net ≡ false

-- In a run an instance of this form has a delay that is constant: that of a change function is not,
-- and a checker has none.
abbrev pub HasDelay : Form → Type 0
HasDelay Gate = ⊤
HasDelay Change = ⊥
HasDelay (Register forced) = ⊤
HasDelay (Enabled forced) = ⊤
HasDelay (Checker check) = ⊥

-- bounds within others
pub record AreWithin (outer : Bounds) (least greatest : ℕ) : Type 0 where
  pub least_in : outer.min ≤ least
  pub ordered : least ≤ greatest
  pub greatest_in : greatest ≤ outer.max

-- The instance has one delay, and its bounds hold these.
pub record HasOneDelay (j : Instance) (least greatest : ℕ) : Type 0 where
  pub has : HasDelay (form_of j.kind)
  pub one : j.split ≡ None
  pub within : AreWithin j.delay least greatest

-- The instance has two delays, and the bounds of one of them hold these.
pub record HasTwoDelays (j : Instance) (which : Split → Bounds) (least greatest : ℕ) : Type 0 where
  pub may : may_split j.kind ≡ true
  pub split : Split
  pub two : j.split ≡ Some split
  pub within : AreWithin (which split) least greatest

-- how early and how late a `.P` clock may come
abbrev pub skew_in : Header → ClockSpec → ℕ × ℕ
skew_in h clock = skew_of clock h.pskew

-- An offset goes by how much later than at its earliest the clock comes: from 0 to this.
abbrev pub most_late : Header → ClockSpec → ℕ
most_late h clock = (skew_in h clock).0 + (skew_in h clock).1

-- Nothing drives the net, and it is a clock that comes early or late as a whole.
pub record MayBeLate (c : Circuit) (net : ℕ) (clock : ClockSpec) : Type 0 where
  pub is : Net
  pub there : slice_get c.nets net ≡ Some is
  pub undriven : is.driver ≡ None
  pub precise : is.spec ≡ Precision clock

-- Such a net, and its bounds hold these.
pub record HasOffset (c : Circuit) (net least greatest : ℕ) : Type 0 where
  pub clock : ClockSpec
  pub may : MayBeLate c net clock
  pub ordered : least ≤ greatest
  pub greatest_in : greatest ≤ most_late c.header clock

-- what is said of an instance holds of that of this number
pub record OfInstance (c : Circuit) (k : ℕ) (Is : Instance → Type 0) : Type 0 where
  pub instance : Instance
  pub there : slice_get c.instances k ≡ Some instance
  pub is : Is instance

abbrev pub PartFits : Circuit → List CaseValue → Part → Type 0
PartFits c values (Constant net one) = MayBeSet c values net
PartFits c values (Delay k least greatest) =
    OfInstance c k (λ j. HasOneDelay j least greatest)
PartFits c values (Rise k least greatest) =
    OfInstance c k (λ j. HasTwoDelays j (λ (s : Split). s.rise) least greatest)
PartFits c values (Fall k least greatest) =
    OfInstance c k (λ j. HasTwoDelays j (λ (s : Split). s.fall) least greatest)
PartFits c values (Offset net least greatest) = HasOffset c net least greatest

-- ---- narrowings

-- both are of one net's bit or offset, or of one delay
abbrev pub same_thing : Part → Part → Bool
same_thing (Constant net one) (Constant other bit) = net == other
same_thing (Delay k least greatest) (Delay other from to) = k == other
same_thing (Rise k least greatest) (Rise other from to) = k == other
same_thing (Fall k least greatest) (Fall other from to) = k == other
same_thing (Offset net least greatest) (Offset other from to) = net == other
same_thing part other = false

-- with a part in place of that of the same thing
abbrev pub with_part : List Part → Part → List Part
with_part parts p = filter (λ q. not (same_thing q p)) parts ++ p ∷ []

-- each is of a thing of its own
pub data AreApart : List Part → Type 0 where
  none : AreApart []
  one_more : {p : Part} {ps : List Part} → All (λ q. same_thing p q ≡ false) ps → AreApart ps →
      AreApart (p ∷ ps)

-- a narrowing of a case
pub record IsNarrowing (c : Circuit) (values : List CaseValue) (parts : List Part) : Type 0 where
  pub fit : All (PartFits c values) parts
  pub apart : AreApart parts

-- ---- runs

-- what is picked at the instance of this number is within bounds
abbrev pub Picks : Run → ℕ → (Choice → ℕ) → Bounds → Type 0
Picks run k delay bounds =
    (choice : Choice) → slice_get run.choices k ≡ Some choice → Within bounds (delay choice)

-- a signal is the ideal clock for so many ticks, so much later than at its earliest
abbrev pub IsLate : Header → ClockSpec → ℕ → Signal → ℕ → Type 0
IsLate h clock n x by =
    (t : ℕ) → t < n →
    x t ≡ ideal clock h (back (period h) (t + (skew_in h clock).0) by)

-- a net that may be late is the ideal clock, later by an amount within bounds
pub record ComesWithin (c : Circuit) (run : Run) (net : ℕ) (bounds : Bounds) : Type 0 where
  pub clock : ClockSpec
  pub may : MayBeLate c net clock
  pub by : ℕ
  pub within : Within bounds by
  pub late : IsLate c.header clock run.ticks (net_signal run net) by

abbrev pub KeepsTo : Circuit → Run → Part → Type 0
KeepsTo c run (Constant net one) = (t : ℕ) → t < run.ticks → net_signal run net t ≡ one
KeepsTo c run (Delay k least greatest) =
    Picks run k (λ (choice : Choice). choice.delay) (between least greatest)
KeepsTo c run (Rise k least greatest) =
    Picks run k (λ (choice : Choice). choice.rise) (between least greatest)
KeepsTo c run (Fall k least greatest) =
    Picks run k (λ (choice : Choice). choice.fall) (between least greatest)
KeepsTo c run (Offset net least greatest) = ComesWithin c run net (between least greatest)

-- The run is in the narrowing of the case.
pub record IsIn (c : Circuit) (values : List CaseValue) (parts : List Part) (run : Run) :
    Type 0 where
  pub in_case : IsInCase values run
  pub keeps : All (KeepsTo c run) parts
