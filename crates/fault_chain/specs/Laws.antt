-- Laws of chains: what holds of the chain of every fault of a settled case.
use Rattle.std.specs.Prelude.{◌≡◌, ◌⊎◌, ℕ, ◌+◌, ◌≤◌, ◌==◌, Bool, true, false, ⊤, List, [], ◌∷◌, ◌++◌, length, Option, Some, None}
use Rattle.std.specs.List.{All, list_any}
use Rattle.scald_base.specs.Time.{IsDelay, IsHeader}
use Rattle.step_values.specs.Steps.{is_quiet}
use Rattle.element_kinds.specs.declared.kind.Kind.{Kind}
use Rattle.element_kinds.specs.declared.kind.Kind.TheVariants.{RegRs, LatchRs}
use Rattle.flat_circuit.specs.declared.case.CaseValue.{CaseValue}
use Rattle.flat_circuit.specs.declared.instance.Instance.{Instance}
use Rattle.flat_circuit.specs.declared.net.Net.{Net}
use Rattle.flat_circuit.specs.declared.split.Split.{Split}
use Rattle.flat_circuit.specs.declared.fault.Fault.{Fault}
use Rattle.flat_circuit.specs.declared.fault.Fault.TheVariants.{Point, Width, Hazard, Assertion}
use Rattle.flat_circuit.specs.Circuit.{Circuit, IsCircuit, driver}
use Rattle.fixpoint_engine.specs.Waves.{Waves}
use Rattle.fixpoint_engine.specs.Rounds.{SettlesAt}
use Rattle.case_analysis.specs.Base.{IsBase, base_round}
use Rattle.timing_analysis.specs.Drawn.{DrawsCircuit}
use Rattle.timing_analysis.specs.Case.{Case, IsSettled, AreSettled, faults, listed_cases}
use Rattle.fault_chain.specs.declared.chain.Link.{Link}
use Rattle.fault_chain.specs.declared.chain.End.{End}
use Rattle.fault_chain.specs.declared.chain.End.TheVariants.{Level, Repeat, Undriven, Both}
use Rattle.fault_chain.specs.declared.chain.Chain.{Chain}
use Rattle.fault_chain.specs.Chain.{chain_of}

-- ---- what holds of each chain

abbrev pub HasSetAndReset : Kind → Type 0
HasSetAndReset kind = (kind ≡ RegRs) ⊎ (kind ≡ LatchRs)

-- storage with set and reset drives the net
pub record IsForced (c : Circuit) (link : Link) : Type 0 where
  pub storage : Instance
  pub drives : driver c link.net ≡ Some storage
  pub kind : HasSetAndReset storage.kind

abbrev pub is_of_assertion : Fault → Bool
is_of_assertion (Point kind k edge slot value) = false
is_of_assertion (Width k high from width) = false
is_of_assertion (Hazard k slot pin) = false
is_of_assertion (Assertion i slot value) = true

-- each net may change where the link says
abbrev pub MayChange : Link → Type 0
MayChange link = is_quiet link.value ≡ false

-- By its end: one quiet link of an assertion fault; or links that may change, the last of which is
-- on a net of an earlier link, on a net that nothing drives, or on one that storage with set and
-- reset drives.
abbrev pub EndsIn : Circuit → Fault → List Link → Link → End → Type 0
EndsIn c f before last Level =
    (before ≡ []) × (is_quiet last.value ≡ true) × (is_of_assertion f ≡ true)
EndsIn c f before last Repeat =
    MayChange last × (list_any (λ (link : Link). link.net == last.net) before ≡ true)
EndsIn c f before last Undriven = MayChange last × (driver c last.net ≡ None)
EndsIn c f before last Both = MayChange last × IsForced c last

-- The chain has a last link, the links before it may change, and there is at most one more link
-- than there are nets.
pub record IsWhole (c : Circuit) (f : Fault) (chain : Chain) : Type 0 where
  pub before : List Link
  pub last : Link
  pub links : chain.links ≡ before ++ last ∷ []
  pub moving : All MayChange before
  pub ends : EndsIn c f before last chain.end
  pub short : length chain.links ≤ length c.nets + 1

-- ---- of which circuits

abbrev pub AreTwoDelays : Option Split → Type 0
AreTwoDelays None = ⊤
AreTwoDelays (Some s) = IsDelay s.rise × IsDelay s.fall

-- What a delay may be is each wire's, each element's, and each of the two of a gate.
pub record HasDelays (c : Circuit) : Type 0 where
  pub wires : All (λ (n : Net). IsDelay n.wire) c.nets
  pub delays : All (λ (j : Instance). IsDelay j.delay) c.instances
  pub splits : All (λ (j : Instance). AreTwoDelays j.split) c.instances

-- those of all faults of a case
abbrev pub AreWhole : Circuit → Case → Type 0
AreWhole c case = All (λ f. IsWhole c f (chain_of c case.waves f)) (faults c case)

abbrev pub ChainsAreWhole : Type 0
ChainsAreWhole =
    (c : Circuit) (limit base : ℕ) (before : Waves) (case : Case) → IsCircuit c →
    IsHeader c.header →
    HasDelays c → IsBase c limit base before → IsSettled c limit base case → AreWhole c case

-- A circuit that a text draws is such a circuit: if its base and its cases have settled, all of
-- their chains are whole.
abbrev pub DrawnChainsAreWhole : Type 0
DrawnChainsAreWhole =
    (text : List ℕ) (c : Circuit) (values : List (List CaseValue)) (limit base : ℕ)
    (cases : List Case) →
    DrawsCircuit text c values → SettlesAt (base_round c) limit base →
    AreSettled c limit base (listed_cases values) cases → All (AreWhole c) cases
