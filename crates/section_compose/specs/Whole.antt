-- The whole that sections make, its runs, and what never breaks in them.
use Rattle.std.specs.Prelude.{◌≡◌, ℕ, ◌<◌, ◌≤◌, Bool, true, false, List, [], length, slice_get, slice_index_or, Some, None}
use Rattle.flat_circuit.specs.declared.net.Net.{Net}
use Rattle.flat_circuit.specs.Circuit.{Circuit}
use Rattle.flat_circuit.specs.Run.{Run, IsRun, net_signal}
use Rattle.pin_waves.specs.Meets.{Meets}
use Rattle.point_check.specs.Break.{KeepsAssertion}
use Rattle.timing_analysis.specs.Promise.{Breaks}
use Rattle.section_compose.specs.Globals.{crosses, crosses_into}
use Rattle.section_compose.specs.OneNet.{AreOneNet, IsNetOf}

-- ---- its runs

-- the bits of net i of section s
abbrev pub bits_of : List Run → ℕ → ℕ → List Bool
bits_of runs s i = elim (slice_get runs s) [ None ↦ [] | Some run ↦ slice_index_or run.bits i [] ]

-- A run of the whole is a run of each section, all of as many ticks: each instance has its delays
-- and each pin its wire within its own section's bounds. What is one net of the whole has the same
-- bits in all sections where it stands, and each net that no section drives keeps its assertion.
pub record IsRunOfWhole (whole : List Circuit) (runs : List Run) (ticks : ℕ) : Type 0 where
  pub sections : length runs ≡ length whole
  pub each : (s : ℕ) (c : Circuit) (run : Run) → slice_get whole s ≡ Some c →
      slice_get runs s ≡ Some run →
      IsRun c run
  pub long : (s : ℕ) (run : Run) → slice_get runs s ≡ Some run → run.ticks ≡ ticks
  pub one_net : (s i s' i' : ℕ) (c c' : Circuit) (net other : Net) → IsNetOf whole s i c net →
      IsNetOf whole s' i' c' other → AreOneNet net other → bits_of runs s i ≡ bits_of runs s' i'
  pub inputs : (s i : ℕ) (c : Circuit) (net : Net) (run : Run) → IsNetOf whole s i c net →
      slice_get runs s ≡ Some run → net.driver ≡ None → crosses_into whole net ≡ false →
      Meets c.header net.spec ticks (net_signal run i)

-- ---- what is premise, and what follows

-- At this tick each net that crosses keeps its assertion: its step is in the wide wave.
abbrev pub CrossingsKeep : List Circuit → List Run → ℕ → Type 0
CrossingsKeep whole runs t =
    (s i : ℕ) (c : Circuit) (net : Net) (run : Run) → IsNetOf whole s i c net →
    slice_get runs s ≡ Some run →
    crosses whole net ≡ true → KeepsAssertion c.header net.spec (net_signal run i) t

-- From tick T on nothing breaks: each net that crosses keeps its assertion at every later tick, and
-- no constraint of any section is broken at ticks that all are T or later.
pub record KeepsOn (whole : List Circuit) (runs : List Run) (ticks T : ℕ) : Type 0 where
  pub kept : (t : ℕ) → T < t → t < ticks → CrossingsKeep whole runs t
  pub unbroken : (s : ℕ) (c : Circuit) (run : Run) → slice_get whole s ≡ Some c →
      slice_get runs s ≡ Some run →
      ¬ Breaks c run T

-- In every run of the whole, of any length and from any start: if each net that crosses keeps
-- its assertion at each tick of 1 to T, nothing breaks from T on.
abbrev pub NeverBreaksWhole : List Circuit → ℕ → Type 0
NeverBreaksWhole whole T =
    (runs : List Run) (ticks : ℕ) → IsRunOfWhole whole runs ticks →
    ((t : ℕ) → 1 ≤ t → t ≤ T → t < ticks → CrossingsKeep whole runs t) →
    KeepsOn whole runs ticks T
