-- Loops without delay.
use Rattle.std.specs.Prelude.{◌≡◌, ℕ, ◌<◌, true, List, length, Some, is_some}
use Rattle.std.specs.List.{Contains}
use Rattle.scald_base.specs.Time.{Bounds}
use Rattle.vector_names.specs.declared.bits.Target.TheVariants.{Net as OnNet}
use Rattle.flat_circuit.specs.declared.instance.Pin.{Pin}
use Rattle.flat_circuit.specs.declared.instance.Instance.{Instance}
use Rattle.flat_circuit.specs.Instances.{out_at, pins_at, least_delay_at}

-- Instance d passes on to k at once: its least delay, with two delays the least of both, is 0 and
-- so is that of its net's wires, and any pin of k reads that net.
pub record PassesOn (wire_of : ℕ → Bounds) (js : List Instance) (d k : ℕ) : Type 0 where
  pub net : ℕ
  pub drives : out_at js d ≡ Some (OnNet net)
  pub at_once : least_delay_at js d ≡ 0
  pub wire_at_once : (wire_of net).min ≡ 0
  pub has_out : is_some (out_at js k) ≡ true
  pub pin : Pin
  pub reads : Contains (pins_at js k) pin
  pub on_net : pin.target ≡ OnNet net

-- by one passage or more
pub data Reaches (R : ℕ → ℕ → Type 0) : ℕ → ℕ → Type 0 where
  By_one : {i j : ℕ} → R i j → Reaches R i j
  And_then : {i m j : ℕ} → R i m → Reaches R m j → Reaches R i j

-- k can be reached from a loop, and may stand on it
pub record IsFromLoop (R : ℕ → ℕ → Type 0) (k : ℕ) : Type 0 where
  pub on_loop : ℕ
  pub loops : Reaches R on_loop on_loop
  pub reaches : Reaches R on_loop k

-- instance k can be reached from a loop of passages at once
abbrev pub IsLooped : (ℕ → Bounds) → List Instance → ℕ → Type 0
IsLooped wire_of js k = IsFromLoop (PassesOn wire_of js) k

-- it holds of no instance
abbrev pub HoldsOfNone : (ℕ → Type 0) → List Instance → Type 0
HoldsOfNone P js = (k : ℕ) → k < length js → P k → ⊥
