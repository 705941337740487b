-- The cases that a drawing lists, with their nets by numbers.
use Rattle.std.specs.Prelude.{◌≡◌, ℕ, ◌<◌, Bool, true, false, not, ◌&&◌, ◌==◌, List, [], ◌∷◌, length, map, nat_le, slice_get, Option, Some, None, is_none, Ok, Err}
use Rattle.std.specs.List.{All}
use Rattle.scald_base.specs.declared.refusal.Stop.{Stop}
use Rattle.scald_base.specs.declared.refusal.Stop.TheVariants.{Refused, NoMemory}
use Rattle.flat_circuit.specs.declared.case.CaseValue.{CaseValue}
use Rattle.flat_circuit.specs.declared.net.Net.{Net}
use Rattle.flat_circuit.specs.Name.{IsNumber, name_at}
use Rattle.flat_circuit.specs.Builder.{is_asserted}
use Rattle.flat_circuit.specs.Circuit.{Circuit, net_names}
use Rattle.fixpoint_engine.specs.Settled.{marked_in}
use Rattle.drawing_tree.specs.declared.drawing.CaseEntry.{CaseEntry}
use Rattle.drawing_tree.specs.declared.drawing.CaseStmt.{CaseStmt}
use Rattle.macro_expander.specs.Named.{State}
use Rattle.macro_expander.specs.Cases.{CaseBit, entry_name, is_clock, is_set as is_named, may_set, case_bits, cases_behind, listed_cases}
use Rattle.macro_expander.specs.Stands.{Stands}
use Rattle.case_analysis.specs.Case.{NetsExist, is_set}

-- ---- nets that a case may set

-- nothing drives the net, and it is no asserted clock
abbrev pub is_free : Option Net → Bool
is_free None = false
is_free (Some n) = is_none n.driver && not (is_clock n.spec)

-- no net stands twice
pub data AreOnce : List CaseValue → Type 0 where
  none : AreOnce []
  one_more : {v : CaseValue} {vs : List CaseValue} → is_set vs v.net ≡ false → AreOnce vs →
      AreOnce (v ∷ vs)

-- Its nets exist, each once; none is driven or an asserted clock.
pub record IsListed (c : Circuit) (values : List CaseValue) : Type 0 where
  pub exist : NetsExist c values
  pub free : All (λ (v : CaseValue). is_free (slice_get c.nets v.net) ≡ true) values
  pub once : AreOnce values

-- ---- the cases of a drawing

-- the nets of a case by their names
abbrev pub bit_of : List Net → CaseValue → CaseBit
bit_of nets v = record { name = name_at (net_names nets) v.net; one = v.one }

abbrev pub bits_of : List Net → List CaseValue → List CaseBit
bits_of nets values = map (bit_of nets) values

-- Of whichever flat circuit this one stands for, these are the cases that are written.
abbrev pub AreCasesOf : Circuit → List CaseStmt → List (List CaseValue) → Type 0
AreCasesOf c written cases =
    (s : State) → Stands s c → listed_cases s written ≡ Ok (map (bits_of c.nets) cases)

-- The cases that are written are refused so.
abbrev pub AreCasesStop : Circuit → List CaseStmt → Stop → Type 0
AreCasesStop c written NoMemory = Unit {0}
AreCasesStop c written (Refused r) = (s : State) → Stands s c → listed_cases s written ≡ Err r

-- the same of cases that are not too many
abbrev pub AreCases : Circuit → List CaseStmt → List (List CaseValue) → Type 0
AreCases c written cases =
    (s : State) → Stands s c → cases_behind s [] written ≡ Ok (map (bits_of c.nets) cases)

abbrev pub AreNoCases : Circuit → List CaseStmt → Stop → Type 0
AreNoCases c written NoMemory = Unit {0}
AreNoCases c written (Refused r) = (s : State) → Stands s c → cases_behind s [] written ≡ Err r

-- ---- one case

abbrev pub IsCaseOf : Circuit → List CaseEntry → List CaseValue → Type 0
IsCaseOf c entries values =
    (s : State) → Stands s c → case_bits s [] entries ≡ Ok (bits_of c.nets values)

abbrev pub IsCaseStop : Circuit → List CaseEntry → Stop → Type 0
IsCaseStop c entries NoMemory = Unit {0}
IsCaseStop c entries (Refused r) = (s : State) → Stands s c → case_bits s [] entries ≡ Err r

-- ---- one entry, if the marks are those of the nets that its case has named before

pub record AreNamed (c : Circuit) (marks : List Bool) (before : List CaseBit) : Type 0 where
  pub each_net : length marks ≡ length c.nets
  pub are : (i : ℕ) → i < length c.nets →
      marked_in marks i ≡ is_named before (name_at (net_names c.nets) i)

-- Whether an entry may set its net, which has this number: its name asserts nothing, the net is
-- free and was not named before, and the value is a bit.
abbrev pub may_set_at : Circuit → List Bool → CaseEntry → ℕ → Bool
may_set_at c marks e i =
    not (is_asserted e.name.spec) && (is_free (slice_get c.nets i)
    && (not (marked_in marks i) && nat_le e.value 1))

-- The value that the entry gives the net of its name, which it may.
pub record MaySet (c : Circuit) (marks : List Bool) (e : CaseEntry) (v : CaseValue) : Type 0 where
  pub number : IsNumber (net_names c.nets) (entry_name e) v.net
  pub free : is_free (slice_get c.nets v.net) ≡ true
  pub first : marked_in marks v.net ≡ false
  pub one : v.one ≡ (e.value == 1)

-- whether the entry may be set, of whichever flat circuit and nets before it
abbrev pub IsJudged : Circuit → List Bool → CaseEntry → Bool → Type 0
IsJudged c marks e may =
    (s : State) (before : List CaseBit) → Stands s c → AreNamed c marks before →
    may_set s before e ≡ may
