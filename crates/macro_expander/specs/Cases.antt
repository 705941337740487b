-- The cases of a drawing: which nets each sets, and to what.
use Rattle.std.specs.Prelude.{ℕ, Bool, true, false, not, ◌&&◌, ◌==◌, List, [], ◌∷◌, ◌++◌, nat_le, if◌then◌else◌, slice_get, Option, Some, None, Result, Ok, Err}
use Rattle.std.specs.List.{list_any}
use Rattle.scald_base.specs.declared.assertion.AssertSpec.{AssertSpec}
use Rattle.scald_base.specs.declared.assertion.AssertSpec.TheVariants.{None as Unasserted, Precision, Clock, Stable}
use Rattle.scald_base.specs.declared.refusal.Refusal.{Refusal}
use Rattle.scald_base.specs.declared.refusal.RefusalKind.TheVariants.{CaseNet, TooMany}
use Rattle.flat_circuit.specs.Name.{Name}
use Rattle.flat_circuit.specs.Builder.{is_asserted, same_name, has_name, spec_of}
use Rattle.drawing_tree.specs.declared.drawing.CaseEntry.{CaseEntry}
use Rattle.drawing_tree.specs.declared.drawing.CaseStmt.{CaseStmt}
use Rattle.drawing_tree.specs.Tree.{Drawing}
use Rattle.macro_expander.specs.Named.{Where, On, Fixed, State}
use Rattle.macro_expander.specs.Terms.{net_text}

-- a net and the value that a case gives it
pub record CaseBit : Type 0 where
  pub name : Name
  pub one : Bool

-- the net of an entry, which stands in the drawing's own scope
abbrev pub entry_name : CaseEntry → Name
entry_name e = record { text = net_text [] e.name; bit = e.bit }

abbrev pub is_on : Name → Option Where → Bool
is_on name None = false
is_on name (Some (Fixed one)) = false
is_on name (Some (On n)) = same_name name n

abbrev pub is_driven : State → Name → Bool
is_driven s name = list_any (λ j. is_on name j.out) s.instances

-- an asserted clock is no net of a case
abbrev pub is_clock : AssertSpec → Bool
is_clock Unasserted = false
is_clock (Precision c) = true
is_clock (Clock c) = true
is_clock (Stable spans) = false

abbrev pub is_set : List CaseBit → Name → Bool
is_set bits name = list_any (λ b. same_name name b.name) bits

-- The entry's name has no assertion, its net is there, undriven and no asserted clock, the case has
-- not named it before, and its value is a bit.
abbrev pub may_set : State → List CaseBit → CaseEntry → Bool
may_set s before e =
    (not (is_asserted e.name.spec) && has_name s.names (entry_name e))
    && ((not (is_driven s (entry_name e))
    && not (is_clock (spec_of s.asserted (entry_name e).text)))
    && (not (is_set before (entry_name e)) && nat_le e.value 1))

abbrev pub entry_bit : CaseEntry → CaseBit
entry_bit e = record { name = entry_name e; one = e.value == 1 }

-- the nets that a case sets, after those of its entries so far, or the refusal of its first bad
-- entry
abbrev pub case_bits : State → List CaseBit → List CaseEntry → Result (List CaseBit) Refusal
case_bits s before [] = Ok before
case_bits s before (e ∷ es) =
    if may_set s before e then case_bits s (before ++ entry_bit e ∷ []) es
    else Err (record { kind = CaseNet; place = e.place })

abbrev pub with_case : Result (List CaseBit) Refusal →
    (List CaseBit → Result (List (List CaseBit)) Refusal) → Result (List (List CaseBit)) Refusal
with_case (Ok bits) next = next bits
with_case (Err r) next = Err r

abbrev pub cases_behind : State → List (List CaseBit) → List CaseStmt →
    Result (List (List CaseBit)) Refusal
cases_behind s before [] = Ok before
cases_behind s before (c ∷ cs) =
    with_case (case_bits s [] c.entries) (λ bits. cases_behind s (before ++ bits ∷ []) cs)

abbrev pub most_cases : ℕ
most_cases = 256

-- one case too many is refused before any entry is looked at
abbrev pub unless_many : Option CaseStmt → Result (List (List CaseBit)) Refusal →
    Result (List (List CaseBit)) Refusal
unless_many (Some c) cases = Err (record { kind = TooMany; place = c.place })
unless_many None cases = cases

-- what these cases set in a drawing whose flat circuit is this
abbrev pub listed_cases : State → List CaseStmt → Result (List (List CaseBit)) Refusal
listed_cases s written = unless_many (slice_get written most_cases) (cases_behind s [] written)

-- the cases of a drawing whose flat circuit is this
unfoldable pub cases_of : State → Drawing → Result (List (List CaseBit)) Refusal
cases_of s d = listed_cases s d.cases
