-- The lines on sections, and why they are refused.
use Rattle.std.specs.Prelude.{ℕ, ◌+◌, if◌then◌else◌, List, [], ◌∷◌, ◌++◌, length, codes, decimal}
use Rattle.scald_base.specs.declared.refusal.Refusal.{Refusal}
use Rattle.flat_circuit.specs.Circuit.{Circuit}
use Rattle.flat_circuit.specs.Name.{net_at}
use Rattle.fixpoint_engine.specs.Start.{default_limit}
use Rattle.listing.specs.declared.case.Mode.TheVariants.{Faults}
use Rattle.listing.specs.Answer.{refusal_line, unsettled_line}
use Rattle.listing.specs.Case.{case_lines}
use Rattle.listing.specs.End.{last_line}
use Rattle.listing.specs.Head.{head}
use Rattle.listing.specs.Names.{net_text}
use Rattle.listing.specs.Text.{line}
use Rattle.section_compose.specs.declared.rules.Rule.{Rule}
use Rattle.section_compose.specs.declared.section.Section.{Section}
use Rattle.section_compose.specs.Evaluated.{Settling, all_faults, faults_in, greatest_tick, tick_of}
use Rattle.section_compose.specs.Rule.{is_of_net, name_of, number_of}
use Rattle.section_compose.specs.Rules.{circuits}

-- ---- rules

abbrev pub net_part : Rule → Circuit → ℕ → List (List ℕ)
net_part rule c place =
    if is_of_net rule then codes " NET " ∷ net_text c (net_at c.order place) ∷ [] else []

-- the rule that a section breaks, and with which net
unfoldable pub broken_line : Rule → ℕ → Circuit → ℕ → List ℕ
broken_line rule section c place = line (
    codes "REFUSED " ∷ decimal (number_of rule) ∷ codes " " ∷ name_of rule
    ∷ codes " SECTION " ∷ decimal section ∷ net_part rule c place)

-- ---- sections, from 1

unfoldable pub section_line : ℕ → List ℕ
section_line section = line (codes "SECTION " ∷ decimal section ∷ [])

abbrev pub refused_lines : ℕ → Refusal → List ℕ
refused_lines section r = section_line section ++ refusal_line r

abbrev pub unsettled_lines : ℕ → Circuit → ℕ → List ℕ
unsettled_lines section c place = section_line section ++ unsettled_line c place (default_limit c)

-- ---- the report

-- the head of a section, by its own version, and its one case, in which no case of its own is
-- listed
abbrev pub section_lines : ℕ → Section → Settling → List ℕ
section_lines number s settling =
    section_line number ++ (head s.version s.circuit
    ++ case_lines s.circuit Faults 0 settling.rounds 0 (tick_of s.circuit settling) settling.waves
    (faults_in s.circuit settling))

abbrev pub all_lines : ℕ → List Section → List Settling → List ℕ
all_lines number [] settlings = []
all_lines number (s ∷ sections) [] = []
all_lines number (s ∷ sections) (settling ∷ settlings) =
    section_lines number s settling ++ all_lines (number + 1) sections settlings

-- how many sections there are, and the tick from which on all waves hold
unfoldable pub sections_line : ℕ → ℕ → List ℕ
sections_line sections tick =
    line (codes "SECTIONS " ∷ decimal sections ∷ codes " T " ∷ decimal tick ∷ [])

abbrev pub report : List Section → List Settling → List ℕ
report sections settlings =
    all_lines 1 sections settlings
    ++ (sections_line (length sections) (greatest_tick (circuits sections) settlings)
    ++ last_line (all_faults (circuits sections) settlings))
