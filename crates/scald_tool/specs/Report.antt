-- The report as a whole.
use Rattle.std.specs.Prelude.{◌≡◌, ℕ, ◌≤◌, ◌*◌, List, ◌++◌}
use Rattle.std.specs.List.{flat_map}
use Rattle.flat_circuit.specs.Circuit.{Circuit}
use Rattle.listing.specs.declared.case.Mode.{Mode}
use Rattle.listing.specs.Head.{head}
use Rattle.listing.specs.Case.{case_lines}
use Rattle.listing.specs.End.{last_line}
use Rattle.listing.specs.Lines.{AreLines, lines_text}
use Rattle.timing_analysis.specs.Case.{Case, printed_tick, faults, fault_count}
use Rattle.scald_tool.specs.declared.report.Report.{Report}

abbrev pub case_text : Mode → Circuit → ℕ → Case → List ℕ
case_text mode c base case =
    case_lines c mode case.listed.number base case.rounds (printed_tick c base case) case.waves
    (faults c case)

-- the head, with the version of the language that the circuit is drawn in, each case, and the last
-- line
abbrev pub report : Mode → ℕ → Circuit → ℕ → List Case → List ℕ
report mode version c base cases =
    head version c ++ flat_map (case_text mode c base) cases ++ last_line (fault_count c cases)

-- A report while it is written: it has the head and the lines of these cases, and counts their
-- faults.
pub record HasLines (report : Report) (mode : Mode) (version : ℕ) (c : Circuit) (base : ℕ)
    (cases : List Case) : Type 0 where
  pub mode_is : report.mode ≡ mode
  pub base_is : report.base ≡ base
  pub lines : lines_text report.lines ≡ head version c ++ flat_map (case_text mode c base) cases
  pub count : report.total ≡ fault_count c cases

-- It has lines of this circuit alone, and no more faults than so many cases may have.
pub record IsReady (report : Report) (c : Circuit) (cases : ℕ) : Type 0 where
  pub are : AreLines c report.lines
  pub few : report.total ≤ cases * 458752
