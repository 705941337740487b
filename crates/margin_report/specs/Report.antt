-- The lines of margins.
use Rattle.std.specs.Prelude.{◌≡◌, ℕ, List, [], ◌∷◌, ◌++◌, length, map, codes, decimal, slice_get, Option, Some, None}
use Rattle.std.specs.List.{concat, flat_map, range_with_len}
use Rattle.scald_base.specs.Time.{period}
use Rattle.element_kinds.specs.Kinds.{check_of}
use Rattle.flat_circuit.specs.declared.instance.Instance.{Instance}
use Rattle.flat_circuit.specs.Circuit.{Circuit}
use Rattle.listing.specs.Text.{line}
use Rattle.listing.specs.Head.{period_line}
use Rattle.listing.specs.Names.{instance_text}
use Rattle.listing.specs.Fault.{unnamed_fault}
use Rattle.timing_analysis.specs.Case.{Case}
use Rattle.margin_report.specs.declared.margin.Parameter.{Parameter}
use Rattle.margin_report.specs.declared.margin.Parameter.TheVariants.{Setup, Hold, High, Low}
use Rattle.margin_report.specs.declared.margin.Margin.{Margin}
use Rattle.margin_report.specs.declared.margin.Margin.TheVariants.{Fault as Faulty, Limit, Next}
use Rattle.margin_report.specs.declared.margin.Row.{Row}
use Rattle.margin_report.specs.Margin.{IsAskedBy, IsBelow, margin, parameters_in, spare}

-- ---- which margins there are

-- those of an instance, none of its margins known yet: a row for each of its parameters
abbrev pub rows_in : Circuit → List Case → ℕ → Option Instance → List Row
rows_in c cases k None = []
rows_in c cases k (Some j) =
    map
    (λ parameter.
    record { instance = k; parameter = parameter; margin = margin c cases k j parameter })
    (parameters_in (check_of j.kind))

abbrev pub rows_at : Circuit → List Case → ℕ → List Row
rows_at c cases k = rows_in c cases k (slice_get c.instances k)

-- those of all checkers, in the order of expansion
abbrev pub rows : Circuit → List Case → List Row
rows c cases = flat_map (rows_at c cases) (range_with_len 0 (length c.instances))

-- A row is of a parameter of a checker, and its margin is at most what may be written.
pub record IsRow (c : Circuit) (row : Row) : Type 0 where
  pub checker : Instance
  pub there : slice_get c.instances row.instance ≡ Some checker
  pub asked : IsAskedBy checker row.parameter
  pub below : IsBelow row.margin (spare (period c.header) checker.limits row.parameter)

-- ---- their lines

abbrev pub parameter_text : Parameter → List ℕ
parameter_text Setup = codes "SETUP"
parameter_text Hold = codes "HOLD"
parameter_text High = codes "HIGH"
parameter_text Low = codes "LOW"

-- what stands after the parameter
abbrev pub margin_text : Circuit → Margin → List ℕ
margin_text c Faulty = codes "FAULT"
margin_text c (Limit more) = concat (decimal more ∷ codes " LIMIT" ∷ [])
margin_text c (Next more case fault) =
    concat (
    decimal more ∷ codes " NEXT CASE " ∷ decimal case ∷ codes " " ∷ unnamed_fault c fault ∷ [])

unfoldable pub margin_line : Circuit → Row → List ℕ
margin_line c row = line (
    codes "MARGIN " ∷ instance_text c row.instance ∷ codes " " ∷ parameter_text row.parameter
    ∷ codes " " ∷ margin_text c row.margin ∷ [])

-- how many margins there are
unfoldable pub count_line : ℕ → List ℕ
count_line count = line (codes "MARGINS " ∷ decimal count ∷ [])

-- the version and the period, a line for each margin, and their count
abbrev pub margin_lines : ℕ → Circuit → List Row → List ℕ
margin_lines version c found =
    period_line version c ++ flat_map (margin_line c) found ++ count_line (length found)
