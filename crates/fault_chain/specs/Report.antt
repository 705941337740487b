-- The lines of chains.
use Rattle.std.specs.Prelude.{ℕ, List, [], ◌∷◌, ◌++◌, codes, decimal}
use Rattle.std.specs.List.{flat_map}
use Rattle.step_values.specs.Steps.{letter_of}
use Rattle.flat_circuit.specs.declared.fault.Fault.{Fault}
use Rattle.flat_circuit.specs.Circuit.{Circuit}
use Rattle.fixpoint_engine.specs.Waves.{Waves}
use Rattle.listing.specs.Text.{line}
use Rattle.listing.specs.Head.{period_line}
use Rattle.listing.specs.Names.{net_text}
use Rattle.listing.specs.Fault.{fault_text}
use Rattle.listing.specs.End.{last_line}
use Rattle.timing_analysis.specs.Case.{Case, fault_count, faults_of}
use Rattle.fault_chain.specs.declared.chain.Link.{Link}
use Rattle.fault_chain.specs.declared.chain.End.{End}
use Rattle.fault_chain.specs.declared.chain.End.TheVariants.{Level, Repeat, Undriven, Both}
use Rattle.fault_chain.specs.declared.chain.Chain.{Chain}
use Rattle.fault_chain.specs.Chain.{chain_of}

abbrev pub end_text : End → List ℕ
end_text Level = codes "LEVEL"
end_text Repeat = codes "REPEAT"
end_text Undriven = codes "UNDRIVEN"
end_text Both = codes "BOTH"

unfoldable pub link_line : Circuit → Link → List ℕ
link_line c link = line (
    codes "LINK " ∷ net_text c link.net ∷ codes " SLOT " ∷ decimal link.slot
    ∷ codes " VALUE " ∷ (letter_of link.value ∷ []) ∷ [])

unfoldable pub end_line : End → List ℕ
end_line end = line (codes "END " ∷ end_text end ∷ [])

-- a line for each link, and how they end
abbrev pub chain_lines : Circuit → Chain → List ℕ
chain_lines c chain = flat_map (link_line c) chain.links ++ end_line chain.end

-- the fault, as in the report
unfoldable pub found_line : Circuit → Fault → List ℕ
found_line c f = line (codes "FAULT " ∷ fault_text c f ∷ [])

-- it, and its chain
abbrev pub explained : Circuit → Waves → Fault → List ℕ
explained c ws f = found_line c f ++ chain_lines c (chain_of c ws f)

unfoldable pub number_line : ℕ → List ℕ
number_line number = line (codes "CASE " ∷ decimal number ∷ [])

-- the number of a case, and each of its faults
abbrev pub case_lines : Circuit → ℕ → Waves → List Fault → List ℕ
case_lines c number ws fs = number_line number ++ flat_map (explained c ws) fs

abbrev pub case_text : Circuit → Case → List ℕ
case_text c case = case_lines c case.listed.number case.waves (faults_of c case.waves)

-- the version and the period, each case, and how many faults there are over all of them
abbrev pub chain_report : ℕ → Circuit → List Case → List ℕ
chain_report version c cases =
    period_line version c ++ flat_map (case_text c) cases ++ last_line (fault_count c cases)
