-- Which main call the first word names, what its answer is, and the status of that.
use Rattle.std.specs.Prelude.{◌≡◌, ℕ, List, [], ◌∷◌, codes, if◌then◌else◌}
use Rattle.std.specs.Str.{bytes_eq}
use Rattle.program_call.specs.Call.{Devices, IsCall, nothing_more}
use Rattle.scald_base.specs.declared.outcome.Outcome.{Outcome}
use Rattle.scald_base.specs.Outcome.{status_of as outcome_status}
use Rattle.scald_tool.specs.Answer.{verifier}
use Rattle.scald_tool.specs.Kept.{IsPromised}
use Rattle.drawing_notes.specs.Answer.{notes_program}
use Rattle.margin_report.specs.Answer.{margins}
use Rattle.fault_chain.specs.Answer.{chains}
use Rattle.slack_report.specs.Answer.{slack_program}
use Rattle.slack_report.specs.Promise.{NeverBreaksIfMet}
use Rattle.fault_decider.specs.Decided.{decider, promised_of}
use Rattle.fault_decider.specs.Outcome.{status_of as decide_status}
use Rattle.fault_decider.specs.declared.outcome.DecideOutcome.{DecideOutcome}
use Rattle.section_compose.specs.Answer.{composer}
use Rattle.section_compose.specs.Promise.{IsPromised as IsPromisedJoined}
use Rattle.section_compose.specs.declared.outcome.SectionsOutcome.{SectionsOutcome}
use Rattle.section_compose.specs.Outcome.{status_of as sections_status}
use Rattle.trace_tool.specs.Simulator.{simulator}
use Rattle.trace_tool.specs.declared.outcome.TraceOutcome.{TraceOutcome}
use Rattle.trace_tool.specs.Outcome.{status_of as trace_status}
use Rattle.draw_report.specs.Answer.{draw_program}
use Rattle.draw_report.specs.declared.outcome.DrawOutcome.{DrawOutcome}
use Rattle.draw_report.specs.Outcome.{status_of as draw_status}
use Rattle.netlist_import.specs.Answer.{importer}
use Rattle.netlist_import.specs.declared.outcome.ImportOutcome.{ImportOutcome}
use Rattle.netlist_import.specs.Outcome.{status_of as import_status}
use Rattle.scald.specs.declared.named.Answer.{Answer}
use Rattle.scald.specs.declared.named.Answer.TheVariants as answer
use Rattle.scald.specs.declared.named.Call.{Call}
use Rattle.scald.specs.declared.named.Call.TheVariants.{Tool, Notes, Margins, Chains, Slacks, Sections, Decisions, Simulator, Pictures, Importer}

-- that of the verifier if it names no other, or there is none
abbrev pub call_of : List (List ℕ) → Call
call_of [] = Tool
call_of (first ∷ others) =
    if bytes_eq first (codes "notes") then Notes
    else (if bytes_eq first (codes "margins") then Margins
    else (if bytes_eq first (codes "chains") then Chains
    else (if bytes_eq first (codes "slack") then Slacks
    else (if bytes_eq first (codes "explain") then Slacks
    else (if bytes_eq first (codes "sections") then Sections
    else (if bytes_eq first (codes "decide") then Decisions
    else (if bytes_eq first (codes "run") then Simulator
    else (if bytes_eq first (codes "vcd") then Simulator
    else (if bytes_eq first (codes "judge") then Simulator
    else (if bytes_eq first (codes "draw") then Pictures
    else (if bytes_eq first (codes "import") then Importer
    else Tool)))))))))))

-- ---- the answer

abbrev pub of_drawing : (Outcome → Type 0) → Answer → Type 0
of_drawing Is (answer.Drawing o) = Is o
of_drawing Is (answer.Sections o) = ⊥
of_drawing Is (answer.Faults o) = ⊥
of_drawing Is (answer.Run o) = ⊥
of_drawing Is (answer.Picture o) = ⊥
of_drawing Is (answer.Netlist o) = ⊥

abbrev pub of_sections : (SectionsOutcome → Type 0) → Answer → Type 0
of_sections Is (answer.Drawing o) = ⊥
of_sections Is (answer.Sections o) = Is o
of_sections Is (answer.Faults o) = ⊥
of_sections Is (answer.Run o) = ⊥
of_sections Is (answer.Picture o) = ⊥
of_sections Is (answer.Netlist o) = ⊥

abbrev pub of_faults : (DecideOutcome → Type 0) → Answer → Type 0
of_faults Is (answer.Drawing o) = ⊥
of_faults Is (answer.Sections o) = ⊥
of_faults Is (answer.Faults o) = Is o
of_faults Is (answer.Run o) = ⊥
of_faults Is (answer.Picture o) = ⊥
of_faults Is (answer.Netlist o) = ⊥

abbrev pub of_run : (TraceOutcome → Type 0) → Answer → Type 0
of_run Is (answer.Drawing o) = ⊥
of_run Is (answer.Sections o) = ⊥
of_run Is (answer.Faults o) = ⊥
of_run Is (answer.Run o) = Is o
of_run Is (answer.Picture o) = ⊥
of_run Is (answer.Netlist o) = ⊥

abbrev pub of_netlist : (ImportOutcome → Type 0) → Answer → Type 0
of_netlist Is (answer.Drawing o) = ⊥
of_netlist Is (answer.Sections o) = ⊥
of_netlist Is (answer.Faults o) = ⊥
of_netlist Is (answer.Run o) = ⊥
of_netlist Is (answer.Picture o) = ⊥
of_netlist Is (answer.Netlist o) = Is o

abbrev pub of_picture : (DrawOutcome → Type 0) → Answer → Type 0
of_picture Is (answer.Drawing o) = ⊥
of_picture Is (answer.Sections o) = ⊥
of_picture Is (answer.Faults o) = ⊥
of_picture Is (answer.Run o) = ⊥
of_picture Is (answer.Picture o) = Is o
of_picture Is (answer.Netlist o) = ⊥

-- The answer is that of a main call to all words, with what it did to its devices.
abbrev pub IsAnswerOf : {S K : Type 0} → Call → List (List ℕ) → Answer → Devices S K → S → S → K →
    K → Type 0
IsAnswerOf Tool words a d s s' k k' =
    of_drawing (λ o. IsCall verifier IsPromised words o d s s' k k') a
IsAnswerOf Notes words a d s s' k k' =
    of_drawing (λ o. IsCall notes_program nothing_more words o d s s' k k') a
IsAnswerOf Margins words a d s s' k k' =
    of_drawing (λ o. IsCall margins nothing_more words o d s s' k k') a
IsAnswerOf Chains words a d s s' k k' =
    of_drawing (λ o. IsCall chains nothing_more words o d s s' k k') a
IsAnswerOf Slacks words a d s s' k k' =
    of_drawing (λ o. IsCall slack_program NeverBreaksIfMet words o d s s' k k') a
IsAnswerOf Sections words a d s s' k k' =
    of_sections (λ o. IsCall composer IsPromisedJoined words o d s s' k k') a
IsAnswerOf Decisions words a d s s' k k' =
    of_faults (λ o. IsCall decider promised_of words o d s s' k k') a
IsAnswerOf Simulator words a d s s' k k' =
    of_run (λ o. IsCall simulator nothing_more words o d s s' k k') a
IsAnswerOf Pictures words a d s s' k k' =
    of_picture (λ o. IsCall draw_program nothing_more words o d s s' k k') a
IsAnswerOf Importer words a d s s' k k' =
    of_netlist (λ o. IsCall importer nothing_more words o d s s' k k') a

-- ---- the status

abbrev pub status_of : Answer → ℕ
status_of (answer.Drawing o) = outcome_status o
status_of (answer.Sections o) = sections_status o
status_of (answer.Faults o) = decide_status o
status_of (answer.Run o) = trace_status o
status_of (answer.Picture o) = draw_status o
status_of (answer.Netlist o) = import_status o

-- A program that was called with these words ends with this status: that of the answer to them,
-- with what that did to its devices.
pub record EndsWith {S K : Type 0} (status : ℕ) (words : List (List ℕ)) (d : Devices S K)
    (source source' : S) (sink sink' : K) : Type 0 where
  pub answer : Answer
  pub call : IsAnswerOf (call_of words) words answer d source source' sink sink'
  pub ended : status ≡ status_of answer
