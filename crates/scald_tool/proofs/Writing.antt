-- A report while it is written, case by case.
use Rattle.std.proofs.Common.{◌≡◌, ℕ, ◌+◌, List, [], ◌∷◌, ◌++◌, length, sym, ap, ◌∙◌}
use Rattle.std.proofs.Common.{append-nil}
use Rattle.std.specs.List.{flat_map}
use Rattle.std.proofs.lemmas.List.{append_assoc}
use Rattle.std.proofs.lemmas.List.Sums.{sum_by_push}
use Rattle.std.proofs.lemmas.Grind.{flat_map-append}
use Rattle.step_values.specs.declared.value.Value.{Value}
use Rattle.skew_algebra.specs.Wave.{Wave}
use Rattle.flat_circuit.specs.declared.fault.Fault.{Fault}
use Rattle.flat_circuit.specs.Circuit.{Circuit}
use Rattle.fixpoint_engine.specs.Waves.{waves_of}
use Rattle.listing.specs.declared.case.Mode.{Mode}
use Rattle.listing.specs.Head.{head}
use Rattle.listing.specs.Case.{case_lines}
use Rattle.listing.specs.End.{last_line}
use Rattle.listing.specs.Lines.{lines_text}
use Rattle.timing_analysis.specs.Case.{Listed, Case, faults}
use Rattle.timing_analysis.specs.Settled.{IsSettledCase, settled_case}
use Rattle.scald_base.specs.declared.outcome.Outcome.{Outcome}
use Rattle.program_call.specs.Answer.{verdict_of}
use Rattle.scald_tool.specs.declared.report.Report.{Report}
use Rattle.scald_tool.specs.Answer.{Reported}
use Rattle.scald_tool.specs.Report.{HasLines, case_text}

module _ (mode : Mode) (version : ℕ) (c : Circuit) (base : ℕ) where
  -- the lines of one more case follow those of the others
  lines_more : (cases : List Case) (case : Case) (bytes after : List ℕ) →
      bytes ≡ head version c ++ flat_map (case_text mode c base) cases →
      after ≡ bytes ++ case_text mode c base case →
      after ≡ head version c ++ flat_map (case_text mode c base) (cases ++ case ∷ [])
  lines_more cases case bytes after before more =
      let one = case_text mode c base in
      more
      ∙ ap (λ (bs : List ℕ). bs ++ one case) before
      ∙ append_assoc (head version c) (flat_map one cases) (one case)
      ∙ ap (λ (bs : List ℕ). head version c ++ bs)
      (sym (flat_map-append one cases (case ∷ [])
      ∙ ap (λ (bs : List ℕ). flat_map one cases ++ bs) (append-nil (one case))))

  -- A settled case is in the report when its lines are written and its faults counted.
  pub has_more : (report after : Report) (limit : ℕ) (l : Listed) (number rounds tick : ℕ)
      (ws : List (Wave Value)) (fs : List Fault)
      (cases : List Case) → IsSettledCase c limit base l number rounds tick ws fs →
      after.mode ≡ report.mode → after.base ≡ report.base →
      lines_text after.lines ≡ lines_text report.lines ++ case_lines c report.mode number report.base rounds tick
      (waves_of ws) fs →
      after.total ≡ report.total + length fs →
      HasLines report mode version c base cases →
      HasLines after mode version c base (cases ++ settled_case l rounds ws ∷ [])
  has_more report after limit l number rounds tick ws fs cases is mode_kept base_kept text count
      has =
      let case : Case = settled_case l rounds ws in
      let lines : lines_text after.lines ≡ lines_text report.lines ++ case_text mode c base case =
      text
      ∙ (λ k. lines_text report.lines ++ case_lines c (has.mode_is k) (is.numbered k) (has.base_is k) rounds
      (is.printed k) (waves_of ws) (is.found k)) in
      record {
        mode_is = mode_kept ∙ has.mode_is;
        base_is = base_kept ∙ has.base_is;
        lines = lines_more cases case (lines_text report.lines) (lines_text after.lines) has.lines lines;
        count =
            count
            ∙ (λ k. has.count k + length (is.found k))
            ∙ sym (sum_by_push (λ (k : Case). length (faults c k)) cases case);
      }

  pub is_reported : (report : Report) (cases : List Case) (o : Outcome) (bytes : List ℕ) →
      o ≡ verdict_of report.total →
      bytes ≡ lines_text report.lines ++ last_line report.total → HasLines report mode version c base cases →
      Reported mode version c base cases o bytes
  is_reported report cases o bytes outcome text has = record {
    outcome = outcome ∙ ap verdict_of has.count;
    text = text ∙ (λ k. has.lines k ++ last_line (has.count k));
  }
