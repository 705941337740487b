-- Faults with what is said of them, one after the other, and how many there are of each verdict.
use Rattle.std.proofs.Common.{◌≡◌, ℕ, ◌+◌, List, [], ◌∷◌, ◌++◌, length, refl, sym, ap, subst, ◌∙◌, append-nil, append_assoc, arith}
use Rattle.std.specs.List.{sum_by}
use Rattle.std.proofs.lemmas.List.Sums.{sum_by-cons, sum_by_push}
use Rattle.flat_circuit.specs.declared.case.CaseValue.{CaseValue}
use Rattle.flat_circuit.specs.declared.fault.Fault.{Fault}
use Rattle.flat_circuit.specs.Circuit.{Circuit}
use Rattle.timing_analysis.specs.Case.{Case, faults, printed_tick}
use Rattle.listing.specs.Fault.{fault_line}
use Rattle.listing.specs.Head.{head}
use Rattle.listing.proofs.Parts.{both}
use Rattle.narrowing.specs.Constraint.{constraint_of}
use Rattle.fault_decider.specs.declared.answer.Answer.{Answer}
use Rattle.fault_decider.specs.declared.answer.Counts.{Counts}
use Rattle.fault_decider.specs.declared.verdict.Verdict.{Verdict}
use Rattle.fault_decider.specs.declared.verdict.Verdict.TheVariants.{Shown, Refuted, Window, Open}
use Rattle.fault_decider.specs.Decided.{AreCasesDecided, AreDecided, IsDecided, case_more, fault_more, head_of_case, no_case, no_fault, open_one, refuted_one, shown_one}
use Rattle.fault_decider.specs.Reporting.{AreCounted, AreTold, IsReport, IsTold}
use Rattle.fault_decider.specs.Verdict.{IsVerdict}

-- ---- counts

-- three counts, of which the verdict's own is one more
pub counted_more : (old new : Counts) (v : Verdict) → new.shown ≡ old.shown + shown_one v →
    new.refuted ≡ old.refuted + refuted_one v → new.left_open ≡ old.left_open + open_one v →
    (vs : List Verdict) → AreCounted old vs → AreCounted new (vs ++ v ∷ [])
counted_more old new v shown refuted left_open vs before = record {
  shown =
      shown ∙ ap (λ (n : ℕ). n + shown_one v) before.shown ∙ sym (sum_by_push shown_one vs v);
  refuted =
      refuted ∙ ap (λ (n : ℕ). n + refuted_one v) before.refuted
      ∙ sym (sum_by_push refuted_one vs v);
  left_open =
      left_open ∙ ap (λ (n : ℕ). n + open_one v) before.left_open
      ∙ sym (sum_by_push open_one vs v);
}

-- each verdict is one of the three
one_of_three : (v : Verdict) → shown_one v + refuted_one v + open_one v ≡ 1
one_of_three (Shown s) = refl
one_of_three (Refuted from leaves) = refl
one_of_three (Window from) = refl
one_of_three Open = refl

pub all_counted : (vs : List Verdict) →
    sum_by shown_one vs + sum_by refuted_one vs + sum_by open_one vs ≡ length vs
all_counted [] = refl
all_counted (v ∷ vs) =
    let shown = sum_by-cons shown_one v vs in
    let refuted = sum_by-cons refuted_one v vs in
    let left_open = sum_by-cons open_one v vs in
    let one = one_of_three v in
    let others = all_counted vs in
    omega (arith, shown, refuted, left_open, one, others)

-- ---- faults of a case

module _ (c : Circuit) (values : List CaseValue) (printed : ℕ) where
  pub decided_more : {fs : List Fault} {vs : List Verdict} {lines : List ℕ} (f : Fault) (v : Verdict)
      (bytes : List ℕ) → IsDecided c values printed f v bytes →
      AreDecided c values printed fs vs lines →
      AreDecided c values printed (fs ++ f ∷ []) (vs ++ v ∷ []) (lines ++ bytes)
  decided_more f v bytes is no_fault =
      subst (AreDecided c values printed (f ∷ []) (v ∷ [])) (append-nil bytes)
      (fault_more is no_fault)
  decided_more f v bytes is (fault_more {f = g} {fs = gs} {v = u} {vs = us} {bytes = first}
      {others = others} here rest) =
      subst (AreDecided c values printed (g ∷ gs ++ f ∷ []) (u ∷ us ++ v ∷ []))
      (sym (append_assoc first others bytes))
      (fault_more here (decided_more f v bytes is rest))

  -- no fault is told yet
  pub told_none : (start : Answer) → AreTold c values printed [] start start
  told_none start = record {
    verdicts = [];
    lines = [];
    are = no_fault;
    text = sym (append-nil start.bytes);
    counted = λ vs are. subst (AreCounted start.counts) (sym (append-nil vs)) are;
  }

  pub told_more : (f : Fault) (v : Verdict) (start old new : Answer) (before : List Fault) →
      IsVerdict c values (constraint_of f) printed v → IsTold c values f v old new →
      AreTold c values printed before start old →
      AreTold c values printed (before ++ f ∷ []) start new
  told_more f v start old new before is told so_far =
      let here : IsDecided c values printed f v (fault_line c f ++ told.said) =
      record { is = is; said = told.said; are = told.are; text = refl } in
      record {
        verdicts = so_far.verdicts ++ v ∷ [];
        lines = so_far.lines ++ (fault_line c f ++ told.said);
        are = decided_more f v (fault_line c f ++ told.said) here so_far.are;
        text = both start.bytes old.bytes new.bytes so_far.lines (fault_line c f ++ told.said)
            so_far.text (told.text ∙ append_assoc old.bytes (fault_line c f) told.said);
        counted = λ vs are.
            subst (AreCounted new.counts) (append_assoc vs so_far.verdicts (v ∷ []))
            (told.counted (vs ++ so_far.verdicts) (so_far.counted vs are));
      }

-- ---- cases

module _ (c : Circuit) (base : ℕ) where
  cases_more : {ks : List Case} {vs : List Verdict} {lines : List ℕ} (k : Case) (us : List Verdict)
      (bytes : List ℕ) →
      AreDecided c k.listed.values (printed_tick c base k) (faults c k) us bytes →
      AreCasesDecided c base ks vs lines →
      AreCasesDecided c base (ks ++ k ∷ []) (vs ++ us) (lines ++ (head_of_case c base k ++ bytes))
  cases_more k us bytes is no_case =
      subst (λ (zs : List Verdict). AreCasesDecided c base (k ∷ []) zs (head_of_case c base k ++ bytes))
      (append-nil us)
      (subst (λ (text : List ℕ). AreCasesDecided c base (k ∷ []) (us ++ []) text)
      (append-nil (head_of_case c base k ++ bytes)) (case_more is no_case))
  cases_more k us bytes is (case_more {k = l} {ks = ls} {vs = ws} {others = others}
      {bytes = first} {rest = rest} here more) =
      let last = head_of_case c base k ++ bytes in
      let all = case_more here (cases_more k us bytes is more) in
      subst
      (λ (zs : List Verdict).
      AreCasesDecided c base (l ∷ ls ++ k ∷ []) zs ((head_of_case c base l ++ first ++ rest) ++ last))
      (sym (append_assoc ws others us))
      (subst
      (λ (text : List ℕ). AreCasesDecided c base (l ∷ ls ++ k ∷ []) (ws ++ (others ++ us)) text)
      (sym (append_assoc (head_of_case c base l ++ first) rest last)) all)

  pub report_none : (version : ℕ) (answer : Answer) → answer.bytes ≡ head version c →
      AreCounted answer.counts [] → IsReport version c base answer []
  report_none version answer text counted = record {
    verdicts = [];
    lines = [];
    are = no_case;
    text = text ∙ sym (append-nil (head version c));
    counted = counted;
  }

  -- the faults of a case are told behind its line
  pub report_more : (version : ℕ) (k : Case) (values : List CaseValue) (tick : ℕ) (fs : List Fault)
      (old headed new : Answer) (cases : List Case) → k.listed.values ≡ values →
      tick ≡ printed_tick c base k → fs ≡ faults c k →
      headed.bytes ≡ old.bytes ++ head_of_case c base k → headed.counts ≡ old.counts →
      AreTold c values tick fs headed new → IsReport version c base old cases →
      IsReport version c base new (cases ++ k ∷ [])
  report_more version k values tick fs old headed new cases are_values is_tick are_faults line same
      told so_far =
      let here : AreDecided c k.listed.values (printed_tick c base k) (faults c k) told.verdicts told.lines =
      subst (λ (vs : List CaseValue). AreDecided c vs (printed_tick c base k) (faults c k) told.verdicts told.lines)
      (sym are_values)
      (subst (λ (t : ℕ). AreDecided c values t (faults c k) told.verdicts told.lines) is_tick
      (subst (λ (gs : List Fault). AreDecided c values tick gs told.verdicts told.lines) are_faults told.are)) in
      record {
        verdicts = so_far.verdicts ++ told.verdicts;
        lines = so_far.lines ++ (head_of_case c base k ++ told.lines);
        are = cases_more k told.verdicts told.lines here so_far.are;
        text =
            both (head version c) old.bytes new.bytes so_far.lines
            (head_of_case c base k ++ told.lines) so_far.text
            (both old.bytes headed.bytes new.bytes (head_of_case c base k) told.lines line told.text);
        counted =
            told.counted so_far.verdicts
            (subst (λ (n : Counts). AreCounted n so_far.verdicts) (sym same) so_far.counted);
      }
