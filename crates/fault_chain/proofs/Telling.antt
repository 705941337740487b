-- What is reported after one case more.
use Rattle.std.proofs.Common.{◌≡◌, ℕ, ◌+◌, List, [], ◌∷◌, ◌++◌, length, sym, ap, ◌∙◌}
use Rattle.std.specs.List.{flat_map}
use Rattle.std.proofs.lemmas.Grind.{flat_map-append}
use Rattle.std.proofs.lemmas.List.{append-nil, append_assoc}
use Rattle.std.proofs.lemmas.List.Concat.{flat_map-cons}
use Rattle.std.proofs.lemmas.List.Sums.{sum_by_push}
use Rattle.flat_circuit.specs.declared.fault.Fault.{Fault}
use Rattle.flat_circuit.specs.Circuit.{Circuit}
use Rattle.timing_analysis.specs.Case.{Case, fault_count, faults, faults_of}
use Rattle.fault_chain.specs.Report.{case_lines, case_text}

last_text : (c : Circuit) (cases : List Case) (one : Case) → flat_map (case_text c) (cases ++ one ∷ []) ≡ flat_map (case_text c) cases ++ case_text c one
last_text c cases one =
    flat_map-append (case_text c) cases (one ∷ [])
    ∙ ap (λ (text : List ℕ). flat_map (case_text c) cases ++ text) (flat_map-cons (case_text c) one [] ∙ append-nil (case_text c one))

-- the text of the case, with this number and these faults, goes after
pub text_more : (c : Circuit) (head before after : List ℕ) (cases : List Case) (one : Case) (number : ℕ) (found : List Fault) →
    before ≡ head ++ flat_map (case_text c) cases → number ≡ one.listed.number → found ≡ faults_of c one.waves →
    after ≡ before ++ case_lines c number one.waves found → after ≡ head ++ flat_map (case_text c) (cases ++ one ∷ [])
text_more c head before after cases one number found were same are is =
    is ∙ (λ k. were k ++ case_lines c (same k) one.waves (are k))
    ∙ append_assoc head (flat_map (case_text c) cases) (case_text c one)
    ∙ ap (λ (text : List ℕ). head ++ text) (sym (last_text c cases one))

-- and its faults are counted
pub count_more : (c : Circuit) (before after : ℕ) (cases : List Case) (one : Case) (found : List Fault) →
    before ≡ fault_count c cases → found ≡ faults_of c one.waves → after ≡ before + length found → after ≡ fault_count c (cases ++ one ∷ [])
count_more c before after cases one found were are is =
    is ∙ (λ k. were k + length (are k)) ∙ sym (sum_by_push (λ (case : Case). length (faults c case)) cases one)
