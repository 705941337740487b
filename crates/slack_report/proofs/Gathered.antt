-- The slacks over one case more.
use Rattle.std.proofs.Common.{◌≡◌, ◌∙◌, ℕ, List, [], ◌∷◌, ◌++◌, sym, ap, subst}
use Rattle.std.specs.List.{AllByRecursion}
use Rattle.std.proofs.lemmas.List.{map_push}
use Rattle.flat_circuit.specs.Circuit.{Circuit}
use Rattle.timing_analysis.specs.Case.{Case as Settled}
use Rattle.slack_rows.specs.declared.rows.Rows.{Rows}
use Rattle.slack_rows.specs.Laws.{AreWaves}
use Rattle.slack_rows.specs.Limit.{Case}
use Rattle.slack_report.specs.Answer.{AreRows, case_of, cases_of}

pub waves_more : (c : Circuit) (cases : List Case) (one : Case) →
    AllByRecursion (λ (case : Case). AreWaves c case.waves) cases → AreWaves c one.waves →
    AllByRecursion (λ (case : Case). AreWaves c case.waves) (cases ++ one ∷ [])
waves_more c [] one are here = (here, tt)
waves_more c (case ∷ cases) one are here = (are.0, waves_more c cases one are.1 here)

pub rows_more : (c : Circuit) (cases : List Settled) (one : Settled) (number : ℕ) (rows : Rows) →
    number ≡ one.listed.number →
    AreRows c (cases_of cases ++ record { number = number; waves = one.waves } ∷ []) rows →
    AreRows c (cases_of (cases ++ one ∷ [])) rows
rows_more c cases one number rows same are =
    subst (λ (all : List Case). AreRows c all rows)
    (ap (λ (n : ℕ). cases_of cases ++ record { number = n; waves = one.waves } ∷ []) same
    ∙ sym (map_push case_of cases one)) are
