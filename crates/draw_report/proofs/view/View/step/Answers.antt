use Rattle.std.proofs.Common.{◌≡◌, ℕ, ◌+◌, ◌*◌, ◌<◌, ◌≤◌, true, false, List, [], ◌∷◌, length, get_or, drop, arith, sym, ◌∙◌}
use Rattle.std.specs.Prelude.{nat_le}
use Rattle.std.proofs.lemmas.Bool.Decides.{nat_tests}
use Rattle.std.proofs.lemmas.List.{at_drop_more}
use Rattle.draw_report.specs.Grid.{step_among}
use Rattle.draw_report.proofs.view.View.step.Goals as goal

among_here : (count : ℕ) (ss : List ℕ) (i : ℕ) → i < length ss → count ≤ 16 * get_or ss i 0 →
    step_among count (drop i ss) ≡ get_or ss i 0
among_here count ss i within fits =
    let test : nat_le count (16 * get_or ss i 0) ≡ true = grind (arith, nat_tests) in
    at_drop_more (step_among count) ss i 0 within ∙ rw test

among_later : (count : ℕ) (ss : List ℕ) (i : ℕ) → i < length ss → 16 * get_or ss i 0 < count →
    step_among count (drop i ss) ≡ step_among count (drop (i + 1) ss)
among_later count ss i within more =
    let test : nat_le count (16 * get_or ss i 0) ≡ false = grind (arith, nat_tests) in
    at_drop_more (step_among count) ss i 0 within ∙ rw test

abbrev steps : List ℕ
steps =
    1 ∷ 2 ∷ 5 ∷ 10 ∷ 20 ∷ 50 ∷ 100 ∷ 200 ∷ 500 ∷ 1000 ∷ 2000 ∷ 5000 ∷ []

pub returns-then-from-clause-is : goal.returns-then-from-clause-is
returns-then-from-clause-is c =
    sym (among_here c.args.self.count steps c.loop-step.step-index (omega arith) (omega arith))
    ∙ c.loop-step.invariant

pub loop-step-preserved : goal.loop-step-preserved
loop-step-preserved c =
    sym (among_later c.args.self.count steps c.loop-step.step-index (omega arith) (omega arith))
    ∙ c.loop-step.invariant
