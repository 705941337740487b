use Rattle.std.proofs.Common.{◌≡◌, get_or, sym}
use Rattle.std.proofs.lemmas.List.Elements.{All-same}
use Rattle.case_analysis.specs.Reached.{nets_set}
use Rattle.case_analysis.proofs.SameNets.{all_reached}
use Rattle.case_analysis.proofs.reached.shared_reach.Goals as goal

pub returns-in_ok-reached-in-Some : goal.returns-in_ok-reached-in-Some
returns-in_ok-reached-in-Some c = λ k d below.
    let first = c.in-Some.first.now in
    let cases = c.args.cases.now in
    let same = All-same (λ case. nets_set first ≡ nets_set case) cases c.as_slice.result.now (sym c.as_slice.ensures)
    (c.all_set_the_same.ensures c.if-all_set_the_same.true) in
    all_reached c.args.c.now first (get_or cases k d) c.in_ok-reached-in-Some.reached (same k d below) c.in_ok-reached-in-Some.ensures
