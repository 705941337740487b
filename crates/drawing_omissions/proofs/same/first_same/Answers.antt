use Rattle.std.proofs.Common.{[], sym, ◌∙◌, arith}
use Rattle.std.proofs.lemmas.List.{get_or_read}
use Rattle.drawing_omissions.specs.Same.{is_same_at}
use Rattle.drawing_omissions.proofs.FindingHeld.{first_passes, none_passes, same_here}
use Rattle.drawing_omissions.proofs.same.first_same.Goals as goal

pub returns-then-has_all : goal.returns-then-has_all
returns-then-has_all c =
    let cases = c.args.cases.now in
    let j = c.loop-earlier.earlier in
    let own = c.as_slice-case.result.now in
    let other = c.as_slice-other.result.now in
    sym (first_passes (is_same_at cases c.args.place) 0 c.args.place j (omega arith) (omega (arith, c.loop-earlier-test.true))
    (same_here cases c.args.place j own other
    (c.as_slice-case.ensures ∙ get_or_read cases c.args.place c.index-cases-place.result c.requires.exists c.index-cases-place.is [])
    (c.as_slice-other.ensures ∙ get_or_read cases j c.index-cases-earlier.result (omega (arith, c.loop-earlier-test.true, c.requires.exists)) c.index-cases-earlier.is [])
    (omega (arith, c.if-case-other.true)) (sym (c.has_all.ensures own c.in_ok-held.ensures) ∙ c.if-has_all.true))
    (λ i low above. c.loop-earlier.invariant i above))

pub returns : goal.returns
returns c =
    sym (none_passes (is_same_at c.args.cases.now c.args.place) 0 c.args.place
    (λ i low above. c.loop-earlier.invariant i (omega (arith, above, c.loop-earlier-test.false))))
