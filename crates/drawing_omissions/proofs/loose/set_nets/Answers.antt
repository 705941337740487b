use Rattle.std.proofs.Common.{[], sym, ◌∙◌}
use Rattle.std.proofs.lemmas.List.{get_or_default}
use Rattle.drawing_omissions.proofs.Loosing.{cases_more}
use Rattle.drawing_omissions.proofs.loose.set_nets.Goals as goal

pub loop-case-preserved : goal.loop-case-preserved
loop-case-preserved c = record {
  long = c.mark_case.ensures.long ∙ c.loop-case.invariant.long;
  are = λ i.
      cases_more c.args.cases.now c.loop-case.case-index c.as_slice.result.now c.loop-case.set c.mark_case.new.set c.loop-case-test.true
      (sym (c.as_slice.ensures ∙ c.case-item.is ∙ get_or_default c.args.cases.now c.loop-case.case-index c.case-item.result [] c.loop-case-test.true))
      i (c.loop-case.invariant.are i) (c.mark_case.ensures.marks i);
}
