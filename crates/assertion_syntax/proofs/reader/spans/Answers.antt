use Rattle.std.proofs.Common.{◌∷◌, [], length-append, arith}
use Rattle.assertion_syntax.proofs.SpansSoFar.{goes_on, goes_shorter, goes_to_end, goes_nowhere}
use Rattle.assertion_syntax.proofs.reader.spans.Goals as goal

pub returns-in-None : goal.returns-in-None
returns-in-None c =
    rw c.in_ok-push.ensures.ok
    (goes_to_end c.args.text.now c.spans.spans c.spans.rest.now c.in-Some.next c.in-Some.after.now c.spans.invariant.onward c.spans.invariant.room c.in-Some.ensures c.in-None.ensures)

pub spans-smaller : goal.spans-smaller
spans-smaller c = goes_shorter c.spans.rest.now c.in-Some.next c.in-Some.after.now c.in-Some-literal.more.now c.in-Some.ensures c.in-Some-literal.ensures

pub spans-preserved : goal.spans-preserved
spans-preserved c = rw c.in_ok-push.ensures.ok record {
  room =
      let shorter = goes_shorter c.spans.rest.now c.in-Some.next c.in-Some.after.now c.in-Some-literal.more.now c.in-Some.ensures c.in-Some-literal.ensures in
      omega (arith, c.spans.invariant.room, length-append c.spans.spans (c.in-Some.next ∷ []));
  onward = goes_on c.args.text.now c.spans.spans c.spans.rest.now c.in-Some.next c.in-Some.after.now c.in-Some-literal.more.now c.spans.invariant.onward c.in-Some.ensures c.in-Some-literal.ensures;
}

pub returns : goal.returns
returns c = goes_nowhere c.args.text.now c.spans.spans c.spans.rest.now c.spans.invariant.onward c.spans.invariant.room c.in_default.ensures
