use Rattle.std.proofs.Common.{◌≡◌, ℕ, ◌+◌, ◌-◌, length, ap, sym, subst, ◌∙◌, arith, slice_index_or}
use Rattle.std.specs.Prelude.{Option, unwrap_or}
use Rattle.slack_rows.proofs.Beginning.{Leads, leads_more, read_or}
use Rattle.slack_rows.proofs.rows.places_back.Goals as goal

pub loop-preserved : goal.loop-preserved
loop-preserved c =
    let sets = c.args.sets.now.keys in
    let before = c.loop.left - 1 in
    let long : c.len-end.result ≡ length c.args.sets.now.keys = c.len-end.ensures.len in
    let less = c.loop-test.true in
    let some = c.if-left-eq0.false in
    let next : slice_index_or c.args.sets.now.keys (c.loop.left - 1) (0, 0) ≡ c.unwrap_or-before.result =
    sym (c.unwrap_or-before.ensures ∙ ap (λ (o : Option (ℕ × ℕ)). unwrap_or o (0, 0)) (c.copied.ensures ∙ c.get_index.ensures.key)
    ∙ read_or c.args.sets.now.keys (c.loop.left - 1) (0, 0)) in
    subst (Leads sets c.args.set (c.loop.counter + 1) c.unwrap_or-before.result.0) (sym c.in_ok-push.ensures.ok)
    (leads_more sets c.args.set c.loop.counter c.loop.left c.loop.places c.unwrap_or-before.result (omega (arith, less, long)) (omega (arith, some))
    next c.loop.invariant)
