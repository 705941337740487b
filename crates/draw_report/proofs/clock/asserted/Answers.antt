use Rattle.std.proofs.Common.{◌∷◌, [], ◌++◌, false, get_or, length, arith, ap, ap₂, sym, ◌∙◌}
use Rattle.std.specs.Prelude.{slice_get}
use Rattle.std.proofs.lemmas.List.FromFn.{get_or-map-range_with_len, length-map-range_with_len, map-range_with_len_more}
use Rattle.draw_report.specs.Row.{asserts_in}
use Rattle.draw_report.proofs.clock.asserted.Goals as goal

pub loop-number-preserved : goal.loop-number-preserved
loop-number-preserved c =
    c.in_ok-push.ensures.ok
    ∙ ap₂ (λ l b. l ++ b ∷ []) c.loop-number.invariant c.asserts_in.ensures
    ∙ sym (map-range_with_len_more (λ n. asserts_in (slice_get c.args.c.now.nets n)) 0
    c.loop-number.number c.loop-number.number (omega arith))

pub returns-clause-long : goal.returns-clause-long
returns-clause-long c =
    ap length c.loop-number.invariant
    ∙ length-map-range_with_len (λ n. asserts_in (slice_get c.args.c.now.nets n)) 0
    c.loop-number.number
    ∙ omega arith

pub returns-clause-each : goal.returns-clause-each
returns-clause-each c = λ n inside.
    ap (λ l. get_or l n false) c.loop-number.invariant
    ∙ get_or-map-range_with_len (λ k. asserts_in (slice_get c.args.c.now.nets k)) 0
    c.loop-number.number n n false (omega arith) (omega arith)
