use Rattle.std.proofs.Common.{◌≡◌, ◌∙◌, ap, Some, is_some, false, length, [], arith, rules}
use Rattle.std.specs.Prelude.{slice_get}
use Rattle.std.proofs.lemmas.Grind.{common_steps}
use Rattle.std.proofs.lemmas.Option.{slice_get_within}
use Rattle.trace_tool.proofs.Meeting.{keeps_or_strays, none_from}
use Rattle.trace_tool.proofs.stray.keeps_at.Goals as goal

pub returns : goal.returns
returns c = λ choices.
    let circuit = c.args.c.now in
    let n = c.net_at-number.result in
    let net = c.in-Some.net.now in
    let here : slice_get circuit.nets n ≡ Some net = first_of (search rules, grind (arith, common_steps)) in
    let lacks : is_some net.driver ≡ false = first_of (cc, search rules, grind (arith, common_steps)) in
    let inside = slice_get_within circuit.nets n net here in
    let rows = c.requires.traces.rows in
    let long : length c.row_of.result.now ≡ c.args.ticks = ap length c.row_of.ensures ∙ c.requires.traces.long n [] (omega arith) in
    keeps_or_strays circuit c.args.ticks choices c.args.bits.now c.args.place n c.header.result.now net c.row_of.result.now c.meets.result
    c.requires.inside c.net_at-number.ensures c.header.ensures here (none_from net.driver lacks) c.row_of.ensures long (rw c.or.ensures at c.meets.ensures)
