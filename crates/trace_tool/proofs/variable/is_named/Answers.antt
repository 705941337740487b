use Rattle.std.proofs.Common.{ℕ, ◌≡◌, ◌<◌, ◌≤◌, Bool, true, false, ◌&&◌, List, length, arith, rules, tests, ap, sym, ◌∙◌}
use Rattle.std.specs.Prelude.{nat_lt}
use Rattle.std.specs.Str.{bytes_eq}
use Rattle.trace_tool.specs.Name.{name_of}
use Rattle.trace_tool.proofs.Searching.{found_is}
use Rattle.trace_tool.proofs.variable.is_named.Goals as goal

pub returns-then-place-net_count : goal.returns-then-place-net_count
returns-then-place-net_count c =
    let found = found_is c.args.c.now c.args.text.now c.first_from-place.result c.known.ensures c.first_from-place.ensures.before c.first_from-place.ensures.after in
    let count = c.net_count.ensures in
    let below : c.first_from-place.result < length c.args.c.now.nets = (let inside = c.if-place-net_count.true in omega (arith, count, inside)) in
    let on : nat_lt c.first_from-place.result (length c.args.c.now.nets) ≡ true = search (rules, tests) in
    c.eq.ensures ∙ ap (λ (t : List ℕ). bytes_eq t c.args.text.now) c.text_at.ensures
    ∙ ap (λ (b : Bool). b && bytes_eq (name_of c.args.c.now c.first_from-place.result).text c.args.text.now) (sym on) ∙ found

pub returns-else-place-net_count : goal.returns-else-place-net_count
returns-else-place-net_count c =
    let found = found_is c.args.c.now c.args.text.now c.first_from-place.result c.known.ensures c.first_from-place.ensures.before c.first_from-place.ensures.after in
    let count = c.net_count.ensures in
    let past : length c.args.c.now.nets ≤ c.first_from-place.result = (let out = c.if-place-net_count.false in omega (arith, count, out)) in
    let off : nat_lt c.first_from-place.result (length c.args.c.now.nets) ≡ false = search (rules, tests) in
    ap (nat_lt c.first_from-place.result) count ∙ off
    ∙ ap (λ (b : Bool). b && bytes_eq (name_of c.args.c.now c.first_from-place.result).text c.args.text.now) (sym off) ∙ found
