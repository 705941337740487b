use Rattle.std.proofs.Common.{◌≡◌, ℕ, ◌+◌, ◌-◌, ◌<◌, ◌≤◌, ◌∙◌, List, length, map, take, drop, get_or, arith, sym, ap, subst}
use Rattle.std.specs.Prelude.{reverse}
use Rattle.std.proofs.lemmas.List.{get_or-take, length-take-le, take_rest}
use Rattle.drawing_tree.specs.declared.connection.Conn.{Conn}
use Rattle.drawing_tree.specs.Tree.{connection_of}
use Rattle.format_upgrade.proofs.Ordered.{reversed_more, reversed_all}
use Rattle.format_upgrade.proofs.turned.reversed.Goals as goal

pub loop-place-preserved : goal.loop-place-preserved
loop-place-preserved c =
    let items = c.args.items.now in
    let count = c.args.count in
    let place = c.loop-place.place in
    let x = c.index-items-place.result in
    let first : List Conn = take count items in
    let within : place ≤ count = c.loop-place.invariant.0 in
    let some : 0 < place = c.loop-place-test.true in
    let many : length first ≡ count = length-take-le count items c.requires in
    let here : x ≡ get_or first (place - 1) x = c.index-items-place.is ∙ sym (get_or-take count items (place - 1) x (omega arith)) in
    let so_far : map connection_of c.loop-place.copies ≡ reverse (map connection_of (drop (place - 1 + 1) first)) =
    subst (λ (n : ℕ). map connection_of c.loop-place.copies ≡ reverse (map connection_of (drop n first))) (omega arith) c.loop-place.invariant.1 in (
      omega arith,
      ap (map connection_of) c.in_ok-push.ensures.ok
          ∙ reversed_more connection_of c.loop-place.copies first (place - 1) x c.in_ok-again.field-0 (omega arith) here c.in_ok-again.ensures so_far,
    )

pub returns : goal.returns
returns c =
    let items = c.args.items.now in
    let all : length (drop c.args.count items) ≤ c.loop-item.item-index =
    omega (arith, c.loop-item-test.false, ap length (take_rest items c.args.count)) in
    reversed_all connection_of c.loop-item.copies items c.args.count c.loop-item.item-index all c.loop-item.invariant
