use Rattle.std.proofs.Common.{◌≡◌, ◌∙◌, ◌+◌, ◌-◌, ◌++◌, ◌∷◌, [], List, ℕ, ap, sym, arith}
use Rattle.std.specs.List.{range_with_len}
use Rattle.std.proofs.lemmas.List.{append_assoc, append-nil}
use Rattle.vector_names.proofs.Ranges.{range_more}
use Rattle.flat_circuit.proofs.order.add_stretch.Goals as goal

pub loop-number-init : goal.loop-number-init
loop-number-init c =
    let b = c.args.stretch.begin in
    let none : b - b ≡ 0 = omega arith in
    (rw none (sym (append-nil c.args.order.now.items)), omega arith, omega arith)

pub loop-number-preserved : goal.loop-number-preserved
loop-number-preserved c =
    let b = c.args.stretch.begin in
    let n = c.loop-number.number in
    let old = c.args.order.now.items in
    let from = c.loop-number.invariant.1 in
    let next : n - b + 1 ≡ n + 1 - b = omega arith in (
      c.in_ok-push.ensures.items ∙ ap (λ (x : List ℕ). x ++ n ∷ []) c.loop-number.invariant.0 ∙ append_assoc old (range_with_len b (n - b)) (n ∷ [])
          ∙ ap (λ (x : List ℕ). old ++ x) (sym (range_more b (n - b) n (omega arith)) ∙ ap (range_with_len b) next),
      omega arith,
      omega (arith, c.loop-number-test.true, from),
    )

pub returns : goal.returns
returns c =
    let b = c.args.stretch.begin in
    let n = c.loop-number.number in
    let e = c.args.stretch.end in
    let from = c.loop-number.invariant.1 in
    let within = c.loop-number.invariant.2 in
    let all : n - b ≡ e - b = omega (arith, c.loop-number-test.false) in
    c.loop-number.invariant.0 ∙ ap (λ (k : ℕ). c.args.order.now.items ++ range_with_len b k) all
