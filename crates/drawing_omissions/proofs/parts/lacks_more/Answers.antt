use Rattle.std.proofs.Common.{◌≡◌, suc, ◌+◌, ◌*◌, ◌^◌, ◌≤◌, length, ap, sym, subst, ◌∙◌, arith}
use Rattle.drawing_omissions.specs.Open.{count_at, most_entries, parts, parts_before}
use Rattle.drawing_omissions.proofs.AddingHeld.{before_next, enough, few_at, parts_next, same_test, too_few, twice}
use Rattle.drawing_omissions.proofs.parts.lacks_more.Goals as goal

pub returns-then-left-count : goal.returns-then-left-count
returns-then-left-count c =
    let cases = c.args.cases.now in
    let e = c.loop-entries.entries in
    let next = parts_next cases e in
    let left = c.loop-entries.invariant.left in
    let full : 2 ^ e ≤ parts cases e = omega (arith, next, left, c.count_of-count.ensures.is, c.if-left-count.true) in
    sym (enough cases e (most_entries cases) (omega (arith, c.loop-entries-test.true, c.most_entries-most.ensures)) full)

pub returns-then-cases-rest : goal.returns-then-cases-rest
returns-then-cases-rest c =
    let cases = c.args.cases.now in
    let e = c.loop-entries.entries in
    let next = parts_next cases e in
    let left = c.loop-entries.invariant.left in
    let few : parts cases e + length cases ≤ 2 ^ e = omega (arith, next, left, c.count_of-count.ensures.is, c.if-left-count.false, c.if-cases-rest.true) in
    sym (too_few cases (length cases) e (most_entries cases) c.requires.some (omega (arith, c.loop-entries-test.true, c.most_entries-most.ensures)) (few_at cases) few)

pub loop-entries-preserved : goal.loop-entries-preserved
loop-entries-preserved c =
    let cases = c.args.cases.now in
    let e = c.loop-entries.entries in
    let next = parts_next cases e in
    let before = before_next cases e in
    let left = c.loop-entries.invariant.left in
    let up : 2 ^ (e + 1) ≡ 2 * 2 ^ e = let s : e + 1 ≡ suc e = omega arith in ap (λ n. 2 ^ n) s ∙ twice e in
    record {
      left = omega (arith, next, before, left, up, c.count_of-count.ensures.is, c.if-left-count.false);
      some = omega (arith, c.if-left-count.false);
    }

pub returns : goal.returns
returns c =
    let cases = c.args.cases.now in
    let e = c.loop-entries.entries in
    let m = most_entries cases in
    let all : e ≡ m = omega (arith, c.loop-entries-test.false, c.most_entries-most.ensures) in
    let next = parts_next cases m in
    let left : 2 ^ m ≡ c.loop-entries.left + 2 * parts_before cases m = subst (λ n. 2 ^ n ≡ c.loop-entries.left + 2 * parts_before cases n) all c.loop-entries.invariant.left in
    let counted : c.count_of-last.result ≡ count_at cases m = c.count_of-last.ensures.is ∙ ap (count_at cases) c.most_entries-most.ensures in
    same_test c.count_of-last.result c.loop-entries.left (parts cases m) (2 ^ m)
    (λ h. omega (arith, h, next, left, counted)) (λ h. omega (arith, h, next, left, counted))
