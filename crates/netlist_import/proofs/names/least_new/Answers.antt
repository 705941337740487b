use Rattle.std.proofs.Common.{◌≡◌, ◌≤◌, ◌∙◌, ℕ, List, true, false, not, length, sym, ap, subst, arith, bytes_eq}
use Rattle.std.specs.List.{list_any}
use Rattle.netlist_import.specs.Fresh.{AreTaken, is_new}
use Rattle.netlist_import.proofs.New.{least_is, new_past, taken_within}
use Rattle.netlist_import.proofs.names.least_new.Goals as goal

pub returns-then-not-contains-clause-is : goal.returns-then-not-contains-clause-is
returns-then-not-contains-clause-is c =
    let taken = c.args.taken.now.keys in
    let name = c.args.wanted.now in
    let n = c.loop-number.number in
    let all = c.loop-number.invariant in
    let none : list_any (bytes_eq c.in_ok-name.name) taken ≡ false = sym c.contains.ensures
    ∙ c.if-not-contains.true in
    least_is taken name n (taken_within taken name n (omega arith) all) all
    (λ less. subst (λ (m : List ℕ). is_new taken m ≡ true) c.in_ok-name.ensures (ap not none))

pub returns-clause-is : goal.returns-clause-is
returns-clause-is c =
    let taken = c.args.taken.now.keys in
    let name = c.args.wanted.now in
    let n = c.len-most.result in
    let many : n ≡ length taken = c.len-most.ensures.len in
    let start = taken_within taken name c.args.start (omega arith) c.requires in
    let last : c.loop-number.number ≤ n = c.loop-number.auto.number-end (omega arith) in
    let same : c.loop-number.number ≡ n = omega arith in
    let all : AreTaken taken name n = subst (λ (k : ℕ). AreTaken taken name k) same
    c.loop-number.invariant in
    least_is taken name n (omega arith) all (λ less. absurd (omega arith))

pub returns-clause-new : goal.returns-clause-new
returns-clause-new c =
    let taken = c.args.taken.now.keys in
    let name = c.args.wanted.now in
    let n = c.len-most.result in
    let many : n ≡ length taken = c.len-most.ensures.len in
    let start = taken_within taken name c.args.start (omega arith) c.requires in
    let last : c.loop-number.number ≤ n = c.loop-number.auto.number-end (omega arith) in
    let same : c.loop-number.number ≡ length taken = omega arith in
    let all : AreTaken taken name (length taken) =
    subst (λ (k : ℕ). AreTaken taken name k) same c.loop-number.invariant in
    rw many (new_past taken name (omega arith) all)
