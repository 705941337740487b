use Rattle.std.proofs.Common.{◌≡◌, ◌∙◌, ℕ, List, take, sym, subst, arith}
use Rattle.netlist_import.specs.Fresh.{IsTried}
use Rattle.netlist_import.proofs.Tried.{tried_by_name, tried_with}
use Rattle.netlist_import.proofs.names.Names.new_numbered.Goals as goal

pub invariant_of-self-2 : goal.invariant_of-self-2
invariant_of-self-2 c =
    let taken = c.self.inside.taken.keys in
    let stem = c.in_ok-stem.stem in
    let n = c.in_ok-number.number in
    let front : stem ≡ take 62 c.args.wanted.now = c.in_ok-stem.ensures.copied ∙ c.front.ensures in
    let here : IsTried taken (stem, n) =
    subst (λ (s : List ℕ). IsTried taken (s, n)) (sym front)
    (tried_by_name taken c.args.wanted.now n (omega arith) c.in_ok-number.ensures.below) in
    rw c.in_ok-insert.ensures.entries (tried_with taken c.self.inside.next.entries stem n
    c.self.invariant here)
