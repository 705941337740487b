use Rattle.std.proofs.Common.{ℕ, List, Option, Some, IfSome, sym, subst}
use Rattle.netlist_import.specs.Fresh.{IsTried}
use Rattle.netlist_import.proofs.Tried.{tried_at}
use Rattle.netlist_import.proofs.names.Names.next_number.Goals as goal

pub returns-in-Some : goal.returns-in-Some
returns-in-Some c =
    let taken = c.self.inside.taken.keys in
    let known = tried_at taken c.self.inside.next.entries c.args.stem.now c.self.invariant in
    let here : IfSome (Some c.in-Some.number.now) (λ n. IsTried taken (c.args.stem.now, n)) =
    subst (λ (o : Option ℕ). IfSome o (λ n. IsTried taken (c.args.stem.now, n)))
    (sym c.in-Some.ensures.value) known in
    subst (λ (t : List (List ℕ)). IsTried t (c.args.stem.now, c.in-Some.number.now)) c.self.view_is
    here
