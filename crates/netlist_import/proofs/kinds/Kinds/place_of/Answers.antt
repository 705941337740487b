use Rattle.std.proofs.Common.{◌≡◌, ◌∙◌, List, drop, ap, arith, ℕ, length}
use Rattle.netlist_import.specs.declared.kinds.Kind.{Kind}
use Rattle.netlist_import.specs.Kinds.{joins}
use Rattle.netlist_import.proofs.Joining.{joins_within}
use Rattle.netlist_import.proofs.Starts.{place_is, rest_taken}
use Rattle.netlist_import.proofs.kinds.Kinds.place_of.Goals as goal

pub overflow_add-result : goal.overflow_add-result
overflow_add-result c =
    let kinds = c.self.inside.list.items in
    let cell = c.args.cell.now in
    let start = c.start_of-start.result in
    let len = c.len.ensures in
    let many = c.self.inside.list.ok.0 in
    let count : c.len.result ≡ length kinds = omega arith in
    let among : c.place_among.result ≡ joins (drop start kinds) cell =
    c.place_among.ensures
    ∙ ap (λ (ks : List Kind). joins ks cell) (rest_taken c.deref.result.now start)
    ∙ ap (λ (ks : List Kind). joins (drop start ks) cell) c.deref.ensures.value in
    let place = place_is c.sort_of.result cell c.sort_of.ensures.kind c.sort_of.ensures.parameters
    kinds c.self.inside.starts.entries c.len.result start c.place_among.result
    c.self.invariant count c.start_of-start.ensures among in
    let within = joins_within kinds cell in
    let small = c.self.inside.list.small in
    omega arith

pub returns-clause-place : goal.returns-clause-place
returns-clause-place c =
    let kinds = c.self.inside.list.items in
    let cell = c.args.cell.now in
    let start = c.start_of-start.result in
    let len = c.len.ensures in
    let many = c.self.inside.list.ok.0 in
    let count : c.len.result ≡ length kinds = omega arith in
    let among : c.place_among.result ≡ joins (drop start kinds) cell =
    c.place_among.ensures
    ∙ ap (λ (ks : List Kind). joins ks cell) (rest_taken c.deref.result.now start)
    ∙ ap (λ (ks : List Kind). joins (drop start ks) cell) c.deref.ensures.value in
    let place = place_is c.sort_of.result cell c.sort_of.ensures.kind c.sort_of.ensures.parameters
    kinds c.self.inside.starts.entries c.len.result start c.place_among.result
    c.self.invariant count c.start_of-start.ensures among in
    place ∙ ap (λ (ks : List Kind). joins ks cell) c.self.view_is

pub returns-clause-small : goal.returns-clause-small
returns-clause-small c =
    let kinds = c.self.inside.list.items in
    let cell = c.args.cell.now in
    let start = c.start_of-start.result in
    let len = c.len.ensures in
    let many = c.self.inside.list.ok.0 in
    let count : c.len.result ≡ length kinds = omega arith in
    let among : c.place_among.result ≡ joins (drop start kinds) cell =
    c.place_among.ensures
    ∙ ap (λ (ks : List Kind). joins ks cell) (rest_taken c.deref.result.now start)
    ∙ ap (λ (ks : List Kind). joins (drop start ks) cell) c.deref.ensures.value in
    let place = place_is c.sort_of.result cell c.sort_of.ensures.kind c.sort_of.ensures.parameters
    kinds c.self.inside.starts.entries c.len.result start c.place_among.result
    c.self.invariant count c.start_of-start.ensures among in
    let within = joins_within kinds cell in
    let small = c.self.inside.list.small in
    omega arith
