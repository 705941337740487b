use Rattle.std.proofs.Common.{rules, arith, ◌≡◌, ◌-◌, true, get_or, ℕ, List, leb, leb-true, sym, subst}
use Rattle.std.specs.List.Sorted.{IsPartitionedBy}
use Rattle.std.proofs.lemmas.List.Sorted.{IsPartitionPoint-from_clause, IsPartitionedBy-leb}
use Rattle.run_wave.proofs.Marks.{marks_rise}
use Rattle.run_wave.proofs.run_list.RunList.marks_until.Goals as goal

pub returns-clause-before : goal.returns-clause-before
returns-clause-before g c some =
    let marks = c.args.self.now.marks.items in
    let last = c.partition_point.result - 1 in
    let same : c.deref.result.now ≡ marks = c.deref.ensures.value in
    let parted = subst (IsPartitionedBy (λ (y : ℕ). leb y c.args.slot)) (sym same)
    (IsPartitionedBy-leb (λ (y : ℕ). y) marks c.args.slot (marks_rise c.args.self.now.runs.items marks c.args.self.now.marked)) in
    let point = IsPartitionPoint-from_clause (λ (y : ℕ). leb y c.args.slot) _ _ c.partition_point.ensures.partitioned parted (λ a r q k. search rules) in
    let test = subst (λ (l : List ℕ). leb (get_or l last 0) c.args.slot ≡ true) same
    (point.0 last 0 (omega (arith, some)) (omega (arith, some))) in
    leb-true (get_or marks last 0) c.args.slot test
