use Rattle.std.proofs.Common.{◌≡◌, ap, rules, length}
use Rattle.std.specs.List.{range_with_len}
use Rattle.std.specs.Ordering.{is_lt}
use Rattle.std.proofs.lemmas.List.Sorted.{ranks_by, IsPermutation-trans}
use Rattle.std.proofs.lemmas.Fn.{always_returns_same}
use Rattle.std.proofs.lemmas.List.{length-map}
use Rattle.flat_circuit.specs.Name.{name_cmp, name_at}
use Rattle.flat_circuit.specs.Circuit.{net_names, net_name}
use Rattle.flat_circuit.proofs.Names.{name_cmp_total}
use Rattle.flat_circuit.proofs.order.by_name.Goals as goal

pub returns : goal.returns
returns c =
    let ns = net_names c.args.nets.now in
    record {
      each = rw (length-map c.args.nets.now net_name)
          (IsPermutation-trans (range_with_len 0 (length c.args.nets.now)) c.in_ok-order.order.items c.sort_by.new.self.items
          c.in_ok-order.ensures c.sort_by.ensures.permutation);
      sorted = c.in_ok-sort_by.ensures.sorted (λ x y. is_lt (name_cmp (name_at ns x) (name_at ns y))) (ranks_by name_cmp_total (name_at ns))
          (always_returns_same _ _ _ (λ a r f' q. let e : r ≡ name_cmp (name_at ns a.0.now) (name_at ns a.1.0.now) =
          search rules in (ap is_lt e, search rules)));
    }
