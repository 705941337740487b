use Rattle.std.proofs.Common.{◌≡◌, ℕ, ◌≤◌, List, [], ◌∷◌, ◌++◌, length, take, ap, subst, sym, ◌∙◌}
use Rattle.scald_base.specs.Time.{Header}
use Rattle.flat_circuit.specs.Builder.{Built}
use Rattle.flat_circuit.specs.Instances.{InstanceFits}
use Rattle.flat_circuit.specs.declared.instance.Instance.{Instance}
use Rattle.narrowing.specs.Narrowed.{by_parts, narrowed_from}
use Rattle.narrowing.proofs.Building.{narrowed_fits, narrowed_more}
use Rattle.narrowing.proofs.SameLists.{at_some}
use Rattle.narrowing.proofs.circuit.add_instances.Goals as goal

pub add_instance-requires : goal.add_instance-requires
add_instance-requires c =
    let before = c.loop-k.builder in
    narrowed_fits c.args.c.now before.header (length before.names) c.loop-k.k c.in-Some.i.now c.in-Some-2.narrowed
    c.known.ensures (sym c.in-Some.ensures) c.loop-k.invariant.header c.loop-k.invariant.long
    (at_some
    (λ (j : Instance). (h : Header) (nets : ℕ) → InstanceFits h nets c.in-Some.i.now → InstanceFits h nets j)
    c.in-Some-2.is c.in_ok-narrowed.ensures.fits)

pub loop-k-preserved : goal.loop-k-preserved
loop-k-preserved c =
    let parts = c.args.parts.now in
    let before = c.loop-k.builder in
    let after = c.in_ok-add_instance.ensures c.if-not-branch.false in
    let narrowed = at_some (λ (j : Instance). j ≡ by_parts c.loop-k.k c.in-Some.i.now parts) c.in-Some-2.is
    c.in_ok-narrowed.ensures.is in
    record {
      header = ap (λ (b : Built). b.header) after ∙ c.loop-k.invariant.header;
      long = subst (λ (b : Built). length c.args.c.now.nets ≤ length b.names) (sym after) c.loop-k.invariant.long;
      are = ap (λ (b : Built). b.instances) after
          ∙ ap (λ (js : List Instance). js ++ c.in-Some-2.narrowed ∷ []) c.loop-k.invariant.are
          ∙ ap (λ (j : Instance). narrowed_from parts 0 (take c.loop-k.k c.args.c.now.instances) ++ j ∷ []) narrowed
          ∙ sym (narrowed_more parts c.loop-k.k c.args.c.now.instances c.in-Some.i.now (sym c.in-Some.ensures));
    }
