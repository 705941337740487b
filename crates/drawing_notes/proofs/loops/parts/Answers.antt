use Rattle.std.proofs.Common.{◌≡◌, ℕ, inl, inr, false, List, length, drop, replicate, Option, None, sym, ap, subst, ◌∙◌, arith}
use Rattle.std.proofs.lemmas.Bool.{cases_lt}
use Rattle.std.proofs.lemmas.List.{get_or_past, length-replicate}
use Rattle.fixpoint_engine.specs.Settled.{marked_in}
use Rattle.drawing_notes.specs.Parts.{ArePartly, part_at}
use Rattle.drawing_notes.proofs.Parting.{partly_start, partly_end}
use Rattle.drawing_omissions.proofs.Written.{same_at, written_back}
use Rattle.drawing_notes.proofs.loops.parts.Goals as goal

pub left-init : goal.left-init
left-init c =
    let items = c.in_ok-parts.ensures in
    record {
      partly = partly_start c.args.c.now c.in_ok-fresh.fresh c.in_ok-parts.parts.items c.in_ok-fresh.ensures.each_net
          (ap length items ∙ length-replicate c.net_count.result None ∙ c.net_count.ensures) c.in_ok-fresh.ensures.all
          (λ i. ap (λ (ps : List (Option ℕ)). part_at ps i) items ∙ same_at None c.net_count.result i);
      reached = c.in_ok-new.ensures ∙ ap (λ n. replicate n false) c.net_count-2.ensures;
      shared = c.in_ok-new-2.ensures ∙ ap (λ n. replicate n false) c.net_count-3.ensures;
      within = omega (arith, c.len-place.ensures);
    }

pub left-preserved-in_ok-know : goal.left-preserved-in_ok-know
left-preserved-in_ok-know c = record {
  partly = subst (ArePartly c.args.c.now c.know.new.fresh)
      (sym (written_back c.know.new.parts (drop (length c.know.new.parts) c.left.parts.items) c.left.parts.len
      (let new = c.in_ok-know.ensures.partly.each_part in let old = c.left.invariant.partly.each_part in omega (arith, new, old, c.left.parts.ok.0))))
      c.in_ok-know.ensures.partly;
  reached = c.in_ok-know.ensures.reached;
  shared = c.in_ok-know.ensures.shared;
  within = let before = c.left.invariant.within in omega (arith, before);
}

pub loop-root-preserved : goal.loop-root-preserved
loop-root-preserved c = record {
  partly = subst (ArePartly c.args.c.now c.know-in-loop-root.new.fresh)
      (sym (written_back c.know-in-loop-root.new.parts (drop (length c.know-in-loop-root.new.parts) c.loop-root.parts.items) c.loop-root.parts.len
      (let new = c.in_ok-know-2.ensures.partly.each_part in let old = c.loop-root.invariant.partly.each_part in omega (arith, new, old, c.loop-root.parts.ok.0))))
      c.in_ok-know-2.ensures.partly;
  reached = c.in_ok-know-2.ensures.reached;
  shared = c.in_ok-know-2.ensures.shared;
  known = λ i below. elim (cases_lt i c.loop-root.root) [
    | inl before ↦ c.in_ok-know-2.ensures.stays i (c.loop-root.invariant.known i before)
    | inr past ↦
        let same : c.loop-root.root ≡ i = omega (arith, below, past) in
        subst (λ k. marked_in c.know-in-loop-root.new.fresh k ≡ false) same c.in_ok-know-2.ensures.root
  ];
}

pub returns-clause-are : goal.returns-clause-are
returns-clause-are c = λ i j. partly_end c.args.c.now c.loop-root.fresh c.loop-root.parts.items c.loop-root.invariant.partly none i j
  where
    none : (i : ℕ) → marked_in c.loop-root.fresh i ≡ false
    none i = elim (cases_lt i c.loop-root.root) [
      | inl before ↦ c.loop-root.invariant.known i before
      | inr past ↦ get_or_past c.loop-root.fresh i false
          (let each = c.loop-root.invariant.partly.each_net in omega (arith, past, each, c.loop-root-test.false, c.net_count-root-end.ensures))
    ]
