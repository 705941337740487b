use Rattle.std.proofs.Common.{List, Option, refl, sym, ap, subst, ◌∙◌, slice_get}
use Rattle.drawing_notes.specs.declared.unchecked.Sampling.{Sampling}
use Rattle.drawing_notes.specs.contracts.unchecked.SamplingPartialEq.TheImpl.{eq-value}
use Rattle.drawing_notes.specs.Unchecked.{seen_by}
use Rattle.drawing_notes.proofs.Seeing.{Puts, puts_key, puts_none, seen_more}
use Rattle.drawing_notes.proofs.unchecked.seen.Goals as goal
use Rattle.drawing_notes.proofs.unchecked.seen.Goals.{in-Some+in_ok-insert, in_default}

pub loop-number-preserved : goal.loop-number-preserved
loop-number-preserved c = elim c.match-seen_by.branch [
  | in-Some+in_ok-insert w ↦
      let keys = ap (λ s. s.keys) w.seen-is ∙ w.in_ok-insert.ensures.keys in
      seen_more c.args.c.now.instances c.loop-number.number c.loop-number.seen.keys c.match-seen_by.seen.keys c.loop-number.invariant
      (subst (λ (o : Option Sampling). Puts o c.loop-number.seen.keys c.match-seen_by.seen.keys) (sym w.in-Some.is ∙ c.seen_by.ensures)
      (puts_key eq-value.it (λ a b. refl) c.loop-number.seen.keys c.match-seen_by.seen.keys w.in-Some.sampling keys))
  | in_default w ↦
      seen_more c.args.c.now.instances c.loop-number.number c.loop-number.seen.keys c.match-seen_by.seen.keys c.loop-number.invariant
      (subst (λ (ks : List Sampling). Puts (seen_by (slice_get c.args.c.now.instances c.loop-number.number)) c.loop-number.seen.keys ks) (sym (ap (λ s. s.keys) w.seen-is))
      (subst (λ (o : Option Sampling). Puts o c.loop-number.seen.keys c.loop-number.seen.keys) (sym w.in_default.is ∙ c.seen_by.ensures) (puts_none c.loop-number.seen.keys)))
]
