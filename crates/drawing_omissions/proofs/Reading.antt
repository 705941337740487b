-- The nets that pins are on, marked pin by pin and instance by instance.
use Rattle.std.proofs.Common.{◌≡◌, ℕ, ◌+◌, ◌<◌, ◌==◌, ◌||◌, Bool, true, false, cond, List, [], ◌∷◌, length, take, get_or, refl, sym, ap, ◌∙◌}
use Rattle.std.specs.List.{list_any}
use Rattle.std.proofs.Math.ListN.{set}
use Rattle.std.proofs.Math.Bool.{or-false, or_assoc}
use Rattle.std.proofs.lemmas.List.{length-set}
use Rattle.std.proofs.lemmas.List.Folds.{list_any_more}
use Rattle.vector_names.specs.declared.bits.Target.{Target}
use Rattle.vector_names.specs.declared.bits.Target.TheVariants.{Net as OnNet, Constant}
use Rattle.flat_circuit.specs.declared.instance.Pin.{Pin}
use Rattle.flat_circuit.specs.declared.instance.Instance.{Instance}
use Rattle.flat_circuit.specs.Instances.{is_on, pins_at, pins_of}
use Rattle.fixpoint_engine.specs.Settled.{marked_in}
use Rattle.fixpoint_engine.proofs.Waiting.{marked_set}
use Rattle.drawing_omissions.specs.Read.{MarksPins, has_pin_on, is_read}
use Rattle.drawing_omissions.proofs.Anys.{any_more}

abbrev on_net : ℕ → Pin → Bool
on_net i p = is_on i p.target

pub marks_none : (marks : List Bool) → MarksPins [] marks marks
marks_none marks = record { each_net = refl; marks = λ i. sym (or-false (marked_in marks i)) }

or_same : (a b : Bool) → cond a true b ≡ (b || a)
or_same true true = refl
or_same true false = refl
or_same false true = refl
or_same false false = refl

pub marks_one : (marks new : List Bool) (p : Pin) (net : ℕ) → net < length marks → p.target ≡ OnNet net → new ≡ set marks net true → MarksPins (p ∷ []) marks new
marks_one marks new p net below on is = record {
  each_net = ap length is ∙ length-set marks net true;
  marks = λ i. ap (λ (ms : List Bool). marked_in ms i) is ∙ marked_set marks net i true below ∙ or_same (net == i) (marked_in marks i)
      ∙ ap (λ b. marked_in marks i || b) (sym (or-false (net == i)) ∙ ap (λ (t : Target). is_on i t || false) (sym on));
}

pub marks_constant : (marks : List Bool) (p : Pin) (b : Bool) → p.target ≡ Constant b → MarksPins (p ∷ []) marks marks
marks_constant marks p b on = record {
  each_net = refl;
  marks = λ i. sym (or-false (marked_in marks i)) ∙ ap (λ (t : Target). marked_in marks i || (is_on i t || false)) (sym on);
}

-- one pin more
pub marks_more : (pins : List Pin) (k : ℕ) (p : Pin) (old between new : List Bool) → k < length pins → get_or pins k p ≡ p →
    MarksPins (take k pins) old between → MarksPins (p ∷ []) between new → MarksPins (take (k + 1) pins) old new
marks_more pins k p old between new below at before one = record {
  each_net = one.each_net ∙ before.each_net;
  marks = λ i.
      one.marks i ∙ ap (λ b. b || (is_on i p.target || false)) (before.marks i)
      ∙ or_assoc (marked_in old i) (list_any (on_net i) (take k pins)) (is_on i p.target || false)
      ∙ ap (λ b. marked_in old i || b)
      (ap (λ b. list_any (on_net i) (take k pins) || b) (or-false (is_on i p.target) ∙ ap (on_net i) (sym at))
      ∙ sym (list_any_more (on_net i) pins k p below));
}

-- ---- instance by instance

-- Of so many instances the nets are marked that their pins are on.
pub record ReadTo (js : List Instance) (nets k : ℕ) (marks : List Bool) : Type 0 where
  pub each_net : length marks ≡ nets
  pub are : (i : ℕ) → marked_in marks i ≡ is_read (take k js) i

pub read_more : (js : List Instance) (nets k : ℕ) (old new : List Bool) → ReadTo js nets k old → MarksPins (pins_at js k) old new → ReadTo js nets (k + 1) new
read_more js nets k old new before one = record {
  each_net = one.each_net ∙ before.each_net;
  are = λ i. one.marks i ∙ ap (λ b. b || list_any (on_net i) (pins_at js k)) (before.are i)
      ∙ sym (any_more (has_pin_on i) (λ j. list_any (on_net i) (pins_of j)) refl (λ j. refl) js k);
}
