-- The bits of a connection, of which no more are kept than show that it is too wide.
use Rattle.std.proofs.Common.{◌≡◌, ◌<◌, Bool, true, false, cond, List, ◌∷◌, ◌++◌, length, refl, sym, arith, leb}
use Rattle.std.proofs.lemmas.Bool.{leb-true, leb-false}
use Rattle.std.proofs.lemmas.List.{length-append}
use Rattle.scald_base.specs.declared.refusal.Stop.{Stop}
use Rattle.vector_names.specs.declared.bits.BitRef.{BitRef}
use Rattle.vector_names.specs.Bits.{widest}
use Rattle.macro_expander.specs.declared.expansion.Expansion.{Expansion}
use Rattle.macro_expander.specs.Named.{Bit, State}
use Rattle.macro_expander.specs.Outcome.{Outcome}
use Rattle.macro_expander.specs.Numbered.{Failed, kept_with, Keeps, GivesBits, GatheredFront, state_of}
use Rattle.macro_expander.proofs.Gathered.{gathered_more, gathered_failed}

keeps_all : {B : Type 0} (bits : List B) → Keeps bits bits
keeps_all bits = record { narrow = λ _. refl; wide = λ h. h }

keeps_by : {B : Type 0} (narrow : Bool) (kept all more : List B) → leb (length kept) widest ≡ narrow → Keeps kept all → Keeps (cond narrow (kept ++ more) kept) (all ++ more)
keeps_by true kept all more e k = rw (sym (k.narrow (leb-true (length kept) widest e))) (keeps_all (kept ++ more))
keeps_by false kept all more e k =
    let past : widest < length kept = leb-false (length kept) widest e in
    record {
      narrow = λ h. absurd (omega (arith, past, h));
      wide = λ _. omega (arith, k.wide past, length-append all more);
    }

keeps_more : {B : Type 0} (kept all more : List B) → Keeps kept all → Keeps (kept_with kept more) (all ++ more)
keeps_more kept all more k = keeps_by (leb (length kept) widest) kept all more refl k

module _ {X : Type 0} (step : X → State → Outcome (List Bit)) (start : Expansion) (want : Outcome (List Bit))
    (rest others : List X) (x : X) (kept : List BitRef) (e : Expansion) (split : rest ≡ x ∷ others) where
  pub front_more : (more : List BitRef) (f : Expansion) → GivesBits e f more (step x (state_of e)) →
      GatheredFront step start want rest kept e → GatheredFront step start want others (kept_with kept more) f
  front_more more f g w = record {
    all = w.all ++ more;
    keeps = keeps_more kept w.all more w.keeps;
    gathered = gathered_more step start want rest others x w.all e split more f g w.gathered;
  }

  pub front_failed : (stop : Stop) → Failed stop (step x (state_of e)) → GatheredFront step start want rest kept e → Failed stop want
  front_failed stop failed w = gathered_failed step start want rest others x w.all e split stop failed w.gathered
