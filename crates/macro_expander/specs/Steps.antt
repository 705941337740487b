-- What a call of the expander answers of a step: its value, or its refusal at the step's place, or
-- want of memory.
use Rattle.std.specs.Prelude.{◌≡◌, Result, Ok, Err}
use Rattle.scald_base.specs.declared.refusal.Place.{Place}
use Rattle.scald_base.specs.declared.refusal.Refusal.{Refusal}
use Rattle.scald_base.specs.declared.refusal.Stop.{Stop}
use Rattle.scald_base.specs.declared.refusal.Stop.TheVariants.{Refused}
use Rattle.macro_expander.specs.Outcome.{Judged}

-- the refusal of a judgement, or want of memory
pub record IsJudgedRefusal {A : Type 0} (place : Place) (stop : Stop) (j : Judged A) : Type 0 where
  pub agrees : (r : Refusal) → stop ≡ Refused r → j ≡ Err r.kind
  pub here : (r : Refusal) → stop ≡ Refused r → r.place ≡ place

abbrev pub JudgedAt : {A : Type 0} → Place → Result A Stop → Judged A → Type 0
JudgedAt place (Ok a) j = j ≡ Ok a
JudgedAt place (Err stop) j = IsJudgedRefusal place stop j
