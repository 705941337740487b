-- What is promised of a text that settles, by a program that reports one byte of every circuit.
use Rattle.std.proofs.Common.{◌≡◌, ℕ, inl, inr, List, [], ◌∷◌, refl, sym, ap, subst, arith}
use Rattle.std.proofs.Common.{Option, Some, None}
use Rattle.std.specs.Prelude.{slice_index_or}
use Rattle.scald_base.specs.declared.outcome.Outcome.{Outcome}
use Rattle.scald_base.specs.declared.outcome.Outcome.TheVariants.{Clean, Done, NoMemory, Unsettled}
use Rattle.drawing_tree.specs.Tree.{Drawing}
use Rattle.flat_circuit.specs.declared.case.CaseValue.{CaseValue}
use Rattle.flat_circuit.specs.Circuit.{Circuit}
use Rattle.fixpoint_engine.specs.Rounds.{SettlesAt}
use Rattle.fixpoint_engine.specs.Start.{default_limit}
use Rattle.case_analysis.specs.Base.{base_round}
use Rattle.timing_analysis.specs.Case.{Case, AreSettled, listed_cases}
use Rattle.timing_analysis.specs.Drawn.{DrawsCircuit, IsLoopless}
use Rattle.program_call.specs.Answer.{Reporting, limit_for}
use Rattle.program_call.specs.Promise.{SettlesLoopless, TextSettles, Writes, WritesReport}

-- ---- which texts settle

-- A drawn circuit whose base and cases settle within the limit is enough.
drawn_and_settled : (rounds : Option ℕ) (text : List ℕ) (c : Circuit)
    (values : List (List CaseValue)) (base : ℕ) (cases : List Case) →
    DrawsCircuit text c values → SettlesAt (base_round c) (limit_for c rounds) base →
    AreSettled c (limit_for c rounds) base (listed_cases values) cases → TextSettles rounds text
drawn_and_settled rounds text c values base cases drawn settles are_settled = record {
  circuit = c;
  values = values;
  drawn = drawn;
  base = base;
  settles = settles;
  cases = cases;
  are_settled = are_settled;
}

given_limit : (c : Circuit) → limit_for c (Some 7) ≡ 7
given_limit c = refl

own_limit : (c : Circuit) → limit_for c None ≡ default_limit c
own_limit c = refl

-- ---- what is written of them

abbrev one_byte : Drawing → Reporting
one_byte d c base cases o bytes = (o ≡ Done) × (bytes ≡ 65 ∷ [])

abbrev IsWritten : List ℕ → Outcome → List ℕ → List ℕ → Type 0
IsWritten text o before after = WritesReport one_byte text o (Some before) (Some after)

-- it holds of the one reply
by_the_reply : (o : Outcome) (before after : List ℕ) →
    Writes Done (65 ∷ []) o (Some before) (Some after) → (text : List ℕ) →
    IsWritten text o before after
by_the_reply o before after is text settles reply bytes reported =
    subst (λ (reply : Outcome). Writes reply bytes o (Some before) (Some after)) (sym reported.0)
    (subst (λ (bytes : List ℕ). Writes Done bytes o (Some before) (Some after)) (sym reported.1) is)

written : (text : List ℕ) → IsWritten text Done [] (65 ∷ [])
written = by_the_reply Done [] (65 ∷ []) (inr (refl, refl))

after_others : (text : List ℕ) → IsWritten text Done (66 ∷ []) (66 ∷ 65 ∷ [])
after_others = by_the_reply Done (66 ∷ []) (66 ∷ 65 ∷ []) (inr (refl, refl))

no_memory : (text : List ℕ) → IsWritten text NoMemory [] []
no_memory = by_the_reply NoMemory [] [] (inl refl)

-- ---- what is not

-- it is what the one reply has
reply_of : (text : List ℕ) (o : Outcome) (before after : List ℕ) → TextSettles None text →
    IsWritten text o before after → Writes Done (65 ∷ []) o (Some before) (Some after)
reply_of text o before after settles is = is settles Done (65 ∷ []) (refl, refl)

abbrev first : List ℕ → ℕ
first bytes = slice_index_or bytes 0 0

other_byte : (text : List ℕ) → TextSettles None text → ¬ IsWritten text Done [] (66 ∷ [])
other_byte text settles is = by (reply_of text Done [] (66 ∷ []) settles is)
  where
    by : Writes Done (65 ∷ []) Done (Some []) (Some (66 ∷ [])) → ⊥
    by (inl none) = absurd (cc none)
    by (inr (_, bytes)) = let same : 66 ≡ 65 = ap first bytes in absurd (omega (arith, same))

no_byte : (text : List ℕ) → TextSettles None text → ¬ IsWritten text Done [] []
no_byte text settles is = by (reply_of text Done [] [] settles is)
  where
    by : Writes Done (65 ∷ []) Done (Some []) (Some []) → ⊥
    by (inl none) = absurd (cc none)
    by (inr (_, bytes)) = absurd (cc bytes)

other_outcome : (text : List ℕ) → TextSettles None text → ¬ IsWritten text Clean [] (65 ∷ [])
other_outcome text settles is = by (reply_of text Clean [] (65 ∷ []) settles is)
  where
    by : Writes Done (65 ∷ []) Clean (Some []) (Some (65 ∷ [])) → ⊥
    by (inl none) = absurd (cc none)
    by (inr (other, _)) = absurd (cc other)

-- ---- without loops

-- no outcome names a net that does not settle, whichever it is and in whichever round
no_net_named : (text : List ℕ) → IsLoopless text → (place round : ℕ) →
    ¬ SettlesLoopless text (Unsettled place round)
no_net_named text loopless place round settles = settles loopless place round refl

-- A text with a loop may have such an outcome, and any text another one.
looped : (text : List ℕ) → ¬ IsLoopless text → SettlesLoopless text (Unsettled 3 16)
looped text has_loop loopless = absurd (has_loop loopless)

clean_settles : (text : List ℕ) → SettlesLoopless text Clean
clean_settles text loopless place round is = absurd (cc is)
