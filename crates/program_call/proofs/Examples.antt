-- Which outcomes speak of a text in which something is counted, and which do not.
use Rattle.std.proofs.Common.{◌≡◌, true, false, [], ◌∷◌, map, refl}
use Rattle.scald_base.specs.declared.outcome.Outcome.TheVariants.{Clean, Faulty, Done, Unsettled, BadWords, TooLong, ReadFault, WriteFault, NoMemory}
use Rattle.program_call.specs.Promise.{may_count}

spoken : map may_count (Clean ∷ Faulty 1 ∷ Unsettled 3 16 ∷ []) ≡ true ∷ true ∷ true ∷ []
spoken = refl

never_spoken : map may_count (Faulty 0 ∷ Done ∷ BadWords 0 ∷ TooLong ∷ ReadFault ∷ WriteFault ∷ NoMemory ∷ [])
    ≡ false ∷ false ∷ false ∷ false ∷ false ∷ false ∷ false ∷ []
never_spoken = refl
