-- The definitions of words, outcomes and refusals, computed.
use Rattle.std.proofs.Common.{◌≡◌, ℕ, List, [], ◌∷◌, ◌++◌, map, refl}
use Rattle.std.specs.Prelude.{codes, Result, Ok, Err}
use Rattle.std.specs.Fmt.{digits}
use Rattle.scald_base.specs.declared.call_end.CallEnd.TheVariants.{BadWords, TooLong, ReadFault, WriteFault, NoMemory}
use Rattle.netlist_import.specs.declared.fault.FaultKind.{FaultKind}
use Rattle.netlist_import.specs.declared.fault.FaultKind.TheVariants.{Json, NoNetlist, BadDirection, TooWide, UnlikeCells}
use Rattle.netlist_import.specs.declared.read.NetlistRefusal.{NetlistRefusal}
use Rattle.netlist_import.specs.declared.forms.Command.{Command}
use Rattle.netlist_import.specs.declared.forms.Command.TheVariants.{Design, Cells}
use Rattle.netlist_import.specs.declared.outcome.ImportOutcome.TheVariants.{Done, Refused, Ended}
use Rattle.netlist_import.specs.Answer.{refusal_line}
use Rattle.netlist_import.specs.Outcome.{status_of}
use Rattle.netlist_import.specs.Forms.{command_of}

-- ---- outcomes

module _ (r : NetlistRefusal) (i : ℕ) where
  statuses : map status_of
      (Done ∷ Refused r ∷ Ended (BadWords i) ∷ Ended TooLong ∷ Ended ReadFault ∷ Ended WriteFault
      ∷ Ended NoMemory ∷ [])
      ≡ 0 ∷ 2 ∷ 4 ∷ 5 ∷ 6 ∷ 7 ∷ 8 ∷ []
  statuses = refl

-- ---- refusals

abbrev lines : List FaultKind → List (List ℕ)
lines kinds = map
    (λ kind. refusal_line (record { kind = kind; place = record { line = 12; col = 7 } })) kinds

refusals : lines (Json ∷ NoNetlist ∷ BadDirection ∷ TooWide ∷ UnlikeCells ∷ []) ≡
    (codes "REFUSED 30 Json 12:7" ++ 10 ∷ [])
    ∷ (codes "REFUSED 31 NoNetlist 12:7" ++ 10 ∷ [])
    ∷ (codes "REFUSED 32 BadDirection 12:7" ++ 10 ∷ [])
    ∷ (codes "REFUSED 33 TooWide 12:7" ++ 10 ∷ [])
    ∷ (codes "REFUSED 34 UnlikeCells 12:7" ++ 10 ∷ []) ∷ []
unfolding digits refusal_line
refusals = refl

-- ---- words

abbrev commands : List (List (List ℕ)) → List (Result Command ℕ)
commands texts = map command_of texts

forms : commands ((codes "import" ∷ []) ∷ (codes "import" ∷ codes "cells" ∷ []) ∷ [])
    ≡ Ok Design ∷ Ok Cells ∷ []
forms = refl

wrong : commands ([]
    ∷ (codes "verify" ∷ [])
    ∷ (codes "import" ∷ codes "design" ∷ [])
    ∷ (codes "import" ∷ codes "Cells" ∷ [])
    ∷ (codes "import" ∷ codes "cells" ∷ codes "cells" ∷ []) ∷ [])
    ≡ Err 0 ∷ Err 0 ∷ Err 1 ∷ Err 1 ∷ Err 2 ∷ []
wrong = refl
