-- The forms of words, spelled out: which words ask for what, and where words of no form go wrong.
-- `Words` reads them; a law says that the two agree. N of `rounds=N` is the number whose decimal
-- text the digits are, so signs and leading zeros need no rule.
use Rattle.std.specs.Prelude.{◌≡◌, ◌≢◌, ℕ, ◌+◌, ◌≤◌, ◌<◌, List, [], ◌∷◌, ◌++◌, length, take, codes, decimal, Option, Some, None, IfSome, Result, Ok, Err, ⊤}
use Rattle.listing.specs.declared.case.Mode.{Mode}
use Rattle.listing.specs.declared.case.Mode.TheVariants.{Full, Waves, Faults}
use Rattle.scald_tool.specs.declared.words.Command.{Command}
use Rattle.scald_tool.specs.declared.words.Command.TheVariants.{Verify, Format, Upgrade, Bench}
use Rattle.program_call.specs.Numbers.{most_rounds}
use Rattle.scald_tool.specs.Words.{command_of, most_sections}

abbrev pub mode_words : Mode → List (List ℕ)
mode_words Full = []
mode_words Waves = codes "waves" ∷ []
mode_words Faults = codes "faults" ∷ []

abbrev pub rounds_words : Option ℕ → List (List ℕ)
rounds_words None = []
rounds_words (Some n) = (codes "rounds=" ++ decimal n) ∷ []

-- the words that ask for a command
abbrev pub words_for : Command → List (List ℕ)
words_for (Verify mode rounds) = codes "verify" ∷ (mode_words mode ++ rounds_words rounds)
words_for Format = codes "format" ∷ []
words_for Upgrade = codes "upgrade" ∷ []
words_for (Bench n) = codes "bench" ∷ decimal n ∷ []

-- what may be asked for
abbrev pub MayBeAsked : Command → Type 0
MayBeAsked (Verify mode rounds) = IfSome rounds (λ n. (1 ≤ n) × (n ≤ most_rounds))
MayBeAsked Format = ⊤
MayBeAsked Upgrade = ⊤
MayBeAsked (Bench n) = (1 ≤ n) × (n ≤ most_sections)

-- Some form goes on from these words, or ends with them.
pub record GoesOn (front : List (List ℕ)) : Type 0 where
  pub command : Command
  pub may : MayBeAsked command
  pub rest : List (List ℕ)
  pub is : front ++ rest ≡ words_for command

-- No form has these words, and this is the number of the first with which no form goes on, or their
-- count if one is missing.
pub record GoesWrong (words : List (List ℕ)) (i : ℕ) : Type 0 where
  pub no_form : (command : Command) → MayBeAsked command → words ≢ words_for command
  pub within : i ≤ length words
  pub before : GoesOn (take i words)
  pub here : i < length words → ¬ GoesOn (take (i + 1) words)

abbrev pub AreReadAs : List (List ℕ) → Result Command ℕ → Type 0
AreReadAs words (Ok command) = MayBeAsked command × (words ≡ words_for command)
AreReadAs words (Err i) = GoesWrong words i

-- Words are read as what they ask for, or as going wrong where they do.
abbrev pub WordsAreRead : Type 0
WordsAreRead = (words : List (List ℕ)) → AreReadAs words (command_of words)

-- What may be asked for is what its own words are read as.
abbrev pub WordsAreKnown : Type 0
WordsAreKnown = (command : Command) → MayBeAsked command →
    command_of (words_for command) ≡ Ok command
