-- At which byte of a JSON text a token begins.
use Rattle.std.specs.Prelude.{ℕ, zero, suc, ◌+◌, ◌==◌, ◌||◌, Bool, true, false, List, [], ◌∷◌, if◌then◌else◌}
use Rattle.scald_base.specs.declared.refusal.Place.{Place}
use Rattle.scald_lex.specs.Place.{place_at}
use Rattle.netlist_import.specs.declared.offset.Within.{Within}
use Rattle.netlist_import.specs.declared.offset.Within.TheVariants.{Between, Word, Text, Escape}
use Rattle.netlist_import.specs.declared.offset.Begins.{Begins}
use Rattle.netlist_import.specs.declared.offset.Begins.TheVariants.{Nothing, Separator, Token}
use Rattle.netlist_import.specs.declared.offset.Parting.{Parting}
use Rattle.netlist_import.specs.declared.offset.Parting.TheVariants.{Never, ByComma, ByBoth}

abbrev pub is_space : ℕ → Bool
is_space b = b == 32 || (b == 9 || (b == 10 || b == 13))

-- a comma or a colon
abbrev pub is_separator : ℕ → Bool
is_separator b = b == 44 || b == 58

-- Whether a separator may stand after a token: none after one that opens, and a colon only after a
-- text.
abbrev pub may_part : Parting → ℕ → Bool
may_part Never b = false
may_part ByComma b = b == 44
may_part ByBoth b = true

abbrev pub is_opener : ℕ → Bool
is_opener b = b == 123 || b == 91

-- a bracket, a brace, a comma or a colon
abbrev pub is_mark : ℕ → Bool
is_mark b = is_separator b || (is_opener b || (b == 125 || b == 93))

-- where the byte after this one is
abbrev pub within_next : Within → ℕ → Within
within_next Between b = if b == 34 then Text else if is_space b || is_mark b then Between else Word
within_next Word b = if is_space b || is_mark b then Between else Word
within_next Text b = if b == 34 then Between else if b == 92 then Escape else Text
within_next Escape b = Text

abbrev pub marked : ℕ → Begins
marked b = if is_separator b then Separator else Token

-- what begins with this byte
abbrev pub begun : Within → ℕ → Begins
begun Between b = if is_space b then Nothing else marked b
begun Word b = if is_mark b then marked b else Nothing
begun Text b = Nothing
begun Escape b = Nothing

-- what may stand after a token that begins so
abbrev pub parting_behind : ℕ → Parting
parting_behind b = if is_opener b then Never else if b == 34 then ByBoth else ByComma

-- The bytes before the token that is looked for, if so many come before it: none with this byte,
-- or one more than in the rest.
abbrev pub offset_by : Begins → ℕ → Parting → ℕ → (Parting → ℕ → ℕ) → ℕ
offset_by Nothing b after n rest = 1 + rest after n
offset_by Separator b after n rest = if may_part after b then 1 + rest Never n else 0
offset_by Token b after zero rest = 0
offset_by Token b after (suc n) rest = 1 + rest (parting_behind b) n

-- How many bytes come before the token with this number, if these separators may come next. A
-- separator that may not stand counts as the token that is looked for. If there is no such token
-- it is the end of the text.
unfoldable pub offset : Within → Parting → ℕ → List ℕ → ℕ
offset within after n [] = 0
offset within after n (b ∷ bs) =
    offset_by (begun within b) b after n (λ next left. offset (within_next within b) next left bs)

-- the place of a token in the text
abbrev pub token_place : List ℕ → ℕ → Place
token_place text token = place_at text (offset Between Never token text)
