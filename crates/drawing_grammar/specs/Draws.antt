-- Which tokens have the form of a text, and where tokens without that form are refused.
use Rattle.std.specs.Prelude.{◌≡◌, List, [], ◌∷◌, ◌++◌, ⊤}
use Rattle.scald_base.specs.declared.refusal.Refusal.{Refusal}
use Rattle.scald_base.specs.declared.refusal.RefusalKind.TheVariants as kind
use Rattle.scald_base.specs.declared.refusal.Stop.{Stop}
use Rattle.scald_base.specs.declared.refusal.Stop.TheVariants as stop
use Rattle.drawing_grammar.specs.declared.edition.Edition.{Edition}
use Rattle.drawing_grammar.specs.declared.terminal.Terminal.TheVariants.{Word, Colon}
use Rattle.drawing_grammar.specs.Lexeme.{Lexeme, terminal}
use Rattle.drawing_grammar.specs.Edition.{edition_of}
use Rattle.drawing_grammar.specs.Grammar.{Need, part, Text}
use Rattle.drawing_grammar.specs.Sketch.{Sketch}
use Rattle.drawing_grammar.specs.Written.{Written, spelling, weights, values, Within, Beyond}

-- a whole text of a version
abbrev pub whole : Edition → List Need
whole v = part (Text v) 0 ∷ []

-- The tokens are a text of the version that they name, within the limits, and this is what it
-- stands for.
pub record Reads (ts : List Lexeme) (sketch : Sketch) : Type 0 where
  pub written : Written (whole (edition_of ts))
  pub spelled : spelling written ≡ ts
  pub within : Within ts (weights written 0)
  pub stands : (values written).0 ≡ sketch

-- The tokens begin a text of this version, whether it is within the limits or not.
pub record Begins (v : Edition) (ts : List Lexeme) : Type 0 where
  pub written : Written (whole v)
  pub rest : List Lexeme
  pub spelled : spelling written ≡ ts ++ rest

-- The tokens begin a text, in which the last of them is beyond a limit.
pub record BeginsBeyond (v : Edition) (before : List Lexeme) (t : Lexeme) : Type 0 where
  pub written : Written (whole v)
  pub rest : List Lexeme
  pub spelled : spelling written ≡ before ++ t ∷ rest
  pub beyond : Beyond before (weights written 0)

-- A word that may be a label: a colon follows, or nothing does.
abbrev pub MayBeLabel : Lexeme → List Lexeme → Type 0
MayBeLabel t [] = terminal t ≡ Word
MayBeLabel t (u ∷ us) = (terminal t ≡ Word) × (terminal u ≡ Colon)

-- The token is beyond a limit: it is in some text that goes on with it. The word FOR may be a label
-- as well, which is never beyond a limit; it is one if a colon follows.
pub record IsDeep (v : Edition) (before : List Lexeme) (t : Lexeme) (after : List Lexeme) :
    Type 0 where
  pub beyond : BeginsBeyond v before t
  pub no_label : MayBeLabel t after → ⊥

-- None of the first tokens is beyond a limit.
abbrev pub NoneDeep : Edition → List Lexeme → List Lexeme → Type 0
NoneDeep v first after = (before : List Lexeme) (t : Lexeme) (between : List Lexeme) →
    first ≡ before ++ t ∷ between → IsDeep v before t (between ++ after) → ⊥

-- Syntax at the first token such that the tokens up to it and with it begin no text of the version
-- that the tokens name, and TooDeep at the first token beyond a limit; whichever comes first.
pub data IsRefused (ts : List Lexeme) (r : Refusal) : Type 0 where
  syntax : (before : List Lexeme) (t : Lexeme) (after : List Lexeme) → ts ≡ before ++ t ∷ after →
      Begins (edition_of ts) before → NoneDeep (edition_of ts) before (t ∷ after) →
      (Begins (edition_of ts) (before ++ t ∷ []) → ⊥) →
      r ≡ record { kind = kind.Syntax; place = t.place } → IsRefused ts r
  too_deep : (before : List Lexeme) (t : Lexeme) (after : List Lexeme) → ts ≡ before ++ t ∷ after →
      NoneDeep (edition_of ts) before (t ∷ after) → IsDeep (edition_of ts) before t after →
      r ≡ record { kind = kind.TooDeep; place = t.place } → IsRefused ts r

-- Reading stops because the tokens are refused so, or memory ran out.
abbrev pub IsStop : List Lexeme → Stop → Type 0
IsStop ts (stop.Refused r) = IsRefused ts r
IsStop ts stop.NoMemory = ⊤
