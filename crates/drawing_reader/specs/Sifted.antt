-- The names of a text that may be refused.
use Rattle.std.specs.Prelude.{◌≡◌, ℕ, List, [], ◌∷◌, ◌++◌, Bool, false}
use Rattle.scald_base.specs.Time.{Header}
use Rattle.scald_base.specs.declared.refusal.Stop.{Stop}
use Rattle.drawing_grammar.specs.Names.{Naming, named, AreGood, IsNameStop}
use Rattle.drawing_reader.specs.declared.names.Doubtful.{Doubtful}

abbrev pub naming_of : Doubtful → Naming
naming_of d = named d.text.now d.of_formal d.place

-- The last of these names is spelled so, and both stand outside of heads.
pub record IsAgain (names : List Naming) (text : List ℕ) (of_formal : Bool) : Type 0 where
  pub before : List Naming
  pub last : Naming
  pub ends : names ≡ before ++ last ∷ []
  pub spelled : last.text ≡ text
  pub last_outside : last.of_formal ≡ false
  pub outside : of_formal ≡ false

-- Whatever the header is: if these few names are good all are, and a refusal of these is one of
-- all.
pub record Sifted (few all : List Naming) : Type 0 where
  pub good : (h : Header) → AreGood h few → AreGood h all
  pub stop : (h : Header) (s : Stop) → IsNameStop h few s → IsNameStop h all s

-- The same of the names up to here, and the rest is still to come.
pub record Sifting (few all rest : List Naming) : Type 0 where
  pub done : List Naming
  pub parts : all ≡ done ++ rest
  pub sifted : Sifted few done
