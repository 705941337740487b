-- Signal names, and how each is spelled. The spelling is a function of the name: writing is this
-- definition, and reading its inverse. An interval's spelling counts, so `.P2-3` and `.P2-3(0,0)`
-- are two assertions, and clash.
use Rattle.std.specs.Prelude.{◌≡◌, ℕ, ◌≤◌, Bool, true, false, ◌&&◌, ◌||◌, ◌==◌, List, [], ◌∷◌, ◌++◌, length, All, codes, decimal, Option, Some, None, IfSome, ⊤, if◌then◌else◌}
use Rattle.std.specs.List.{list_all, join_by}
use Rattle.std.specs.Char.{is_ascii_alphanumeric}
use Rattle.scald_base.specs.Time.{IsSkew}
use Rattle.scald_base.specs.declared.assertion.Span.{Span}
use Rattle.scald_base.specs.declared.assertion.ClockSpec.{ClockSpec}
use Rattle.scald_base.specs.declared.assertion.AssertSpec.{AssertSpec}
use Rattle.scald_base.specs.declared.assertion.AssertSpec.TheVariants.{None as Unasserted, Precision, Clock, Stable}
use Rattle.assertion_syntax.specs.declared.name.SignalName.{SignalName}

-- ---- which names there are

-- a letter, a digit, a space, `_`, `#` or `$`
abbrev pub is_base_byte : ℕ → Bool
is_base_byte b = is_ascii_alphanumeric b || (b == 32 || (b == 95 || (b == 35 || b == 36)))

-- Each space is between two other bytes. At the start, and after a space, there is no space and the
-- text does not end.
abbrev pub well_spaced : Bool → List ℕ → Bool
well_spaced behind_byte [] = behind_byte
well_spaced behind_byte (b ∷ bs) =
    if b == 32 then behind_byte && well_spaced false bs else well_spaced true bs

pub record IsBase (base : List ℕ) : Type 0 where
  pub bytes : list_all is_base_byte base ≡ true
  pub short : length base ≤ 64
  pub spaced : well_spaced false base ≡ true

-- the numbers that an interval may be written with
pub record IsInterval (s : Span) : Type 0 where
  pub lo : s.lo ≤ 4096
  pub hi : s.hi ≤ 4096

-- a clock has an interval at least
pub record IsClock (c : ClockSpec) : Type 0 where
  pub some : 1 ≤ length c.spans
  pub spans : All IsInterval c.spans
  pub skew : IfSome c.skew IsSkew

abbrev pub IsAssertion : AssertSpec → Type 0
IsAssertion Unasserted = ⊤
IsAssertion (Precision c) = IsClock c
IsAssertion (Clock c) = IsClock c
IsAssertion (Stable spans) = All IsInterval spans

pub record IsName (n : SignalName) : Type 0 where
  pub base : IsBase n.base
  pub assertion : IsAssertion n.spec

-- ---- how they are spelled

abbrev pub span_text : Span → List ℕ
span_text s = decimal s.lo ++ codes "-" ++ decimal s.hi

abbrev pub spans_text : List Span → List ℕ
spans_text spans = join_by span_text (codes ",") spans

abbrev pub skew_text : Option (ℕ × ℕ) → List ℕ
skew_text None = []
skew_text (Some skew) = codes "(" ++ decimal skew.0 ++ codes "," ++ decimal skew.1 ++ codes ")"

abbrev pub low_text : Bool → List ℕ
low_text low = if low then codes "L" else []

abbrev pub clock_text : ClockSpec → List ℕ
clock_text c = spans_text c.spans ++ skew_text c.skew ++ low_text c.low

abbrev pub assertion_text : AssertSpec → List ℕ
assertion_text Unasserted = []
assertion_text (Precision c) = codes " .P" ++ clock_text c
assertion_text (Clock c) = codes " .C" ++ clock_text c
assertion_text (Stable spans) = codes " .S" ++ spans_text spans

abbrev pub global_text : Bool → List ℕ
global_text global = if global then codes "/" else []

abbrev pub name_text : SignalName → List ℕ
name_text n = global_text n.global ++ n.base ++ assertion_text n.spec

-- The text is spelled as this name.
pub record IsTextOf (n : SignalName) (text : List ℕ) : Type 0 where
  pub is_name : IsName n
  pub spelled : text ≡ name_text n
