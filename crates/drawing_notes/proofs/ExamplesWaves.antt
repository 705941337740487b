-- Notes on waves and on names that are spread, worked out on paper: each kind where it comes and where it just does not.
use Rattle.std.specs.Prelude.{◌≡◌, ℕ, zero, suc, ◌==◌, Bool, true, false, ◌&&◌, ◌||◌, List, [], ◌∷◌, codes, length, map, None}
use Rattle.std.specs.Fmt.{digits}
use Rattle.std.proofs.Common.{arith, refl, sym, ap, subst, ◌∙◌}
use Rattle.scald_base.specs.Clock.{back}
use Rattle.scald_base.specs.Time.{Header}
use Rattle.scald_base.specs.declared.assertion.AssertSpec.TheVariants.{None as Unasserted}
use Rattle.vector_names.specs.declared.bits.Target.TheVariants.{Net as OnNet, Constant}
use Rattle.step_values.specs.declared.value.Value.{Value}
use Rattle.step_values.specs.declared.value.Value.TheVariants.{Zero, One, S, C, R, F, U}
use Rattle.skew_algebra.specs.Wave.{Wave, moved, normal}
use Rattle.wave_core.specs.Slots.{earlier}
use Rattle.element_kinds.specs.declared.kind.Kind.{Kind}
use Rattle.element_kinds.specs.declared.kind.Kind.TheVariants.{Buf, Reg, Latch, SetupHold, MinPulse}
use Rattle.element_kinds.specs.declared.form.Form.{Form}
use Rattle.element_kinds.specs.Kinds.{form_of}
use Rattle.flat_circuit.specs.declared.instance.Pin.{Pin}
use Rattle.flat_circuit.specs.declared.instance.Instance.{Instance}
use Rattle.flat_circuit.specs.declared.net.Net.{Net}
use Rattle.flat_circuit.specs.Circuit.{Circuit}
use Rattle.flat_circuit.proofs.RunTables.{limits_of}
use Rattle.fixpoint_engine.specs.Settled.{marked_in}
use Rattle.fixpoint_engine.specs.Waves.{Waves}
use Rattle.timing_analysis.specs.Case.{Case}
use Rattle.drawing_omissions.specs.Lines.{Lines, Adds}
use Rattle.drawing_omissions.specs.declared.spread.Finding.{Finding}
use Rattle.drawing_omissions.specs.declared.spread.Finding.TheVariants.{Spread as ASpread, Loop}
use Rattle.drawing_notes.specs.declared.cases.SoFar.{SoFar}
use Rattle.drawing_notes.specs.Common.{common, common_line, common_ticks}
use Rattle.drawing_notes.specs.SoFar.{HoldsOf}
use Rattle.drawing_omissions.specs.Spread.{spread, spread_line}
use Rattle.drawing_notes.specs.Unclocked.{AreActs, is_active, unclocked, unclocked_line}
use Rattle.drawing_notes.specs.Unknown.{unknown, unknown_line}

-- ---- circuits over a period of four ticks

abbrev header : Header
header = record { units = 4; ticks = 1; wire = record { min = 0; max = 0 }; pskew = (0, 0); cskew = (0, 0) }

abbrev net : List ℕ → ℕ → Net
net name bit = record { name = name; bit = bit; spec = Unasserted; wire = record { min = 0; max = 0 }; driver = None }

abbrev on : ℕ → Pin
on i = record { target = OnNet i; inverted = false; hold = false }

abbrev high : Pin
high = record { target = Constant true; inverted = false; hold = false }

abbrev instance : List ℕ → Kind → List Pin → Instance
instance path kind pins = record {
  path = path;
  bit = 0;
  kind = kind;
  delay = record { min = 1; max = 3 };
  split = None;
  limits = limits_of kind 1;
  pins = pins;
  out = None;
  out_inverted = false;
  place = record { line = 4; col = 1 };
}

-- with bit 0 of A, bit 0 of B and bit 1 of B
abbrev of : List Instance → Circuit
of js = record {
  header = header;
  nets = net (codes "A") 0 ∷ net (codes "B") 0 ∷ net (codes "B") 1 ∷ [];
  instances = js;
  order = 0 ∷ 1 ∷ 2 ∷ [];
}

-- a case in which A has this wave, and all other nets are steady
abbrev wave : List Value → ℕ → Wave Value
wave cells skew = record { cells = cells; skew = skew }

abbrev waves_from : Wave Value → ℕ → Wave Value
waves_from first zero = first
waves_from first (suc i) = wave (S ∷ S ∷ S ∷ S ∷ []) 0

abbrev case : ℕ → Wave Value → Case
case number first = record {
  listed = record { number = number; values = [] };
  rounds = 0;
  waves = waves_from first;
}

-- ---- UNCLOCKED

-- a rise is asked for of a register and a checker, and the step from 1 to 1 of a latch
abbrev active : Form → List Bool
active form = map (is_active form) (Zero ∷ One ∷ S ∷ C ∷ R ∷ F ∷ U ∷ [])

what_a_clock_needs :
    active (form_of Reg) ∷ active (form_of SetupHold) ∷ active (form_of Latch) ∷ active (form_of Buf) ∷ []
    ≡ (false ∷ false ∷ false ∷ true ∷ true ∷ false ∷ true ∷ [])
    ∷ (false ∷ false ∷ false ∷ true ∷ true ∷ false ∷ true ∷ [])
    ∷ (false ∷ true ∷ true ∷ true ∷ true ∷ true ∷ true ∷ [])
    ∷ (false ∷ false ∷ false ∷ false ∷ false ∷ false ∷ false ∷ [])
    ∷ []
what_a_clock_needs = refl

abbrev clocked : Kind → Pin → Circuit
clocked kind clock = of (instance (codes "r1") kind (clock ∷ on 1 ∷ []) ∷ [])

abbrev low_first : Wave Value
low_first = wave (Zero ∷ Zero ∷ R ∷ One ∷ []) 0

abbrev always_low : Wave Value
always_low = wave (Zero ∷ Zero ∷ Zero ∷ Zero ∷ []) 0

never_rises : unclocked (clocked Reg (on 0)) (case 1 always_low ∷ case 2 always_low ∷ [])
    ≡ codes "NOTE UNCLOCKED r1<0> PIN 0 A<0>\n" ∷ []
unfolding digits unclocked_line moved normal earlier back
never_rises = refl

rises_in_one_case : unclocked (clocked Reg (on 0)) (case 1 always_low ∷ case 2 low_first ∷ []) ≡ []
unfolding moved normal earlier back
rises_in_one_case = refl

clock_is_a_constant : unclocked (clocked SetupHold high) (case 0 low_first ∷ [])
    ≡ codes "NOTE UNCLOCKED r1<0> PIN 0 ONE\n" ∷ []
unfolding digits unclocked_line moved normal earlier back
clock_is_a_constant = refl

-- an enable need not rise
always_open : (unclocked (clocked Latch high) (case 0 low_first ∷ []) ≡ [])
    × (unclocked (clocked MinPulse (on 0)) (case 0 always_low ∷ []) ≡ [])
unfolding moved normal earlier back
always_open = (refl, refl)

-- ---- UNKNOWN

nets_of_a_case : unknown (of []) (case 1 low_first ∷ case 2 (wave (Zero ∷ U ∷ One ∷ One ∷ []) 0) ∷ [])
    ≡ codes "NOTE UNKNOWN CASE 2 NETS 1 A<0>\n" ∷ []
unfolding digits unknown_line
nets_of_a_case = refl

-- ---- SPREAD

abbrev spread_of : List ℕ → Finding
spread_of name = ASpread (record { place = record { line = 4; col = 7 }; name = name; width = 4 })

abbrev a_loop : Finding
a_loop = Loop (record { place = record { line = 4; col = 1 }; has_turn = true })

has_another_bit : spread (of []) (a_loop ∷ spread_of (codes "B") ∷ spread_of (codes "A") ∷ [])
    ≡ codes "NOTE SPREAD 4:7 B WIDTH 4\n" ∷ []
unfolding digits spread_line
has_another_bit = refl

-- ---- COMMON

abbrev checked : Circuit
checked = of (instance (codes "c1") SetupHold (on 0 ∷ on 1 ∷ []) ∷ instance (codes "c2") SetupHold (on 1 ∷ on 0 ∷ []) ∷ [])

-- what A clocks comes at B, and what B clocks at A
abbrev both : ℕ → ℕ → Bool
both clock i = ((clock == 0) && (i == 1)) || ((clock == 1) && (i == 0))

abbrev skewed_cases : List Case
skewed_cases = case 1 (wave (Zero ∷ Zero ∷ R ∷ One ∷ []) 1) ∷ case 2 (wave (Zero ∷ Zero ∷ R ∷ One ∷ []) 2) ∷ []

-- only A has a skew, and the greatest counts
skew_of_a_clock : common checked (common_ticks checked (λ ws. both) skewed_cases) ≡ codes "NOTE COMMON c1<0> A<0> TICKS 2\n" ∷ []
unfolding digits common_line
skew_of_a_clock = refl

-- of the cases in which it launches
abbrev in_the_first : Waves → ℕ → ℕ → Bool
in_the_first ws clock i = both clock i && ((ws 0).skew == 1)

skew_of_that_case : common checked (common_ticks checked in_the_first skewed_cases) ≡ codes "NOTE COMMON c1<0> A<0> TICKS 1\n" ∷ []
unfolding digits common_line
skew_of_that_case = refl

not_launched : common checked (common_ticks checked (λ ws clock i. false) skewed_cases) ≡ []
not_launched = refl

-- ---- what the cases so far tell

-- A clocks the first, and B, which is steady, the second
abbrev registers : Circuit
registers = of (instance (codes "r1") Reg (on 0 ∷ on 1 ∷ []) ∷ instance (codes "r2") Reg (on 1 ∷ on 0 ∷ []) ∷ [])

-- A is low with a skew of two ticks, and then unknown for a slot with a skew of one
abbrev two_cases : List Case
two_cases = case 1 (wave (Zero ∷ Zero ∷ Zero ∷ Zero ∷ []) 2) ∷ case 2 (wave (Zero ∷ Zero ∷ U ∷ One ∷ []) 1) ∷ []

acts_in_the_second : AreActs registers two_cases (true ∷ false ∷ [])
unfolding moved normal earlier back
acts_in_the_second zero inside = refl
acts_in_the_second (suc zero) inside = refl
acts_in_the_second (suc (suc k)) inside = absurd (omega (arith, inside))

acts_in_none : AreActs registers (case 1 (wave (Zero ∷ Zero ∷ Zero ∷ Zero ∷ []) 2) ∷ []) (false ∷ false ∷ [])
unfolding moved normal earlier back
acts_in_none zero inside = refl
acts_in_none (suc zero) inside = refl
acts_in_none (suc (suc k)) inside = absurd (omega (arith, inside))

-- one instance for the other
acts_of_the_other : AreActs registers two_cases (false ∷ true ∷ []) → ⊥
unfolding moved normal earlier back
acts_of_the_other are = let no : false ≡ true = are 0 (omega arith) in absurd (cc)

abbrev nothing : Lines
nothing = record { bytes = []; count = 0 }

abbrev one_note : Lines
one_note = record { bytes = codes "NOTE UNKNOWN CASE 2 NETS 1 A<0>\n"; count = 1 }

one_is_added : Adds nothing one_note (unknown registers two_cases)
unfolding digits unknown_line
one_is_added = record { bytes = refl; count = refl }

module _ (s : SoFar) (holds : HoldsOf s registers two_cases) where
  never_without_its_note : s.unknown ≡ nothing → ⊥
  never_without_its_note none = let no : 0 ≡ 1 =
      sym (ap (λ (t : Lines). t.count) none)
      ∙ holds.unknown_notes.count in absurd (omega (arith, no))

  never_a_steady_clock : s.acts.items ≡ true ∷ true ∷ [] → ⊥
  unfolding moved normal earlier back
  never_a_steady_clock marks_are =
      let no : true ≡ false = sym (ap (λ (ms : List Bool). marked_in ms 1) marks_are) ∙ holds.acts 1 (omega arith) in absurd (cc)
