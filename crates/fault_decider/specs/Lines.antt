-- The lines of what is said of a fault.
use Rattle.std.specs.Prelude.{◌≡◌, ℕ, ◌≤◌, Bool, true, false, ◌&&◌, nat_le, if◌then◌else◌, List, [], ◌∷◌, ◌++◌, length, codes, decimal, Option, Some, None}
use Rattle.std.specs.List.{concat, flat_map, list_all}
use Rattle.flat_circuit.specs.declared.case.CaseValue.{CaseValue}
use Rattle.flat_circuit.specs.Circuit.{Circuit}
use Rattle.listing.specs.Names.{net_text}
use Rattle.listing.specs.Text.{line}
use Rattle.narrowing.specs.declared.constraint.Constraint.{Constraint}
use Rattle.narrowing.specs.declared.constraint.Constraint.TheVariants.{Instance as OfInstance, Pulse as OfPulse, Net as OfNet}
use Rattle.narrowing.specs.declared.named.Named.{Named}
use Rattle.narrowing.specs.declared.named.Named.TheVariants.{Edge, High, Pulse, Mark, Step}
use Rattle.narrowing.specs.Named.{last_of}
use Rattle.narrowing.specs.declared.part.Part.{Part}
use Rattle.narrowing.specs.declared.part.Part.TheVariants.{Constant, Delay, Offset, Rise, Fall}
use Rattle.fault_decider.specs.declared.showing.Showing.{Showing}
use Rattle.fault_decider.specs.declared.verdict.Verdict.{Verdict}
use Rattle.fault_decider.specs.declared.verdict.Verdict.TheVariants.{Shown, Refuted, Window, Open}
use Rattle.fault_decider.specs.Choices.{delays_text, inputs_text, offsets_text, steps_text, wires_text}
use Rattle.fault_decider.specs.Cone.{IsCone}

-- ---- shown

abbrev pub level_word : Constraint → List ℕ
level_word (OfPulse k false) = codes "LOW"
level_word x = codes "HIGH"

-- the ticks that a break names
abbrev pub named_texts : Constraint → Named → List (List ℕ)
named_texts x (Edge rise change) =
    codes "CLOCK RISES " ∷ decimal rise ∷ codes " INPUT CHANGES " ∷ decimal change ∷ []
named_texts x (High rise fall change) =
    codes "CLOCK RISES " ∷ decimal rise ∷ codes " FALLS " ∷ decimal fall
    ∷ codes " INPUT CHANGES " ∷ decimal change ∷ []
named_texts x (Pulse start end) =
    level_word x ∷ codes " FROM " ∷ decimal start ∷ codes " TO " ∷ decimal end ∷ []
named_texts x (Mark tick marked pin) =
    codes "MARK " ∷ decimal tick ∷ codes " INPUT CHANGES " ∷ decimal tick ∷ []
named_texts x (Step tick) = codes "LEAVES ASSERTION " ∷ decimal tick ∷ []

abbrev pub own_instance : Constraint → Option ℕ
own_instance (OfInstance k) = Some k
own_instance (OfPulse k high) = Some k
own_instance (OfNet i) = None

abbrev pub break_text : Constraint → Named → List ℕ
break_text x named =
    line (codes "SHOWN TICK " ∷ decimal (last_of named) ∷ codes " " ∷ named_texts x named)

abbrev pub shown_text : Circuit → List CaseValue → Constraint → (ℕ → Bool) → Showing → List ℕ
shown_text c values x cone s =
    break_text x s.named ++ delays_text c s.trace cone ++ wires_text c s.trace cone (own_instance x)
    ++ offsets_text c s.trace cone ++ inputs_text c values s.trace cone
    ++ steps_text c s.trace cone (last_of s.named)

-- the lines of a run speak of the constraint's cone
pub record IsShownText (c : Circuit) (values : List CaseValue) (x : Constraint) (s : Showing)
    (said : List ℕ) : Type 0 where
  pub cone : ℕ → Bool
  pub is : IsCone c x cone
  pub text : said ≡ shown_text c values x cone s

-- ---- refuted

abbrev pub is_of_net : Part → Bool
is_of_net (Constant net one) = true
is_of_net (Delay k least greatest) = false
is_of_net (Rise k least greatest) = false
is_of_net (Fall k least greatest) = false
is_of_net (Offset net least greatest) = false

abbrev pub part_text : Circuit → Part → List ℕ
part_text c (Constant net one) =
    concat (net_text c net ∷ codes "=" ∷ (if one then codes "1" else codes "0") ∷ [])
part_text c part = []

-- texts of things, with a text between one and the next
abbrev pub joined : {X : Type 0} → List ℕ → (X → List ℕ) → List X → List ℕ
joined between f [] = []
joined between f (x ∷ xs) = f x ++ flat_map (λ y. between ++ f y) xs

abbrev pub leaf_text : Circuit → List Part → List ℕ
leaf_text c parts = joined (codes " & ") (part_text c) parts

-- at most eight narrowings of nets alone are listed one by one
abbrev pub are_told : List (List Part) → Bool
are_told leaves = nat_le (length leaves) 8 && list_all (list_all is_of_net) leaves

abbrev pub leaves_texts : Circuit → List (List Part) → List (List ℕ)
leaves_texts c leaves =
    if are_told leaves then joined (codes ", ") (leaf_text c) leaves ∷ []
    else decimal (length leaves) ∷ codes " NARROWINGS" ∷ []

abbrev pub refuted_text : Circuit → ℕ → List (List Part) → List ℕ
refuted_text c from leaves =
    line (codes "REFUTED FROM " ∷ decimal from ∷ codes " BY " ∷ leaves_texts c leaves)

-- by the clauses of a window
abbrev pub window_text : ℕ → List ℕ
window_text from = line (codes "REFUTED FROM " ∷ decimal from ∷ codes " BY WINDOW" ∷ [])

-- ---- any verdict

-- the lines of a verdict
abbrev pub AreLines : Circuit → List CaseValue → Constraint → Verdict → List ℕ → Type 0
AreLines c values x (Shown s) said = IsShownText c values x s said
AreLines c values x (Refuted from leaves) said = said ≡ refuted_text c from leaves
AreLines c values x (Window from) said = said ≡ window_text from
AreLines c values x Open said = said ≡ line (codes "OPEN" ∷ [])
