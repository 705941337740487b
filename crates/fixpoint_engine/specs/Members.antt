-- The nets of a class, the first of which stands for all of them: it alone is evaluated, and they
-- all change to its wave.
use Rattle.std.specs.Prelude.{◌≡◌, ℕ, zero, suc, ◌<◌, ◌≤◌, ◌==◌, Bool, true, ◌&&◌, nat_lt, if◌then◌else◌, List, [], ◌∷◌, length, map, slice_index_or, Option, Some, None}
use Rattle.std.specs.List.{flat_map, list_any, range_with_len}
use Rattle.flat_circuit.specs.Alike.{class_of}
use Rattle.fixpoint_engine.specs.Settled.{marked_in}
use Rattle.fixpoint_engine.specs.Worklist.{Change, among}
use Rattle.flat_circuit.specs.Circuit.{Circuit}
use Rattle.fixpoint_engine.specs.Waves.{Waves}
use Rattle.fixpoint_engine.specs.Work.{work_to}
use Rattle.fixpoint_engine.specs.Classes.{class_work_to, is_first}

-- the last net of a class below a number
unfoldable pub last_below : List ℕ → ℕ → ℕ → Option ℕ
last_below classes class zero = None
last_below classes class (suc i) =
    if class_of classes i == class then Some i else last_below classes class i

-- the nets of a class below a number, the last one first
unfoldable pub members_below : List ℕ → ℕ → ℕ → List ℕ
members_below classes class zero = []
members_below classes class (suc i) =
    if class_of classes i == class then i ∷ members_below classes class i
    else members_below classes class i

-- the change of a net, for each net of its class
abbrev pub for_class : List ℕ → Change → List Change
for_class classes ch =
    map (λ i. (i, ch.1)) (members_below classes (class_of classes ch.0) (length classes))

-- these changes, each for all nets of its class
abbrev pub for_classes : List ℕ → List Change → List Change
for_classes classes changes = flat_map (for_class classes) changes

-- The last net of a class so far: in a list by the class's number, or else by a map.
abbrev pub last_in : List (Option ℕ) → (ℕ → Option ℕ) → ℕ → Option ℕ
last_in near far class =
    if nat_lt class (length near) then slice_index_or near class None else far class

-- what is known of the first nets of the classes of the nets below a number
pub record AreFirsts (ks firsts : List ℕ) (m : ℕ) : Type 0 where
  pub each_net : length firsts ≡ m
  pub is : (i : ℕ) → i < m → is_first ks (slice_index_or firsts i 0) ≡ true
  pub alike : (i : ℕ) → i < m → class_of ks (slice_index_or firsts i 0) ≡ class_of ks i
  pub below : (i : ℕ) → i < m → slice_index_or firsts i 0 ≤ i

-- for each first net the last one of its class below a number
pub record AreLasts (ks lasts : List ℕ) (m : ℕ) : Type 0 where
  pub each_net : length lasts ≡ m
  pub is : (i : ℕ) → i < m → is_first ks i ≡ true →
      Some (slice_index_or lasts i 0) ≡ last_below ks (class_of ks i) m

-- For each net the last one of its class before it and the first one of its class, and for each of
-- those the last one.
pub record AreMembers (classes : List ℕ) (before : List (Option ℕ))
    (firsts lasts : List ℕ) : Type 0 where
  pub each_net : length before ≡ length classes
  pub before_is : (i : ℕ) → i < length classes →
      slice_index_or before i None ≡ last_below classes (class_of classes i) i
  pub firsts_are : AreFirsts classes firsts (length classes)
  pub lasts_are : AreLasts classes lasts (length classes)

-- ---- if classes may be left out: each net is then a class of its own

-- the class of each net
abbrev pub numbers_in : ℕ → Option (List ℕ) → List ℕ
numbers_in nets None = range_with_len 0 nets
numbers_in nets (Some classes) = classes

-- whether a net stands for its class
abbrev pub leads_in : Option (List ℕ) → ℕ → Bool
leads_in None i = true
leads_in (Some classes) i = nat_lt i (length classes) && is_first classes i

-- whether a net of a set is evaluated, when it is due
abbrev pub is_evaluated : List Bool → Option (List ℕ) → ℕ → Bool
is_evaluated active classes i = marked_in active i && leads_in classes i

-- these changes, each for all nets for which its own stands
abbrev pub for_all : Option (List ℕ) → List Change → List Change
for_all None changes = changes
for_all (Some classes) changes = for_classes classes changes

-- the class of one of the nets is that of the net
abbrev pub is_with : List ℕ → List ℕ → ℕ → Bool
is_with classes nets i = list_any (λ net. class_of classes net == class_of classes i) nets

-- The net changes, if each of these stands for its class, or for itself if there are none.
abbrev pub is_with_any : Option (List ℕ) → List ℕ → ℕ → Bool
is_with_any None nets = among nets
is_with_any (Some classes) nets = is_with classes nets

-- how many evaluations are due in the rounds 1 to r together, one for each class
abbrev pub evaluations_to : Option (List ℕ) → Circuit → (ℕ → Bool) → (ℕ → Waves) → ℕ → ℕ
evaluations_to None c active rounds r = work_to c active rounds r
evaluations_to (Some classes) c active rounds r = class_work_to c classes active rounds r
