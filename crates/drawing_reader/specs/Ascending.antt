-- Labels in an order: none of them stands twice.
use Rattle.std.specs.Prelude.{◌≢◌, ℕ, List, ◌++◌, length, Contains}
use Rattle.std.specs.declared.cmp.Ordering.{Ordering}
use Rattle.std.specs.declared.cmp.Ordering.TheVariants.{Less}
use Rattle.std.specs.Ordering.{ordering_then, nat_cmp}
use Rattle.std.specs.Cmp.Lexicographic.{slice_cmp}
use Rattle.drawing_grammar.specs.declared.declared.Kind.TheVariants.{Label}
use Rattle.drawing_grammar.specs.DoubleNames.{Key, key, Declaration, keys_of, Declares}

-- the shorter comes first, and of one length the one whose bytes come first
abbrev pub label_cmp : List ℕ → List ℕ → Ordering
label_cmp a b = ordering_then (nat_cmp (length a) (length b)) (slice_cmp nat_cmp a b)

-- No label of the scope that comes after this one is taken.
abbrev pub IsLast : ℕ → List Key → List ℕ → Type 0
IsLast scope taken last =
    (name : List ℕ) → Contains taken (key scope Label name) → label_cmp last name ≢ Less

-- Behind the last label nothing of these is declared again, and the next one is the last of all
-- then.
abbrev pub Climbs : ℕ → List ℕ → List ℕ → List Declaration → Type 0
Climbs scope last next ds =
    (taken : List Key) → IsLast scope taken last →
    Declares taken (taken ++ keys_of ds) ds × IsLast scope (taken ++ keys_of ds) next

-- If no label of the scope is taken, nothing of these is declared again.
abbrev pub AreFresh : ℕ → List Declaration → Type 0
AreFresh scope ds =
    (taken : List Key) → ((name : List ℕ) → Contains taken (key scope Label name) → ⊥) →
    Declares taken (taken ++ keys_of ds) ds
