-- The terms of a connection, one after another.
use Rattle.std.proofs.Common.{◌≡◌, ℕ, ◌<◌, arith, List, [], ◌∷◌, ◌++◌, length, refl, sym, ap, ◌∙◌, Option, Some, None}
use Rattle.std.specs.Prelude.{codes}
use Rattle.std.proofs.lemmas.List.{append_assoc, append-nil}
use Rattle.drawing_tree.specs.Canonical.{term_text}
use Rattle.netlist_import.specs.Body.{go_on, run_of, runs_from, runs_text, term_of, with_next}
use Rattle.netlist_import.specs.declared.nets.Net.{Net}
use Rattle.netlist_import.specs.declared.nets.Wired.{Wired}
use Rattle.netlist_import.specs.declared.text.Run.{Run}

-- Behind a term stand an ampersand and the next.
pub run_then : (nets : List Net) (this next : Run) (ws : List Wired) →
    runs_text nets (this ∷ runs_from next ws) ≡ term_text (term_of nets this) ++ codes " & "
    ++ runs_text nets (runs_from next ws)
unfolding runs_from
run_then nets this next [] = simp (append_assoc, append-nil)
run_then nets this next (w ∷ ws) = at (with_next next w) (λ longer. run_then nets this longer ws)
  where
    at : (o : Option Run) → ((longer : Run) → runs_text nets (this ∷ runs_from longer ws)
        ≡ term_text (term_of nets this) ++ codes " & " ++ runs_text nets (runs_from longer ws)) →
        runs_text nets (this ∷ go_on next (run_of w) (λ r. runs_from r ws) o)
        ≡ term_text (term_of nets this) ++ codes " & "
        ++ runs_text nets (go_on next (run_of w) (λ r. runs_from r ws) o)
    at None more = simp append_assoc
    at (Some longer) more = more longer

pub with_more : (nets : List Net) (this : Run) (w : Wired) (ws : List Wired) (longer : Run) →
    with_next this w ≡ Some longer →
    runs_text nets (runs_from this (w ∷ ws)) ≡ runs_text nets (runs_from longer ws)
unfolding runs_from
with_more nets this w ws longer e = rw e refl

pub with_other : (nets : List Net) (this : Run) (w : Wired) (ws : List Wired) → with_next this w
    ≡ None →
    runs_text nets (runs_from this (w ∷ ws)) ≡ term_text (term_of nets this) ++ codes " & "
    ++ runs_text nets (runs_from (run_of w) ws)
unfolding runs_from
with_other nets this w ws e = rw e (run_then nets this (run_of w) ws)

pub run_alone : (nets : List Net) (this : Run) → runs_text nets (runs_from this [])
    ≡ term_text (term_of nets this)
unfolding runs_from
run_alone nets this = append-nil (term_text (term_of nets this))

-- ---- the text that is left

-- The next bit goes on with the term,
pub goes_on : (nets : List Net) (this : Run) (w : Wired) (longer : Run) (out : List ℕ) →
    with_next this w ≡ Some longer → (ws : List Wired) →
    out ++ runs_text nets (runs_from this (w ∷ ws)) ≡ out ++ runs_text nets (runs_from longer ws)
goes_on nets this w longer out e ws =
    ap (λ (t : List ℕ). out ++ t) (with_more nets this w ws longer e)

-- or is the first of another.
pub goes_anew : (nets : List Net) (this : Run) (w : Wired) (next : Run)
    (out middle end : List ℕ) → with_next this w ≡ None →
    middle ≡ out ++ term_text (term_of nets this) → end ≡ middle ++ codes " & " →
    next ≡ run_of w → (ws : List Wired) →
    out ++ runs_text nets (runs_from this (w ∷ ws)) ≡ end ++ runs_text nets (runs_from next ws)
goes_anew nets this w next out middle end none m n same ws =
    let rest = runs_text nets (runs_from (run_of w) ws) in
    let term = term_text (term_of nets this) in
    rw (n, m, same) (ap (λ (t : List ℕ). out ++ t) (with_other nets this w ws none)
    ∙ sym (append_assoc out (term ++ codes " & ") rest)
    ∙ ap (λ (t : List ℕ). t ++ rest) (sym (append_assoc out term (codes " & "))))

pub all_written : (nets : List Net) (this : Run) (all out end : List ℕ) →
    end ≡ out ++ term_text (term_of nets this) →
    all ≡ out ++ runs_text nets (runs_from this []) → end ≡ all
all_written nets this all out end n e =
    n ∙ sym (e ∙ ap (λ (t : List ℕ). out ++ t) (run_alone nets this))

pub runs_stop : (nets : List Net) (this : Run) (left : List Wired) (all out end : List ℕ) →
    length left < 1 → end ≡ out ++ term_text (term_of nets this) →
    all ≡ out ++ runs_text nets (runs_from this left) → end ≡ all
runs_stop nets this [] all out end h n e = all_written nets this all out end n e
runs_stop nets this (w ∷ ws) all out end h n e = absurd (omega arith)
