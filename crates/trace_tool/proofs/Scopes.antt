-- Lines that go from scope to scope.
use Rattle.std.proofs.Common.{◌≡◌, ℕ, suc, ◌+◌, ◌-◌, length, Bool, true, false, List, [], ◌∷◌, ◌++◌, take, drop, arith, add-one, ap, sym, ◌∙◌}
use Rattle.std.proofs.lemmas.List.{length-drop, take_all}
use Rattle.std.specs.Prelude.{if◌then◌else◌, position, Some, None}
use Rattle.std.specs.List.{flat_map}
use Rattle.std.specs.Str.{bytes_eq}
use Rattle.trace_tool.specs.Name.{Parts, parts_of}
use Rattle.trace_tool.specs.Scope.{both_moves, moves}
use Rattle.trace_tool.proofs.Names.{at_slash, is_slash, no_slash, to_none}

-- what is after the slash at a place
abbrev pub rest_of : List ℕ → ℕ → List ℕ
rest_of text at = take (length text - (at + 1)) (drop (at + 1) text)

rest_is : (text : List ℕ) (at : ℕ) → drop (at + 1) text ≡ rest_of text at
rest_is text at =
    let long = length-drop (at + 1) text in
    sym (take_all (length text - (at + 1)) (drop (at + 1) text) (omega (arith, long)))

behind : (text : List ℕ) (at : ℕ) → parts_of (drop (suc at) text) ≡ parts_of (rest_of text at)
behind text at = ap (λ (n : ℕ). parts_of (drop n text)) (sym (add-one at)) ∙ ap parts_of (rest_is text at)

-- the scopes of a name, by its first slash
pub scopes_at : (text : List ℕ) (at : ℕ) → position is_slash text ≡ Some at →
    (parts_of text).scopes ≡ take at text ∷ (parts_of (rest_of text at)).scopes
scopes_at text at is =
    ap (λ (p : Parts). p.scopes) (at_slash text at is)
    ∙ ap (λ (p : Parts). take at text ∷ p.scopes) (behind text at)

pub no_scopes : (text : List ℕ) → position is_slash text ≡ None → (parts_of text).scopes ≡ []
no_scopes text is = ap (λ (p : Parts). p.scopes) (no_slash text is)

pub base_at : (text : List ℕ) (at : ℕ) → position is_slash text ≡ Some at → (parts_of text).base ≡ (parts_of (rest_of text at)).base
base_at text at is =
    ap (λ (p : Parts). p.base) (at_slash text at is) ∙ ap (λ (p : Parts). p.base) (behind text at)

pub all_base : (text : List ℕ) → position is_slash text ≡ None → (parts_of text).base ≡ text
all_base text is = ap (λ (p : Parts). p.base) (no_slash text is)

-- the lines of the scopes of a name, the first in front
pub lines_at : (line : List ℕ → List ℕ) (text : List ℕ) (at : ℕ) → position is_slash text ≡ Some at →
    flat_map line (parts_of text).scopes ≡ line (take at text) ++ flat_map line (parts_of (rest_of text at)).scopes
lines_at line text at is = ap (flat_map line) (scopes_at text at is)

pub no_lines : (line : List ℕ → List ℕ) (text : List ℕ) → position is_slash text ≡ None → flat_map line (parts_of text).scopes ≡ []
no_lines line text is = ap (flat_map line) (no_scopes text is)

-- ---- from one name to another

both_at : (from to : List ℕ) (i j : ℕ) → position is_slash from ≡ Some i → position is_slash to ≡ Some j →
    moves (parts_of from).scopes (parts_of to).scopes
    ≡ moves (take i from ∷ (parts_of (rest_of from i)).scopes) (take j to ∷ (parts_of (rest_of to j)).scopes)
both_at from to i j is other =
    ap (λ (l : List (List ℕ)). moves l (parts_of to).scopes) (scopes_at from i is)
    ∙ ap (λ (l : List (List ℕ)). moves (take i from ∷ (parts_of (rest_of from i)).scopes) l) (scopes_at to j other)

pub shared : (from to : List ℕ) (i j : ℕ) → position is_slash from ≡ Some i → position is_slash to ≡ Some j →
    bytes_eq (take i from) (take j to) ≡ true →
    moves (parts_of from).scopes (parts_of to).scopes ≡ moves (parts_of (rest_of from i)).scopes (parts_of (rest_of to j)).scopes
shared from to i j is other same =
    both_at from to i j is other
    ∙ ap (λ (b : Bool). if b then moves (parts_of (rest_of from i)).scopes (parts_of (rest_of to j)).scopes
    else both_moves (take i from ∷ (parts_of (rest_of from i)).scopes) (take j to ∷ (parts_of (rest_of to j)).scopes)) same

pub differ : (from to : List ℕ) (i j : ℕ) → position is_slash from ≡ Some i → position is_slash to ≡ Some j →
    bytes_eq (take i from) (take j to) ≡ false →
    moves (parts_of from).scopes (parts_of to).scopes ≡ both_moves (parts_of from).scopes (parts_of to).scopes
differ from to i j is other not =
    both_at from to i j is other
    ∙ ap (λ (b : Bool). if b then moves (parts_of (rest_of from i)).scopes (parts_of (rest_of to j)).scopes
    else both_moves (take i from ∷ (parts_of (rest_of from i)).scopes) (take j to ∷ (parts_of (rest_of to j)).scopes)) not
    ∙ ap (λ (l : List (List ℕ)). both_moves l (take j to ∷ (parts_of (rest_of to j)).scopes)) (sym (scopes_at from i is))
    ∙ ap (both_moves (parts_of from).scopes) (sym (scopes_at to j other))

pub from_no_scope : (from to : List ℕ) → position is_slash from ≡ None →
    moves (parts_of from).scopes (parts_of to).scopes ≡ both_moves (parts_of from).scopes (parts_of to).scopes
from_no_scope from to is =
    ap (λ (l : List (List ℕ)). moves l (parts_of to).scopes) (no_scopes from is)
    ∙ ap (λ (l : List (List ℕ)). both_moves l (parts_of to).scopes) (sym (no_scopes from is))

pub to_no_scope : (from to : List ℕ) → position is_slash to ≡ None →
    moves (parts_of from).scopes (parts_of to).scopes ≡ both_moves (parts_of from).scopes (parts_of to).scopes
to_no_scope from to is =
    ap (moves (parts_of from).scopes) (no_scopes to is) ∙ to_none (parts_of from).scopes
    ∙ ap (both_moves (parts_of from).scopes) (sym (no_scopes to is))
