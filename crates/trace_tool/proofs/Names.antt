-- The parts of a name, label by label.
use Rattle.std.proofs.Common.{◌≡◌, ℕ, suc, ◌+◌, ◌<◌, ◌≤◌, ◌==◌, Bool, true, false, not, cond, List, [], ◌∷◌, length, take, drop, Some, None, refl, arith, rules, tests, ap, sym, subst, ◌∙◌}
use Rattle.std.specs.Prelude.{if◌then◌else◌, nat_lt, position}
use Rattle.std.specs.List.{prefix_len}
use Rattle.std.proofs.lemmas.Option.{same_Some}
use Rattle.trace_tool.specs.Name.{Parts, in_front, parts_of}
use Rattle.trace_tool.specs.Scope.{both_moves, moves}

abbrev pub is_slash : ℕ → Bool
is_slash b = b == 47

-- where the first slash is, or the length
abbrev pub before_slash : List ℕ → ℕ
before_slash text = prefix_len (λ b. not (is_slash b)) text

-- a scope of so many bytes, and what is after its slash
abbrev pub cut_at : List ℕ → ℕ → Parts
cut_at text at =
    record { scopes = take at text ∷ (parts_of (drop (suc at) text)).scopes; base = (parts_of (drop (suc at) text)).base }

step : (slash : Bool) (b : ℕ) (bs : List ℕ) → (before_slash bs < length bs → parts_of bs ≡ cut_at bs (before_slash bs)) →
    cond (not slash) (1 + before_slash bs) 0 < suc (length bs) →
    (if slash then record { scopes = [] ∷ (parts_of bs).scopes; base = (parts_of bs).base } else in_front b (parts_of bs).scopes (parts_of bs).base)
    ≡ cut_at (b ∷ bs) (cond (not slash) (1 + before_slash bs) 0)
step true b bs rest below = refl
step false b bs rest below =
    let more : 1 + before_slash bs ≡ suc (before_slash bs) = omega arith in
    let same = rest (omega arith) in
    ap (λ (p : Parts). in_front b p.scopes p.base) same ∙ ap (cut_at (b ∷ bs)) (sym more)

parts_at : (text : List ℕ) → before_slash text < length text → parts_of text ≡ cut_at text (before_slash text)
parts_at [] below = absurd (omega arith)
parts_at (b ∷ bs) below = step (is_slash b) b bs (parts_at bs) below

no_step : (slash : Bool) (b : ℕ) (bs : List ℕ) → (length bs ≤ before_slash bs → parts_of bs ≡ record { scopes = []; base = bs }) →
    suc (length bs) ≤ cond (not slash) (1 + before_slash bs) 0 →
    (if slash then record { scopes = [] ∷ (parts_of bs).scopes; base = (parts_of bs).base } else in_front b (parts_of bs).scopes (parts_of bs).base)
    ≡ record { scopes = []; base = b ∷ bs }
no_step true b bs rest past = absurd (omega arith)
no_step false b bs rest past = ap (λ (p : Parts). in_front b p.scopes p.base) (rest (omega arith))

no_parts : (text : List ℕ) → length text ≤ before_slash text → parts_of text ≡ record { scopes = []; base = text }
no_parts [] past = refl
no_parts (b ∷ bs) past = no_step (is_slash b) b bs (no_parts bs) past

-- ---- by what a search for a slash gives

by_test : (text : List ℕ) (at : ℕ) (inside : Bool) → nat_lt (before_slash text) (length text) ≡ inside →
    cond inside (Some (before_slash text)) None ≡ Some at → parts_of text ≡ cut_at text at
by_test text at true inside is =
    let same : before_slash text ≡ at = same_Some (before_slash text) at is in
    subst (λ (n : ℕ). parts_of text ≡ cut_at text n) same (parts_at text (search (rules, tests)))
by_test text at false inside is = absurd (cc)

pub at_slash : (text : List ℕ) (at : ℕ) → position is_slash text ≡ Some at → parts_of text ≡ cut_at text at
at_slash text at is = by_test text at (nat_lt (before_slash text) (length text)) refl is

no_test : (text : List ℕ) (inside : Bool) → nat_lt (before_slash text) (length text) ≡ inside →
    cond inside (Some (before_slash text)) None ≡ None → parts_of text ≡ record { scopes = []; base = text }
no_test text true inside is = absurd (cc)
no_test text false inside is = no_parts text (search (rules, tests))

pub no_slash : (text : List ℕ) → position is_slash text ≡ None → parts_of text ≡ record { scopes = []; base = text }
no_slash text is = no_test text (nat_lt (before_slash text) (length text)) refl is

-- ---- moves between scopes of which one has none

pub from_none : (to : List (List ℕ)) → moves [] to ≡ both_moves [] to
from_none to = refl

pub to_none : (from : List (List ℕ)) → moves from [] ≡ both_moves from []
to_none [] = refl
to_none (p ∷ ps) = refl
