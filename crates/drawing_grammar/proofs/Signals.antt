-- The name that a text in quotes is of.
use Rattle.std.proofs.Common.{◌≡◌, ℕ, List, Option, Some, None, refl, sym, ap, ◌∙◌}
use Rattle.assertion_syntax.specs.declared.name.SignalName.{SignalName}
use Rattle.assertion_syntax.specs.Name.{IsTextOf}
use Rattle.assertion_syntax.specs.Reading.{name_at, either}
use Rattle.assertion_syntax.proofs.Names.{name_takes, name_again}
use Rattle.drawing_grammar.specs.Sketch.{blank, unquoted, signal_named}

pub named : (text inside : List ℕ) (n : SignalName) → inside ≡ unquoted text → IsTextOf n inside → n ≡ signal_named text
unfolding signal_named
named text inside n e h = sym (ap (λ (o : Option SignalName). either o blank (λ name. name)) (ap name_at (sym e) ∙ name_again inside n h))

pub unnamed : (text inside : List ℕ) → inside ≡ unquoted text → ((n : SignalName) → ¬ IsTextOf n inside) → blank ≡ signal_named text
unfolding signal_named
unnamed text inside e h = one (name_at inside) refl ∙ ap (λ (t : List ℕ). either (name_at t) blank (λ name. name)) e
  where
    one : (o : Option SignalName) → name_at inside ≡ o → blank ≡ either (name_at inside) blank (λ name. name)
    one None f = sym (ap (λ (o : Option SignalName). either o blank (λ name. name)) f)
    one (Some n) f = absurd (h n (name_takes inside n f))
