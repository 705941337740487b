-- Clauses of a few forms.
use Rattle.std.specs.Prelude.{ℕ, ◌-◌, Bool, true, false, not, if◌then◌else◌}
use Rattle.scald_base.specs.Signal.{turned}
use Rattle.run_clauses.specs.declared.driven.Driven.{Driven}
use Rattle.run_clauses.specs.declared.fact.Fact.{Fact}
use Rattle.run_clauses.specs.declared.fact.Fact.TheVariants.{Lasts, Net, Pin}
use Rattle.run_clauses.specs.declared.storage.Storage.{Storage}
use Rattle.run_clauses.specs.declared.fact.Said.{Said}

-- whether two bits are not the same
abbrev pub differ : Bool → Bool → Bool
differ a b = if a then not b else b

abbrev pub not_said : Said → Said
not_said s = record { fact = s.fact; holds = not s.holds }

-- ---- facts, and what is said of them

abbrev pub said : Fact → Bool → Said
said fact holds = record { fact = fact; holds = holds }

abbrev pub out_said : Driven → Bool → Said
out_said d bit = said (Net d.net d.tick) (turned d.inverted bit)

abbrev pub old_said : Driven → Bool → Said
old_said d bit = said (Net d.net (d.tick - 1)) (turned d.inverted bit)

-- if there is a set or a reset, that it is 1; else that the run has ended, which is said anyhow
abbrev pub forced_said : Storage → ℕ → Said
forced_said s pin =
    if s.forced then said (Pin s.net.instance pin s.tick) true else said (Lasts s.net.tick) false
