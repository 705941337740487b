-- What is read of a text: its netlist, or why it is refused and at which place.
use Rattle.std.specs.Prelude.{◌≡◌, ℕ, List, Some, None, Result, Ok, Err, if◌then◌else◌, ⊤}
use Rattle.std.specs.Str.{is_utf8}
use Rattle.std.specs.Str.Lossy.{utf8_valid_len}
use Rattle.scald_base.specs.declared.refusal.Place.{Place}
use Rattle.scald_lex.specs.Place.{place_at}
use Rattle.netlist_import.specs.Placed.{Placed}
use Rattle.netlist_import.specs.Parsed.{parsed}
use Rattle.netlist_import.specs.Offset.{token_place}
use Rattle.netlist_import.specs.Netlist.{netlist_of}
use Rattle.netlist_import.specs.Fault.{Found, netlist_fault}
use Rattle.netlist_import.specs.declared.fault.FaultKind.{FaultKind}
use Rattle.netlist_import.specs.declared.fault.FaultKind.TheVariants.{Json}
use Rattle.netlist_import.specs.declared.netlist.Module.{Module}
use Rattle.netlist_import.specs.declared.read.NetlistRefusal.{NetlistRefusal}
use Rattle.netlist_import.specs.declared.read.NetlistEnd.{NetlistEnd}
use Rattle.netlist_import.specs.declared.read.NetlistEnd.TheVariants.{Refused, NoMemory}

-- the modules of a netlist, or why there are none
abbrev pub Reading : Type 0
Reading = Result (List Module) NetlistRefusal

abbrev pub refused_at : FaultKind → Place → Reading
refused_at kind place = Err (record { kind = kind; place = place })

-- a value with this fault, if it has one
abbrev pub judged : List ℕ → Placed → Found → Reading
judged text v None = Ok (netlist_of v)
judged text v (Some fault) = refused_at fault.kind (token_place text fault.token)

-- the value of a text, or the token with which it goes wrong
abbrev pub valued : List ℕ → Result Placed ℕ → Reading
valued text (Ok v) = judged text v (netlist_fault (netlist_of v) v)
valued text (Err token) = refused_at Json (token_place text token)

-- A text that is not UTF-8 is no JSON from the first byte that is none.
unfoldable pub reading : List ℕ → Reading
reading text =
    if is_utf8 text then valued text (parsed text)
    else refused_at Json (place_at text (utf8_valid_len text))

-- It is what the text is read as, or memory ran out.
abbrev pub IsRead : Reading → Result (List Module) NetlistEnd → Type 0
IsRead is (Ok netlist) = is ≡ Ok netlist
IsRead is (Err (Refused refusal)) = is ≡ Err refusal
IsRead is (Err NoMemory) = ⊤
