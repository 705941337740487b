-- What the report prints of a refusal's kind.
use Rattle.std.specs.Prelude.{ℕ, List, codes}
use Rattle.scald_base.specs.declared.refusal.RefusalKind.{RefusalKind}
use Rattle.scald_base.specs.declared.refusal.RefusalKind.TheVariants.{BadByte, BadToken, Syntax, BadHeader, DoubleName, UnknownKind, BadName, AssertionClash, BadParameter, Overflow, BadRange, Width, PinCount, Bounds, TooDeep, TooMany, TwoDrivers, ZeroLoop, CaseNet, EdgesOverlap, ZeroDivisor, UnknownName}

abbrev pub number_of : RefusalKind → ℕ
number_of BadByte = 1
number_of BadToken = 2
number_of Syntax = 3
number_of BadHeader = 4
number_of DoubleName = 5
number_of UnknownKind = 6
number_of BadName = 7
number_of AssertionClash = 8
number_of BadParameter = 9
number_of Overflow = 10
number_of BadRange = 11
number_of Width = 12
number_of PinCount = 13
number_of Bounds = 14
number_of TooDeep = 15
number_of TooMany = 16
number_of TwoDrivers = 17
number_of ZeroLoop = 18
number_of CaseNet = 19
number_of EdgesOverlap = 20
number_of ZeroDivisor = 21
number_of UnknownName = 22

abbrev pub name_of : RefusalKind → List ℕ
name_of BadByte = codes "BadByte"
name_of BadToken = codes "BadToken"
name_of Syntax = codes "Syntax"
name_of BadHeader = codes "BadHeader"
name_of DoubleName = codes "DoubleName"
name_of UnknownKind = codes "UnknownKind"
name_of BadName = codes "BadName"
name_of AssertionClash = codes "AssertionClash"
name_of BadParameter = codes "BadParameter"
name_of Overflow = codes "Overflow"
name_of BadRange = codes "BadRange"
name_of Width = codes "Width"
name_of PinCount = codes "PinCount"
name_of Bounds = codes "Bounds"
name_of TooDeep = codes "TooDeep"
name_of TooMany = codes "TooMany"
name_of TwoDrivers = codes "TwoDrivers"
name_of ZeroLoop = codes "ZeroLoop"
name_of CaseNet = codes "CaseNet"
name_of EdgesOverlap = codes "EdgesOverlap"
name_of ZeroDivisor = codes "ZeroDivisor"
name_of UnknownName = codes "UnknownName"
