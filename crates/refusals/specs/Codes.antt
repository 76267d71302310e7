use Rattle.std.specs.Prelude.{ℕ}
use Rattle.refusals.specs.declared.refusal.Refusal.{Refusal}
use Rattle.refusals.specs.declared.refusal.Refusal.TheVariants.{LineTooShort, MemoryTooShort, TextTooLong, MalformedRecord, UnknownRecord, WrongFieldCount, BadlyWritten, AlreadyDeclared, NotDeclared, TableFull, HouseInUse, IllFormedDraft, SeparatedRolesHeld, UnitsOverlap, ProhibitedPairAssigned, ReachesBarredPermission, InvalidLease, NoSuchNumber, NotAdministrator, LeaseOut, ProhibitedPair, OutsideTask, AlreadyAssigned, NotAssigned, WouldReachBarredPermission, SessionLive, SessionNotLive, RoleNotHeld, RoleUnchanged, SeparatedRolesActive, NoSuchPermission}

-- The published number of each reason: the one place where these numbers are said.
-- Within one call a reason of a lower number is tested before one of a higher number.
abbrev pub code_of : Refusal → ℕ
code_of LineTooShort = 1
code_of MemoryTooShort = 2
code_of TextTooLong = 3
code_of (MalformedRecord at) = 4
code_of (UnknownRecord at) = 5
code_of (WrongFieldCount at) = 6
code_of (BadlyWritten at) = 7
code_of (AlreadyDeclared at) = 8
code_of (NotDeclared at) = 9
code_of (TableFull at) = 10
code_of HouseInUse = 11
code_of IllFormedDraft = 12
code_of SeparatedRolesHeld = 13
code_of UnitsOverlap = 14
code_of ProhibitedPairAssigned = 15
code_of ReachesBarredPermission = 16
code_of InvalidLease = 17
code_of NoSuchNumber = 18
code_of NotAdministrator = 19
code_of LeaseOut = 20
code_of ProhibitedPair = 21
code_of OutsideTask = 22
code_of AlreadyAssigned = 23
code_of NotAssigned = 24
code_of WouldReachBarredPermission = 25
code_of SessionLive = 26
code_of SessionNotLive = 27
code_of RoleNotHeld = 28
code_of RoleUnchanged = 29
code_of SeparatedRolesActive = 30
code_of NoSuchPermission = 31
