-- Refusals: "It refuses, in order".
use Rattle.std.specs.Prelude.{ℕ, Bool, cond, List, [], ◌∷◌, Option, None, Some, Result, Ok, Err}
use Rattle.layout.specs.declared.Refusal.{Refusal}

-- what is demanded, and document 01's number for the refusal where it does not hold
abbrev pub Check : Type 0
Check = Bool × ℕ

-- the refusal of the first check that fails
unfoldable pub refusal : List Check → Option ℕ
refusal [] = None
refusal (c ∷ checks) = cond c.0 (refusal checks) (Some c.1)

-- a refusal as a number: 0 where there is none
unfoldable pub refusal_number : Option ℕ → ℕ
refusal_number None = 0
refusal_number (Some n) = n

-- the refusal that an answer is, if it is one
unfoldable pub refused_by : {A : Type 0} → Result A ℕ → Option ℕ
refused_by (Ok a) = None
refused_by (Err n) = Some n

-- the answer of a check that has nothing else to tell
unfoldable pub answered : Option ℕ → Result (Unit {0}) ℕ
answered None = Ok tt
answered (Some n) = Err n

-- document 01's numbers
abbrev pub number : Refusal → ℕ
number Refusal.LongText = 1
number Refusal.ShortArea = 2
number Refusal.NoToken = 3
number Refusal.Misplaced = 4
number Refusal.TooMany = 5
number Refusal.Repeated = 6
number Refusal.BadImage = 7
number Refusal.ShortTable = 8
number Refusal.OtherTable = 9
number Refusal.AreaLength = 10
number Refusal.NotAsDescribed = 11
number Refusal.NoEvent = 12
number Refusal.TooMuchFuel = 13
number Refusal.VerdictStands = 14
number Refusal.NoRoom = 15
number Refusal.BatchLength = 16
number Refusal.NoCalls = 30

-- what the code answers, with the number of its refusal
abbrev pub numbered : {A : Type 0} → Result A Refusal → Result A ℕ
numbered (Ok a) = Ok a
numbered (Err r) = Err (number r)
