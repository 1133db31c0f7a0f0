-- 01, "Turning a request away": the number of each refusal, and what a caller is told.
-- Assumes nothing.
use Rattle.std.specs.Prelude.{ℕ, Result, Ok, Err, ⊤}
use Rattle.refusal.specs.declared.Refusal.{Refusal}
use Rattle.refusal.specs.declared.Refusal.TheVariants.{Room, Strip, Table, Length, Message, Frame, Version, Count, Continuation, Clock, Buffer}

abbrev pub refusal_number : Refusal → ℕ
refusal_number Room = 1
refusal_number Strip = 2
refusal_number Table = 3
refusal_number Length = 4
refusal_number Message = 5
refusal_number Frame = 6
refusal_number Version = 7
refusal_number Count = 8
refusal_number Continuation = 9
refusal_number Clock = 10
refusal_number Buffer = 11

-- "Number 0 means answered", and "Length 0" with any other
abbrev pub told_of : Result ℕ Refusal → ℕ × ℕ
told_of (Ok length) = (0, length)
told_of (Err refusal) = (refusal_number refusal, 0)

-- the number of what was tested: 0 where no refusal applies
abbrev pub refused_with : {A : Type 0} → Result A Refusal → ℕ
refused_with (Ok a) = 0
refused_with (Err refusal) = refusal_number refusal
