-- A refusal as the definition's.
use Rattle.std.specs.Prelude.{ℕ, Result, Ok, Err}
use Rattle.definition.specs.Basic as Basic
use Rattle.definition.specs.Basic.{Answer, ok, fails}
use Rattle.syntax.specs.declared.Fault.{Fault}
use Rattle.syntax.specs.declared.Fault.TheVariants as F
use Rattle.syntax.specs.declared.Refusal.{Refusal}

-- document 01's number of a fault
abbrev pub number : Fault → ℕ
number F.TooLong = 1
number F.Ended = 2
number F.TooLarge = 3
number F.UnknownByte = 4
number F.BadIdentifier = 5
number F.BadString = 6
number F.TooMany = 7
number F.BrokenBlocks = 8
number F.SecondStart = 9
number F.WorkTooShort = 10
number F.LateImport = 11
number F.TooManyTypes = 12
number F.NameTaken = 13
number F.NoSuchName = 14
number F.NoSuchType = 15
number F.TypeDiffers = 16
number F.OtherLabel = 17
number F.OutputTooShort = 18
number F.Padded = 19
number F.PointsNowhere = 20

-- the refusal for this fault at this record, which stands for both
abbrev pub refusal : Fault → ℕ → Refusal
refusal f r = record { fault = f; rec = r; first = r }

-- as the definition's
abbrev pub refusal_of : Refusal → Basic.Refusal
refusal_of q = record { number = number q.fault; rec = q.rec; first = q.first }

abbrev pub refused_by : {A : Type 0} → Refusal → Answer A
refused_by q = fails (refusal_of q)

-- what resolving gives, as the definition's answer
abbrev pub Resolved : Type 0 → Type 0
Resolved A = Result A Refusal

abbrev pub answer : {A B : Type 0} → (A → B) → Resolved A → Answer B
answer f (Ok x) = ok (f x)
answer f (Err q) = refused_by q
