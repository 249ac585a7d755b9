-- What reader and writer answer: how many, or a fault with its place. Definitions only.
use Rattle.std.specs.Prelude.{ℕ, Bool, true, false, List, Result, Ok, Err}
use Rattle.tourfile.specs.declared.Fault.{Fault}
use Rattle.tourfile.specs.declared.TourError.{TourError}

-- what reader and writer answer, and how a field or a record is judged
abbrev pub TourAnswer : Type 0
TourAnswer = Result ℕ TourError

abbrev pub Judged : Type 0
Judged = Result (Unit {0}) Fault

-- a fault with its place
abbrev pub error_at : Fault → ℕ → TourError
error_at x at = record { fault = x; place = at }

-- the faults' numbers, in the request's order: of both, of the reader, and those that the writer alone has
abbrev pub fault_number : Fault → ℕ
fault_number Fault.ListedTwice = 101
fault_number Fault.CutShort = 102
fault_number Fault.WrongFirstTag = 103
fault_number Fault.UnknownTag = 104
fault_number Fault.WrongLength = 105
fault_number Fault.OtherVersion = 106
fault_number Fault.UnknownKind = 107
fault_number Fault.ClipNotListed = 108
fault_number Fault.NotRising = 109
fault_number Fault.TooMany = 110
fault_number Fault.WrongCount = 111
fault_number Fault.BytesAfter = 112
fault_number Fault.ListTooShort = 113
fault_number Fault.Unreadable = 114
fault_number Fault.OutputTooShort = 115

-- an answer in numbers: how many records or bytes, or the fault's number and its place
pub data SaysTour : Type 0 where
  gives : ℕ → SaysTour
  refuses : ℕ → ℕ → SaysTour

abbrev pub says_tour : TourAnswer → SaysTour
says_tour (Ok n) = gives n
says_tour (Err e) = refuses (fault_number e.fault) e.place

-- a fault that is of no field and of no record is at 0
abbrev pub refused : Fault → TourAnswer
refused x = Err (error_at x 0)

-- a chain of faults: this one where its test holds, else what the later tests say
unfoldable pub first : Bool → Fault → Judged → Judged
first true x rest = Err x
first false x rest = rest

-- what a call leaves in its lent store: what it does where it is done, else what was there
abbrev pub left_by : TourAnswer → List ℕ → List ℕ → List ℕ
left_by (Ok n) done store = done
left_by (Err e) done store = store
