-- The reader's fault is the least of all, by the first byte of its field and then in the request's order. Definitions only.
use Rattle.std.specs.Prelude.{ℕ, ◌≡◌, List, [], ◌∷◌, ◌++◌, Bool, true, false, ◌&&◌, ◌||◌, not, cond, leb, ltb, eqb}
use Rattle.std.specs.Prelude.{Ok, Err}
use Rattle.laws.specs.Order.{all, any}
use Rattle.fields.specs.Field.{is_whole, fields_of, is_more, tag_of}
use Rattle.tourfile.specs.declared.Fault.{Fault}
use Rattle.tourfile.specs.declared.Progress.{Progress}
use Rattle.tourfile.specs.Answer.{TourAnswer}
use Rattle.tourfile.specs.Answer.{fault_number}
use Rattle.tourfile.specs.Reader.{start, wrong_first, unknown_tag, wrong_length, other_version, unknown_kind, not_listed, not_rising, too_many, wrong_count, bytes_after, behind, weighed}

-- a fault, and the first byte of its field
pub record Found : Type 0 where
  pub place : ℕ
  pub fault : Fault

abbrev pub found : ℕ → Fault → Found
found at x = record { place = at; fault = x }

-- a fault, and whether a field has it
pub record Test : Type 0 where
  pub holds : Bool
  pub fault : Fault

abbrev pub test : Bool → Fault → Test
test b x = record { holds = b; fault = x }

-- what may be wrong with a field
abbrev pub tests : List ℕ → Progress → Bool → List ℕ → List Test
tests clips p more f =
    test (not (is_whole f)) Fault.CutShort
    ∷ test (wrong_first p f) Fault.WrongFirstTag
    ∷ test (unknown_tag p f) Fault.UnknownTag
    ∷ test (wrong_length f) Fault.WrongLength
    ∷ test (other_version f) Fault.OtherVersion
    ∷ test (unknown_kind f) Fault.UnknownKind
    ∷ test (not_listed clips f) Fault.ClipNotListed
    ∷ test (not_rising p f) Fault.NotRising
    ∷ test (too_many p f) Fault.TooMany
    ∷ test (wrong_count p f) Fault.WrongCount
    ∷ test (bytes_after more f) Fault.BytesAfter
    ∷ []

-- all that is
abbrev pub faults_at : ℕ → List Test → List Found
faults_at at [] = []
faults_at at (t ∷ ts) = cond t.holds (found at t.fault ∷ faults_at at ts) (faults_at at ts)

-- every fault of every field, and that of a last field which is not there
unfoldable pub faults_in : List ℕ → Progress → Bool → List (List ℕ) → List Found
faults_in clips p ended [] = cond ended [] (found p.at Fault.CutShort ∷ [])
faults_in clips p ended (f ∷ fs) = faults_at p.at (tests clips p (is_more fs) f) ++ faults_in clips (behind p f) (eqb (tag_of f) 3) fs

-- it is the one, and it does not come after another
abbrev pub is_found : Found → Found → Bool
is_found x y = eqb x.place y.place && eqb (fault_number x.fault) (fault_number y.fault)

abbrev pub not_after : Found → Found → Bool
not_after x y = ltb x.place y.place || (eqb x.place y.place && leb (fault_number x.fault) (fault_number y.fault))

-- done where there is no fault, else the least of them
pub record Least (x : Found) (l : List Found) : Type 0 where
  pub among : any (is_found x) l ≡ true
  pub least : all (not_after x) l ≡ true

abbrev pub Lowest : TourAnswer → List Found → Type 0
Lowest (Ok n) l = l ≡ []
Lowest (Err e) l = Least (found e.place e.fault) l

abbrev pub ByLowest : Type 0
ByLowest = (clips file : List ℕ) → Lowest (weighed clips start (fields_of file)) (faults_in clips start false (fields_of file))
