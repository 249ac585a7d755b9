-- The exported reader, writer and salvage say and leave what the calls do.
use mathlib.Core.Path.{◌≡◌, refl}
use mathlib.Core.Bool.{false}
use lib.ListN.{length}
use lib.Dec.{eqb}
use Rattle.std.specs.Prelude.{Ok, Err}
use Rattle.tourfile.specs.declared.Fault.{Fault}
use Rattle.tourfile.specs.Answer.{TourAnswer}
use Rattle.tourfile.specs.Answer.{fault_number, says_tour}
use Rattle.tourfile.specs.Reader.{read_of}
use Rattle.tourfile.specs.Writer.{records_of, write_of}
use Rattle.remains.specs.Salvage.{SalvageAnswer}
use Rattle.remains.specs.Salvage.{salvage_of, says_salvage}
use Rattle.host.specs.Answers.{toured_by, says_tour_by, salvaged_by, says_salvage_by}
use Rattle.host.specs.Calls.{read_tour_host, write_tour_host, salvage_host}
use Rattle.promises.specs.Tours.{HostTours}

-- no fault's number is 0
number_some : (x : Fault) → eqb (fault_number x) 0 ≡ false
number_some Fault.ListedTwice = refl
number_some Fault.CutShort = refl
number_some Fault.WrongFirstTag = refl
number_some Fault.UnknownTag = refl
number_some Fault.WrongLength = refl
number_some Fault.OtherVersion = refl
number_some Fault.UnknownKind = refl
number_some Fault.ClipNotListed = refl
number_some Fault.NotRising = refl
number_some Fault.TooMany = refl
number_some Fault.WrongCount = refl
number_some Fault.BytesAfter = refl
number_some Fault.ListTooShort = refl
number_some Fault.Unreadable = refl
number_some Fault.OutputTooShort = refl

toured_says : (a : TourAnswer) → says_tour_by (toured_by a) ≡ says_tour a
toured_says (Ok n) = refl
toured_says (Err e) = rw (number_some e.fault) refl

salvaged_says : (a : SalvageAnswer) → says_salvage_by (salvaged_by a) ≡ says_salvage a
salvaged_says (Ok t) = refl
salvaged_says (Err x) = rw (number_some x) refl

pub host_tours : HostTours
unfolding read_tour_host write_tour_host salvage_host
host_tours = record {
  reads = λ clips file list. (toured_says (read_of clips file (length list)), refl);
  writes = λ clips records out. (toured_says (write_of clips (records_of records) (length out)), refl);
  salvages = λ file out list. (salvaged_says (salvage_of file (length out) (length list)), refl, refl);
}
