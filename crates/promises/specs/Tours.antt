-- A tour's file for a host of the exported functions, and of what a capture holds. Definitions only.
use Rattle.std.specs.Prelude.{◌≡◌, cond, List, [], ◌∷◌, ℕ, zero, suc, ◌+◌, ◌*◌, ◌^◌, ◌≤◌, ◌<◌, length, take}
use Rattle.timeline.specs.declared.Row.{Row}
use Rattle.timeline.specs.Record.{handle_word}
use Rattle.tourfile.specs.Answer.{says_tour, refuses, gives as gives_tour}
use Rattle.tourfile.specs.Reader.{read_of, read_into}
use Rattle.tourfile.specs.Writer.{records_of, file_of, write_of, write_into}
use Rattle.remains.specs.Salvage.{salvage_of, says_salvage, salvage_out, salvage_list}
use Rattle.bank.specs.declared.Bank.{Bank}
use Rattle.bank.specs.Slots.{used_at, clip_in, handle_of}
use Rattle.session.specs.declared.Session.{Session}
use Rattle.session.specs.Answer.{gives, says}
use Rattle.control.specs.Capture.{stop_capture_of}
use Rattle.host.specs.Answers.{says_tour_by, says_salvage_by}
use Rattle.host.specs.Calls.{read_tour_host, write_tour_host, salvage_host}

-- each says and leaves what its call does
pub record HostTours : Type 0 where
  pub reads : (clips file list : List ℕ)
      → (says_tour_by (read_tour_host clips file list).0 ≡ says_tour (read_of clips file (length list))) × ((read_tour_host clips file list).1 ≡ read_into clips file list)
  pub writes : (clips records out : List ℕ)
      → (says_tour_by (write_tour_host clips records out).0 ≡ says_tour (write_of clips (records_of records) (length out))) × ((write_tour_host clips records out).1 ≡ write_into clips (records_of records) out)
  pub salvages : (file out list : List ℕ)
      → (says_salvage_by (salvage_host file out list).0 ≡ says_salvage (salvage_of file (length out) (length list)))
      × ((salvage_host file out list).1 ≡ salvage_out file out (length list)) × ((salvage_host file out list).2 ≡ salvage_list file (length out) list)

-- the word of a slot: the handle of its clip, none where it is free
unfoldable pub slot_word : Bank → ℕ → ℕ
slot_word b i = cond (used_at b.used i) (handle_word (handle_of i (clip_in b i))) 0

-- those of k slots from slot i on
unfoldable pub slot_words : Bank → ℕ → ℕ → List ℕ
slot_words b i zero = []
slot_words b i (suc k) = slot_word b i ∷ slot_words b (i + 1) k

-- a session's own list: each loaded clip at its slot
unfoldable pub clips_of : Bank → List ℕ
clips_of b = slot_words b 0 32

-- whatever a capture that is stopped gives is written with the session's own list, where serials have their 32 bits; a short output alone is refused
abbrev pub CaptureSaves : Type 0
CaptureSaves =
    (s : Session) (q c list : List ℕ) (n room : ℕ) → s.bank.last < 2 ^ 32 → says (stop_capture_of s q c list).0.answer ≡ gives n
    → let clips : List ℕ = clips_of s.bank in
    let rows : List Row = records_of (take (n * 5) (stop_capture_of s q c list).1) in
    (length (file_of clips rows) ≤ room → says_tour (write_of clips rows room) ≡ gives_tour (length (file_of clips rows)))
    × (room < length (file_of clips rows) → says_tour (write_of clips rows room) ≡ refuses 115 0)
