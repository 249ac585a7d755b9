-- The clip list as words, six for each line. Definitions only.
use Rattle.std.specs.Prelude.{Option, Some, None, ℕ, zero, suc, ◌+◌, ◌*◌, ◌/◌, ◌%◌, ◌^◌, ◌<◌, ◌≡◌, Bool, true, false, not, ◌&&◌, ◌||◌, cond, List, [], ◌∷◌, leb, ltb, eqb, length, get_or, replicate}
use Rattle.counts.specs.Below.{all_below}
use Rattle.bank.specs.declared.Kind.{Kind}
use Rattle.bank.specs.declared.Bank.{Bank}
use Rattle.bank.specs.Slots.{used_at}
use Rattle.session.specs.declared.Session.{Session}
use Rattle.session.specs.WellFormed.{well_formed}
use Rattle.cliplist.specs.declared.Line.{Line}
use Rattle.cliplist.specs.declared.Entry.{Entry}
use Rattle.cliplist.specs.declared.Listing.{Listing}
use Rattle.cliplist.specs.Start.{HasList, spaced, total_of, listed_in, bank_of, made_of}

-- ---- lines

-- the six words of line i
unfoldable pub line_at : List ℕ → ℕ → Line
line_at ws i =
    record {
      slot = get_or ws (i * 6) 0;
      serial = get_or ws (i * 6 + 1) 0;
      kind = get_or ws (i * 6 + 2) 0;
      rate = get_or ws (i * 6 + 3) 0;
      frames = get_or ws (i * 6 + 4) 0;
      extent = get_or ws (i * 6 + 5) 0;
    }

-- kinds: 1 a song, 2 a stinger
abbrev pub is_kind : ℕ → Bool
is_kind n = eqb n 1 || eqb n 2

-- a stinger's length is not looked at
abbrev pub kind_of : ℕ → ℕ → Kind
kind_of n extent = cond (eqb n 1) (Kind.Song (record { 0 = extent })) Kind.Stinger

-- a line can be read: its kind is known, and its slot, serial and rate are numbers of 32 bits
unfoldable pub line_reads : Line → Bool
line_reads x = is_kind x.kind && ltb x.slot (2 ^ 32) && ltb x.serial (2 ^ 32) && ltb x.rate (2 ^ 32)

-- the clip that it lists
unfoldable pub entry_of : Line → Entry
entry_of x = record { handle = record { slot = x.slot; serial = x.serial }; kind = kind_of x.kind x.extent; rate = x.rate; frames = x.frames }

-- that of line i
abbrev pub entry_at : List ℕ → ℕ → Entry
entry_at ws i = entry_of (line_at ws i)

-- the first n lines, the last of them at the head
unfoldable pub entries_of : List ℕ → ℕ → List Entry
entries_of ws zero = []
entries_of ws (suc n) = entry_at ws n ∷ entries_of ws n

-- how many lines there are
abbrev pub lines_in : List ℕ → ℕ
lines_in ws = length ws / 6

-- all of them
abbrev pub entries_in : List ℕ → List Entry
entries_in ws = entries_of ws (lines_in ws)

-- whole lines, at least one
unfoldable pub is_list : List ℕ → Bool
is_list ws = eqb (length ws % 6) 0 && leb 6 (length ws)

-- ---- which lists are accepted

-- the first n lines can be read, each has a slot of its own, and a pool can hold their frames
unfoldable pub all_lines_fit : List ℕ → ℕ → Bool
all_lines_fit ws n = all_below n (λ i. line_reads (line_at ws i)) && spaced (entries_of ws n) && leb (total_of (entries_of ws n)) 33554432

-- the session of the list, whose opening song is the first clip
abbrev pub session_in : ℕ → List ℕ → Session
session_in mode ws = made_of mode (entry_at ws 0) (entries_in ws)

-- a list is accepted where its lines fit and its session is well formed; nothing is queued in it, so that its queue may hold any words
unfoldable pub clips_ok : ℕ → List ℕ → Bool
clips_ok mode ws = is_list ws && all_lines_fit ws (lines_in ws) && well_formed (session_in mode ws) (replicate 1280 0) []

-- what making the session gives: it, or none if no session has the list
unfoldable pub start_of : ℕ → List ℕ → Option Session
start_of mode ws = cond (clips_ok mode ws) (Some (session_in mode ws)) None

-- words that are a list: whole lines, at least one, each of a known kind and in a slot of its own
pub record Lines (ws : List ℕ) : Type 0 where
  pub whole : is_list ws ≡ true
  pub kinds : (i : ℕ) → i < lines_in ws → is_kind (line_at ws i).kind ≡ true
  pub own : spaced (entries_in ws) ≡ true

-- a well formed session, its serials of 32 bits, has the list of the words
pub record Holds (mode : ℕ) (ws : List ℕ) (t : Session) (p d : List ℕ) : Type 0 where
  pub formed : well_formed t p d ≡ true
  pub serials : t.bank.last < 2 ^ 32
  pub list : HasList mode (entry_at ws 0) (entries_in ws) t

-- a list that is accepted is one that a session has: the one that is made of it,
abbrev pub ListTaken : Type 0
ListTaken = (mode : ℕ) (ws : List ℕ) → clips_ok mode ws ≡ true → (q : List ℕ) → length q ≡ 1280 → Lines ws × Holds mode ws (session_in mode ws) q []

-- and one that is refused no session has
abbrev pub ListRefused : Type 0
ListRefused = (mode : ℕ) (ws : List ℕ) → clips_ok mode ws ≡ false → Lines ws → (t : Session) (p d : List ℕ) → Holds mode ws t p d → ⊥

-- ---- line by line

-- clips that were listed, with the frames of all
abbrev pub listing : Bank → ℕ → Listing
listing b total = record { bank = b; total = total }

-- the first n lines: their clips and the frames of all if they fit, else none
abbrev pub Lined : List ℕ → ℕ → Option Listing → Type 0
Lined ws n None = all_lines_fit ws n ≡ false
Lined ws n (Some x) = (all_lines_fit ws n ≡ true) × (x.bank ≡ bank_of (entries_of ws n)) × (x.total ≡ total_of (entries_of ws n))

-- one clip more has a slot of its own and frames that a pool can hold
unfoldable pub clip_fits : Listing → Entry → Bool
clip_fits x e = ltb e.handle.slot 32 && not (used_at x.bank.used e.handle.slot) && leb (x.total + e.frames) 33554432

-- one clip more, if it fits
unfoldable pub clip_more : Listing → Entry → Option Listing
clip_more x e = cond (clip_fits x e) (Some (listing (listed_in x.bank e x.total) (x.total + e.frames))) None
