-- Slots and handles. Definitions only.
use Rattle.std.specs.Prelude.{ℕ, ◌+◌, ◌-◌, ◌/◌, ◌%◌, ◌^◌, Bool, true, false, not, ◌&&◌, ◌||◌, cond, eqb, ltb, get_or, set, replicate, Option, Some, None}
use Rattle.std.specs.Int.Count.{count_trailing_zeros, ones}
use Rattle.counts.specs.Below.{within}
use Rattle.counts.specs.declared.Handle.{Handle}
use Rattle.counts.specs.declared.Claim.{Claim}
use Rattle.bank.specs.declared.Kind.{Kind}
use Rattle.bank.specs.declared.Clip.{Clip}
use Rattle.bank.specs.declared.Bank.{Bank}
use Rattle.bank.specs.declared.Stands.{Stands}

-- slot i is marked in the number u
unfoldable pub used_at : ℕ → ℕ → Bool
used_at u i = eqb (u / 2 ^ i % 2) 1

-- the lowest free slot is the count of trailing ones, by trailing zeros of the complement; 32 if all are used
unfoldable pub free_slot : ℕ → ℕ
free_slot u = count_trailing_zeros 32 (2 ^ 32 - 1 - u)

-- the loaded count is its ones
abbrev pub loaded_count : ℕ → ℕ
loaded_count u = ones u

-- what an empty slot holds at opening
abbrev pub blank : Clip
blank = record { serial = 0; kind = Kind.Stinger; start = 0; frames = 0; rate = 0 }

-- no slot used and no serial given
unfoldable pub empty_bank : Bank
empty_bank = record { used = 0; last = 0; clips = replicate 32 blank }

-- the clip in slot i
abbrev pub clip_in : Bank → ℕ → Clip
clip_in b i = get_or b.clips i blank

-- the clip in a handle's slot
abbrev pub clip_of : Bank → Handle → Clip
clip_of b h = clip_in b h.slot

-- a handle is live while its slot is used and still has its serial; else it is stale
unfoldable pub live : Bank → Handle → Bool
live b h = ltb h.slot 32 && (used_at b.used h.slot && eqb (clip_of b h).serial h.serial)

-- looking a handle up gives its clip; a stale one has none
abbrev pub found_of : Bank → Handle → Option Clip
found_of b h = cond (live b h) (Some (clip_of b h)) None

-- a handle is spent once its serial has been given and it is live no more
unfoldable pub spent : Bank → Handle → Bool
spent b h = within 1 b.last h.serial && not (live b h)

-- a song's length
abbrev pub extent_of : Kind → ℕ
extent_of (Kind.Song n) = n.0
extent_of Kind.Stinger = 0

-- ---- what a command or a voice claims of the bank

-- a clip is a song or a stinger of its rate
abbrev pub clip_stands : Kind → ℕ → Stands
clip_stands (Kind.Song n) rate = Stands.Song rate
clip_stands Kind.Stinger rate = Stands.Stinger rate

-- a live handle stands for a song or a stinger of a rate
unfoldable pub stands_for : Bank → Handle → Stands
stands_for b h = cond (live b h) (clip_stands (clip_of b h).kind (clip_of b h).rate) Stands.Stale

-- what a command or a voice holds: nothing, or a handle
abbrev pub stands_in : Bank → Claim → Stands
stands_in b Claim.Nothing = Stands.Nothing
stands_in b (Claim.Song h) = stands_for b h
stands_in b (Claim.Stinger h) = stands_for b h

-- the handle is stale
abbrev pub is_stale : Stands → Bool
is_stale Stands.Nothing = false
is_stale Stands.Stale = true
is_stale (Stands.Song rate) = false
is_stale (Stands.Stinger rate) = false

-- it stands for a song
abbrev pub stands_song : Stands → Bool
stands_song Stands.Nothing = false
stands_song Stands.Stale = false
stands_song (Stands.Song rate) = true
stands_song (Stands.Stinger rate) = false

-- it stands for a stinger
abbrev pub stands_stinger : Stands → Bool
stands_stinger Stands.Nothing = false
stands_stinger Stands.Stale = false
stands_stinger (Stands.Song rate) = false
stands_stinger (Stands.Stinger rate) = true

-- a song where a stinger is due, or the reverse
abbrev pub wrong_kind : Claim → Stands → Bool
wrong_kind Claim.Nothing x = false
wrong_kind (Claim.Song h) x = stands_stinger x
wrong_kind (Claim.Stinger h) x = stands_song x

-- the clip's rate is not the session's
abbrev pub wrong_rate : ℕ → Stands → Bool
wrong_rate rate Stands.Nothing = false
wrong_rate rate Stands.Stale = false
wrong_rate rate (Stands.Song r) = not (eqb r rate)
wrong_rate rate (Stands.Stinger r) = not (eqb r rate)

-- live, of the right kind and rate
unfoldable pub claim_ok : Bank → ℕ → Claim → Bool
claim_ok b rate c =
    let x : Stands = stands_in b c in
    not (is_stale x || wrong_kind c x || wrong_rate rate x)

-- ---- what loading and retiring leave

-- the handle of a clip in a slot
abbrev pub handle_of : ℕ → Clip → Handle
handle_of slot c = record { slot = slot; serial = c.serial }

-- a clip in a slot, its serial the last given
unfoldable pub loaded_in : Bank → ℕ → Clip → Bank
loaded_in b slot c = record { used = b.used + 2 ^ slot; last = c.serial; clips = set b.clips slot c }

-- retiring frees slot and room
unfoldable pub retired_from : Bank → Handle → Bank
retired_from b h = record { used = b.used - 2 ^ h.slot; last = b.last; clips = b.clips }
