-- Document 01's numbers of blocks, on the definitions of the call, by computation. Assumes nothing.
use mathlib.Core.Path.{◌≡◌, refl}
use mathlib.Core.Bool.{true, false}
use mathlib.Core.List.{List, [], ◌∷◌}
use Prim.Native.Nat.{ℕ, ◌*◌}
use lib.IntN.{negsuc}
use lib.ListN.{replicate}
use lib.Ieee.{Float, fin, add, sub, mul, div, of_int, le, lt, of_bits}
use Rattle.std.specs.Prelude.{None}
use Rattle.laws.specs.Block.{run, block}
use Rattle.counts.specs.declared.Handle.{Handle}
use Rattle.counts.specs.Below.{all_below, count_below}
use Rattle.ramp.specs.Number.{zero32, one32, finite}
use Rattle.ramp.specs.Ramp.{at_rest}
use Rattle.timeline.specs.Record.{readable, read_of, sooner}
use Rattle.timeline.specs.Store.{row_at}
use Rattle.timeline.specs.Queue.{ordered_at, entry_ok, queue_ok, capture_ok}
use Rattle.transport.specs.declared.Transport.{Transport}
use Rattle.transport.specs.declared.TransportState.{TransportState}
use Rattle.transport.specs.Transport.{transport, wrap_of, cursor_on, advance_of, is_past, comes_round, step_of}
use Rattle.bank.specs.declared.Kind.{Kind}
use Rattle.bank.specs.Sample.{sample_ok}
use Rattle.bank.specs.Slots.{used_at, live, stands_for, claim_ok, loaded_in, empty_bank}
use Rattle.bank.specs.Recording.{view_of}
use Rattle.bank.specs.WellFormed.{clip_ok, slot_ok, bank_ok}
use Rattle.oneshot.specs.Heard.{sample_at}
use Rattle.oneshot.specs.Mix.{no_voices, mix_of, mix_in}
use Rattle.stage.specs.Playhead.{playhead, moved_of, playhead_by}
use Rattle.stage.specs.Sound.{sound, played_of, with_tail, tail_on, rendered_of, sound_by}
use Rattle.stage.specs.Counters.{counters, counters_by}
use Rattle.stage.specs.Stage.{frame_of, execute_of}
use Rattle.session.specs.declared.Session.{Session}
use Rattle.session.specs.Refusal.{first, unless}
use Rattle.session.specs.Session.{desk_of}
use Rattle.session.specs.WellFormed.{settings_ok, numbers_ok, stores_ok, records_ok, handles_ok, song_ok, stingers_ok, heads_ok, master_ok, ramps_ok, counts_ok, well_formed}
use Rattle.block.specs.Block.{weigh_block, ran_of, block_of}

-- 0.5
abbrev half : Float
half = fin false 1 (negsuc 0)

-- -0.5
abbrev minus_half : Float
minus_half = fin true 1 (negsuc 0)

-- 0.25
abbrev quarter : Float
quarter = fin false 1 (negsuc 1)

-- the song (0.5, -0.5), (0.25, 0.25) of length 2, the whole of a pool of two frames
abbrev pool : List Float
pool = half ∷ minus_half ∷ quarter ∷ quarter ∷ []

abbrev song : Handle
song = record { slot = 0; serial = 1 }

-- as opened at 48,000 with room for two commands and no capture, and then n commands queued
abbrev opened : ℕ → Session
opened n =
    record {
      settings = record { rate = 48000; mode = 0; queue = 2; capture = 0; pool = 2 };
      bank = loaded_in empty_bank 0 (record { serial = 1; kind = Kind.Song (record { 0 = 2 }); start = 0; frames = 2; rate = 48000 });
      stage =
          record {
            clock = record { 0 = 0 };
            playhead = playhead (transport TransportState.Stopped 0 0 None 0) song;
            sound = sound (at_rest one32) None no_voices;
            counters = counters 0 0 0;
          };
      queued = n;
      desk = desk_of n n 0 false 0;
    }

-- what is lent to a block of n frames
abbrev lent : ℕ → List Float
lent n = replicate (n * 2) zero32

-- the session after a block of n frames, and its samples
abbrev after : List ℕ → ℕ → Session → Session
after q n s = (block_of s q [] pool (lent n)).0.session

abbrev heard : List ℕ → ℕ → Session → List Float
heard q n s = (block_of s q [] pool (lent n)).1

abbrev executed : Session → ℕ
executed s = s.stage.counters.executed

abbrev transport_of : Session → Transport
transport_of s = s.stage.playhead.transport

-- Play and then Pause at 8: the first to execute stands last
abbrev both : List ℕ
both = 8 ∷ 2 ∷ 2 ∷ 0 ∷ 0 ∷ 8 ∷ 1 ∷ 1 ∷ 0 ∷ 0 ∷ []

-- Play at 0
abbrev play : List ℕ
play = 0 ∷ 1 ∷ 1 ∷ 0 ∷ 0 ∷ 0 ∷ 0 ∷ 0 ∷ 0 ∷ 0 ∷ []

-- Play and then Gain 0 at 0
abbrev mute : List ℕ
mute = 0 ∷ 2 ∷ 8 ∷ 0 ∷ 0 ∷ 0 ∷ 1 ∷ 1 ∷ 0 ∷ 0 ∷ []

-- two commands at 8, clock 0: a block of 8 executes one, of 0 none, then of 1 the other first: Paused before its frame. A block of 9 executes both.
abbrev TwoCommands : Type 0
TwoCommands =
    (executed (after both 8 (opened 2)) ≡ 1)
    × (executed (after both 0 (after both 8 (opened 2))) ≡ 1)
    × (executed (after both 1 (after both 0 (after both 8 (opened 2)))) ≡ 2)
    × (transport_of (after both 1 (after both 0 (after both 8 (opened 2)))) ≡ transport TransportState.Paused 0 0 None 0)
    × (executed (after both 9 (opened 2)) ≡ 2)

-- song (0.5, -0.5), (0.25, 0.25), length 2, Play at 0, block of 4: those pairs, four zeros; position 2, Stopped
abbrev WholeSong : Type 0
WholeSong =
    (heard play 4 (opened 1) ≡ half ∷ minus_half ∷ quarter ∷ quarter ∷ zero32 ∷ zero32 ∷ zero32 ∷ zero32 ∷ [])
    × ((transport_of (after play 4 (opened 1))).position ≡ record { 0 = 2 })
    × ((transport_of (after play 4 (opened 1))).state ≡ TransportState.Stopped)

-- Gain 0 at rest: first frame 255/256, so 0.5 sounds as 0.498046875, which is 255/512
abbrev GainAtRest : Type 0
GainAtRest =
    ((after mute 1 (opened 2)).stage.sound.master.value ≡ fin false 255 (negsuc 7))
    × (heard mute 1 (opened 2) ≡ fin false 255 (negsuc 8) ∷ fin true 255 (negsuc 8) ∷ [])

-- the numbers of blocks
pub numbers : TwoCommands × WholeSong × GainAtRest
unfolding add sub mul div of_int le lt of_bits run block all_below count_below finite readable read_of sooner row_at ordered_at entry_ok queue_ok capture_ok wrap_of cursor_on advance_of is_past comes_round step_of sample_ok used_at live stands_for claim_ok loaded_in empty_bank view_of sample_at clip_ok slot_ok bank_ok no_voices mix_of mix_in moved_of playhead_by played_of with_tail tail_on rendered_of sound_by counters_by frame_of execute_of first unless settings_ok numbers_ok stores_ok records_ok handles_ok song_ok stingers_ok heads_ok master_ok ramps_ok counts_ok well_formed weigh_block ran_of block_of
numbers = ((refl, refl, refl, refl, refl), (refl, refl, refl), (refl, refl))
