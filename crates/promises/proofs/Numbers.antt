-- The rules' worked numbers hold, by computation. Assumes nothing.
use mathlib.Core.Path.{refl}
use lib.Ieee.{add, sub, mul, div, of_int, le, lt, to_bits, of_bits}
use Rattle.laws.specs.Block.{run, block}
use Rattle.counts.specs.Below.{all_below, count_below}
use Rattle.ramp.specs.Number.{finite}
use Rattle.ramp.specs.Ramp.{ms_tween}
use Rattle.timeline.specs.Record.{readable, read_of, sooner}
use Rattle.timeline.specs.Store.{row_at, put_row, inserted}
use Rattle.timeline.specs.Queue.{ordered_at, entry_ok, queue_ok, capture_ok}
use Rattle.transport.specs.Transport.{wrap_of, cursor_on, advance_of, is_past, comes_round, step_of}
use Rattle.transport.specs.Deadline.{distance_to, song_deadline_of}
use Rattle.bank.specs.Sample.{sample_ok, samples_ok}
use Rattle.bank.specs.Slots.{used_at, live, stands_for, claim_ok, loaded_in, empty_bank}
use Rattle.bank.specs.Room.{pasted}
use Rattle.bank.specs.Recording.{view_of}
use Rattle.bank.specs.WellFormed.{clip_ok, slot_ok, bank_ok}
use Rattle.oneshot.specs.Heard.{sample_at}
use Rattle.oneshot.specs.Mix.{no_voices, mix_of, mix_in}
use Rattle.stage.specs.Playhead.{moved_of, playhead_by}
use Rattle.stage.specs.Sound.{played_of, with_tail, tail_on, rendered_of, sound_by}
use Rattle.stage.specs.Counters.{counters_by}
use Rattle.stage.specs.Stage.{frame_of, execute_of}
use Rattle.session.specs.Refusal.{first, unless}
use Rattle.session.specs.WellFormed.{settings_ok, numbers_ok, stores_ok, records_ok, handles_ok, song_ok, stingers_ok, heads_ok, master_ok, ramps_ok, counts_ok, well_formed}
use Rattle.block.specs.Block.{weigh_block, ran_of, block_of}
use Rattle.clips.specs.Open.{weigh_open, open_of}
use Rattle.submission.specs.Weigh.{weigh_command}
use Rattle.submission.specs.Submit.{weigh_submit, taken, submit_of}
use Rattle.promises.specs.Numbers.{Numbers}

-- the six numbers of the rules' list that are marked as proved
pub numbers : Numbers
unfolding add sub mul div of_int le lt to_bits of_bits run block all_below count_below finite ms_tween readable read_of sooner row_at put_row inserted ordered_at entry_ok queue_ok capture_ok wrap_of cursor_on advance_of is_past comes_round step_of distance_to song_deadline_of sample_ok samples_ok used_at live stands_for claim_ok loaded_in empty_bank pasted view_of clip_ok slot_ok bank_ok sample_at no_voices mix_of mix_in moved_of playhead_by played_of with_tail tail_on rendered_of sound_by counters_by frame_of execute_of first unless settings_ok numbers_ok stores_ok records_ok handles_ok song_ok stingers_ok heads_ok master_ok ramps_ok counts_ok well_formed weigh_block ran_of block_of weigh_open open_of weigh_command weigh_submit taken submit_of
numbers =
    record {
      declick = (refl, refl, refl);
      deadlines = (refl, refl, refl, refl, refl);
      wraps = (refl, refl, refl, refl);
      commands = (refl, refl, refl, refl, refl, refl);
      song = (refl, refl, refl);
      gain = (refl, refl);
    }
