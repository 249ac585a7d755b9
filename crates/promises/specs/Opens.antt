-- 'Opening loads the first song': as a load into an empty bank; slot 0, start 0 and serial 1 follow. Definitions only.
use Rattle.std.specs.Prelude.{◌≡◌}
use Rattle.bank.specs.declared.Kind.{Kind}
use Rattle.bank.specs.Slots.{empty_bank}
use Rattle.session.specs.declared.Session.{Session}
use Rattle.clips.specs.Open.{first_handle, session_of, open_of}
use Rattle.clips.specs.Load.{load_done}
use Rattle.promises.specs.Calls.{Opening, opened}

-- a session with nothing loaded, whose song is the handle that will be given
abbrev pub unloaded : Opening → Session
unloaded o = session_of o.settings empty_bank first_handle

-- what an accepted opening gives is what a load gives that is not refused: the handle, the session with its bank, and the pool
abbrev pub OpensAsLoad : Type 0
OpensAsLoad =
    (o : Opening) → (opened o).0 ≡ 0
    → open_of o.settings o.queue o.capture o.pool o.samples o.rate o.extent ≡ load_done (unloaded o) o.pool o.samples (Kind.Song o.extent) o.rate
