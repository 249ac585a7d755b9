-- A handle stands for its own clip while it is live, and no serial comes twice. Assumes nothing.
use mathlib.Core.Path.{◌≡◌, sym, ap, ◌∙◌}
use mathlib.Core.List.{List}
use Prim.Native.Nat.{◌+◌, ◌≤◌}
use native.Mathlib.Omega.{arith}
use lib.Ieee.{Float}
use Rattle.counts.specs.declared.Handle.{Handle}
use Rattle.bank.specs.declared.Clip.{Clip}
use Rattle.bank.specs.Slots.{clip_of, empty_bank, loaded_in}
use Rattle.bank.proofs.Claims.{song_has}
use Rattle.session.specs.Answer.{Says, refused, gives}
use Rattle.session.proofs.Parts.{parts}
use Rattle.session.specs.declared.Answered.{Answered}
use Rattle.clips.specs.Open.{weigh_open, first_handle, first_clip, open_done, open_of}
use Rattle.clips.specs.Load.{weigh_load, handle_for}
use Rattle.clips.proofs.Loaded.{load_fine, load_done_law, load_gives, load_live, load_clip, load_sounds}
use Rattle.clips.proofs.Opened.{open_fine, open_done_law, open_gives, open_sounds}
use Rattle.promises.specs.Calls.{State, Call, after, after_all, code, Opening, opened, at_opening}
use Rattle.promises.specs.Kept.{Good}
use Rattle.promises.specs.Retire.{Live}
use Rattle.promises.specs.Stale.{AllGiven}
use Rattle.promises.specs.Own.{Clipped, StandsFor, LoadGives, loading, OpenGives, song_of, ReadsItsOwn}
use Rattle.promises.proofs.Kept.{types, keeps, reached_good}
use Rattle.promises.proofs.Banked.{Changes, last_rises, live_before, view_stays, clip_stays, kept_by_all}
use Rattle.std.specs.Prelude.{Ok}

-- ---- what is kept by every call

-- the serial was given, and while the handle is live it stands for the clip
record Own (h : Handle) (c : Clipped) (x : State) : Type 0 where
  one : 1 ≤ h.serial
  given : h.serial ≤ x.session.bank.last
  stands : Live h x → StandsFor h c x

own_stays : (h : Handle) (c : Clipped) (x y : State) → Good x → Changes x y → Own h c x → Own h c y
own_stays h c x y g d o =
    let last = last_rises x y d in
    let given = o.given in
    record {
      one = o.one;
      given = omega arith;
      stands = λ l.
          (let was : Live h x = live_before x y h o.one o.given d l in
          let s : StandsFor h c x = o.stands was in
          let clip : clip_of y.session.bank h ≡ clip_of x.session.bank h = clip_stays x y g.pooled h was d in
          record { sounds = view_stays x y g.pooled h was d ∙ s.sounds; kind = ap (λ (z : Clip). z.kind) clip ∙ s.kind; rate = ap (λ (z : Clip). z.rate) clip ∙ s.rate });
    }

own_after : (h : Handle) (c : Clipped) (ks : List Call) (x : State) → Good x → AllGiven ks → Own h c x → Own h c (after_all ks x)
own_after h c = kept_by_all (Own h c) (own_stays h c)

-- ---- a load

-- the handle that is given
abbrev handle_in : Says Handle → Handle
handle_in (refused n) = first_handle
handle_in (gives h) = h

module _ (x : State) (c : Clipped) (h : Handle) (e : LoadGives x c h) where
  fine : weigh_load x.session x.queue x.capture x.pool c.samples c.kind c.rate ≡ Ok tt
  fine = load_fine x.session x.queue x.capture x.pool c.samples c.kind c.rate h e

  its : h ≡ handle_for x.session
  its = ap handle_in (sym e ∙ load_gives x.session x.queue x.capture x.pool c.samples c.kind c.rate fine)

  serial : h.serial ≡ x.session.bank.last + 1
  serial = ap (λ (k : Handle). k.serial) its

  last : (after (loading c) x).session.bank.last ≡ x.session.bank.last + 1
  unfolding loaded_in
  last = ap (λ (z : Answered Handle × List Float). z.0.session.bank.last) (load_done_law x.session x.queue x.capture x.pool c.samples c.kind c.rate fine)

  module _ (g : Good x) where
    alive : Live h (after (loading c) x)
    alive = rw its (load_live x.session x.queue x.capture x.pool c.samples c.kind c.rate fine (types x g))

    own : Own h c (after (loading c) x)
    own =
        let clip = load_clip x.session x.queue x.capture x.pool c.samples c.kind c.rate fine (types x g) in
        record {
          one = omega (arith, serial);
          given = omega (arith, serial, last);
          stands = λ l.
              record {
                sounds = rw its (load_sounds x.session x.queue x.capture x.pool c.samples c.kind c.rate fine (types x g));
                kind = rw its (ap (λ (z : Clip). z.kind) clip);
                rate = rw its (ap (λ (z : Clip). z.rate) clip);
              };
        }

-- ---- opening

module _ (o : Opening) (h : Handle) (e : OpenGives o h) where
  open_weighs : weigh_open o.settings o.queue o.capture o.pool o.samples o.rate o.extent ≡ Ok tt
  open_weighs = open_fine o.settings o.queue o.capture o.pool o.samples o.rate o.extent h e

  open_its : h ≡ first_handle
  open_its = ap handle_in (sym e ∙ open_gives o.settings o.queue o.capture o.pool o.samples o.rate o.extent open_weighs)

  done : open_of o.settings o.queue o.capture o.pool o.samples o.rate o.extent ≡ open_done o.settings o.pool o.samples o.rate o.extent
  done = open_done_law o.settings o.queue o.capture o.pool o.samples o.rate o.extent open_weighs

  open_good : Good (opened o).1
  open_good = reached_good (opened o).1 (at_opening o (ap code e))

  open_last : (opened o).1.session.bank.last ≡ 1
  unfolding loaded_in
  open_last = ap (λ (z : Answered Handle × List Float). z.0.session.bank.last) done

  open_song : (opened o).1.session.stage.playhead.song ≡ first_handle
  open_song = ap (λ (z : Answered Handle × List Float). z.0.session.stage.playhead.song) done

  open_alive : Live h (opened o).1
  open_alive =
      rw (open_its, ← open_song)
      (song_has _ (opened o).1.session.settings.rate (opened o).1.session.stage.playhead.song (parts (opened o).1.session o.queue o.capture open_good.formed).song).alive

  open_clip : clip_of (opened o).1.session.bank first_handle ≡ first_clip o.samples o.rate o.extent
  unfolding loaded_in empty_bank
  open_clip = ap (λ (z : Answered Handle × List Float). clip_of z.0.session.bank first_handle) done

  open_own : Own h (song_of o) (opened o).1
  open_own =
      let n : h.serial ≡ 1 = ap (λ (k : Handle). k.serial) open_its in
      record {
        one = omega arith;
        given = omega (arith, n, open_last);
        stands = λ l.
            record {
              sounds = rw open_its (open_sounds o.settings o.queue o.capture o.pool o.samples o.rate o.extent open_weighs);
              kind = rw open_its (ap (λ (z : Clip). z.kind) open_clip);
              rate = rw open_its (ap (λ (z : Clip). z.rate) open_clip);
            };
      }

-- ---- all of it

pub reads_its_own : ReadsItsOwn
reads_its_own =
    record {
      loaded = λ x c h ks g a e. (alive x c h e g, (own_after h c ks (after (loading c) x) (keeps (loading c) x tt g) a (own x c h e g)).stands);
      opening = λ o h ks a e. (open_alive o h e, (own_after h (song_of o) ks (opened o).1 (open_good o h e) a (open_own o h e)).stands);
      serials = λ x c d h k ks g a e f.
          (let l = (own_after h c ks (after (loading c) x) (keeps (loading c) x tt g) a (own x c h e g)).given in
          let n = serial (after_all ks (after (loading c) x)) d k f in
          omega arith);
      first = λ o d h k ks a e f.
          (let l = (own_after h (song_of o) ks (opened o).1 (open_good o h e) a (open_own o h e)).given in
          let n = serial (after_all ks (opened o).1) d k f in
          omega arith);
    }
