-- Banks that clips are loaded into and retired from have them as a list, so a session that was opened, loaded and retired from starts with one. Assumes nothing.
use mathlib.Core.Path.{◌≡◌, refl, sym, ap, ◌∙◌}
use mathlib.Core.Logic.{⊎_elim}
use mathlib.Core.Bool.{Bool, true, false, ◌||◌, cond}
use mathlib.Core.List.{List, [], ◌∷◌}
use Prim.Native.Nat.{ℕ, ◌≤◌}
use lib.Dec.{ltb}
use lib.Ieee.{Float}
use Rattle.laws.specs.Order.{without}
use Rattle.laws.proofs.Lists.{each_map, each_without}
use Rattle.counts.specs.declared.SongFrame.{SongFrame}
use Rattle.counts.specs.declared.Handle.{Handle}
use Rattle.counts.specs.Handles.{same_handle}
use Rattle.counts.proofs.Truth.{two_ways, never, and_false_r, or_false}
use Rattle.bank.specs.declared.Kind.{Kind}
use Rattle.bank.specs.declared.Bank.{Bank}
use Rattle.bank.specs.declared.Clip.{Clip}
use Rattle.bank.specs.Slots.{free_slot, empty_bank, live, handle_of, loaded_in, retired_from}
use Rattle.bank.proofs.Slots.{none_used}
use Rattle.bank.proofs.Kept.{Placed, clip_here}
use Rattle.bank.proofs.Handles.{same_is, new_live, load_live, load_keeps_clip, retire_stale, retire_live}
use Rattle.oneshot.specs.Mix.{no_voices}
use Rattle.stage.specs.declared.Settings.{Settings}
use Rattle.session.specs.declared.Session.{Session}
use Rattle.session.proofs.Typed.{Typed}
use Rattle.clips.specs.Open.{weigh_open, first_clip, open_of}
use Rattle.clips.specs.Load.{weigh_load, clip_for, load_of}
use Rattle.clips.specs.Retire.{weigh_retire, retire_of}
use Rattle.clips.proofs.Opened as opened
use Rattle.clips.proofs.Loaded as loaded
use Rattle.clips.proofs.Retired as retired
use Rattle.cliplist.specs.declared.Entry.{Entry}
use Rattle.cliplist.specs.Start.{names, Listed, Has, Starts}
use Rattle.cliplist.proofs.Found.{same_self, each_good}
use Rattle.std.specs.Prelude.{Ok}

-- the line of a clip in a slot
abbrev pub line_of : ℕ → Clip → Entry
line_of slot c = record { handle = handle_of slot c; kind = c.kind; rate = c.rate; frames = c.frames }

-- ---- banks

empty_live : (h : Handle) → live empty_bank h ≡ false
unfolding live empty_bank
empty_live h = rw (none_used h.slot) (and_false_r (ltb h.slot 32) refl)

-- an empty bank has the empty list
pub empty_has : Has [] empty_bank
empty_has = record { lives = empty_live; clips = tt }

-- a load adds its line
pub loaded_has : {b : Bank} {room slot : ℕ} {c : Clip} → Placed b room slot c → (l : List Entry) → Has l b → Has (line_of slot c ∷ l) (loaded_in b slot c)
loaded_has {b} {room} {slot} {c} p l h =
    record {
      lives = λ x. ⊎_elim (same x) (other x) (two_ways (same_handle x (handle_of slot c)));
      clips = (rw (clip_here p) (refl, refl, refl), each_map _ (Listed (loaded_in b slot c)) (λ x g. rw (load_keeps_clip p x.handle g.0) g.1) l (each_good b l h));
    }
  where
    same : (x : Handle) → same_handle x (handle_of slot c) ≡ true → live (loaded_in b slot c) x ≡ names (line_of slot c ∷ l) x
    same x e = rw e (ap (live (loaded_in b slot c)) (same_is x (handle_of slot c) e) ∙ new_live p)

    other : (x : Handle) → same_handle x (handle_of slot c) ≡ false → live (loaded_in b slot c) x ≡ names (line_of slot c ∷ l) x
    other x e = rw e (load_live p x e ∙ h.lives x)

-- the list without a handle's line
abbrev pub left : Handle → List Entry → List Entry
left h l = without (λ (e : Entry). same_handle h e.handle) l

-- it does not name the handle,
left_same : (h : Handle) (l : List Entry) → names (left h l) h ≡ false
left_same h [] = refl
left_same h (e ∷ l) = go (same_handle h e.handle) refl (left_same h l)
  where
    go : (t : Bool) → same_handle h e.handle ≡ t → names (left h l) h ≡ false → names (cond t (left h l) (e ∷ left h l)) h ≡ false
    go true q ih = ih
    go false q ih = or_false q ih

-- and names every other as it did
left_other : (h x : Handle) → same_handle h x ≡ false → (l : List Entry) → names (left h l) x ≡ names l x
left_other h x n [] = refl
left_other h x n (e ∷ l) = go (same_handle h e.handle) refl (left_other h x n l)
  where
    apart : same_handle h e.handle ≡ true → same_handle x e.handle ≡ true → ⊥
    apart q s = never (sym (same_self h) ∙ ap (same_handle h) (same_is h e.handle q ∙ sym (same_is x e.handle s)) ∙ n)

    differ : same_handle h e.handle ≡ true → same_handle x e.handle ≡ false
    differ q = ⊎_elim (λ (s : same_handle x e.handle ≡ true). absurd (apart q s)) (λ (s : same_handle x e.handle ≡ false). s) (two_ways (same_handle x e.handle))

    go : (t : Bool) → same_handle h e.handle ≡ t → names (left h l) x ≡ names l x → names (cond t (left h l) (e ∷ left h l)) x ≡ same_handle x e.handle || names l x
    go true q ih = rw (differ q) ih
    go false q ih = rw ih

-- a retirement takes its line away
pub retired_has : (b : Bank) (h : Handle) → live b h ≡ true → (l : List Entry) → Has l b → Has (left h l) (retired_from b h)
unfolding retired_from
retired_has b h alive l has =
    record {
      lives = λ x. ⊎_elim
          (λ (s : same_handle h x ≡ true). rw (← same_is h x s) (retire_stale b h alive ∙ sym (left_same h l)))
          (λ (s : same_handle h x ≡ false). retire_live b h alive x s ∙ has.lives x ∙ sym (left_other h x s l))
          (two_ways (same_handle h x));
      clips = each_without (Listed b) (λ (e : Entry). same_handle h e.handle) l has.clips;
    }

-- ---- sessions

-- A SESSION THAT WAS OPENED, its queue for 256 commands or more, starts with its song as the list,
pub open_starts : (x : Settings) (q c : List ℕ) (pool samples : List Float) (rate : ℕ) (extent : SongFrame) → weigh_open x q c pool samples rate extent ≡ Ok tt → 256 ≤ x.queue
    → Starts x.mode (line_of 0 (first_clip samples rate extent)) (line_of 0 (first_clip samples rate extent) ∷ []) (open_of x q c pool samples rate extent).0.session
unfolding no_voices
open_starts x q c pool samples rate extent fine room =
    rw (opened.open_done_law x q c pool samples rate extent fine)
    (record {
      list =
          record {
            clips = loaded_has (opened.placed x q c pool samples rate extent fine) [] empty_has;
            mode = refl;
            rate = sym (opened.accepted x q c pool samples rate extent fine).rate_is;
            song = refl;
          };
      clock = refl;
      stands = refl;
      queued = refl;
      voices = refl;
      number = refl;
      room = room;
    })

-- a load adds its line to what a session starts with,
pub load_starts : (s : Session) (q c : List ℕ) (pool samples : List Float) (kind : Kind) (rate : ℕ) → weigh_load s q c pool samples kind rate ≡ Ok tt → Typed s
    → (m : ℕ) (e : Entry) (l : List Entry) → Starts m e l s
    → Starts m e (line_of (free_slot s.bank.used) (clip_for s samples kind rate) ∷ l) (load_of s q c pool samples kind rate).0.session
load_starts s q c pool samples kind rate fine t m e l x =
    rw (loaded.load_done_law s q c pool samples kind rate fine)
    (record {
      list =
          record {
            clips = loaded_has (loaded.load_placed s q c pool samples kind rate fine t) l x.list.clips;
            mode = x.list.mode;
            rate = x.list.rate;
            song = x.list.song;
          };
      clock = x.clock;
      stands = x.stands;
      queued = x.queued;
      voices = x.voices;
      number = x.number;
      room = x.room;
    })

-- and a retirement takes its line away
pub retire_starts : (s : Session) (q c : List ℕ) (h : Handle) → weigh_retire s q c h ≡ Ok tt → (m : ℕ) (e : Entry) (l : List Entry) → Starts m e l s
    → Starts m e (left h l) (retire_of s q c h).session
retire_starts s q c h fine m e l x =
    rw (retired.retire_done s q c h fine)
    (record {
      list =
          record {
            clips = retired_has s.bank h (retired.accepted s q c h fine).alive l x.list.clips;
            mode = x.list.mode;
            rate = x.list.rate;
            song = x.list.song;
          };
      clock = x.clock;
      stands = x.stands;
      queued = x.queued;
      voices = x.voices;
      number = x.number;
      room = x.room;
    })
