-- Which clip lists are accepted: exactly those that some well formed session has. Assumes nothing.
use mathlib.Core.Path.{◌≡◌, refl, sym, ◌∙◌, subst}
use mathlib.Core.Logic.{◌⊎◌, inl, inr}
use mathlib.Core.Bool.{true, ◌&&◌}
use mathlib.Core.List.{List, [], ◌∷◌}
use Prim.Native.Nat.{ℕ, zero, suc, ◌^◌, ◌≤◌, ◌<◌}
use native.Mathlib.Omega.{arith}
use lib.Ieee.{le}
use lib.ListN.{length, replicate, length-replicate}
use borrow.Author.Tests.{le-leb, lt-ltb}
use Rattle.laws.specs.Queue.{Each}
use Rattle.counts.specs.declared.Handle.{Handle}
use Rattle.counts.specs.Below.{all_below, count_below}
use Rattle.counts.proofs.Truth.{lt_or_le, and_l, and_r, and_true, never}
use Rattle.counts.proofs.Below.{within_is, within_high, all_true, all_at}
use Rattle.timeline.proofs.WellFormed.{queue_none, capture_none}
use Rattle.bank.specs.declared.Bank.{Bank}
use Rattle.bank.specs.Slots.{live, clip_of, extent_of}
use Rattle.bank.specs.WellFormed.{bank_ok}
use Rattle.bank.proofs.Claims.{SongHeld, song_has, song_is}
use Rattle.bank.proofs.Clauses.{live_has}
use Rattle.bank.proofs.Handles.{live_clip}
use Rattle.oneshot.specs.Mix.{no_voices}
use Rattle.session.specs.declared.Session.{Session}
use Rattle.session.specs.WellFormed.{settings_ok, well_formed}
use Rattle.session.proofs.Parts.{Parts, parts, whole}
use Rattle.session.proofs.Ranged.{Ranged, ranged}
use Rattle.cliplist.specs.declared.Entry.{Entry}
use Rattle.cliplist.specs.Start.{HasList, Starts, spaced, total_of, no_clips, listed_in, bank_of, made_of}
use Rattle.cliplist.specs.Words.{line_at, is_kind, line_reads, entry_of, entry_at, entries_of, lines_in, entries_in, is_list, all_lines_fit, session_in, clips_ok, Lines, ListTaken, ListRefused}
use Rattle.cliplist.proofs.Built.{built}
use Rattle.cliplist.proofs.Found.{Good, each_good, found, listed_clauses, bank_formed}
use Rattle.cliplist.proofs.Total.{total_fits}
use Rattle.cliplist.proofs.Lines.{readable, fit_reads, fit_own}
use Rattle.cliplist.proofs.Same.{Agree, has_same}
use Rattle.cliplist.proofs.Short.{list_short}

-- ---- the session made of a list

-- what its queue holds does not count: nothing is queued
queue_any : (m : ℕ) (e : Entry) (l : List Entry) (p q : List ℕ) → length q ≡ 1280 → well_formed (made_of m e l) p [] ≡ true → well_formed (made_of m e l) q [] ≡ true
unfolding no_voices count_below
queue_any m e l p q size w =
    let x : Parts (made_of m e l) p [] = parts (made_of m e l) p [] w in
    whole (made_of m e l) q []
    (record {
      settings = x.settings;
      clock = x.clock;
      queued = x.queued;
      captured = x.captured;
      voices = x.voices;
      queue_size = size;
      capture_size = x.capture_size;
      bank = x.bank;
      queue = queue_none 0 q;
      capture = x.capture;
      song = x.song;
      tail = x.tail;
      voices_held = x.voices_held;
      queue_held = λ j n. absurd (omega arith);
      capture_held = x.capture_held;
      position = x.position;
      looped = x.looped;
      stinging = omega arith;
      heads = x.heads;
      master = x.master;
      master_target = x.master_target;
      weight = x.weight;
      gains = x.gains;
      executed = x.executed;
      special = x.special;
    })

-- a list that some well formed session has: the session made of it is well formed
module _ (m : ℕ) (e : Entry) (l : List Entry) (t : Session) (p d : List ℕ) (formed : well_formed t p d ≡ true) (small : t.bank.last < 2 ^ 32)
    (has : HasList m e l t) (own : spaced l ≡ true) where
  a : Parts t p d
  a = parts t p d formed

  its : Ranged t.settings
  its = ranged t.settings a.settings

  good : Each (Good t.bank) l
  good = each_good t.bank l has.clips

  same : Agree (bank_of l) t.bank
  same = has_same l (bank_of l) t.bank (built l own).has has.clips

  held : SongHeld t.bank e.rate e.handle
  held = song_has t.bank e.rate e.handle (rw (has.song, has.rate) at a.song)

  alive : live (bank_of l) e.handle ≡ true
  alive = same.lives e.handle ∙ held.alive

  -- the song has a frame, so all have one
  some : 1 ≤ total_of l
  some =
      let x = live_has (bank_of l) e.handle alive in
      let y = found t.bank l own good e.handle.slot x.used in
      let c = listed_clauses t.bank t.settings.pool a.bank small l e.handle.slot y in
      let w = c.long in
      let z = c.lies in
      omega arith

  -- and a pool holds them
  few : total_of l ≤ 33554432
  few =
      let x = total_fits t.bank t.settings.pool a.bank l own good in
      let y = within_high 1 33554432 t.settings.pool its.pool in
      omega arith

  made_settings : settings_ok (made_of m e l).settings ≡ true
  unfolding settings_ok
  made_settings = and_true (and_true (and_true (and_true (rw has.rate at its.rate) refl) refl) (within_is 1 33554432 (total_of l) some few)) (rw has.mode at its.mode)

  made_well : (q : List ℕ) → length q ≡ 1280 → well_formed (made_of m e l) q [] ≡ true
  unfolding no_voices count_below le
  made_well q size =
      whole (made_of m e l) q []
      (record {
        settings = made_settings;
        clock = omega arith;
        queued = omega arith;
        captured = omega arith;
        voices = omega arith;
        queue_size = size;
        capture_size = refl;
        bank = bank_formed t.bank t.settings.pool a.bank small l own good;
        queue = queue_none 0 q;
        capture = capture_none 0 [];
        song =
            song_is (bank_of l) e.rate e.handle
            (record { alive = alive; song = (held.song.0, same.kinds e.handle alive ∙ held.song.1); rated = same.rates e.handle alive ∙ held.rated });
        tail = refl;
        voices_held = λ i n. absurd (omega arith);
        queue_held = λ j n. absurd (omega arith);
        capture_held = λ j n. absurd (omega arith);
        position = omega arith;
        looped = refl;
        stinging = omega arith;
        heads = λ i n. absurd (omega arith);
        master = omega arith;
        master_target = refl;
        weight = refl;
        gains = λ i n. absurd (omega arith);
        executed = omega arith;
        special = omega arith;
      })

-- ---- an accepted list

-- the serials of a list's bank have 32 bits
bank_small : (l : List Entry) → (bank_of l).last < 2 ^ 32
unfolding bank_of listed_in no_clips
bank_small [] = omega arith
bank_small (e ∷ l) = bank_small l

module _ (m : ℕ) (ws : List ℕ) (ok : clips_ok m ws ≡ true) where
  lines_ok : is_list ws && all_lines_fit ws (lines_in ws) ≡ true
  unfolding clips_ok
  lines_ok = and_l (is_list ws && all_lines_fit ws (lines_in ws)) (well_formed (session_in m ws) (replicate 1280 0) []) ok

  lines_fit : all_lines_fit ws (lines_in ws) ≡ true
  lines_fit = and_r (is_list ws) (all_lines_fit ws (lines_in ws)) lines_ok

  -- its clips have slots of their own,
  pub own_slots : spaced (entries_in ws) ≡ true
  own_slots = fit_own ws (lines_in ws) lines_fit

  -- so that it is a list,
  pub accepted_lines : Lines ws
  accepted_lines =
      record {
        whole = and_l (is_list ws) (all_lines_fit ws (lines_in ws)) lines_ok;
        kinds = λ i n. (readable (line_at ws i) (all_at (λ i. line_reads (line_at ws i)) (lines_in ws) i (fit_reads ws (lines_in ws) lines_fit) n)).kind;
        own = own_slots;
      }

  -- the session made of it is well formed with any queue of its size,
  pub made_formed : (q : List ℕ) → length q ≡ 1280 → well_formed (session_in m ws) q [] ≡ true
  unfolding clips_ok
  made_formed q size =
      queue_any m (entry_at ws 0) (entries_in ws) (replicate 1280 0) q size
      (and_r (is_list ws && all_lines_fit ws (lines_in ws)) (well_formed (session_in m ws) (replicate 1280 0) []) ok)

  -- its serials have 32 bits,
  pub made_small : (session_in m ws).bank.last < 2 ^ 32
  made_small = bank_small (entries_in ws)

  -- its songs are short enough,
  pub made_short : (h : Handle) → extent_of (clip_of (session_in m ws).bank h).kind ≤ 2 ^ 40
  made_short = list_short (entries_in ws) (total_of (entries_in ws)) own_slots (parts (session_in m ws) (replicate 1280 0) [] (made_formed (replicate 1280 0) (length-replicate {A = ℕ} 1280 0))).bank

  -- and it starts with the list
  pub made_starts : Starts m (entry_at ws 0) (entries_in ws) (session_in m ws)
  unfolding no_voices
  made_starts =
      record {
        list = record { clips = (built (entries_in ws) own_slots).has; mode = refl; rate = refl; song = refl };
        clock = refl;
        stands = refl;
        queued = refl;
        voices = refl;
        number = refl;
        room = omega arith;
      }

-- ---- a list that some well formed session has

-- what holds of each of the first n lines holds of line i
each_line : (P : Entry → Type 0) (ws : List ℕ) (n : ℕ) → Each P (entries_of ws n) → (i : ℕ) → i < n → P (entry_at ws i)
unfolding entries_of
each_line P ws zero c i b = absurd (omega arith)
each_line P ws (suc n) c i b = go (lt_or_le i n) (each_line P ws n c.1 i)
  where
    go : (i < n) ⊎ (n ≤ i) → (i < n → P (entry_at ws i)) → P (entry_at ws i)
    go (inl q) ih = ih q
    go (inr q) ih = let z : n ≡ i = omega arith in subst (λ (j : ℕ). P (entry_at ws j)) z c.0

-- a line of a known kind whose clip a well formed bank has can be read
good_reads : (k : Bank) (room : ℕ) → bank_ok k room ≡ true → k.last < 2 ^ 32 → (ws : List ℕ) (i : ℕ) → Good k (entry_at ws i) → is_kind (line_at ws i).kind ≡ true → line_reads (line_at ws i) ≡ true
unfolding line_reads entry_of
good_reads k room ok small ws i g kind =
    let h : Handle = (entry_at ws i).handle in
    let a = live_has k h g.0 in
    let c = live_clip k room ok h g.0 in
    let among : (line_at ws i).slot < 32 = a.among in
    let serial : (clip_of k h).serial ≡ (line_at ws i).serial = a.serial in
    let given : (clip_of k h).serial ≤ k.last = c.given in
    let rate : (clip_of k h).rate ≡ (line_at ws i).rate = g.1.1 in
    let rated : (clip_of k h).rate ≤ 192000 = within_high 8000 192000 (clip_of k h).rate c.rated in
    and_true (and_true (and_true kind (lt-ltb (line_at ws i).slot (2 ^ 32) (omega arith))) (lt-ltb (line_at ws i).serial (2 ^ 32) (omega arith))) (lt-ltb (line_at ws i).rate (2 ^ 32) (omega arith))

-- A LIST THAT SOME WELL FORMED SESSION HAS, its serials of 32 bits, is accepted
pub words_accepted : (m : ℕ) (ws : List ℕ) → Lines ws → (t : Session) (p d : List ℕ) → well_formed t p d ≡ true → t.bank.last < 2 ^ 32
    → HasList m (entry_at ws 0) (entries_in ws) t → clips_ok m ws ≡ true
unfolding clips_ok all_lines_fit
words_accepted m ws x t p d formed small has =
    let b : bank_ok t.bank t.settings.pool ≡ true = (parts t p d formed).bank in
    let g : Each (Good t.bank) (entries_in ws) = each_good t.bank (entries_in ws) has.clips in
    let reads : all_below (lines_in ws) (λ i. line_reads (line_at ws i)) ≡ true =
    all_true (λ i. line_reads (line_at ws i)) (lines_in ws) (λ i n. good_reads t.bank t.settings.pool b small ws i (each_line (Good t.bank) ws (lines_in ws) g i n) (x.kinds i n)) in
    and_true
    (and_true x.whole (and_true (and_true reads x.own) (le-leb (total_of (entries_in ws)) 33554432 (few m (entry_at ws 0) (entries_in ws) t p d formed small has x.own))))
    (made_well m (entry_at ws 0) (entries_in ws) t p d formed small has x.own (replicate 1280 0) (length-replicate {A = ℕ} 1280 0))

-- so one that is refused no such session has
pub list_refused : ListRefused
list_refused m ws e lines t p d h = never (sym (words_accepted m ws lines t p d h.formed h.serials h.list) ∙ e)

-- and one that is accepted the session has that is made of it
pub list_taken : ListTaken
list_taken m ws ok q size = (accepted_lines m ws ok, record { formed = made_formed m ws ok q size; serials = made_small m ws ok; list = (made_starts m ws ok).list })
