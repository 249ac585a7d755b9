-- Replay does the same in two sessions that are alike. Assumes nothing.
use mathlib.Core.Path.{◌≡◌, refl, sym, ◌∙◌, subst}
use mathlib.Core.Bool.{Bool, true, false, cond}
use mathlib.Core.Logic.{⊎_elim}
use mathlib.Core.List.{List}
use Prim.Native.Nat.{ℕ, zero, suc, ◌+◌, ◌*◌, ◌≤◌}
use native.Mathlib.Omega.{arith}
use native.Mathlib.Numerals.{add-one}
use lib.Dec.{leb}
use lib.ListN.{length}
use borrow.Author.Tests.{lt-leb}
use Rattle.counts.specs.declared.Handle.{Handle}
use Rattle.counts.specs.declared.Claim.{Claim}
use Rattle.counts.proofs.Truth.{two_ways}
use Rattle.timeline.specs.declared.QueueRecord.{QueueRecord}
use Rattle.timeline.specs.declared.Row.{Row}
use Rattle.timeline.specs.declared.Command.{Command}
use Rattle.timeline.specs.Command.{claim_of, takes_voice}
use Rattle.timeline.specs.Record.{read_of, record_of}
use Rattle.timeline.specs.Store.{row_at}
use Rattle.timeline.specs.Queue.{stingers}
use Rattle.timeline.proofs.Words.{typed_read}
use Rattle.timeline.proofs.Queue.{queue_inserted, stingers_inserted}
use Rattle.bank.specs.declared.Bank.{Bank}
use Rattle.bank.specs.declared.Stands.{Stands}
use Rattle.bank.specs.Slots.{live, stands_for, stands_in}
use Rattle.session.specs.declared.Session.{Session}
use Rattle.session.specs.declared.Refusal.{Refusal}
use Rattle.session.specs.Session.{turned_away}
use Rattle.session.proofs.Parts.{Parts}
use Rattle.session.proofs.Refuse.{unless_fine, unless_refused}
use Rattle.submission.specs.declared.Scales.{Scales}
use Rattle.submission.specs.declared.Report.{Report}
use Rattle.submission.specs.Weigh.{weigh_command, scales_of}
use Rattle.submission.specs.Submit.{numbered}
use Rattle.submission.specs.Replay.{Replaying, weigh_replayed, taken_by, skipped_by, replay_row, replayed}
use Rattle.submission.proofs.Left.{turned_away_law}
use Rattle.submission.proofs.Kept.{replayed_well}
use Rattle.leaps.specs.Same.{SameClips, Alike}
use Rattle.std.specs.Prelude.{Result, Ok, Err}

-- what a handle stands for is the same over the same clips
same_stands : (b k : Bank) → SameClips b k → (h : Handle) → stands_for b h ≡ stands_for k h
unfolding stands_for
same_stands b k c h =
    ⊎_elim
    (λ (e : live b h ≡ true). rw (← c.lives h, e, c.kinds h e, c.rates h e))
    (λ (e : live b h ≡ false). rw (← c.lives h, e))
    (two_ways (live b h))

same_claims : (b k : Bank) → SameClips b k → (x : Claim) → stands_in b x ≡ stands_in k x
same_claims b k c Claim.Nothing = refl
same_claims b k c (Claim.Song h) = same_stands b k c h
same_claims b k c (Claim.Stinger h) = same_stands b k c h

-- a command weighs the same where there is room in both queues
same_weight : (a b : Scales) (h : Stands) (x : Command) → a.rate ≡ b.rate → a.room ≡ b.room → a.stingers ≡ b.stingers → a.number ≡ b.number
    → leb a.capacity a.depth ≡ false → leb b.capacity b.depth ≡ false → weigh_command a h x ≡ weigh_command b h x
unfolding weigh_command
same_weight a b h x r m s n d e = rw (r, m, s, n, d, e)

module _ (n : ℕ) (s : Session) (q : List ℕ) (t : Session) (p : List ℕ) (l : Alike (suc n) s q t p) where
  -- so does a record
  same_replayed : (x : Row) → weigh_replayed s q x ≡ weigh_replayed t p x
  unfolding weigh_replayed
  same_replayed x =
      rw (
        same_claims s.bank t.bank l.clips (claim_of (read_of x)),
        same_weight (scales_of s q true) (scales_of t p true) (stands_in t.bank (claim_of (read_of x))) (read_of x) l.rate refl l.stinging l.number
            (lt-leb s.settings.queue s.queued (omega (arith, l.room)))
            (lt-leb t.settings.queue t.queued (omega (arith, l.other))),
      )

  -- refused in both, and nothing is queued
  skip_alike : (k : Refusal) → Alike n (turned_away k s) q (turned_away k t) p
  skip_alike k =
      rw (turned_away_law k s, turned_away_law k t)
      (record {
        rate = l.rate;
        clips = l.clips;
        stands = l.stands;
        queued = l.queued;
        waiting = l.waiting;
        stinging = l.stinging;
        number = l.number;
        room = omega (arith, l.room);
        other = omega (arith, l.other);
      })

  module _ (c d : List ℕ) (a : Parts s q c) (b : Parts t p d) (g h : Report) (x : Row) where
    abbrev Here : Replaying
    Here = record { session = s; queue = q; report = g }

    abbrev There : Replaying
    There = record { session = t; queue = p; report = h }

    -- taken in both, at one place of the queue
    take_alike : Alike n (taken_by Here (record_of x)).session (taken_by Here (record_of x)).queue (taken_by There (record_of x)).session (taken_by There (record_of x)).queue
    take_alike =
        let r : QueueRecord = numbered s (record { 0 = x.at }) (read_of x) in
        let u : QueueRecord = numbered t (record { 0 = x.at }) (read_of x) in
        let fit : s.queued * 5 + 5 ≤ length q = omega (arith, a.queue_size, l.room) in
        let fits : t.queued * 5 + 5 ≤ length p = omega (arith, b.queue_size, l.other) in
        record {
          rate = l.rate;
          clips = l.clips;
          stands = l.stands;
          queued = rw l.queued;
          waiting = rw (add-one s.queued, add-one t.queued, queue_inserted q s.queued r fit (typed_read x), queue_inserted p t.queued u fits (typed_read x), l.waiting, l.number);
          stinging =
              rw (add-one s.queued, add-one t.queued, stingers_inserted q s.queued r fit (typed_read x), stingers_inserted p t.queued u fits (typed_read x))
              (more (takes_voice (claim_of (read_of x))));
          number = rw l.number;
          room = omega (arith, l.room);
          other = omega (arith, l.other);
        }
      where
        more : (u : Bool) → cond u (stingers q s.queued + 1) (stingers q s.queued) + s.stage.sound.voices.count
            ≡ cond u (stingers p t.queued + 1) (stingers p t.queued) + t.stage.sound.voices.count
        more true = let e = l.stinging in omega arith
        more false = l.stinging

-- two replays stand alike, with room for n records more, and have reported the same
pub record Both (n : ℕ) (z y : Replaying) : Type 0 where
  pub alike : Alike n z.session z.queue y.session y.queue
  pub report : z.report ≡ y.report

module _ (n : ℕ) (z y : Replaying) (o : Both (suc n) z y) (c d : List ℕ) (a : Parts z.session z.queue c) (b : Parts y.session y.queue d) (x : Row) where
  same_weighed : weigh_replayed z.session z.queue x ≡ weigh_replayed y.session y.queue x
  same_weighed = same_replayed n z.session z.queue y.session y.queue o.alike x

  skip_report : (k : Refusal) → (skipped_by z k).report ≡ (skipped_by y k).report
  skip_report k = rw o.report

  -- one record more
  row_both : Both n (replay_row z x) (replay_row y x)
  unfolding replay_row
  row_both = go (weigh_replayed z.session z.queue x) refl
    where
      go : (w : Result (Unit {0}) Refusal) → weigh_replayed z.session z.queue x ≡ w → Both n (replay_row z x) (replay_row y x)
      go (Ok tt) e =
          rw (unless_fine _ (skipped_by z) (taken_by z (record_of x)) e, unless_fine _ (skipped_by y) (taken_by y (record_of x)) (sym same_weighed ∙ e))
          (record { alike = take_alike n z.session z.queue y.session y.queue o.alike c d a b z.report y.report x; report = rw o.report })
      go (Err k) e =
          rw (unless_refused _ (skipped_by z) (taken_by z (record_of x)) k e, unless_refused _ (skipped_by y) (taken_by y (record_of x)) k (sym same_weighed ∙ e))
          (record { alike = skip_alike n z.session z.queue y.session y.queue o.alike k; report = skip_report k })

module _ (s : Session) (q c : List ℕ) (t : Session) (p d : List ℕ) (a : Parts s q c) (b : Parts t p d) (list : List ℕ) where
  -- REPLAY. After k of the list's records, with room for n more.
  pub replayed_both : (k n : ℕ) → Alike (n + k) s q t p → Both n (replayed s q list k) (replayed t p list k)
  unfolding replayed
  replayed_both zero n l = record { alike = subst (λ (j : ℕ). Alike j s q t p) (omega arith) l; report = refl }
  replayed_both (suc k) n l =
      row_both n (replayed s q list k) (replayed t p list k)
      (replayed_both k (suc n) (subst (λ (j : ℕ). Alike j s q t p) (omega arith) l)) c d
      (replayed_well c s q list a k) (replayed_well d t p list b k) (row_at list k)
