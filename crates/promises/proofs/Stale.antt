-- A stale handle is refused for good, and no frame reads it. Assumes nothing.
use mathlib.Core.Path.{◌≡◌, refl, sym, ap, ◌∙◌}
use mathlib.Core.Bool.{true, false, not}
use mathlib.Core.List.{List}
use Prim.Native.Nat.{ℕ, suc, ◌/◌, ◌<◌}
use lib.ListN.{length}
use Rattle.std.specs.Prelude.{Option, Some, None}
use Rattle.laws.specs.Block.{stand, block as block_from}
use Rattle.laws.proofs.Lists.{each_map}
use Rattle.counts.specs.declared.Handle.{Handle}
use Rattle.counts.specs.declared.Claim.{Claim}
use Rattle.counts.specs.Handles.{claims}
use Rattle.counts.proofs.Truth.{never}
use Rattle.timeline.specs.declared.Command.{Command}
use Rattle.timeline.specs.declared.QueueRecord.{QueueRecord}
use Rattle.timeline.specs.declared.Row.{Row}
use Rattle.timeline.specs.declared.Submission.{Submission}
use Rattle.timeline.specs.Command.{command_of, claim_of, gain_ok, is_senseless}
use Rattle.timeline.specs.Record.{read_of}
use Rattle.timeline.specs.Store.{row_at}
use Rattle.timeline.proofs.Queue.{each_queued}
use Rattle.transport.specs.declared.At.{At}
use Rattle.bank.specs.declared.Bank.{Bank}
use Rattle.bank.specs.Slots.{live, spent, stands_for, stands_in, is_stale, claim_ok}
use Rattle.bank.specs.Recording.{View, view_of}
use Rattle.bank.proofs.Handles.{same_is, spent_first, spent_given, spent_stale, spent_is}
use Rattle.bank.proofs.Claims.{song_has, stinger_has}
use Rattle.stage.specs.declared.Settings.{Settings}
use Rattle.stage.specs.declared.Stage.{Stage}
use Rattle.stage.specs.declared.Tail.{Tail}
use Rattle.stage.specs.Machine.{machine_of}
use Rattle.session.specs.declared.Session.{Session}
use Rattle.session.specs.declared.Refusal.{Refusal}
use Rattle.session.specs.WellFormed.{weigh_only}
use Rattle.session.proofs.Refuse.{stop, skip, unless_fine, only_fine}
use Rattle.block.specs.Block.{ran_of}
use Rattle.block.proofs.Pools.{SameClaim, SameTail, views_agree_on}
use Rattle.clips.proofs.Held.{tail_claim, all_held}
use Rattle.clips.proofs.Retired.{retired_spent}
use Rattle.session.specs.declared.Answered.{Answered}
use Rattle.submission.specs.Weigh.{weigh_command}
use Rattle.submission.specs.Submit.{weigh_submit}
use Rattle.submission.specs.Order.{waiting}
use Rattle.submission.specs.Replay.{Replaying, weigh_replayed, replayed, replay_of}
use Rattle.submission.proofs.Leaves.{replayed_leaves}
use Rattle.promises.specs.Calls.{State, Call, retire, submit, replay, state, refusal, after, after_all}
use Rattle.promises.specs.Kept.{Good}
use Rattle.promises.specs.Retire.{Live, Stale}
use Rattle.promises.specs.Stale.{AllGiven, WasGiven, skipped, StaleForGood}
use Rattle.promises.proofs.Skips.{Otherwise, by, otherwise_after, row_skipped}
use Rattle.promises.proofs.Fine.{retire_weighs, weighed_number, submit_says}
use Rattle.promises.proofs.Banked.{spent_stays, kept_by_all}
use Rattle.promises.proofs.Retire.{stale_says}
use Rattle.submission.specs.declared.Report.{Report}

-- ---- it is so, and stays so

as_spent : (h : Handle) (x : State) → spent x.session.bank h ≡ true → WasGiven h x × Stale h x
as_spent h x e = let b : Bank = x.session.bank in ((spent_first b h e, spent_given b h e), spent_stale b h e)

retired : (h : Handle) (x : State) → refusal (retire h) x ≡ 0 → WasGiven h (after (retire h) x) × Stale h (after (retire h) x)
retired h x e = as_spent h (after (retire h) x) (retired_spent x.session x.queue x.capture h (retire_weighs h x e))

stays : (h : Handle) (x : State) (ks : List Call) → Good x → AllGiven ks → WasGiven h x → Stale h x → WasGiven h (after_all ks x) × Stale h (after_all ks x)
stays h x ks g a w e =
    as_spent h (after_all ks x)
    (kept_by_all (λ y. spent y.session.bank h ≡ true) (λ y z good d. spent_stays y z d h) ks x g a (spent_is x.session.bank h w.0 w.1 e))

-- ---- a command that names it

stands_stale : (b : Bank) (h : Handle) (y : Claim) → live b h ≡ false → claims h y ≡ true → is_stale (stands_in b y) ≡ true
unfolding stands_for
stands_stale b h Claim.Nothing e c = absurd (never (sym c))
stands_stale b h (Claim.Song k) e c = rw (← same_is h k c, e)
stands_stale b h (Claim.Stinger k) e c = rw (← same_is h k c, e)

-- a loop names no clip
named_sensible : (h : Handle) (y : Command) → claims h (claim_of y) ≡ true → is_senseless y ≡ false
named_sensible h Command.Play c = refl
named_sensible h Command.Pause c = refl
named_sensible h Command.Stop c = refl
named_sensible h (Command.Seek f) c = refl
named_sensible h (Command.Transition f) c = refl
named_sensible h (Command.Loop s e) c = absurd (never (sym c))
named_sensible h Command.ClearLoop c = refl
named_sensible h (Command.Gain g) c = refl
named_sensible h (Command.Swap k) c = refl
named_sensible h (Command.Stinger k g) c = refl

submitting : (h : Handle) (x : State) (y : Submission) (at : At) → Good x → Stale h x → claims h (claim_of (command_of y)) ≡ true → gain_ok (command_of y) ≡ true
    → refusal (submit y at) x ≡ 11
unfolding weigh_submit weigh_command
submitting h x y at g e c gain =
    submit_says x y at
    ∙ sym (ap weighed_number
    (skip _ _ _ _ (ap not g.formed) (skip _ _ _ _ (ap not gain)
    (skip _ _ _ _ (named_sensible h (command_of y) c) (stop _ Refusal.Stale _ (stands_stale x.session.bank h (claim_of (command_of y)) e c))))))

-- ---- a replayed record that names it

weighs_otherwise : (s : Session) (q : List ℕ) (r : Row) (h : Handle) → live s.bank h ≡ false → claims h (claim_of (read_of r)) ≡ true → Otherwise (weigh_replayed s q r)
unfolding weigh_replayed weigh_command
weighs_otherwise s q r h e c =
    otherwise_after _ _ _ refl
    (otherwise_after _ _ _ refl (otherwise_after _ _ _ refl (by Refusal.Stale (sym (stop _ _ _ (stands_stale s.bank h (claim_of (read_of r)) e c))) refl)))

through : (x : State) (list : List ℕ) → Good x
    → let z : Replaying = replayed x.session x.queue list (length list / 5) in after (replay list) x ≡ state z.session z.queue x.capture x.pool
unfolding replay_of
through x list g =
    ap (λ (z : Answered Report × List ℕ). state z.0.session z.1 x.capture x.pool)
    (unless_fine {A = Answered Report × List ℕ} (weigh_only x.session x.queue x.capture) _ _ (only_fine x.session x.queue x.capture g.formed))

replaying : (h : Handle) (x : State) (list : List ℕ) (j : ℕ) → Stale h x → j < length list / 5 → claims h (claim_of (read_of (row_at list j))) ≡ true
    → replayed x.session x.queue list (suc j) ≡ skipped (replayed x.session x.queue list j)
unfolding replayed
replaying h x list j e l c =
    let z : Replaying = replayed x.session x.queue list j in
    let same : z.session.bank ≡ x.session.bank = ap (λ (r : Settings × Bank × Stage). r.1) (replayed_leaves x.session x.queue list j) in
    row_skipped z (row_at list j) (weighs_otherwise z.session z.queue (row_at list j) h (rw same e) c)

-- ---- no frame reads it

module _ (x : State) (other : View) (g : Good x) (agree : (h : Handle) → Live h x → view_of x.pool x.session.bank h ≡ other h) where
  abbrev view : View
  view = view_of x.pool x.session.bank

  claim_same : (y : Claim) → claim_ok x.session.bank x.session.settings.rate y ≡ true → SameClaim view other y
  claim_same Claim.Nothing e = tt
  claim_same (Claim.Song h) e = agree h (song_has x.session.bank x.session.settings.rate h e).alive
  claim_same (Claim.Stinger h) e = agree h (stinger_has x.session.bank x.session.settings.rate h e).alive

  tail_same : (t : Option Tail) → claim_ok x.session.bank x.session.settings.rate (tail_claim t) ≡ true → SameTail view other t
  tail_same None e = tt
  tail_same (Some t) e = claim_same (Claim.Song t.song) e

  reads_live : (n : ℕ) → block_from (machine_of x.session.settings other) n (stand x.session.stage (waiting x.session x.queue)) ≡ ran_of x.session x.queue x.pool n
  unfolding ran_of
  reads_live n =
      let held = all_held x.session x.queue x.capture g.formed in
      let s : Session = x.session in
      views_agree_on view other s.settings n (stand s.stage (waiting s x.queue))
      (record { song = claim_same (Claim.Song s.stage.playhead.song) held.song; tail = tail_same s.stage.sound.fade.tail held.tail; voices = λ i l. claim_same (Claim.Stinger _) (held.voices i l) })
      (each_map _ _ (λ r p l. p) (waiting s x.queue)
      (each_queued (λ (r : QueueRecord). SameClaim view other (claim_of r.command)) x.queue s.queued (λ j l. claim_same (claim_of (read_of (row_at x.queue j))) (held.queue j l))))

-- all of it
pub stale_for_good : StaleForGood
stale_for_good =
    record { retired = retired; stays = stays; retiring = stale_says; submitting = submitting; through = through; replaying = replaying; reading = λ x n other g agree. reads_live x other g agree n }
