-- A block over the parts of the session that a host's numbers match: its slots converted place by place, and what the block then gives. Assumes nothing.
use mathlib.Core.Path.{◌≡◌, refl, sym, ap, subst, ◌∙◌}
use mathlib.Core.Bool.{Bool, true, false}
use mathlib.Core.List.{List, map}
use Prim.Native.Nat.{ℕ, ◌+◌, ◌≤◌, ◌<◌}
use native.Mathlib.Omega.{arith}
use lib.ListN.{length, get_or, take, set, length-map, length-set, get_or-map}
use lib.Ieee.{Float}
use borrow.Author.Count.{below_none, below_more}
use Rattle.counts.proofs.Below.{all_true, all_false}
use Rattle.bank.specs.declared.Clip.{Clip}
use Rattle.bank.specs.declared.Bank.{Bank}
use Rattle.bank.proofs.Places.{get_d_any}
use Rattle.stage.specs.declared.Stage.{Stage}
use Rattle.session.specs.declared.Desk.{Desk}
use Rattle.session.specs.declared.Answered.{Answered}
use Rattle.session.specs.Answer.{answered}
use Rattle.block.specs.Block.{of_parts, block_of}
use Rattle.host.specs.declared.HostClip.{HostClip}
use Rattle.host.specs.declared.HostSession.{HostSession}
use Rattle.host.specs.declared.HostBlocked.{HostBlocked}
use Rattle.host.specs.Kept.{named, clip_of, clip_numbers, blank_clip, slot_named, kinds_ok, is_session, stage_of, session_of, host_of}
use Rattle.host.specs.Answers.{block_refused, blocked_with}
use Rattle.host.specs.Calls.{block_host}
use Rattle.host.proofs.Mapped.{map_step, map_done}
use Rattle.host.proofs.Weighed.{call_refused, call_done}
use Rattle.host.proofs.Refusals.{weighed_fine, weighed_none}
use Rattle.host.proofs.Named.{named_is}
use Rattle.std.specs.Prelude.{Result, Ok}
use Rattle.session.specs.declared.Refusal.{Refusal}

module _ (h : HostSession) where
  -- slot k holds a song or a stinger, if it is used
  abbrev pub kind_at : ℕ → Bool
  kind_at k = slot_named h.used k (get_or h.clips k blank_clip).kind

  pub kind_here : (i : ℕ) (d : HostClip) → length h.clips ≡ 32 → i < 32 → kind_at i ≡ slot_named h.used i (get_or h.clips i d).kind
  kind_here i d l m = ap (λ (x : HostClip). slot_named h.used i x.kind) (get_d_any h.clips i blank_clip d (omega arith))

  pub kinds_are : ((k : ℕ) → k < 32 → kind_at k ≡ true) → kinds_ok h ≡ true
  unfolding kinds_ok
  kinds_are f = all_true kind_at 32 f

  pub kinds_not_at : (i : ℕ) (d : HostClip) → length h.clips ≡ 32 → i < 32 → slot_named h.used i (get_or h.clips i d).kind ≡ false → kinds_ok h ≡ false
  unfolding kinds_ok
  kinds_not_at i d l m e = all_false kind_at 32 i m (kind_here i d l m ∙ e)

  -- one more clip
  pub clips_turn : length h.clips ≡ 32 → (cs : List Clip) (i : ℕ) (d : HostClip) (x : Clip) → i < 32 → length cs ≡ 32 → take i cs ≡ take i (map clip_of h.clips)
      → let c : HostClip = get_or h.clips i d in
      Ok x ≡ named (slot_named h.used i c.kind) (clip_of c)
      → take (i + 1) (set cs i x) ≡ take (i + 1) (map clip_of h.clips)
  clips_turn l cs i d x m n t is = let fine = named_is _ _ _ is in rw fine.1 (map_step clip_of cs h.clips i d (omega (arith, m, n)) (omega (arith, m, l)) t)

  -- i slots are converted: their clips stand in the bank, and the clips' numbers in the host's places; and each holds a song or a stinger
  pub record Converting (b : Bank) (clips : List HostClip) (i : ℕ) : Type 0 where
    pub most : i ≤ 32
    pub used : b.used ≡ h.used
    pub last : b.last ≡ h.last
    pub slots : length b.clips ≡ 32
    pub bank : take i b.clips ≡ take i (map clip_of h.clips)
    pub places : length clips ≡ 32
    pub numbers : take i clips ≡ take i (map clip_numbers (map clip_of h.clips))
    pub kinds : (k : ℕ) → k < i → kind_at k ≡ true

  -- at the start
  pub convert_start : (cs : List Clip) (clips : List HostClip) → length cs ≡ 32 → length clips ≡ 32 → Converting (record { used = h.used; last = h.last; clips = cs }) clips 0
  convert_start cs clips e f =
      record { most = omega arith; used = refl; last = refl; slots = e; bank = refl; places = f; numbers = refl; kinds = below_none _ }

  module _ (all : length h.clips ≡ 32) (b : Bank) (clips : List HostClip) (i : ℕ) (v : Converting b clips i) where
    -- one more
    pub convert_turn : (d : HostClip) (x : Clip) → i < 32
        → let c : HostClip = get_or h.clips i d in
        Ok x ≡ named (slot_named h.used i c.kind) (clip_of c)
        → Converting (record { used = b.used; last = b.last; clips = set b.clips i x }) (set clips i (clip_numbers x)) (i + 1)
    convert_turn d x lt is =
        let fine = named_is _ _ _ is in
        rw fine.1
        (record {
          most = omega arith;
          used = v.used;
          last = v.last;
          slots = simp length-set v.slots;
          bank = map_step clip_of b.clips h.clips i d (omega (arith, v.slots)) (omega arith) v.bank;
          places = simp length-set v.places;
          numbers =
              subst (λ (x : Clip). take (i + 1) (set clips i (clip_numbers x)) ≡ take (i + 1) (map clip_numbers (map clip_of h.clips))) (get_or-map clip_of h.clips i d)
              (map_step clip_numbers clips (map clip_of h.clips) i (clip_of d) (omega (arith, v.places)) (simp length-map (omega arith)) v.numbers);
          kinds = below_more _ _ v.kinds (kind_here i d all lt ∙ fine.0);
        })

    module _ (end : 32 ≤ i) where
      last_slot : i ≡ 32
      last_slot = omega (arith, v.most)

      all_clips : b.clips ≡ map clip_of h.clips
      all_clips = map_done clip_of b.clips h.clips i (omega (arith, last_slot)) (omega (arith, v.slots)) v.bank

      -- at the end the bank is the one that it matches,
      pub convert_bank : b ≡ (session_of h).bank
      unfolding session_of
      convert_bank = rw (v.used, v.last, all_clips)

      -- the clips are the numbers of its clips,
      pub convert_numbers : clips ≡ map clip_numbers b.clips
      convert_numbers =
          map_done clip_numbers clips (map clip_of h.clips) i (simp length-map (omega (arith, last_slot))) (simp length-map (omega (arith, v.places))) v.numbers
          ∙ ap (map clip_numbers) (sym all_clips)

      -- and every used slot holds a song or a stinger
      pub convert_kinds : kinds_ok h ≡ true
      convert_kinds = kinds_are (λ k m. v.kinds k (omega (arith, last_slot)))

-- ---- the call

module _ (h : HostSession) (q c : List ℕ) (pool out : List Float) where
  -- where there is none, it is refused with 1,
  pub block_unmatched : is_session h ≡ false → ◌≡◌ {A = HostBlocked × List Float} (block_refused h 1, out) (block_host h q c pool out)
  unfolding block_host
  block_unmatched e = call_refused 1 _ _ _ (sym (weighed_none h q c true e)) (λ z. absurd (omega arith)) refl

  -- and else it answers as the block over the parts does
  pub block_matched : (b : Bank) (t : Stage) (d : Desk) (x a : Result ℕ Refusal) (u : Stage) (n : ℕ) (o : List Float) → is_session h ≡ true
      → b ≡ (session_of h).bank → t ≡ stage_of h → d ≡ (session_of h).desk → x ≡ a
      → ◌≡◌ {A = Answered ℕ × List Float} (answered x (of_parts h.settings b u n d), o) (block_of (of_parts h.settings b t h.queued d) q c pool out)
      → ◌≡◌ {A = HostBlocked × List Float} (blocked_with h a (host_of (of_parts h.settings b u n d)), o) (block_host h q c pool out)
  unfolding block_host session_of
  block_matched b t d x a u n o m eb et ed ea e =
      call_done 0 _ _ _ (sym (weighed_fine h q c true m refl)) refl
      (ap (λ (y : Result ℕ Refusal). (blocked_with h y (host_of (of_parts h.settings b u n d)), o)) (sym ea)
      ∙ ap (λ (z : Answered ℕ × List Float). (blocked_with h z.0.answer (host_of z.0.session), z.1)) e
      ∙ rw (eb, et, ed))
