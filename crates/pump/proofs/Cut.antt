-- A pump in pieces: asking for a frames and then for b more is asking for a + b at once. Assumes nothing.
use mathlib.Core.Path.{◌≡◌, sym, ap, ◌∙◌}
use mathlib.Core.List.{List}
use Prim.Native.Nat.{ℕ, ◌+◌, ◌-◌, ◌*◌, ◌/◌, ◌^◌, ◌≤◌, ◌<◌, min}
use native.Mathlib.Omega.{arith}
use lib.ListN.{length}
use lib.Ieee.{Float}
use Rattle.laws.specs.Block.{stand}
use Rattle.laws.proofs.Clock.{block_clock}
use Rattle.timeline.specs.Queue.{queue}
use Rattle.bank.specs.Recording.{view_of}
use Rattle.stage.specs.Machine.{machine_of}
use Rattle.stage.proofs.Clock.{clocked}
use Rattle.session.specs.declared.Session.{Session}
use Rattle.session.specs.declared.Answered.{Answered}
use Rattle.block.specs.Block.{ran_of, reported}
use Rattle.block.proofs.Kept.{block_keeps}
use Rattle.ring.specs.declared.SampleRing.{SampleRing}
use Rattle.ring.specs.Ring.{ring_at, Within, held_of, free_of, place_at}
use Rattle.ring.proofs.Places.{place_on, place_same}
use Rattle.pump.specs.declared.Pumped.{Pumped}
use Rattle.pump.specs.Pump.{frames_made, block_into, pumped, pump_done, pump_of, pumped_frames, pumped_passes}
use Rattle.pump.proofs.Weighing.{made_fits, Accepted, pump_done_law}
use Rattle.pump.proofs.Into.{into_length, into_cut, into_place}
use Rattle.pump.proofs.Order.{pump_within, pump_held}
use Rattle.std.specs.Prelude.{Ok}

-- a pump and then another as one: frames and passes added up, and what the last left
abbrev pub pumped_both : Pumped × List Float → Pumped × List Float → Pumped × List Float
pumped_both u v =
    (pumped (Ok (record { frames = pumped_frames u.0.answer + pumped_frames v.0.answer; passes = pumped_passes u.0.answer + pumped_passes v.0.answer })) v.0.session v.0.ring, v.1)

-- the lesser of both, one after the other
lesser_twice : (a b f : ℕ) → min (a + b) f ≡ min a f + min b (f - min a f)
lesser_twice a b f = omega arith

-- half of what is free, less a frame at a time
half_less : (n k m : ℕ) → m * 2 + k < n → (n - 1 - (k + m * 2)) / 2 ≡ (n - 1 - k) / 2 - m
half_less n k m h = omega arith

module _ (s : Session) (q : List ℕ) (pool : List Float) (r : SampleRing) (store : List Float) where
  -- what a pump of a frames gives, where it is not refused,
  abbrev pub done : ℕ → Pumped × List Float
  done a = pump_done s q pool r store (frames_made (length store) r a)

  -- and the frames of one of b on what it left
  abbrev pub further : ℕ → ℕ → ℕ
  further a b = frames_made (length store) (done a).0.ring b

  -- THE FRAMES MADE are the same
  pub made_cut : Within (length store) r → (a b : ℕ) → frames_made (length store) r (a + b) ≡ frames_made (length store) r a + further a b
  unfolding free_of
  made_cut w a b =
      let n : ℕ = length store in
      let m : ℕ = frames_made n r a in
      lesser_twice a b ((n - 1 - held_of n r) / 2)
      ∙ ap (λ (x : ℕ). m + min b x) (sym (half_less n (held_of n r) m (made_fits n r a w)))
      ∙ ap (λ (x : ℕ). m + min b ((n - 1 - x) / 2)) (sym (pump_held s q pool r store a w))

  -- THE CUT, of frames that are made: b frames on what a frames left are what a + b leave
  pub done_cut : (a b : ℕ)
      → let u : Pumped × List Float = pump_done s q pool r store a in
      pump_done s q pool r store (a + b) ≡ pumped_both u (pump_done u.0.session q pool u.0.ring u.1 b)
  done_cut a b =
      let n : ℕ = length store in
      let t : ℕ = place_at n r.tail (a * 2) in
      let z : Answered ℕ × List Float = block_into s q pool store r.tail a in
      let y : Answered ℕ × List Float = block_into z.0.session q pool z.1 t b in
      let ln : length z.1 ≡ n = into_length s q pool store r.tail a in
      let here : block_into z.0.session q pool z.1 (r.tail + a * 2) b ≡ y =
      into_place z.0.session q pool z.1 (r.tail + a * 2) t b (rw ln (sym (place_same n r.tail (a * 2)))) in
      let both : (a + b) * 2 ≡ a * 2 + b * 2 = omega arith in
      let end : place_at n r.tail ((a + b) * 2) ≡ place_at (length z.1) t (b * 2) =
      ap (place_at n r.tail) both ∙ sym (place_on n r.tail (a * 2) (b * 2)) ∙ ap (λ (k : ℕ). place_at k t (b * 2)) (sym ln) in
      let all : SampleRing = ring_at r.head (place_at n r.tail ((a + b) * 2)) in
      ap (λ (d : Answered ℕ × List Float). (pumped (Ok (record { frames = a + b; passes = reported d.0.answer })) d.0.session all, d.1)) (into_cut s q pool store r.tail a b)
      ∙ ap (λ (d : Answered ℕ × List Float). (pumped (Ok (record { frames = a + b; passes = reported z.0.answer + reported d.0.answer })) d.0.session all, d.1)) here
      ∙ ap (λ (k : ℕ). (pumped (Ok (record { frames = a + b; passes = reported z.0.answer + reported y.0.answer })) y.0.session (ring_at r.head k), y.1)) end

-- ---- at the call

module _ (s : Session) (q c : List ℕ) (pool : List Float) (r : SampleRing) (store : List Float) (a b : ℕ) (ok : Accepted s q c pool r (length store) (a + b)) where
  abbrev left : Pumped × List Float
  left = done s q pool r store a

  all_made : frames_made (length store) r (a + b) ≡ frames_made (length store) r a + further s q pool r store a b
  all_made = made_cut s q pool r store ok.inside a b

  size : length left.1 ≡ length store
  size = into_length s q pool store r.tail (frames_made (length store) r a)

  -- of an accepted pump the first piece is accepted,
  pub first_accepted : Accepted s q c pool r (length store) a
  first_accepted = record { formed = ok.formed; inside = ok.inside; lent = ok.lent; clock = omega (arith, ok.clock, all_made) }

  module _ (places : length s.stage.sound.voices.table ≡ 16) where
    -- and then the second
    pub second_accepted : Accepted left.0.session q c pool left.0.ring (length left.1) b
    unfolding block_into ran_of
    second_accepted =
        let x : ℕ = frames_made (length store) r a in
        let room : s.stage.clock.0 + x ≤ 2 ^ 62 = omega (arith, ok.clock, all_made) in
        let clock = block_clock (machine_of s.settings (view_of pool s.bank)) (clocked s.settings (view_of pool s.bank)) x (stand s.stage (queue q s.queued)) in
        record {
          formed = block_keeps s q c pool ok.formed places x room;
          inside = pump_within s q pool r store a ok.inside;
          lent = ok.lent;
          clock = rw size (omega (arith, ok.clock, all_made, clock));
        }

    -- THE CUT: an accepted pump is both, one after the other
    pub call_cut : let u : Pumped × List Float = pump_of s q c pool r store a in
        pump_of s q c pool r store (a + b) ≡ pumped_both u (pump_of u.0.session q c pool u.0.ring u.1 b)
    call_cut =
        let rest : Pumped × List Float → Pumped × List Float = λ (u : Pumped × List Float). pump_of u.0.session q c pool u.0.ring u.1 b in
        pump_done_law s q c pool r store (a + b) ok
        ∙ ap (pump_done s q pool r store) all_made
        ∙ done_cut s q pool r store (frames_made (length store) r a) (further s q pool r store a b)
        ∙ ap (λ (n : ℕ). pumped_both left (pump_done left.0.session q pool left.0.ring left.1 (frames_made n left.0.ring b))) (sym size)
        ∙ ap (pumped_both left) (sym (pump_done_law left.0.session q c pool left.0.ring left.1 b second_accepted))
        ∙ ap (λ (u : Pumped × List Float). pumped_both u (rest u)) (sym (pump_done_law s q c pool r store a first_accepted))
