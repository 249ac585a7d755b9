-- `voices_ok` meets its contract: the test held at every voice passed.
use mathlib.Core.Path.{◌≡◌, sym, ap, ◌∙◌}
use mathlib.Core.Bool.{Bool}
use Prim.Native.Nat.{ℕ, ◌<◌}
use native.Mathlib.Omega.{arith}
use lib.ListN.{length, get_or}
use borrow.Author.Count.{below_more}
use Rattle.counts.proofs.Below.{all_true, all_false}
use Rattle.bank.specs.declared.Bank.{Bank}
use Rattle.bank.specs.declared.Clip.{Clip}
use Rattle.bank.specs.Slots.{clip_of}
use Rattle.oneshot.specs.declared.Voice.{Voice}
use Rattle.oneshot.specs.declared.Voices.{Voices}
use Rattle.bank.proofs.Places.{get_d_any}
use Rattle.oneshot.specs.Mix.{blank_voice, voice_at}
use Rattle.session.specs.declared.Session.{Session}
use Rattle.session.specs.WellFormed.{voice_ok}
use Rattle.session.proofs.Walk.{clip_read}
use borrow.Author.Rules.{rules}
use Rattle.session.proofs.voices_ok.Goals as goal

-- what the test says of the voice at i: the clip for that is read at its place
found : (b : Bank) (rate : ℕ) (vs : Voices) (i p : ℕ) (d : Voice) (x : Clip) (r : Bool) → let v = get_or vs.table i d in
    length b.clips ≡ 32 → i < length vs.table → (p < 32) × (v.handle.slot < 32 → p ≡ v.handle.slot)
    → ((s : Session) → s.bank.used ≡ b.used → s.settings.rate ≡ rate → (v.handle.slot < 32 → clip_of s.bank v.handle ≡ get_or b.clips p x) → r ≡ voice_ok s v)
    → (s : Session) → s.bank ≡ b → s.settings.rate ≡ rate → voice_ok s (voice_at vs i) ≡ r
found b rate vs i p d x r m l e says s same rated =
    ap (voice_ok s) (get_d_any vs.table i blank_voice d l)
    ∙ sym (says s (ap (λ (z : Bank). z.used) same) rated (clip_read s.bank b same m _ _ _ e))

pub loop-i-preserved : goal.loop-i-preserved
loop-i-preserved c =
    let m : length c.args.b.clips ≡ 32 = omega arith in
    let l : c.loop-i.i < length c.args.voices.table = omega arith in
    (search rules, λ s e r. below_more _ _ (c.loop-i.invariant.1 s e r) ((found c.args.b c.args.rate c.args.voices c.loop-i.i _ _ _ _ m l c.place_of-place.ensures c.voice_ok.ensures s e r) ∙ c.if-not-voice_ok.false))

pub returns-then-not-voice_ok : goal.returns-then-not-voice_ok
returns-then-not-voice_ok c s e r =
    let m : length c.args.b.clips ≡ 32 = omega arith in
    let l : c.loop-i.i < length c.args.voices.table = omega arith in
    sym (all_false _ _ c.loop-i.i c.loop-i-test.true ((found c.args.b c.args.rate c.args.voices c.loop-i.i _ _ _ _ m l c.place_of-place.ensures c.voice_ok.ensures s e r) ∙ c.if-not-voice_ok.true))

pub returns : goal.returns
returns c s e r = sym (all_true _ _ (λ k h. c.loop-i.invariant.1 s e r k (omega arith)))
