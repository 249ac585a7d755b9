-- Every call keeps a state good, opening gives a good one, and so each state reached is good and never refused with 1 or 2. Assumes nothing.
use mathlib.Core.Path.{◌≡◌, refl, ap}
use mathlib.Core.Bool.{true}
use mathlib.Core.List.{List}
use Prim.Native.Nat.{ℕ}
use lib.Ieee.{Float}
use Rattle.counts.specs.declared.Handle.{Handle}
use Rattle.bank.specs.declared.Kind.{Kind}
use Rattle.bank.specs.declared.Bank.{Bank}
use Rattle.bank.specs.Sample.{frames_of, is_pool}
use Rattle.stage.specs.declared.Settings.{Settings}
use Rattle.stage.specs.declared.Stage.{Stage}
use Rattle.session.specs.declared.Session.{Session}
use Rattle.session.specs.declared.Answered.{Answered}
use Rattle.session.specs.WellFormed.{well_formed}
use Rattle.session.proofs.Typed.{Typed}
use Rattle.session.proofs.Refuse.{unless_both}
use Rattle.block.specs.Block.{block_of}
use Rattle.block.proofs.Weigh.{accepted}
use Rattle.block.proofs.Kept.{block_came, call_keeps}
use Rattle.session.specs.Answer.{says}
use Rattle.clips.specs.Open.{weigh_open, open_of}
use Rattle.clips.specs.Load.{load_of}
use Rattle.clips.specs.Retire.{retire_of}
use Rattle.clips.proofs.Opened.{open_formed, open_pooled, open_typed}
use Rattle.clips.proofs.Kept.{load_kept, load_typed, load_pooled, retire_kept, retire_typed}
use Rattle.submission.proofs.Kept.{submit_kept, transition_kept, replay_kept}
use Rattle.control.specs.declared.PerformanceSnapshot.{PerformanceSnapshot}
use Rattle.control.specs.Snapshot.{apply_of}
use Rattle.control.proofs.Kept.{start_kept, stop_kept, snapshot_leaves, metrics_leave, apply_kept, apply_typed}
use Rattle.promises.specs.Calls.{State, Call, load, retire, submit, transition, block, pump, start_capture, stop_capture, replay, snapshot, apply, metrics, code, after, Opening, opened, at_opening, after_call}
use Rattle.promises.specs.Kept.{Good, Keeps, ReachedGood}
use Rattle.promises.proofs.Pumping.{pump_step}
use Rattle.promises.proofs.Fine.{zero_fine}
use Rattle.submission.proofs.Leaves.{heart, submit_leaves, transition_leaves, replay_leaves}
use Rattle.promises.proofs.Leaves.{start_leaves, stop_leaves}
use Rattle.std.specs.Prelude.{Ok}

-- a good state of its three parts, and the types again
good : (x : State) → well_formed x.session x.queue x.capture ≡ true → is_pool x.pool x.session.settings.pool ≡ true → Typed x.session → Good x
good x formed pooled t =
    record { formed = formed; pooled = pooled; slots = t.bank.bits; serials = t.bank.serials; clips = t.bank.places; voices = t.voices }

pub types : (x : State) → Good x → Typed x.session
types x g = record { bank = record { bits = g.slots; serials = g.serials; places = g.clips }; voices = g.voices }

abbrev heart_settings : Settings × Bank × Stage → Settings
heart_settings r = r.0

-- a call that leaves settings, bank, stage and pool leaves the types and the pool's length
left : (k : Call) (x : State) → heart (after k x).session ≡ heart x.session → (after k x).pool ≡ x.pool
    → well_formed (after k x).session (after k x).queue (after k x).capture ≡ true → Good x → Good (after k x)
left k x e pool formed p =
    let settings : (after k x).session.settings ≡ x.session.settings = ap heart_settings e in
    let bank : (after k x).session.bank ≡ x.session.bank = ap (λ (r : Settings × Bank × Stage). r.1) e in
    let stage : (after k x).session.stage ≡ x.session.stage = ap (λ (r : Settings × Bank × Stage). r.2) e in
    good (after k x) formed (rw (settings, pool) p.pooled) (record { bank = rw bank (types x p).bank; voices = rw stage p.voices })

-- loading, retiring and applying leave the settings
load_settings : (s : Session) (q c : List ℕ) (pool samples : List Float) (kind : Kind) (rate : ℕ) → (load_of s q c pool samples kind rate).0.session.settings ≡ s.settings
unfolding load_of
load_settings s q c pool samples kind rate = unless_both {A = Answered Handle × List Float} _ _ _ (λ z. z.0.session.settings ≡ s.settings) (λ k. refl) (λ fine. refl)

retire_settings : (s : Session) (q c : List ℕ) (h : Handle) → (retire_of s q c h).session.settings ≡ s.settings
unfolding retire_of
retire_settings s q c h = unless_both {A = Answered (Unit {0})} _ _ _ (λ z. z.session.settings ≡ s.settings) (λ k. refl) (λ fine. refl)

apply_settings : (s : Session) (q c : List ℕ) (y : PerformanceSnapshot) → (apply_of s q c y).session.settings ≡ s.settings
unfolding apply_of
apply_settings s q c y = unless_both {A = Answered (Unit {0})} _ _ _ (λ z. z.session.settings ≡ s.settings) (λ k. refl) (λ fine. refl)

-- a block leaves settings and bank, and the table its places
module _ (s : Session) (q c : List ℕ) (pool out : List Float) where
  block_settings : (block_of s q c pool out).0.session.settings ≡ s.settings
  unfolding block_of
  block_settings = unless_both {A = Answered ℕ × List Float} _ _ _ (λ z. z.0.session.settings ≡ s.settings) (λ k. refl) (λ fine. refl)

  block_typed : well_formed s q c ≡ true → Typed s → Typed (block_of s q c pool out).0.session
  unfolding block_of
  block_typed formed t =
      unless_both {A = Answered ℕ × List Float} _ _ _ (λ z. Typed z.0.session) (λ k. t)
      (λ fine. record { bank = t.bank; voices = (block_came s q c pool formed t.voices (frames_of out) (accepted s q c pool out fine).clock).stands.places })

-- so every call does
pub settings_stay : (k : Call) (x : State) → (after k x).session.settings ≡ x.session.settings
settings_stay (load samples kind rate) x = load_settings x.session x.queue x.capture x.pool samples kind rate
settings_stay (retire h) x = retire_settings x.session x.queue x.capture h
settings_stay (submit y at) x = ap heart_settings (submit_leaves x.session x.queue x.capture y at)
settings_stay (transition f at) x = ap heart_settings (transition_leaves x.session x.queue x.capture f at)
settings_stay (block out) x = block_settings x.session x.queue x.capture x.pool out
settings_stay (pump f n) x = pump_step x f n (λ m y. y.session.settings ≡ x.session.settings) (λ out. block_settings x.session x.queue x.capture x.pool out) refl
settings_stay start_capture x = ap heart_settings (start_leaves x.session x.queue x.capture)
settings_stay (stop_capture list) x = ap heart_settings (stop_leaves x.session x.queue x.capture list)
settings_stay (replay list) x = ap heart_settings (replay_leaves x.session x.queue x.capture list)
settings_stay snapshot x = ap (λ (s : Session). s.settings) (snapshot_leaves x.session x.queue x.capture)
settings_stay (apply y) x = apply_settings x.session x.queue x.capture y
settings_stay metrics x = ap (λ (s : Session). s.settings) (metrics_leave x.session x.queue x.capture)

block_good : (out : List Float) (x : State) → Good x → Good (after (block out) x)
block_good out x p =
    let s : Session = x.session in
    good _ (call_keeps s x.queue x.capture x.pool p.formed p.voices out) (rw (block_settings s x.queue x.capture x.pool out) p.pooled)
    (block_typed s x.queue x.capture x.pool out p.formed (types x p))

-- every call keeps a state good
pub keeps : Keeps
keeps (load samples kind rate) x g p =
    let s : Session = x.session in
    good _ (load_kept s x.queue x.capture x.pool samples kind rate (types x p) p.formed)
    (load_pooled s x.queue x.capture x.pool samples kind rate (types x p) p.pooled)
    (load_typed s x.queue x.capture x.pool samples kind rate (types x p))
keeps (retire h) x g p =
    let s : Session = x.session in
    good _ (retire_kept s x.queue x.capture h (types x p) p.formed) (rw (retire_settings s x.queue x.capture h) p.pooled)
    (retire_typed s x.queue x.capture h (types x p))
keeps (submit y at) x g p = left (submit y at) x (submit_leaves x.session x.queue x.capture y at) refl (submit_kept x.session x.queue x.capture p.formed at y g) p
keeps (transition f at) x g p = left (transition f at) x (transition_leaves x.session x.queue x.capture f at) refl (transition_kept x.session x.queue x.capture p.formed at f) p
keeps (block out) x g p = block_good out x p
keeps (pump f n) x g p = pump_step x f n (λ m y. Good y) (λ out. block_good out x p) p
keeps start_capture x g p = left start_capture x (start_leaves x.session x.queue x.capture) refl (start_kept x.session x.queue x.capture p.formed) p
keeps (stop_capture list) x g p = left (stop_capture list) x (stop_leaves x.session x.queue x.capture list) refl (stop_kept x.session x.queue x.capture list p.formed) p
keeps (replay list) x g p = left (replay list) x (replay_leaves x.session x.queue x.capture list) refl (replay_kept x.capture x.session x.queue list p.formed) p
keeps snapshot x g p = rw (snapshot_leaves x.session x.queue x.capture) p
keeps (apply y) x g p =
    let s : Session = x.session in
    good _ (apply_kept s x.queue x.capture y p.formed) (rw (apply_settings s x.queue x.capture y) p.pooled)
    (apply_typed s x.queue x.capture y (types x p))
keeps metrics x g p = rw (metrics_leave x.session x.queue x.capture) p

-- an opening that is not refused weighs Fine
pub open_fine : (o : Opening) → (opened o).0 ≡ 0 → weigh_open o.settings o.queue o.capture o.pool o.samples o.rate o.extent ≡ Ok tt
unfolding open_of
open_fine o = zero_fine {A = Answered Handle × List Float} _ _ _ (λ z. code (says z.0.answer)) (λ k. refl)

-- so each state reached is good
pub reached_good : ReachedGood
reached_good x (at_opening o e) =
    let fine = open_fine o e in
    good _ (open_formed o.settings o.queue o.capture o.pool o.samples o.rate o.extent fine)
    (open_pooled o.settings o.queue o.capture o.pool o.samples o.rate o.extent fine)
    (open_typed o.settings o.queue o.capture o.pool o.samples o.rate o.extent)
reached_good x (after_call {x = y} k g r) = keeps k y g (reached_good y r)
