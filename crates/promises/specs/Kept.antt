-- Well formed in, well formed out, over every call. Definitions only.
use Rattle.std.specs.Prelude.{◌≡◌, ◌≢◌, true, ◌^◌, ◌<◌, length}
use Rattle.bank.specs.Sample.{is_pool}
use Rattle.session.specs.WellFormed.{well_formed}
use Rattle.promises.specs.Calls.{State, Call, refusal, after, Given, Reached}

-- a session that is well formed with its stores, over a pool of the named length; its numbers and tables are of their types
pub record Good (x : State) : Type 0 where
  pub formed : well_formed x.session x.queue x.capture ≡ true
  pub pooled : is_pool x.pool x.session.settings.pool ≡ true
  pub slots : x.session.bank.used < 2 ^ 32
  pub serials : x.session.bank.last < 2 ^ 32
  pub clips : length x.session.bank.clips ≡ 32
  pub voices : length x.session.stage.sound.voices.table ≡ 16

-- every call keeps it so, whether it is refused or not,
abbrev pub Keeps : Type 0
Keeps = (k : Call) (x : State) → Given k → Good x → Good (after k x)

-- so every state reached from opening is,
abbrev pub ReachedGood : Type 0
ReachedGood = (x : State) → Reached x → Good x

-- and a host that lends what the call before left is never refused with 1 or 2
abbrev pub NeverIllFormed : Type 0
NeverIllFormed = (k : Call) (x : State) → Reached x → (refusal k x ≢ 1) × (refusal k x ≢ 2)
