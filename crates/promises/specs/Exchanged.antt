-- Two commands in either order, and any blocks after them. Definitions only.
use Rattle.std.specs.Prelude.{◌≡◌, ◌≢◌, List, map, ℕ, ◌+◌, Float}
use Rattle.timeline.specs.declared.Submission.{Submission}
use Rattle.transport.specs.declared.At.{At}
use Rattle.submission.specs.Order.{due_at, waiting, recorded, exchanged, last_exchanged}
use Rattle.promises.specs.Calls.{State, submit, block, refusal, after, after_all, heard_all, reports, Given}
use Rattle.promises.specs.Kept.{Good}

-- the same but for the numbers a and b exchanged, in queue and capture, and the capture's last two places
pub record Exchanged (a b : ℕ) (x y : State) : Type 0 where
  pub session : x.session ≡ y.session
  pub pool : x.pool ≡ y.pool
  pub queue : waiting x.session x.queue ≡ map (exchanged a b) (waiting y.session y.queue)
  pub capture : recorded x.session x.capture ≡ last_exchanged (map (exchanged a b) (recorded y.session y.capture))

-- later blocks make the same samples of both, report the same passes, and leave them the same but for that
abbrev pub SoundAlike : ℕ → ℕ → List (List Float) → State → State → Type 0
SoundAlike a b outs x y =
    (heard_all (map block outs) x ≡ heard_all (map block outs) y) × (reports outs x ≡ reports outs y)
    × Exchanged a b (after_all (map block outs) x) (after_all (map block outs) y)

-- so it is of any two such states,
abbrev pub LaterBlocks : Type 0
LaterBlocks = (a b : ℕ) (x y : State) → Good x → Good y → Exchanged a b x y → (outs : List (List Float)) → SoundAlike a b outs x y

-- and so of two submissions for different clock frames, accepted in both orders: they exchange the two numbers that come next
abbrev pub EitherOrder : Type 0
EitherOrder =
    (x : State) (y z : Submission) (at bt : At) → Good x → Given (submit y at) → Given (submit z bt) → due_at x.session at ≢ due_at x.session bt
    → refusal (submit y at) x ≡ 0 → refusal (submit z bt) (after (submit y at) x) ≡ 0
    → refusal (submit z bt) x ≡ 0 → refusal (submit y at) (after (submit z bt) x) ≡ 0
    → (outs : List (List Float))
    → SoundAlike (x.session.desk.number + 1) (x.session.desk.number + 2) outs (after (submit z bt) (after (submit y at) x)) (after (submit y at) (after (submit z bt) x))
