-- What the leap's functions reckon of a loop [start, end). Definitions only.
use Rattle.std.specs.Prelude.{ℕ, ◌+◌, ◌-◌, ◌/◌, cond, leb}
use Rattle.transport.specs.declared.Transport.{Transport}
use Rattle.transport.specs.Transport.{moved_to, taken_in, once, lapped}

-- a position before the end stays; at the end or past it, it is taken in, as by rule a
abbrev pub round_to : ℕ → ℕ → ℕ → ℕ
round_to start end p = cond (leb end p) (taken_in start end p) p

-- how often the playhead comes round on its way there from before the end
abbrev pub rounds_to : ℕ → ℕ → ℕ → ℕ
rounds_to start end p = (p - start) / (end - start)

-- m frames: rule a, then round and round, each pass a lap
abbrev pub gone_round : ℕ → ℕ → ℕ → Transport → Transport
gone_round start end m t =
    let to : ℕ = round_to start end t.position.0 + m in
    lapped (once (leb end t.position.0) + rounds_to start end to) (moved_to t (round_to start end to) 0)
