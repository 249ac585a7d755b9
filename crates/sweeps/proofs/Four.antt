-- Four streams in one sweep are four sweeps. Assumes nothing.
use mathlib.Core.Path.{◌≡◌, sym, ap, ◌∙◌}
use mathlib.Core.List.{List}
use Prim.Native.Nat.{ℕ, ◌≤◌}
use lib.ListN.{length}
use lib.Ieee.{Float}
use Rattle.sweeps.specs.declared.Stream.{Stream}
use Rattle.sweeps.specs.Over.{over}
use Rattle.sweeps.specs.Adds.{stream_adds, four_adds}
use Rattle.sweeps.proofs.Over.{over_again}

pub four_adds_law : (pool : List Float) (a b c d : Stream) (n : ℕ) (os : List Float) → n ≤ length os
    → over (four_adds pool a b c d) 0 n os ≡ over (stream_adds pool d) 0 n (over (stream_adds pool c) 0 n (over (stream_adds pool b) 0 n (over (stream_adds pool a) 0 n os)))
four_adds_law pool a b c d n os l =
    let f : Stream → ℕ → Float → Float = stream_adds pool in
    let two : over (f b) 0 n (over (f a) 0 n os) ≡ over (λ k x. f b k (f a k x)) 0 n os = over_again (f b) (f a) n os l in
    let three : over (f c) 0 n (over (f b) 0 n (over (f a) 0 n os)) ≡ over (λ k x. f c k (f b k (f a k x))) 0 n os =
    ap (over (f c) 0 n) two ∙ over_again (f c) (λ k x. f b k (f a k x)) n os l in
    sym (ap (over (f d) 0 n) three ∙ over_again (f d) (λ k x. f c k (f b k (f a k x))) n os l)
