-- What a salvage leaves as it was. Assumes nothing.
use Prim.Native.Nat.{◌*◌}
use mathlib.Core.Path.{◌≡◌, refl}
use mathlib.Core.List.{List, [], ◌∷◌}
use native.Mathlib.Omega.{arith}
use lib.ListN.{length, drop}
use lib.Seq.{sets}
use Rattle.roundtrip.proofs.Calls.{drop_front}
use Rattle.remains.specs.declared.Range.{Range}
use Rattle.remains.specs.Salvage.{ranges_of, fresh, salvage_of, range_words, salvage_out, salvage_list}
use Rattle.salvaged.specs.Salvaged.{SalvageLeaves}
use Rattle.salvaged.proofs.Answers.{says_done, says_left, says_salvage_law}

-- three words a range
words_length : (rs : List Range) → length (range_words rs) ≡ length rs * 3
unfolding range_words
words_length [] = refl
words_length (r ∷ rs) = let l = words_length rs in omega arith

pub salvage_leaves : SalvageLeaves
unfolding salvage_out salvage_list
salvage_leaves file out list = record {
  refused = λ number s. (
    says_left (salvage_of file (length out) (length list)) number (sets out 0 (fresh file)) out s,
    says_left (salvage_of file (length out) (length list)) number (sets list 0 (range_words (ranges_of file))) list s,
  );
  accepted = λ k b r s. let e = says_done (salvage_of file (length out) (length list)) k b r s in
      let d = says_salvage_law file (length out) (length list) k b r s in
      let w = words_length (ranges_of file) in
      let n : r * 3 ≡ length (range_words (ranges_of file)) = let x = d.ranges in omega arith in
      let f = d.listed in
      let o : drop b (sets out 0 (fresh file)) ≡ drop b out = rw d.bytes (drop_front (fresh file) out d.fits) in
      let l : drop (r * 3) (sets list 0 (range_words (ranges_of file))) ≡ drop (r * 3) list = rw n (drop_front (range_words (ranges_of file)) list (omega arith)) in
      (rw e o, rw e l);
}
