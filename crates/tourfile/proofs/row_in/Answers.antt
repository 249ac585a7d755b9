-- `row_in` meets its contract.
use Rattle.tourfile.specs.Reader.{row_in}
use Rattle.tourfile.proofs.row_in.Goals as goal

pub returns : goal.returns
unfolding row_in
returns c =
    let k = c.byte-kind.ensures in
    let f = c.first_part-first.ensures in
    λ t. record {
      at = c.eight.ensures t;
      number = c.eight-2.ensures t;
      kind = k t;
      first = (rw (f, k) at c.part_in.ensures) t;
      second = (rw (c.second_part-second.ensures, c.size.ensures, f, k) at c.part_in-2.ensures) t;
    }
